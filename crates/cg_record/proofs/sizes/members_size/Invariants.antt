use Rattle.std.proofs.Common.{◌≡◌, ◌≤◌, ◌*◌, length, take}
use Rattle.std.specs.List.{flat_map}
use Rattle.cg_record.specs.declared.sizes.TheConstants.{MEMBER_BYTES_MAX}
use Rattle.cg_record.specs.Members.{member_text}
use Rattle.cg_record.proofs.sizes.members_size.Given as goal

abbrev pub invariant-loop-member : goal.invariant-loop-member
invariant-loop-member l = (l.total ≡ length (flat_map member_text (take l.member-index l.members))) × (l.total ≤ l.member-index * MEMBER_BYTES_MAX)
