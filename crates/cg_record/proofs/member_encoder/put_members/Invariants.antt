use Rattle.std.proofs.Common.{◌≡◌, ◌++◌, take}
use Rattle.std.specs.List.{flat_map, AllByRecursion}
use Rattle.cg_record.specs.Members.{IsMember, member_text}
use Rattle.cg_record.proofs.member_encoder.put_members.Given as goal

abbrev pub invariant-loop-member : goal.invariant-loop-member
invariant-loop-member l = (l.out.items ≡ l.fn.out.items ++ flat_map member_text (take l.member-index l.members)) × AllByRecursion IsMember (take l.member-index l.members)
