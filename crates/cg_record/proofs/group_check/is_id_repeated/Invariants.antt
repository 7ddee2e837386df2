use Rattle.std.proofs.Common.{◌≡◌, ℕ, List, [], Ok}
use Rattle.cg_record.specs.declared.member_record.MemberRecord.{MemberRecord}
use Rattle.cg_record.specs.Rosters.{has_id}
use Rattle.cg_record.specs.Members.{member_at}
use Rattle.cg_record.specs.Reading.{members_at}
use Rattle.cg_record.proofs.Again.{IsUnmet}
use Rattle.cg_record.proofs.group_check.is_id_repeated.Given as goal

abbrev pub invariant-loop : goal.invariant-loop
invariant-loop l = (whole : List MemberRecord) (end : List ℕ) → members_at l.count [] l.start ≡ Ok (whole, end) → IsUnmet member_at l.count l.counter (has_id l.id) whole end l.rest
