use Rattle.std.proofs.Common.{◌≡◌, ℕ, List, [], Ok}
use Rattle.cg_record.specs.declared.member_record.MemberRecord.{MemberRecord}
use Rattle.std.specs.Option.{option_copied}
use Rattle.cg_record.specs.Rosters.{has_instance}
use Rattle.cg_record.specs.Members.{member_at}
use Rattle.cg_record.specs.Reading.{members_at}
use Rattle.cg_record.proofs.Again.{IsUnmet}
use Rattle.cg_record.proofs.group_check.is_instance_repeated.Given as goal

abbrev pub invariant-loop : goal.invariant-loop
invariant-loop l = (whole : List MemberRecord) (end : List ℕ) → members_at l.count [] l.start ≡ Ok (whole, end) → IsUnmet member_at l.count l.counter (has_instance (option_copied l.instance)) whole end l.rest
