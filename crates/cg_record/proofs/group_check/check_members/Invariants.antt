use Rattle.cg_record.specs.Members.{member_at}
use Rattle.cg_record.proofs.Again.{IsChecked}
use Rattle.cg_record.proofs.group_check.check_members.Given as goal

abbrev pub invariant-loop-i : goal.invariant-loop-i
invariant-loop-i l = IsChecked member_at l.count l.i l.bytes l.rest
