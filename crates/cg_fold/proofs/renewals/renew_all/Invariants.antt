use Rattle.std.proofs.Common.{◌≡◌, length}
use Rattle.std.specs.VecDeque.{deque_len}
use Rattle.std.specs.List.{fold}
use Rattle.cg_fold.specs.Renewed.{AreBelow, renewed}
use Rattle.cg_fold.proofs.renewals.renew_all.Given as goal

abbrev pub invariant-loop-renewal : goal.invariant-loop-renewal
invariant-loop-renewal l = record {
  below : AreBelow (length l.rows.items) l.renewals.items;
  rest : fold renewed l.rows.items l.renewals.items ≡ fold renewed l.initial.rows.items l.initial.renewals.items;
}

abbrev pub decreases-loop-renewal : goal.decreases-loop-renewal
decreases-loop-renewal l = deque_len l.renewals
