use Rattle.std.proofs.Common.{◌≡◌, ◌++◌, []}
use Rattle.std.specs.VecDeque.{deque_len}
use Rattle.cg_desk.specs.Fronts.{spelled}
use Rattle.cg_desk.proofs.batch_builder.spell_front.Given as goal

abbrev pub invariant-loop-front : goal.invariant-loop-front
invariant-loop-front l = record {
  spare : spelled l.spare ≡ [];
  commands : spelled l.draft ++ l.front.items ≡ spelled l.initial.draft ++ l.initial.front.items;
}

abbrev pub decreases-loop-front : goal.decreases-loop-front
decreases-loop-front l = deque_len l.front
