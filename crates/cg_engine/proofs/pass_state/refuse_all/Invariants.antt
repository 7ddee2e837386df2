use Rattle.std.proofs.Common.{◌≡◌, ◌<◌, ℕ, length}
use Rattle.slab.specs.Slab.{get}
use Rattle.cg_engine.specs.Idle.{IsIdle}
use Rattle.cg_engine.proofs.pass_state.refuse_all.Given as goal

abbrev pub invariant-loop-key : goal.invariant-loop-key
invariant-loop-key g l = record {
  len : length l.sessions.slots ≡ length l.initial.sessions.slots;
  idle : (key : ℕ) → key < l.key → IsIdle (get l.sessions key);
}
