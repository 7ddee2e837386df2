-- Passes without a call that waits.
use Rattle.std.proofs.Common.{◌⊎◌, ◌<◌, ◌≤◌, ℕ, zero, suc, None, Option, length, arith, inl, inr, sym, subst}
use Rattle.std.proofs.lemmas.List.{get_or_past}
use Rattle.slab.specs.Slab.{Slab, get}
use Rattle.cg_engine.specs.Idle.{AreIdle, IsIdle}
use Rattle.cg_engine.specs.declared.pass_state.Session.{Session}

side : (key end : ℕ) → (key < end) ⊎ (end ≤ key)
side key zero = inr (omega arith)
side zero (suc end) = inl (omega arith)
side (suc key) (suc end) = elim (side key end) [ inl less ↦ inl (omega arith) | inr past ↦ inr (omega arith) ]

idle-at : {L : Type 0} (sessions : Slab (Session L)) (end key : ℕ) → length sessions.slots ≤ end → ((at : ℕ) → at < end → IsIdle (get sessions at)) → (key < end) ⊎ (end ≤ key) → IsIdle (get sessions key)
idle-at sessions end key within below (inl less) = below key less
idle-at {L = L} sessions end key within below (inr past) = subst (λ (o : Option (Session L)). IsIdle o) (sym (get_or_past sessions.slots key None (omega arith))) tt

-- every key below the end is idle, and past the end there is no session
pub idle-all : {L : Type 0} (sessions : Slab (Session L)) (end : ℕ) → length sessions.slots ≤ end → ((key : ℕ) → key < end → IsIdle (get sessions key)) → AreIdle sessions
idle-all sessions end within below key = idle-at sessions end key within below (side key end)
