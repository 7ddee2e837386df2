use Rattle.std.proofs.Common.{◌≡◌, ◌≢◌, ◌∙◌, sym, rules}
use Rattle.cg_store.specs.Store.{has_failed, phase_of}
use Rattle.cg_store.specs.declared.phase.Phase.TheVariants.{Idle}
use Rattle.cg_store.proofs.Rooms.{abort-done, abort-failed, abort-idle}
use Rattle.cg_store.proofs.store.Store.compact_abort.Goals as goal

pub returns-then-has_failed-clause-told : goal.returns-then-has_failed-clause-told
returns-then-has_failed-clause-told g c =
    let self = c.args.self.now in
    abort-failed (has_failed self) (phase_of self) (sym c.has_failed.ensures ∙ c.if-has_failed.true)

pub returns-then-eq-clause-told : goal.returns-then-eq-clause-told
returns-then-eq-clause-told g c =
    let self = c.args.self.now in
    let idle : c.phase.result ≡ Idle = search rules in
    abort-idle (has_failed self) (phase_of self) (sym c.has_failed.ensures ∙ c.if-has_failed.false) (sym c.phase.ensures ∙ idle)

pub returns-clause-told : goal.returns-clause-told
returns-clause-told g c =
    let self = c.args.self.now in
    let other : c.phase.result ≢ Idle = search rules in
    abort-done (has_failed self) (phase_of self) (sym c.has_failed.ensures ∙ c.if-has_failed.false) (λ idle. other (c.phase.ensures ∙ idle))
