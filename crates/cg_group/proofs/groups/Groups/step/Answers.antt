use Rattle.std.proofs.Common.{◌≤◌, ◌+◌, sym, subst}
use Rattle.cg_group_table.specs.declared.expiry.TheConstants.{RETENTION_MS}
use Rattle.cg_group_table.specs.Resting.{AreResting, Covered}
use Rattle.cg_group.proofs.Covering.{covered-call}
use Rattle.cg_group.proofs.RestingMachine.{resting-call}
use Rattle.cg_group.proofs.groups.Groups.step.Goals as goal

-- nothing has changed
pub invariant_of-self-inside : goal.invariant_of-self-inside
invariant_of-self-inside c =
    let was = c.self.inside in
    let same = c.in_err-effects.ensures.err in
    let held = sym same.0 in
    let offsets = sym same.1 in
    let until = sym same.2 in (
      c.in_err-effects.ensures.known,
      (
        c.in_err-effects.ensures.tight,
        (
          subst (λ o. Covered o c.handle.new.held) offsets (subst (Covered was.offsets) held was.covered),
          (
            subst (λ u. u ≤ was.last + RETENTION_MS) until was.early,
            (
              subst (λ u. AreResting u was.loaded c.handle.new.offsets c.handle.new.held) until
                  (subst (λ o. AreResting was.until was.loaded o c.handle.new.held) offsets (subst (AreResting was.until was.loaded was.offsets) held was.resting)),
              tt,
            ),
          ),
        ),
      ),
    )

pub invariant_of-self-inside-2 : goal.invariant_of-self-inside-2
invariant_of-self-inside-2 c =
    let was = c.self.inside in
    let loaded = was.loaded in
    let now = c.max-now.result in
    let done = c.in_ok-effects.ensures in (
      done.known,
      (
        done.tight,
        (
          covered-call loaded now was.held c.handle.new.held was.offsets c.handle.new.offsets c.args.event c.in_ok-effects.effects done.ok done.offsets was.covered,
          (
            done.early,
            (
              resting-call c.handle.new.until loaded now was.held c.handle.new.held was.offsets c.handle.new.offsets c.args.event c.in_ok-effects.effects done.early done.ok done.offsets was.covered done.resting,
              tt,
            ),
          ),
        ),
      ),
    )
