use Rattle.std.proofs.Common.{◌≡◌, ◌≤◌, ◌+◌, List, sym, subst, arith}
use Rattle.cg_group_state.specs.declared.group.Group.{Group}
use Rattle.cg_fold.specs.Snapshot.{groups_in, in_order}
use Rattle.cg_group_state.specs.Offsets.{OffsetMap}
use Rattle.cg_group_table.specs.declared.expiry.TheConstants.{RETENTION_MS}
use Rattle.cg_group_table.specs.Resting.{AreResting, Covered}
use Rattle.cg_group_table.specs.Recovery.{revive}
use Rattle.cg_group_table.specs.SessionIndex.{AreKnown, is_home}
use Rattle.cg_group_table.proofs.Tight.{tight_empty}
use Rattle.cg_group.proofs.Covering.{covered-revive}
use Rattle.cg_group.proofs.KnownSessions.{known-revived}
use Rattle.cg_group.proofs.RestingMachine.{resting_first}
use Rattle.cg_group.proofs.groups.Groups.revive.Goals as goal

pub invariant_of-result : goal.invariant_of-result
unfolding revive
invariant_of-result c =
    let Q : List Group → Type 0 = λ gs. AreKnown (is_home c.new.result) gs in
    let offsets : OffsetMap = c.into_offsets.result in
    let zero : 0 ≡ c.from_millis.result = sym c.from_millis.ensures in
    let covered : Covered offsets c.in-Ok.held = subst (λ o. Covered o c.in-Ok.held) (sym c.into_offsets.ensures) (subst (λ gs. Covered c.args.durable.offsets gs) (sym c.in-Ok.ensures) (covered-revive c.args.durable c.args.now)) in
    (subst Q (sym c.in-Ok.ensures) (known-revived (is_home c.new.result) c.args.now c.args.durable (in_order (groups_in c.args.durable))), (tight_empty c.new.result c.in-Ok.held c.new.ensures.empty, (covered, (subst (λ until. until ≤ c.args.now + RETENTION_MS) zero (omega arith), (subst (λ until. AreResting until c.args.now offsets c.in-Ok.held) zero (resting_first c.args.now offsets c.in-Ok.held), tt)))))
