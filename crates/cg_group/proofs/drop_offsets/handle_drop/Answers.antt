use Rattle.std.proofs.Common.{◌≤◌, ℕ, rules, ap, length, subst, sym, ◌∙◌}
use Rattle.cg_group_table.specs.GroupTable.{standing}
use Rattle.cg_group.specs.Machine.{dropped, memberless}
use Rattle.cg_group.proofs.Dropping.{some-command}
use Rattle.cg_group.proofs.drop_offsets.handle_drop.Goals as goal

pub returns-clause-ok : goal.returns-clause-ok
returns-clause-ok c =
    λ loaded.
    ap (dropped (standing loaded c.args.now c.args.held.now c.args.offsets.now) c.args.ticket c.args.r.partitions) c.in-Ok.ensures.deleted
    ∙ c.in_ok-effects-in-Ok.ensures.ok loaded

pub returns-in_err-effects-in-Ok-clause-some : goal.returns-in_err-effects-in-Ok-clause-some
returns-in_err-effects-in-Ok-clause-some c =
    let now = c.args.now in
    let held = c.args.held.now in
    let offsets = c.args.offsets.now in
    let partitions = c.args.r.partitions in
    let some : (loaded : ℕ) → 1 ≤ length (dropped (standing loaded now held offsets) c.args.ticket partitions (memberless c.args.r.group held)).effects.commands =
    λ loaded.
    subst (λ o. 1 ≤ length (dropped (standing loaded now held offsets) c.args.ticket partitions o).effects.commands) (sym c.in-Ok.ensures.deleted)
    (some-command loaded now held offsets c.args.ticket partitions c.in-Ok.own.now c.in_err-effects-in-Ok.ensures.some) in
    search rules
