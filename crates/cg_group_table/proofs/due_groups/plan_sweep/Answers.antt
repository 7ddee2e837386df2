use Rattle.std.proofs.Common.{◌≡◌, Some, List, rules, sym, subst}
use Rattle.cg_group_state.specs.declared.group.Group.{Group}
use Rattle.cg_group_rules.specs.TickDeadline.{tick_touches}
use Rattle.cg_group_table.specs.DueGroups.{IsDue, due_ids, ids_of}
use Rattle.cg_group_table.specs.GroupTable.{find_group}
use Rattle.cg_group_table.specs.Kept.{Each}
use Rattle.cg_group_table.specs.declared.due_groups.Due.{Due}
use Rattle.cg_group_table.proofs.SweptGroups.{all_due, all_found}
use Rattle.cg_group_table.proofs.due_groups.plan_sweep.Goals as goal

pub loop-group-init : goal.loop-group-init
loop-group-init c =
    let groups = c.args.groups.now in
    let all : c.into_iter-group-iterator.result ≡ groups = search rules in
    let F : List Group → Type 0 = λ gs. Each (λ g. find_group g.id groups ≡ Some g) gs in
    let D : List Due → Type 0 = λ ds. Each (IsDue c.args.clock.now.moment groups) ds in
    record {
      in_order = c.iter-group-items.ensures.in_order;
      found = subst F (sym all) (all_found groups c.iter-group-items.ensures.in_order);
      planned = subst D (sym c.new.ensures.items) tt;
      dues = search rules;
      thinned = search rules;
      commands = search rules;
      replies = search rules;
    }

pub returns-clause-due : goal.returns-clause-due
returns-clause-due c =
    let l = c.loop-group in
    let groups = c.args.groups.now in
    let now = c.args.clock.now.moment in
    let ids : due_ids l.sweep.dues.items ≡ ids_of (tick_touches now) groups = search rules in
    all_due now groups l.sweep.dues.items l.invariant.in_order ids l.invariant.planned
