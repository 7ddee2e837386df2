use Rattle.std.proofs.Common.{◌≡◌, Some, true, false, ap, sym, ◌∙◌, rules}
use Rattle.std.specs.List.{list_any}
use Rattle.std.specs.Option.{option_copied}
use Rattle.cg_group_rules.specs.TickDeadline.{tick_touches}
use Rattle.cg_group_table.specs.GroupTable.{find_group}
use Rattle.cg_group_table.proofs.DueGroups.{planned_unheld, planned_untouched}
use Rattle.cg_group_table.proofs.Finding.{any_group}
use Rattle.cg_group_table.proofs.due_groups.plan_named.Goals as goal

pub returns-in_default-clause-planned : goal.returns-in_default-clause-planned
returns-in_default-clause-planned c =
    λ ids b h. planned_unheld c.args.now c.args.held.now ids c.args.id c.args.dues.now.items c.args.effects.now (sym c.find.ensures.found ∙ ap option_copied c.in_default.is) h

pub returns-in_err-plan_touched-clause-touched : goal.returns-in_err-plan_touched-clause-touched
returns-in_err-plan_touched-clause-touched c =
    let g = c.in-Some.group.now in
    let found : find_group c.args.id c.args.held.now ≡ Some g = sym c.find.ensures.found ∙ ap option_copied c.in-Some.is in
    let touched : tick_touches c.args.now g ≡ true = search rules in
    let some : list_any (tick_touches c.args.now) c.args.held.now ≡ true = any_group (tick_touches c.args.now) c.args.id c.args.held.now g found touched in
    search rules

pub returns-clause-planned : goal.returns-clause-planned
returns-clause-planned c =
    let g = c.in-Some.group.now in
    let found : find_group c.args.id c.args.held.now ≡ Some g = sym c.find.ensures.found ∙ ap option_copied c.in-Some.is in
    let calm : tick_touches c.args.now g ≡ false = search rules in
    λ ids b h. planned_untouched c.args.now c.args.held.now ids c.args.id g c.args.dues.now.items c.args.effects.now c.find.ensures.in_order found calm h
