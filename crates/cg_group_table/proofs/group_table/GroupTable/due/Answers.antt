use Rattle.std.proofs.Common.{◌≡◌, ℕ, false, List, rules, sym, subst}
use Rattle.std.specs.List.{list_any}
use Rattle.cg_group_rules.specs.TickDeadline.{tick_touches}
use Rattle.cg_group_table.specs.Kept.{Ascending}
use Rattle.cg_group_table.proofs.DueGroups.{untouched}
use Rattle.cg_group_table.proofs.group_table.GroupTable.due.Goals as goal

pub returns-else-is_touched-clause-ascending : goal.returns-else-is_touched-clause-ascending
returns-else-is_touched-clause-ascending c = let P : List (List ℕ) → Type 0 = λ ids. Ascending ids in subst P (sym c.new.ensures.items) tt

pub returns-else-is_touched-clause-others : goal.returns-else-is_touched-clause-others
returns-else-is_touched-clause-others c =
    let calm : list_any (tick_touches c.args.now) c.args.self.now ≡ false = search rules in
    untouched c.args.now c.new.result.items c.args.self.now calm
