use Rattle.std.proofs.Common.{ap, sym, ◌∙◌, subst}
use Rattle.std.specs.FinMap as map
use Rattle.cg_fold.specs.Snapshot.{Ascending, groups_in}
use Rattle.cg_fold.proofs.Kept.{state}
use Rattle.cg_fold.proofs.Names.{in_order_ascending}
use Rattle.cg_fold.proofs.Stock.{groups_of_shelves}
use Rattle.cg_fold.proofs.durable.Durable.group_ids.Goals as goal

pub returns-clause-value : goal.returns-clause-value
returns-clause-value c =
    c.in_ok-ids.ensures
    ∙ groups_of_shelves (map.len c.self.inside.offsets) c.self.inside.records.entries c.shelves.result.now.entries c.args.self.now c.self.invariant c.shelves.ensures.are
    (ap (state c.self.inside.records.entries) c.shelves.ensures.value ∙ c.self.view_is)

pub returns-clause-ascending : goal.returns-clause-ascending
returns-clause-ascending c = subst Ascending (sym (returns-clause-value c)) (in_order_ascending (groups_in c.args.self.now))
