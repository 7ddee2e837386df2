use Rattle.std.proofs.Common.{ℕ, List, sym, subst}
use Rattle.cg_group_state.specs.declared.group.Group.{Group}
use Rattle.cg_group_table.specs.GroupTable.{without_group}
use Rattle.cg_group_table.specs.DeadlineIndex.{AreTimed}
use Rattle.cg_group_table.proofs.Timed.{timed-without}
use Rattle.cg_group_table.proofs.group_table.GroupTable.remove.Goals as goal

pub invariant_of-self : goal.invariant_of-self
invariant_of-self c =
    let since = c.self.inside.since in
    let E : List (List ℕ × ℕ) → Type 0 = λ es. AreTimed since es (without_group c.args.id.now c.self.inside.loaded) in
    let G : List Group → Type 0 = λ gs. AreTimed since c.clear.new.self.entries gs in
    subst G (sym c.remove.ensures) (subst E (sym c.clear.ensures.entries) (timed-without since c.args.id.now c.self.inside.deadlines.entries c.self.inside.loaded c.self.invariant))
