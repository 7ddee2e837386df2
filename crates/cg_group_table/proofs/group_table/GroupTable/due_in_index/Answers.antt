use Rattle.std.proofs.Common.{◌≡◌, ℕ, false, List, sym, subst}
use Rattle.std.proofs.lemmas.Result.{IfOk-weaker}
use Rattle.cg_time.specs.Entries.{due_keys}
use Rattle.cg_group_state.specs.declared.group.Group.{Group}
use Rattle.cg_group_rules.specs.Rebalance.{turn_of}
use Rattle.cg_group_rules.specs.Tick.{ticked}
use Rattle.cg_group_table.specs.GroupChanges.{is_one_of}
use Rattle.cg_group_table.specs.Kept.{Each}
use Rattle.cg_group_table.proofs.InOrder.{ascending_from_sorted}
use Rattle.cg_group_table.proofs.Timed.{timed-calm}
use Rattle.cg_group_table.proofs.group_table.GroupTable.due_in_index.Goals as goal

pub returns-clause-ascending : goal.returns-clause-ascending
returns-clause-ascending c = IfOk-weaker c.due.result _ _ (λ keys h. ascending_from_sorted keys.items h) c.due.ensures.ascending

pub returns-clause-others : goal.returns-clause-others
returns-clause-others c =
    let now = c.args.now in
    let O : List (List ℕ) → List Group → Type 0 = λ ids gs. Each (λ (g : Group). is_one_of ids g.id ≡ false → ticked now g ≡ turn_of g) gs in
    let K : List (List ℕ) → Type 0 = λ ids. O ids c.args.self.now in
    let G : List Group → Type 0 = λ gs. O (due_keys now c.self.inside.deadlines.entries) gs in
    let calm = subst G c.self.view_is (timed-calm c.self.inside.since now c.self.inside.deadlines.entries c.self.inside.loaded c.self.invariant) in
    IfOk-weaker c.due.result _ _ (λ keys h. subst K (sym h) calm) c.due.ensures.keys
