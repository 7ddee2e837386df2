use Rattle.std.proofs.Common.{◌≡◌, ◌≤◌, List, Some, None, refl, sym, subst, arith}
use Rattle.cg_group_state.specs.declared.group.Group.{Group}
use Rattle.cg_group_table.specs.GroupTable.{find_group}
use Rattle.cg_group_table.specs.DeadlineIndex.{AreTimed}
use Rattle.cg_group_table.proofs.Timed.{heard_keeps, timed-as_heard}
use Rattle.cg_group_table.proofs.group_table.GroupTable.hear.Goals as goal

pub change-requires-clause-keeps : goal.change-requires-clause-keeps
change-requires-clause-keeps g c = heard_keeps c.args.now (g.C.GroupChange.Becomes c.args.change) c.requires.hears

pub change-requires-2-clause-keeps : goal.change-requires-2-clause-keeps
change-requires-2-clause-keeps g c = heard_keeps c.args.now (g.C.GroupChange.Becomes c.args.change) c.requires.hears

pub invariant_of-self : goal.invariant_of-self
invariant_of-self g c =
    let since = c.self.inside.since in
    let es = c.self.inside.deadlines.entries in
    let gs = c.self.inside.loaded in
    let own = c.args.group.now in
    let later : since ≤ c.args.now = omega arith in
    let P : List Group → Type 0 = λ ks. AreTimed since es ks in
    (elim (find_group own gs) as (λ o. find_group own gs ≡ o → P c.change-2.new.self) [
      | None ↦ λ none. subst P (sym ((c.change-2.ensures.absent none).1)) c.self.invariant
      | Some k ↦ λ found. timed-as_heard since c.args.now (g.C.GroupChange.Becomes c.args.change) c.requires.hears later own es gs c.change-2.new.self c.change-2.ensures.in_order k found c.change-2.result (c.change-2.ensures.changed k found) c.self.invariant
    ]) refl
