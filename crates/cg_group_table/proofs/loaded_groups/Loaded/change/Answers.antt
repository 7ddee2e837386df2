use Rattle.std.proofs.Common.{List, MatchOption, sym, ap, subst, ◌∙◌}
use Rattle.std.specs.Map.{values_of}
use Rattle.cg_group_state.specs.declared.group.Group.{Group}
use Rattle.cg_group_table.specs.GroupChanges.{IsChanged}
use Rattle.cg_group_table.specs.GroupTable.{find_group}
use Rattle.cg_group_table.proofs.Mapped.{changed_there, changed_whole, lookup-own}
use Rattle.cg_group_table.proofs.loaded_groups.Loaded.change.Goals as goal

pub change_among-requires : goal.change_among-requires
change_among-requires g c =
    λ k found. c.requires.suits k (ap (find_group c.args.group.now) (sym c.self.view_is) ∙ sym (lookup-own c.args.group.now c.self.inside.groups.entries c.self.invariant.0) ∙ found)

pub invariant_of-self : goal.invariant_of-self
invariant_of-self g c =
    let own = c.args.group.now in
    let es = c.self.inside.groups.entries in
    let there = lookup-own own es c.self.invariant.0 in
    changed_whole own (g.C.GroupChange.Becomes c.args.change) c.requires.keeps es c.change_among.new.groups.entries c.self.invariant.0 c.self.invariant.1 c.change_among.result
    (λ k found. c.change_among.ensures.some k (there ∙ found)) (λ none. (c.change_among.ensures.none (there ∙ none)).1)

pub returns-clause-changed : goal.returns-clause-changed
returns-clause-changed g c =
    λ k found.
    let own = c.args.group.now in
    let es = c.self.inside.groups.entries in
    let here = ap (find_group own) c.self.view_is ∙ found in
    let becomes = g.C.GroupChange.Becomes c.args.change in
    let P : List Group → Type 0 = λ gs. MatchOption c.change_among.result ⊥ (IsChanged becomes gs (values_of c.change_among.new.groups.entries) k) in
    subst P c.self.view_is
    (changed_there own becomes c.requires.keeps es c.change_among.new.groups.entries c.self.invariant.0 c.self.invariant.1 k here c.change_among.result (c.change_among.ensures.some k (lookup-own own es c.self.invariant.0 ∙ here)))

pub returns-clause-absent : goal.returns-clause-absent
returns-clause-absent g c =
    λ none.
    let missing = c.change_among.ensures.none (lookup-own c.args.group.now c.self.inside.groups.entries c.self.invariant.0 ∙ ap (find_group c.args.group.now) c.self.view_is ∙ none) in
    (missing.0, ap values_of missing.1 ∙ c.self.view_is)
