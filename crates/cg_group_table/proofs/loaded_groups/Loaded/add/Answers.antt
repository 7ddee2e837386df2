use Rattle.std.proofs.Common.{◌≡◌, ℕ, List, rules, ap, sym, subst, ◌∙◌}
use Rattle.std.specs.Map.{values_of}
use Rattle.cg_group_state.specs.declared.group.Group.{Group}
use Rattle.cg_group_table.specs.GroupTable.{StandUnderIds, InOrder, with_group}
use Rattle.cg_group_table.proofs.KeptLists.{ascending-with_group}
use Rattle.cg_group_table.proofs.Mapped.{stand-insert_entry, values-insert_entry}
use Rattle.cg_group_table.proofs.loaded_groups.Loaded.add.Goals as goal

pub invariant_of-self-2 : goal.invariant_of-self-2
invariant_of-self-2 c =
    let own : c.in_ok-id.id ≡ c.args.group.id = search rules in
    let es = c.self.inside.groups.entries in
    let now = c.in_ok-insert.ensures.entries in
    let S : List (List ℕ × Group) → Type 0 = λ es. StandUnderIds es in
    let O : List Group → Type 0 = λ gs. InOrder gs in (
      subst S (sym now) (stand-insert_entry c.in_ok-id.id c.args.group es c.self.invariant.0 own),
      subst O (sym (ap values_of now ∙ values-insert_entry c.in_ok-id.id c.args.group es c.self.invariant.0 own)) (ascending-with_group c.args.group (values_of es) c.self.invariant.1),
    )

pub returns-clause-ok : goal.returns-clause-ok
returns-clause-ok c =
    let own : c.in_ok-id.id ≡ c.args.group.id = search rules in
    ap values_of c.in_ok-insert.ensures.entries
    ∙ values-insert_entry c.in_ok-id.id c.args.group c.self.inside.groups.entries c.self.invariant.0 own
    ∙ ap (with_group c.args.group) c.self.view_is
