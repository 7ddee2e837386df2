use Rattle.std.proofs.Common.{ℕ, List, ap, sym, subst, ◌∙◌}
use Rattle.std.specs.Map.{values_of}
use Rattle.cg_group_state.specs.declared.group.Group.{Group}
use Rattle.cg_group_table.specs.GroupTable.{StandUnderIds, InOrder, without_group}
use Rattle.cg_group_table.proofs.Removing.{ascending-without}
use Rattle.cg_group_table.proofs.Mapped.{stand-remove_entry, values-remove_entry}
use Rattle.cg_group_table.proofs.loaded_groups.Loaded.remove.Goals as goal

pub invariant_of-self : goal.invariant_of-self
invariant_of-self c =
    let es = c.self.inside.groups.entries in
    let now = c.remove-group.ensures.entries in
    let S : List (List ℕ × Group) → Type 0 = λ es. StandUnderIds es in
    let O : List Group → Type 0 = λ gs. InOrder gs in (
      subst S (sym now) (stand-remove_entry c.args.id.now es c.self.invariant.0),
      subst O (sym (ap values_of now ∙ values-remove_entry c.args.id.now es c.self.invariant.0)) (ascending-without c.args.id.now (values_of es) c.self.invariant.1),
    )

pub returns : goal.returns
returns c =
    ap values_of c.remove-group.ensures.entries
    ∙ values-remove_entry c.args.id.now c.self.inside.groups.entries c.self.invariant.0
    ∙ ap (without_group c.args.id.now) c.self.view_is
