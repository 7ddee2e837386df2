use Rattle.std.proofs.Common.{ℕ, List, is_some, refl, ap, sym, subst, ◌∙◌}
use Rattle.std.specs.Map.{values_of}
use Rattle.cg_group_state.specs.declared.group.Group.{Group}
use Rattle.cg_group_table.specs.GroupTable.{IsHeld, StandUnderIds, InOrder, find_group, with_group}
use Rattle.cg_group_table.proofs.KeptLists.{ascending-with_group}
use Rattle.cg_group_table.proofs.Mapped.{lookup-own, replaced, stand-set_value}
use Rattle.cg_group_table.proofs.loaded_groups.Loaded.swap.Goals as goal

pub swap_in-requires : goal.swap_in-requires
swap_in-requires c =
    ap is_some (lookup-own c.args.group.now.id c.self.inside.groups.entries c.self.invariant.0 ∙ ap (find_group c.args.group.now.id) c.self.view_is) ∙ c.requires

pub invariant_of-self : goal.invariant_of-self
invariant_of-self c =
    let es = c.self.inside.groups.entries in
    let now = c.swap_in.ensures.after in
    let held : IsHeld (values_of es) c.args.group.now.id = ap (λ (gs : List Group). is_some (find_group c.args.group.now.id gs)) c.self.view_is ∙ c.requires in
    let S : List (List ℕ × Group) → Type 0 = λ es. StandUnderIds es in
    let O : List Group → Type 0 = λ gs. InOrder gs in (
      subst S (sym now) (stand-set_value c.args.group.now.id c.args.group.now es c.self.invariant.0 refl),
      subst O (sym (ap values_of now ∙ replaced c.args.group.now es c.self.invariant.0 c.self.invariant.1 held)) (ascending-with_group c.args.group.now (values_of es) c.self.invariant.1),
    )

pub returns-clause-after : goal.returns-clause-after
returns-clause-after c =
    let es = c.self.inside.groups.entries in
    let held : IsHeld (values_of es) c.args.group.now.id = ap (λ (gs : List Group). is_some (find_group c.args.group.now.id gs)) c.self.view_is ∙ c.requires in
    ap values_of c.swap_in.ensures.after ∙ replaced c.args.group.now es c.self.invariant.0 c.self.invariant.1 held ∙ ap (with_group c.args.group.now) c.self.view_is

pub returns-clause-before : goal.returns-clause-before
returns-clause-before c =
    sym (lookup-own c.args.group.now.id c.self.inside.groups.entries c.self.invariant.0 ∙ ap (find_group c.args.group.now.id) c.self.view_is) ∙ c.swap_in.ensures.before
