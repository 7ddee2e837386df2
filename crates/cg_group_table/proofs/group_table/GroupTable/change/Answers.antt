use Rattle.std.proofs.Common.{◌≡◌, ◌≤◌, ℕ, true, List, Some, None, is_some, refl, sym, ap, subst, ◌∙◌, arith}
use Rattle.std.proofs.lemmas.Bool.{OnTrue_at}
use Rattle.std.specs.BTreeMap.{insert_entry}
use Rattle.std.specs.Cmp.Lexicographic.{slice_cmp}
use Rattle.std.specs.Ordering.{nat_cmp}
use Rattle.cg_group_state.specs.declared.group.Group.{Group}
use Rattle.cg_group_rules.specs.TickDeadline.{next_deadline}
use Rattle.cg_group_table.specs.GroupChanges.{IsChanged}
use Rattle.cg_group_table.specs.GroupTable.{find_group}
use Rattle.cg_group_table.specs.DeadlineIndex.{AreTimed}
use Rattle.cg_group_table.proofs.Timed.{has_key-timed, timed-changed}
use Rattle.cg_group_table.proofs.group_table.GroupTable.change.Goals as goal

pub invariant_of-self-2 : goal.invariant_of-self-2
invariant_of-self-2 g c =
    let since = c.self.inside.since in
    let before = c.self.inside.deadlines.entries in
    let gs = c.self.inside.loaded in
    let own = c.args.group.now in
    let E : List (List ℕ × ℕ) → Type 0 = λ es. AreTimed since es c.change.new.self in
    (elim (find_group own gs) as (λ o. find_group own gs ≡ o → E c.reschedule-found.new.self.entries) [
      | None ↦ λ none. let missing = (c.in_ok-output.ensures.absent none).0 in absurd (cc)
      | Some k ↦ λ found.
          let at = c.in_ok-output.ensures.changed k found in
          let there : c.reschedule-found.result ≡ true = c.reschedule-found.ensures.found ∙ has_key-timed since own before gs c.self.invariant ∙ ap is_some found in
          let entries : c.reschedule-found.new.self.entries ≡ insert_entry (slice_cmp nat_cmp) before own c.in_ok-output.deadline = OnTrue_at there c.reschedule-found.ensures.moved in
          let deadline : c.in_ok-output.deadline ≤ next_deadline since at.after = omega (arith, at.became.1) in
          subst E (sym entries) (timed-changed since c.in_ok-output.deadline own k at.after before gs c.change.new.self found (c.requires.keeps k at.after c.in_ok-output.output at.became.0) at.put deadline c.self.invariant)
    ]) refl

pub returns-clause-changed : goal.returns-clause-changed
returns-clause-changed g c =
    λ k found.
    let becomes = g.C.GroupChange.Becomes c.args.change in
    let P : List Group → Type 0 = λ gs. IsChanged becomes gs c.change.new.self k c.in_ok-output.output in
    let at = c.in_ok-output.ensures.changed k (ap (find_group c.args.group.now) c.self.view_is ∙ found) in
    subst P c.self.view_is (record { after = at.after; became = at.became.0; put = at.put })
