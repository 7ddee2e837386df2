use Rattle.std.proofs.Common.{◌≡◌, ◌≤◌, ℕ, true, List, is_some, refl, sym, ap, subst, ◌∙◌, arith}
use Rattle.std.proofs.lemmas.Bool.{OnTrue_at}
use Rattle.std.specs.BTreeMap.{insert_entry}
use Rattle.std.specs.Cmp.Lexicographic.{slice_cmp}
use Rattle.std.specs.Ordering.{nat_cmp}
use Rattle.cg_group_state.specs.declared.group.Group.{Group}
use Rattle.cg_group_rules.specs.TickDeadline.{next_deadline}
use Rattle.cg_group_table.specs.GroupTable.{find_group, with_group}
use Rattle.cg_group_table.specs.DeadlineIndex.{AreTimed}
use Rattle.cg_group_table.proofs.Timed.{has_key-timed, timed-put}
use Rattle.cg_group_table.proofs.group_table.GroupTable.swap.Goals as goal

pub invariant_of-self : goal.invariant_of-self
invariant_of-self c =
    let since = c.self.inside.since in
    let before = c.self.inside.deadlines.entries in
    let gs = c.self.inside.loaded in
    let g = c.args.group.now in
    let deadline : c.next_deadline-deadline.result ≤ next_deadline since g = omega (arith, c.next_deadline-deadline.ensures) in
    let there : c.reschedule-found.result ≡ true =
    c.reschedule-found.ensures.found ∙ has_key-timed since g.id before gs c.self.invariant ∙ ap (λ (hs : List Group). is_some (find_group g.id hs)) c.self.view_is ∙ c.requires in
    let entries : c.reschedule-found.new.self.entries ≡ insert_entry (slice_cmp nat_cmp) before g.id c.next_deadline-deadline.result = OnTrue_at there c.reschedule-found.ensures.moved in
    let E : List (List ℕ × ℕ) → Type 0 = λ es. AreTimed since es (with_group g gs) in
    let G : List Group → Type 0 = λ hs. AreTimed since c.reschedule-found.new.self.entries hs in
    subst G (sym c.swap.ensures.after) (subst E (sym entries) (timed-put since c.next_deadline-deadline.result g.id g before gs refl deadline c.self.invariant))
