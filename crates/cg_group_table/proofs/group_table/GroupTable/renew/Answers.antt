use Rattle.std.proofs.Common.{◌≡◌, ◌≤◌, ℕ, true, List, Some, is_some, sym, ap, subst, ◌∙◌, arith}
use Rattle.std.proofs.lemmas.Bool.{OnTrue_at}
use Rattle.std.specs.Option.{option_copied}
use Rattle.std.specs.BTreeMap.{insert_entry}
use Rattle.std.specs.Cmp.Lexicographic.{slice_cmp}
use Rattle.std.specs.Ordering.{nat_cmp}
use Rattle.cg_group_rules.specs.TickDeadline.{next_deadline}
use Rattle.cg_group_table.specs.GroupTable.{find_group}
use Rattle.cg_group_table.specs.DeadlineIndex.{AreTimed}
use Rattle.cg_group_table.proofs.Timed.{has_key-timed, timed-renewed}
use Rattle.cg_group_table.proofs.group_table.GroupTable.renew.Goals as goal

pub invariant_of-self : goal.invariant_of-self
invariant_of-self c =
    let since = c.self.inside.since in
    let before = c.self.inside.deadlines.entries in
    let gs = c.self.inside.loaded in
    let id = c.args.id.now in
    let g = c.in-Some.group.now in
    let found : find_group id gs ≡ Some g = sym c.find.ensures.found ∙ ap option_copied c.in-Some.is in
    let deadline : c.next_deadline-deadline.result ≤ next_deadline since g = omega (arith, c.next_deadline-deadline.ensures) in
    let there : c.reschedule-found.result ≡ true = c.reschedule-found.ensures.found ∙ has_key-timed since id before gs c.self.invariant ∙ ap is_some found in
    let entries : c.reschedule-found.new.self.entries ≡ insert_entry (slice_cmp nat_cmp) before id c.next_deadline-deadline.result = OnTrue_at there c.reschedule-found.ensures.moved in
    let E : List (List ℕ × ℕ) → Type 0 = λ es. AreTimed since es gs in
    subst E (sym entries) (timed-renewed since c.next_deadline-deadline.result id g before gs c.find.ensures.in_order found deadline c.self.invariant)
