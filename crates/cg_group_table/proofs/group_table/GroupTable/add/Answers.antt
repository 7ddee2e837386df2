use Rattle.std.proofs.Common.{◌≡◌, ◌<◌, ◌≤◌, ℕ, List, rules, sym, ap, subst, ◌∙◌, arith}
use Rattle.std.specs.Prelude.{IsOk, OnOk, Result, Ok, Err}
use Rattle.std.proofs.lemmas.Bool.{false≢true}
use Rattle.std.specs.BTreeMap.{insert_entry}
use Rattle.std.specs.Cmp.Lexicographic.{slice_cmp}
use Rattle.std.specs.Ordering.{nat_cmp}
use Rattle.cg_group_state.specs.declared.group.Group.{Group}
use Rattle.cg_group_rules.specs.TickDeadline.{next_deadline}
use Rattle.cg_group_table.specs.GroupTable.{with_group}
use Rattle.cg_group_table.specs.DeadlineIndex.{AreTimed}
use Rattle.cg_group_table.proofs.Timed.{timed-put}
use Rattle.cg_group_table.proofs.group_table.GroupTable.add.Goals as goal

of_ok : {T E : Type 0} (r : Result T E) (P : Type 0) → IsOk r → OnOk r P → P
of_ok (Ok x) P is h = h
of_ok (Err e) P is h = absurd (false≢true is)

pub invariant_of-self-2 : goal.invariant_of-self-2
invariant_of-self-2 c =
    let since = c.self.inside.since in
    let before = c.self.inside.deadlines.entries in
    let g = c.args.group in
    let own : c.in_ok-id.id ≡ g.id = search rules in
    let deadline : c.next_deadline-deadline.result ≤ next_deadline since g = omega (arith, c.next_deadline-deadline.ensures) in
    let roomy : 0 < c.reserve.new.self.spare = omega (arith, c.in_ok-reserve.ensures.ok) in
    let set : c.set-set.new.self.entries ≡ insert_entry (slice_cmp nat_cmp) c.reserve.new.self.entries c.in_ok-id.id c.next_deadline-deadline.result = of_ok c.set-set.result _ (c.set-set.ensures.spare_succeeds roomy) c.set-set.ensures.ok in
    let entries : c.set-set.new.self.entries ≡ insert_entry (slice_cmp nat_cmp) before c.in_ok-id.id c.next_deadline-deadline.result = set ∙ ap (λ es. insert_entry (slice_cmp nat_cmp) es c.in_ok-id.id c.next_deadline-deadline.result) c.in_ok-reserve.ensures.entries in
    let E : List (List ℕ × ℕ) → Type 0 = λ es. AreTimed since es (with_group g c.self.inside.loaded) in
    let G : List Group → Type 0 = λ gs. AreTimed since c.set-set.new.self.entries gs in
    subst G (sym c.in_ok-add.ensures.ok) (subst E (sym entries) (timed-put since c.next_deadline-deadline.result c.in_ok-id.id g before c.self.inside.loaded own deadline c.self.invariant))
