-- The requests of all groups, when one group takes a step, is created or is removed.
use Rattle.std.proofs.Common.{◌≡◌, ℕ, ◌+◌, true, false, cond, List, [], ◌∷◌, find, refl, sym, ap, ◌∙◌, arith}
use Rattle.std.specs.Prelude.{Some, None, if◌then◌else◌}
use Rattle.std.specs.Cmp.Lexicographic.{slice_cmp}
use Rattle.std.specs.Ordering.{nat_cmp, match_ordering}
use Rattle.std.specs.declared.cmp.Ordering.TheVariants.{Less, Equal, Greater}
use Rattle.std.proofs.lemmas.Bool.{false≢true}
use Rattle.std.proofs.lemmas.List.Sums.{sum_by-cons}
use Rattle.cg_group_state.specs.declared.group.Group.{Group}
use Rattle.cg_request.specs.declared.ticket.Ticket.{Ticket}
use Rattle.cg_group_state.specs.declared.turn.Turn.{Turn}
use Rattle.cg_group_rules.specs.Join.{new_group}
use Rattle.cg_group_table.specs.GroupTable.{InOrder, find_group, with_group, without_group}
use Rattle.cg_request.specs.Names.{is_same}
use Rattle.cg_group_table.proofs.InOrder.{before_found, equal_is, less_greater, same_order}
use Rattle.cg_group_table.proofs.KeptLists.{same_self}
use Rattle.cg_desk.specs.Turns.{TakesIn, told_of, waits_of}
use Rattle.cg_desk.proofs.CalledEverywhere.{in_groups}

one-more : (weight : Ticket → ℕ) (g : Group) (gs : List Group) → in_groups weight (g ∷ gs) ≡ waits_of weight g.members + in_groups weight gs
one-more weight g gs = sum_by-cons (λ (h : Group). waits_of weight h.members) g gs

-- a group is replaced in its own position
pub held-placed : (weight : Ticket → ℕ) (id : List ℕ) (gs : List Group) (g new : Group) → InOrder gs → find_group id gs ≡ Some g → new.id ≡ g.id
    → in_groups weight (with_group new gs) + waits_of weight g.members ≡ in_groups weight gs + waits_of weight new.members
unfolding find_group with_group
held-placed weight id [] g new o found same = cc
held-placed weight id (x ∷ xs) g new o found same =
    (elim (is_same x.id id) as (λ b. cond b (Some x) (find (λ y. is_same y.id id) xs) ≡ Some g
    → in_groups weight (match_ordering (slice_cmp nat_cmp new.id x.id) (new ∷ x ∷ xs) (new ∷ xs) (x ∷ with_group new xs)) + waits_of weight g.members ≡ in_groups weight (x ∷ xs) + waits_of weight new.members) [
      | true ↦ λ found.
          let own : x ≡ g = cc in
          let level : slice_cmp nat_cmp new.id x.id ≡ Equal = ap (λ i. slice_cmp nat_cmp i x.id) (same ∙ ap (λ (y : Group). y.id) (sym own)) ∙ same_order x.id in
          let placed = ap (λ o. in_groups weight (match_ordering o (new ∷ x ∷ xs) (new ∷ xs) (x ∷ with_group new xs))) level in
          let left = one-more weight new xs in
          let all = one-more weight x xs in
          let went = ap (λ (y : Group). waits_of weight y.members) own in
          omega arith
      | false ↦ λ found.
          let later : slice_cmp nat_cmp new.id x.id ≡ Greater = ap (λ i. slice_cmp nat_cmp i x.id) same ∙ less_greater x.id g.id (before_found x.id id xs g o.0 found) in
          let placed = ap (λ o. in_groups weight (match_ordering o (new ∷ x ∷ xs) (new ∷ xs) (x ∷ with_group new xs))) later in
          let left = one-more weight x (with_group new xs) in
          let all = one-more weight x xs in
          let rest = held-placed weight id xs g new o.1 found same in
          omega arith
    ]) found

-- a group is created
made-at : (weight : Ticket → ℕ) (id : List ℕ) (x : Group) (xs : List Group) (new : Group) → is_same x.id id ≡ false → new.id ≡ id → in_groups weight (with_group new xs) ≡ in_groups weight xs + waits_of weight new.members
    → in_groups weight (match_ordering (slice_cmp nat_cmp new.id x.id) (new ∷ x ∷ xs) (new ∷ xs) (x ∷ with_group new xs)) ≡ in_groups weight (x ∷ xs) + waits_of weight new.members
made-at weight id x xs new other same rest =
    (elim (slice_cmp nat_cmp new.id x.id) as (λ o. slice_cmp nat_cmp new.id x.id ≡ o → in_groups weight (match_ordering o (new ∷ x ∷ xs) (new ∷ xs) (x ∷ with_group new xs)) ≡ in_groups weight (x ∷ xs) + waits_of weight new.members) [
      | Less ↦ λ k. let left = one-more weight new (x ∷ xs) in omega arith
      | Equal ↦ λ k.
          let level : is_same x.id id ≡ true = ap (λ i. is_same i id) (sym (equal_is new.id x.id k) ∙ same) ∙ same_self id in
          absurd (false≢true (sym other ∙ level))
      | Greater ↦ λ k.
          let left = one-more weight x (with_group new xs) in
          let all = one-more weight x xs in
          omega arith
    ]) refl

pub made-placed : (weight : Ticket → ℕ) (id : List ℕ) (gs : List Group) (new : Group) → find_group id gs ≡ None → new.id ≡ id → in_groups weight (with_group new gs) ≡ in_groups weight gs + waits_of weight new.members
unfolding find_group with_group
made-placed weight id [] new none same = let left = one-more weight new [] in omega arith
made-placed weight id (x ∷ xs) new none same =
    (elim (is_same x.id id) as (λ b. is_same x.id id ≡ b → cond b (Some x) (find (λ y. is_same y.id id) xs) ≡ None
    → in_groups weight (match_ordering (slice_cmp nat_cmp new.id x.id) (new ∷ x ∷ xs) (new ∷ xs) (x ∷ with_group new xs)) ≡ in_groups weight (x ∷ xs) + waits_of weight new.members) [
      | true ↦ λ e none. cc
      | false ↦ λ e none. made-at weight id x xs new e same (made-placed weight id xs new none same)
    ]) refl none

-- a group without parked requests is removed
pub removed-kept : (weight : Ticket → ℕ) (id : List ℕ) (gs : List Group) (g : Group) → find_group id gs ≡ Some g → waits_of weight g.members ≡ 0 → in_groups weight (without_group id gs) ≡ in_groups weight gs
unfolding find_group without_group
removed-kept weight id [] g found idle = cc
removed-kept weight id (x ∷ xs) g found idle =
    (elim (is_same x.id id) as (λ b. cond b (Some x) (find (λ y. is_same y.id id) xs) ≡ Some g → in_groups weight (if b then xs else x ∷ without_group id xs) ≡ in_groups weight (x ∷ xs)) [
      | true ↦ λ found.
          let own : x ≡ g = cc in
          let went = ap (λ (y : Group). waits_of weight y.members) own in
          let all = one-more weight x xs in
          omega arith
      | false ↦ λ found.
          let left = one-more weight x (without_group id xs) in
          let all = one-more weight x xs in
          let rest = removed-kept weight id xs g found idle in
          omega arith
    ]) found

-- what a step does to the requests of all groups
abbrev pub Takes : List Group → Ticket → Turn → Type 0
Takes gs ticket t = (weight : Ticket → ℕ) → told_of weight t.replies + in_groups weight (with_group t.group gs) ≡ in_groups weight gs + weight ticket

pub takes-held : (gs : List Group) (id : List ℕ) (g : Group) (ticket : Ticket) (t : Turn) → InOrder gs → find_group id gs ≡ Some g → t.group.id ≡ g.id → TakesIn g ticket t → Takes gs ticket t
takes-held gs id g ticket t o found same turn weight =
    let placed = held-placed weight id gs g t.group o found same in
    let kept : told_of weight t.replies + waits_of weight t.group.members ≡ waits_of weight g.members + weight ticket = turn weight in
    omega arith

pub takes-made : (gs : List Group) (id : List ℕ) (ticket : Ticket) (t : Turn) → find_group id gs ≡ None → t.group.id ≡ id → TakesIn (new_group id) ticket t → Takes gs ticket t
unfolding new_group
takes-made gs id ticket t none same turn weight =
    let placed = made-placed weight id gs t.group none same in
    let kept : told_of weight t.replies + waits_of weight t.group.members ≡ 0 + weight ticket = turn weight in
    omega arith
