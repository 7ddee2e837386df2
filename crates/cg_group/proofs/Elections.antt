-- Members with a protocol in common elect one.
use Rattle.std.proofs.Common.{◌≡◌, ℕ, Bool, true, false, not, ◌&&◌, ◌||◌, ◌==◌, nat_lt, List, [], ◌∷◌, map, filter, find, cond, is_some, refl, sym, ap, ◌∙◌, subst, Some}
use Rattle.std.proofs.lemmas.Bool.{and_parts, or_parts, or_from, or_left, or_right}
use Rattle.std.proofs.lemmas.Cmp.{nat_cmp_total, nat_list_cmp_total, nat_eq_equiv, upto, tied_itself, then_total, back_total, on_total}
use Rattle.std.specs.Cmp.{IsTotalOrder}
use Rattle.std.specs.Cmp.Lexicographic.{slice_cmp}
use Rattle.std.specs.List.{list_any, list_all}
use Rattle.std.specs.Ordering.{nat_cmp, flip_args, is_gt, is_lt, on, ordering_reverse, ordering_then, then_cmp}
use Rattle.std.specs.declared.cmp.Ordering.{Ordering}
use Rattle.std.specs.declared.cmp.Ordering.TheVariants.{Less, Equal, Greater}
use Rattle.cg_group_state.specs.declared.member.Member.{Member}
use Rattle.cg_request.specs.declared.protocol.Protocol.{Protocol}
use Rattle.cg_group_state.specs.Membership.{is_empty, is_same}
use Rattle.cg_group_state.specs.Vote.{beats, candidate_protocols, select_protocol, is_beaten, is_common, offers, votes}
use Rattle.cg_group_table.proofs.KeptLists.{same_names, same_self}

-- a protocol that every member supports
abbrev pub HasCommon : List Member → Type 0
HasCommon members = (name : List ℕ) × (is_common members name ≡ true)

is_filled : List (List ℕ) → Bool
is_filled [] = false
is_filled (x ∷ xs) = true

filled-filter : (p : List ℕ → Bool) (name : List ℕ) (ps : List Protocol) → p name ≡ true → list_any (λ q. is_same q.name name) ps ≡ true → is_filled (filter p (map (λ q. q.name) ps)) ≡ true
unfolding is_filled
filled-filter p name [] e h = h
filled-filter p name (q ∷ qs) e h =
    (elim (is_same q.name name) as (λ b. is_same q.name name ≡ b → (b || list_any (λ q. is_same q.name name) qs) ≡ true → is_filled (cond (p q.name) (q.name ∷ filter p (map (λ q. q.name) qs)) (filter p (map (λ q. q.name) qs))) ≡ true) [
      | true ↦ λ s _. let P : Bool → Type 0 = λ b. is_filled (cond b (q.name ∷ filter p (map (λ q. q.name) qs)) (filter p (map (λ q. q.name) qs))) ≡ true in subst P (sym (ap p (same_names q.name name s) ∙ e)) refl
      | false ↦ λ _ k. elim (p q.name) as (λ b. is_filled (cond b (q.name ∷ filter p (map (λ q. q.name) qs)) (filter p (map (λ q. q.name) qs))) ≡ true) [ true ↦ refl | false ↦ filled-filter p name qs e k ]
    ]) refl h

filled-candidate_protocols : (ms : List Member) → HasCommon ms → is_empty ms ≡ false → is_filled (candidate_protocols ms) ≡ true
unfolding candidate_protocols is_common
filled-candidate_protocols [] h e = cc
filled-candidate_protocols (m ∷ ms) h e = filled-filter (is_common (m ∷ ms)) h.0 m.protocols h.1 (and_parts (offers h.0 m) (list_all (offers h.0) ms) h.1).0

-- more votes first, then the lesser name
module _ (names : List (List ℕ)) (members : List Member) where
  ranking : List ℕ → List ℕ → Ordering
  ranking = then_cmp (flip_args (on (votes names members) nat_cmp)) (slice_cmp nat_cmp)

  ranking_total : IsTotalOrder ranking
  unfolding ranking
  ranking_total = then_total (back_total (on_total (votes names members) nat_cmp_total)) nat_list_cmp_total

  tested : (a b : ℕ) (o : Ordering) → (nat_lt b a || ((a == b) && is_lt o)) ≡ is_lt (ordering_then (nat_cmp b a) o)
  tested a b o =
      ap (λ e. nat_lt b a || (e && is_lt o)) (nat_eq_equiv.symm a b)
      ∙ elim (nat_lt b a) as (λ l. (l || ((b == a) && is_lt o)) ≡ is_lt (ordering_then (cond l Less (cond (b == a) Equal Greater)) o)) [
        | true ↦ refl
        | false ↦ elim (b == a) as (λ e. (e && is_lt o) ≡ is_lt (ordering_then (cond e Equal Greater) o)) [ true ↦ refl | false ↦ refl ]
      ]

  beats-ranking : (a b : List ℕ) → beats names members a b ≡ is_lt (ranking a b)
  unfolding beats ranking
  beats-ranking a b = tested (votes names members a) (votes names members b) (slice_cmp nat_cmp a b)

  not_before : (o : Ordering) → is_gt o ≡ false → is_lt (ordering_reverse o) ≡ false
  not_before Less e = refl
  not_before Equal e = refl
  not_before Greater e = e

  not_beaten_by : (a b : List ℕ) → is_gt (ranking a b) ≡ false → beats names members b a ≡ false
  not_beaten_by a b e = beats-ranking b a ∙ ap is_lt (ranking_total.antisymm b a) ∙ not_before (ranking a b) e

  AreAfter : List ℕ → List (List ℕ) → Type 0
  AreAfter best xs = list_any (λ x. is_gt (ranking best x)) xs ≡ false

  after_all_from : (a b : List ℕ) (xs : List (List ℕ)) → is_gt (ranking a b) ≡ false → AreAfter b xs → AreAfter a xs
  unfolding AreAfter
  after_all_from a b [] e h = refl
  after_all_from a b (x ∷ xs) e h =
      let parts = or_parts (is_gt (ranking b x)) (list_any (λ x. is_gt (ranking b x)) xs) h in
      or_from (is_gt (ranking a x)) (list_any (λ x. is_gt (ranking a x)) xs) (upto ranking_total a b x e parts.0) (after_all_from a b xs e parts.1)

  not_greater_back : (a b : List ℕ) → is_gt (ranking a b) ≡ true → is_gt (ranking b a) ≡ false
  not_greater_back a b e = ap is_gt (ranking_total.antisymm b a) ∙ back (ranking a b) e
    where
      back : (o : Ordering) → is_gt o ≡ true → is_gt (ordering_reverse o) ≡ false
      back Less e = sym e
      back Equal e = refl
      back Greater e = refl

  itself : (a : List ℕ) → is_gt (ranking a a) ≡ false
  itself a = ap is_gt (tied_itself ranking_total a)

  -- the best of a list: the first, or the best of the others
  best_of : (x : List ℕ) (xs : List (List ℕ)) → (best : List ℕ) × (list_any (λ y. is_same y best) (x ∷ xs) ≡ true) × AreAfter best (x ∷ xs)
  unfolding AreAfter
  best_of x [] = (x, or_left (is_same x x) false (same_self x), or_from (is_gt (ranking x x)) false (itself x) refl)
  best_of x (y ∷ ys) = choose (best_of y ys)
    where
      choose : ((best : List ℕ) × (list_any (λ z. is_same z best) (y ∷ ys) ≡ true) × AreAfter best (y ∷ ys)) → (best : List ℕ) × (list_any (λ z. is_same z best) (x ∷ y ∷ ys) ≡ true) × AreAfter best (x ∷ y ∷ ys)
      choose h =
          (elim (is_gt (ranking x h.0)) as (λ b. is_gt (ranking x h.0) ≡ b → (best : List ℕ) × (list_any (λ z. is_same z best) (x ∷ y ∷ ys) ≡ true) × AreAfter best (x ∷ y ∷ ys)) [
            | true ↦ λ e. (h.0, or_right (is_same x h.0) (list_any (λ z. is_same z h.0) (y ∷ ys)) h.1, or_from (is_gt (ranking h.0 x)) (list_any (λ z. is_gt (ranking h.0 z)) (y ∷ ys)) (not_greater_back x h.0 e) h.2)
            | false ↦ λ e. (x, or_left (is_same x x) (list_any (λ z. is_same z x) (y ∷ ys)) (same_self x), or_from (is_gt (ranking x x)) (list_any (λ z. is_gt (ranking x z)) (y ∷ ys)) (itself x) (after_all_from x h.0 (y ∷ ys) e h.2))
          ]) refl

  none_beats : (best : List ℕ) (xs : List (List ℕ)) → AreAfter best xs → list_any (λ other. beats names members other best) xs ≡ false
  unfolding AreAfter
  none_beats best [] h = refl
  none_beats best (x ∷ xs) h =
      let parts = or_parts (is_gt (ranking best x)) (list_any (λ x. is_gt (ranking best x)) xs) h in
      or_from (beats names members x best) (list_any (λ other. beats names members other best) xs) (not_beaten_by best x parts.0) (none_beats best xs parts.1)

found_some : (p : List ℕ → Bool) (name : List ℕ) (xs : List (List ℕ)) → p name ≡ true → list_any (λ x. is_same x name) xs ≡ true → is_some (find p xs) ≡ true
found_some p name [] e h = h
found_some p name (x ∷ xs) e h =
    (elim (is_same x name) as (λ b. is_same x name ≡ b → (b || list_any (λ x. is_same x name) xs) ≡ true → is_some (cond (p x) (Some x) (find p xs)) ≡ true) [
      | true ↦ λ s _. let P : Bool → Type 0 = λ b. is_some (cond b (Some x) (find p xs)) ≡ true in subst P (sym (ap p (same_names x name s) ∙ e)) refl
      | false ↦ λ _ k. elim (p x) as (λ b. is_some (cond b (Some x) (find p xs)) ≡ true) [ true ↦ refl | false ↦ found_some p name xs e k ]
    ]) refl h

unbeaten_found : (members : List Member) (names : List (List ℕ)) → is_filled names ≡ true → is_some (find (λ name. not (is_beaten names members name)) names) ≡ true
unfolding is_filled is_beaten
unbeaten_found members [] e = e
unbeaten_found members (x ∷ xs) e =
    let best = best_of (x ∷ xs) members x xs in
    found_some (λ name. not (is_beaten (x ∷ xs) members name)) best.0 (x ∷ xs) (ap not (none_beats (x ∷ xs) members best.0 (x ∷ xs) best.2)) best.1

pub elected_is : (ms : List Member) → HasCommon ms → is_empty ms ≡ false → is_some (select_protocol ms) ≡ true
unfolding select_protocol
elected_is ms h e = unbeaten_found ms (candidate_protocols ms) (filled-candidate_protocols ms h e)
