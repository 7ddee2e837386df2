-- Ids of segments: ranges, and that no two are equal.
use Rattle.std.proofs.Common.{◌≡◌, ◌⊎◌, inl, inr, ℕ, zero, suc, ◌<◌, ◌≤◌, ◌+◌, Bool, true, false, List, [], ◌∷◌, ◌++◌, length, get_or, refl, ap, ◌∙◌, arith}
use Rattle.std.specs.Prelude.{◌&&◌, ◌||◌, nat_lt, nat_eq, IsTrue}
use Rattle.std.specs.List.{list_all, AllByRecursion, IsDistinct}
use Rattle.std.proofs.lemmas.Bool.{cases_lt, and_parts, or_parts}
use Rattle.std.proofs.lemmas.Bool.Decides.{nat_tests}
use Rattle.std.proofs.lemmas.List.Folds.{list_all-append}
use Rattle.cg_gate.specs.Layout.{first_sector, segment_count}
use Rattle.cg_root.specs.Roots.{AreSegments, IsLawful, root_ids}
use Rattle.cg_root.specs.declared.root.Root.{Root}
use Rattle.cg_log.specs.Free.{is_among}
use Rattle.cg_log.specs.Segments.{Filled, ids_of}
use Rattle.cg_log.proofs.Filled.{AreApart}

pub below_at : (n : ℕ) (xs : List ℕ) (i : ℕ) → i < length xs → IsTrue (list_all (λ id. nat_lt id n) xs) → get_or xs i 0 < n
below_at n [] i lt is = absurd (omega arith)
below_at n (x ∷ xs) zero lt is =
    let test : nat_lt x n ≡ true = (and_parts (nat_lt x n) (list_all (λ id. nat_lt id n) xs) is).0 in
    grind (arith, nat_tests)
below_at n (x ∷ xs) (suc i) lt is = below_at n xs i (omega arith) (and_parts (nat_lt x n) (list_all (λ id. nat_lt id n) xs) is).1

-- where a disk has a segment, all of its sectors are on the disk
segment-on_disk : (sectors id : ℕ) → id < segment_count sectors → first_sector id + 2048 ≤ sectors
unfolding segment_count
segment-on_disk sectors id lt = omega arith

pub root-on_disk : (sectors : ℕ) (root : Root) (index : ℕ) → IsLawful sectors root → index < length (root_ids root) → first_sector (get_or (root_ids root) index 0) + 2048 ≤ sectors
root-on_disk sectors root index lawful inside = segment-on_disk sectors (get_or (root_ids root) index 0) (below_at (segment_count sectors) (root_ids root) index inside lawful.ids.below)

-- an id that is none of these
module _ (y : ℕ) where
  pub is_among-front : (xs ys : List ℕ) → is_among y (xs ++ ys) ≡ false → is_among y xs ≡ false
  is_among-front [] ys none = refl
  is_among-front (x ∷ xs) ys none =
      let parts = or_parts (nat_eq y x) (is_among y (xs ++ ys)) none in
      ap (λ (b : Bool). b || is_among y xs) parts.0 ∙ is_among-front xs ys parts.1

  pub is_among-back : (xs ys : List ℕ) → is_among y (xs ++ ys) ≡ false → is_among y ys ≡ false
  is_among-back [] ys none = none
  is_among-back (x ∷ xs) ys none = is_among-back xs ys (or_parts (nat_eq y x) (is_among y (xs ++ ys)) none).1

  -- the last of distinct ids is none of those before it
  differs_last : (x : ℕ) (xs : List ℕ) → AllByRecursion (λ z. nat_eq x z ≡ false) (xs ++ y ∷ []) → nat_eq x y ≡ false
  differs_last x [] all = all.0
  differs_last x (z ∷ xs) all = differs_last x xs all.1

  pub is_among-last : (xs : List ℕ) → IsDistinct nat_eq (xs ++ y ∷ []) → is_among y xs ≡ false
  unfolding IsDistinct
  is_among-last [] distinct = refl
  is_among-last (x ∷ xs) distinct =
      let apart : nat_eq x y ≡ false = differs_last x xs distinct.0 in
      let flipped : nat_eq y x ≡ false = grind (arith, nat_tests) in
      ap (λ (b : Bool). b || is_among y xs) flipped ∙ is_among-last xs distinct.1

  all_push : (x : ℕ) (xs : List ℕ) → AllByRecursion (λ z. nat_eq x z ≡ false) xs → nat_eq x y ≡ false → AllByRecursion (λ z. nat_eq x z ≡ false) (xs ++ y ∷ [])
  all_push x [] all last = (last, tt)
  all_push x (z ∷ xs) all last = (all.0, all_push x xs all.1 last)

  distinct_push : (xs : List ℕ) → IsDistinct nat_eq xs → is_among y xs ≡ false → IsDistinct nat_eq (xs ++ y ∷ [])
  unfolding IsDistinct
  distinct_push [] distinct none = (tt, tt)
  distinct_push (x ∷ xs) distinct none =
      let parts = or_parts (nat_eq y x) (is_among y xs) none in
      let apart : nat_eq y x ≡ false = parts.0 in
      let flipped : nat_eq x y ≡ false = grind (arith, nat_tests) in
      (all_push x xs distinct.0 flipped, distinct_push xs distinct.1 parts.1)

  pub AreSegments-push : (n : ℕ) (xs : List ℕ) → AreSegments n xs → y < n → is_among y xs ≡ false → AreSegments n (xs ++ y ∷ [])
  AreSegments-push n xs are lt none = record {
    distinct = distinct_push xs are.distinct none;
    below =
        let test : nat_lt y n ≡ true = grind (arith, nat_tests) in
        list_all-append (λ id. nat_lt id n) xs (y ∷ []) ∙ ap (λ (b : Bool). b && (nat_lt y n && true)) are.below ∙ ap (λ (b : Bool). b && true) test;
  }

-- segments of these ids have no sector in the segment of an id that is none of them
pub AreApart-segment : (id at n : ℕ) (segments : List Filled) → first_sector id ≤ at → at + n ≤ first_sector id + 2048 → is_among id (ids_of segments) ≡ false → AreApart at n segments
AreApart-segment id at n [] low high none = tt
AreApart-segment id at n (s ∷ segments) low high none =
    let parts = or_parts (nat_eq id s.0) (is_among id (ids_of segments)) none in
    (apart (cases_lt id s.0) parts.0, AreApart-segment id at n segments low high parts.1)
  where
    apart : (id < s.0) ⊎ (s.0 ≤ id) → nat_eq id s.0 ≡ false → (first_sector s.0 + 2048 ≤ at) ⊎ (at + n ≤ first_sector s.0)
    apart (inl lt) differs = inr (omega arith)
    apart (inr le) differs =
        let lt : s.0 < id = grind (arith, nat_tests) in
        inl (omega arith)
