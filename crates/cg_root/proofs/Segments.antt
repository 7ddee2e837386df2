-- Ids of segments: that no two are equal and each is below a number.
use Rattle.std.proofs.Common.{◌≡◌, ℕ, zero, suc, ◌-◌, ◌^◌, ◌<◌, ◌≤◌, Bool, true, false, List, [], ◌∷◌, length, take, drop, get_or, refl, sym, ◌∙◌, ap, subst, arith}
use Rattle.std.specs.Prelude.{◌&&◌, ◌||◌, nat_eq, nat_lt}
use Rattle.std.specs.Int.{from_be_bytes, w16}
use Rattle.std.specs.List.{list_all, list_any, AllByRecursion, IsDistinct}
use Rattle.std.proofs.lemmas.Bool.Decides.{nat_tests}
use Rattle.std.proofs.lemmas.List.{take_all}
use Rattle.std.proofs.lemmas.Map.Steps.{length-le_from_distinct_below}
use Rattle.std.proofs.lemmas.Bool.{and_parts, or_parts}
use Rattle.cg_gate.specs.Layout.{segment_count}
use Rattle.cg_root.specs.Roots.{AreSegments}
use Rattle.cg_root.specs.Decoding.{ids_in, IsApart}

-- no id equals this one
none_equal : (id : ℕ) (ids : List ℕ) → list_any (nat_eq id) ids ≡ false → AllByRecursion (λ y. nat_eq id y ≡ false) ids
none_equal id [] none = tt
none_equal id (x ∷ ids) none = let parts = or_parts (nat_eq id x) (list_any (nat_eq id) ids) none in (parts.0, none_equal id ids parts.1)

none_among : (id : ℕ) (ids : List ℕ) → AllByRecursion (λ y. nat_eq id y ≡ false) ids → list_any (nat_eq id) ids ≡ false
none_among id [] none = refl
none_among id (x ∷ ids) none = ap (λ (b : Bool). b || list_any (nat_eq id) ids) none.0 ∙ none_among id ids none.1

-- one id more

pub AreSegments-nil : (n : ℕ) → AreSegments n []
unfolding IsDistinct
AreSegments-nil n = record { distinct = tt; below = refl }

pub AreSegments-cons : (n id : ℕ) (ids : List ℕ) → IsApart n id ids → AreSegments n ids → AreSegments n (id ∷ ids)
unfolding IsDistinct
AreSegments-cons n id ids apart are = record {
  distinct = (none_equal id ids apart.none, are.distinct);
  below = let test : nat_lt id n ≡ true = let lt : id < n = apart.below in grind (arith, nat_tests) in ap (λ (b : Bool). b && list_all (λ x. nat_lt x n) ids) test ∙ are.below;
}

pub AreSegments-first : (n id : ℕ) (ids : List ℕ) → AreSegments n (id ∷ ids) → IsApart n id ids × AreSegments n ids
unfolding IsDistinct
AreSegments-first n id ids are =
    let parts = and_parts (nat_lt id n) (list_all (λ x. nat_lt x n) ids) are.below in
    let test : nat_lt id n ≡ true = parts.0 in
    (record { below = grind (arith, nat_tests); none = none_among id ids are.distinct.0 }, record { distinct = are.distinct.1; below = parts.1 })

-- the ids of bytes, with the first apart

pub ids_in-short : (xs : List ℕ) → length xs < 2 → ids_in xs ≡ []
ids_in-short [] lt = refl
ids_in-short (x ∷ []) lt = refl
ids_in-short (x ∷ y ∷ rest) lt = absurd (omega arith)

pub ids_in-cons : (xs : List ℕ) → 2 ≤ length xs → ids_in xs ≡ from_be_bytes w16 (get_or xs 0 0 ∷ get_or xs 1 0 ∷ []) ∷ ids_in (take (length xs - 2) (drop 2 xs))
ids_in-cons [] le = absurd (omega arith)
ids_in-cons (x ∷ []) le = absurd (omega arith)
ids_in-cons (x ∷ y ∷ rest) le = ap (λ (l : List ℕ). from_be_bytes w16 (x ∷ y ∷ []) ∷ ids_in l) (sym (take_all (length (x ∷ y ∷ rest) - 2) rest (omega arith)))

-- there are few

first_below : (n x q : ℕ) (ids : List ℕ) → nat_lt x n ≡ true → (nat_eq q x || list_any (nat_eq q) ids) ≡ true → (list_any (nat_eq q) ids ≡ true → q < n) → (b : Bool) → nat_eq q x ≡ b → q < n
first_below n x q ids below any rest true same = grind (arith, nat_tests)
first_below n x q ids below any rest false other = rest (ap (λ (b : Bool). b || list_any (nat_eq q) ids) (sym other) ∙ any)

member_below : (n : ℕ) (ids : List ℕ) → list_all (λ x. nat_lt x n) ids ≡ true → (q : ℕ) → list_any (nat_eq q) ids ≡ true → q < n
member_below n [] all q any = absurd cc
member_below n (x ∷ ids) all q any =
    let parts = and_parts (nat_lt x n) (list_all (λ y. nat_lt y n) ids) all in
    first_below n x q ids parts.0 any (λ passes. member_below n ids parts.1 q passes) (nat_eq q x) refl

pub segment_count-le : (sectors : ℕ) → segment_count sectors ≤ 200
unfolding segment_count
segment_count-le sectors = omega arith

pub length-segments : (sectors : ℕ) (ids : List ℕ) → AreSegments (segment_count sectors) ids → length ids ≤ 200
length-segments sectors ids are =
    omega (arith, length-le_from_distinct_below ids (segment_count sectors) are.distinct (member_below (segment_count sectors) ids are.below), segment_count-le sectors)

-- each fits two bytes
pub segment_fits : (n : ℕ) (ids : List ℕ) → n ≤ 200 → AreSegments n ids → (i : ℕ) → get_or ids i 0 < 2 ^ 16
segment_fits n [] le are i = omega arith
segment_fits n (id ∷ ids) le are zero = let first : IsApart n id ids = (AreSegments-first n id ids are).0 in omega (arith, first.below)
segment_fits n (id ∷ ids) le are (suc i) = segment_fits n ids le (AreSegments-first n id ids are).1 i

-- a list that begins with an id
pub AreSegments-bytes : (n id : ℕ) (xs : List ℕ) → 2 ≤ length xs → id ≡ from_be_bytes w16 (get_or xs 0 0 ∷ get_or xs 1 0 ∷ []) → IsApart n id (ids_in (take (length xs - 2) (drop 2 xs))) → AreSegments n (ids_in (take (length xs - 2) (drop 2 xs))) → AreSegments n (ids_in xs)
AreSegments-bytes n id xs le is apart rest =
    subst (AreSegments n) (ap (λ (k : ℕ). k ∷ ids_in (take (length xs - 2) (drop 2 xs))) is ∙ sym (ids_in-cons xs le)) (AreSegments-cons n id (ids_in (take (length xs - 2) (drop 2 xs))) apart rest)

pub AreSegments-bytes_first : (n id : ℕ) (xs : List ℕ) → 2 ≤ length xs → id ≡ from_be_bytes w16 (get_or xs 0 0 ∷ get_or xs 1 0 ∷ []) → AreSegments n (ids_in xs) → IsApart n id (ids_in (take (length xs - 2) (drop 2 xs))) × AreSegments n (ids_in (take (length xs - 2) (drop 2 xs)))
AreSegments-bytes_first n id xs le is are =
    AreSegments-first n id (ids_in (take (length xs - 2) (drop 2 xs))) (subst (AreSegments n) (ids_in-cons xs le ∙ ap (λ (k : ℕ). k ∷ ids_in (take (length xs - 2) (drop 2 xs))) (sym is)) are)

pub AreSegments-short : (n : ℕ) (xs : List ℕ) → length xs < 2 → AreSegments n (ids_in xs)
AreSegments-short n xs lt = subst (AreSegments n) (sym (ids_in-short xs lt)) (AreSegments-nil n)
