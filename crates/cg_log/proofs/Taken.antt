-- Taken ids, those that a root names and the fresh ones: no two are equal, in whatever order they stand.
use Rattle.std.proofs.Common.{◌≡◌, ◌⊎◌, inl, inr, ℕ, zero, suc, ◌+◌, ◌-◌, ◌^◌, ◌<◌, ◌≤◌, Bool, true, false, List, [], ◌∷◌, ◌++◌, length, take, drop, refl, sym, ap, ◌∙◌, subst, arith, append_assoc}
use Rattle.std.specs.Prelude.{◌||◌, nat_eq}
use Rattle.std.proofs.lemmas.Bool.{cases_lt, or_parts}
use Rattle.std.proofs.lemmas.Bool.Decides.{nat_tests}
use Rattle.std.proofs.lemmas.List.{append-nil, length-append, length-drop, take-append-drop}
use Rattle.std.proofs.lemmas.List.Folds.{list_any-append}
use Rattle.std.proofs.Math.Bool.{or-true}
use Rattle.cg_gate.specs.Layout.{segment_count}
use Rattle.cg_root.specs.Roots.{AreSegments, IsLawful, root_ids}
use Rattle.cg_root.specs.declared.root.Root.{Root}
use Rattle.cg_root.proofs.Segments.{AreSegments-first}
use Rattle.cg_log.specs.Cursors.{index_of}
use Rattle.cg_log.specs.Free.{free_below, is_among}
use Rattle.cg_log.specs.Ready.{last_id}
use Rattle.cg_log.specs.Rolled.{HasOneMoreTail}
use Rattle.cg_log.specs.Switched.{IsSwitchedRoot}
use Rattle.cg_log.proofs.Filled.{split_last}
use Rattle.cg_log.proofs.Ids.{AreSegments-push, is_among-back, is_among-front}
use Rattle.cg_log.proofs.Room.{among-last, free-as, free-less}

-- ---- parts of a list

pub AreSegments-back : (n : ℕ) (xs ys : List ℕ) → AreSegments n (xs ++ ys) → AreSegments n ys
AreSegments-back n [] ys are = are
AreSegments-back n (x ∷ xs) ys are = AreSegments-back n xs ys (AreSegments-first n x (xs ++ ys) are).1

pub AreSegments-swap : (n : ℕ) (xs ys : List ℕ) → AreSegments n (xs ++ ys) → AreSegments n (ys ++ xs)
AreSegments-swap n [] ys are = subst (AreSegments n) (sym (append-nil ys)) are
AreSegments-swap n (x ∷ xs) ys are =
    let first = AreSegments-first n x (xs ++ ys) are in
    let pushed = AreSegments-push x n (xs ++ ys) first.1 first.0.below first.0.none in
    let swapped = AreSegments-swap n xs (ys ++ x ∷ []) (subst (AreSegments n) (append_assoc xs ys (x ∷ [])) pushed) in
    subst (AreSegments n) (append_assoc ys (x ∷ []) xs) swapped

pub among-back : (k : ℕ) (xs ys : List ℕ) → is_among k ys ≡ true → is_among k (xs ++ ys) ≡ true
among-back k xs ys is = list_any-append (nat_eq k) xs ys ∙ ap (λ (b : Bool). is_among k xs || b) is ∙ or-true (is_among k xs)

none-both : (k : ℕ) (xs ys : List ℕ) → is_among k xs ≡ false → is_among k ys ≡ false → is_among k (xs ++ ys) ≡ false
none-both k xs ys a b = list_any-append (nat_eq k) xs ys ∙ ap (λ (t : Bool). t || is_among k ys) a ∙ b

pub apart-front : (n k : ℕ) (xs ys : List ℕ) → AreSegments n (xs ++ ys) → is_among k xs ≡ true → is_among k ys ≡ false
apart-front n k [] ys are is = absurd cc
apart-front n k (x ∷ xs) ys are is = here (nat_eq k x) refl (λ (named : is_among k xs ≡ true). apart-front n k xs ys (AreSegments-first n x (xs ++ ys) are).1 named)
  where
    here : (b : Bool) → nat_eq k x ≡ b → (is_among k xs ≡ true → is_among k ys ≡ false) → is_among k ys ≡ false
    here true same further =
        let equal : k ≡ x = grind (arith, nat_tests) in
        ap (λ (j : ℕ). is_among j ys) equal ∙ is_among-back x xs ys (AreSegments-first n x (xs ++ ys) are).0.none
    here false differs further = further (ap (λ (b : Bool). b || is_among k xs) (sym differs) ∙ is)

pub last_id-among : (xs : List ℕ) → 1 ≤ length xs → is_among (last_id xs) xs ≡ true
last_id-among xs some = ap (is_among (last_id xs)) (split_last xs (length xs) refl some) ∙ among-last (last_id xs) (take (length xs - 1) xs)

-- an id that is none of these is not the last of them
pub other-last : (id : ℕ) (ids : List ℕ) → is_among id ids ≡ false → 1 ≤ length ids → (id < last_id ids) ⊎ (last_id ids < id)
other-last id ids none some =
    let split = split_last ids (length ids) refl some in
    let last = is_among-back id (take (length ids - 1) ids) (last_id ids ∷ []) (ap (is_among id) (sym split) ∙ none) in
    apart (cases_lt id (last_id ids)) (or_parts (nat_eq id (last_id ids)) false last).0
  where
    apart : (id < last_id ids) ⊎ (last_id ids ≤ id) → nat_eq id (last_id ids) ≡ false → (id < last_id ids) ⊎ (last_id ids < id)
    apart (inl lt) differs = inl lt
    apart (inr le) differs =
        let lt : last_id ids < id = grind (arith, nat_tests) in
        inr lt

-- ---- the ids of a log

module _ (n : ℕ) (root : Root) (fresh : List ℕ) (are : AreSegments n (root_ids root ++ fresh)) where
  -- no fresh segment is the last tail
  pub fresh-not_last : 1 ≤ length root.tail → is_among (last_id root.tail) fresh ≡ false
  fresh-not_last some = apart-front n (last_id root.tail) (root_ids root) fresh are (among-back (last_id root.tail) root.base root.tail (last_id-among root.tail some))

  -- the last fresh segment is none of the root's
  pub last-not_named : 1 ≤ length fresh → is_among (last_id fresh) (root_ids root) ≡ false
  last-not_named some = apart-front n (last_id fresh) fresh (root_ids root) (AreSegments-swap n (root_ids root) fresh are) (last_id-among fresh some)

  pub fresh-segments : AreSegments n fresh
  fresh-segments = AreSegments-back n (root_ids root) fresh are

  pub taken-fresh : (id : ℕ) → id < n → is_among id (root_ids root ++ fresh) ≡ false → AreSegments n (root_ids root ++ (fresh ++ id ∷ []))
  taken-fresh id lt none = subst (AreSegments n) (append_assoc (root_ids root) fresh (id ∷ [])) (AreSegments-push id n (root_ids root ++ fresh) are lt none)

  pub taken-rolled : (next : Root) (id : ℕ) → HasOneMoreTail root next id → id < n → is_among id (root_ids root ++ fresh) ≡ false → AreSegments n (root_ids next ++ fresh)
  taken-rolled next id more lt none =
      let all : root_ids next ≡ root_ids root ++ id ∷ [] = (λ i. more.base i ++ more.tail i) ∙ sym (append_assoc root.base root.tail (id ∷ [])) in
      let swapped = AreSegments-swap n (root_ids root) fresh are in
      let other = none-both id fresh (root_ids root) (is_among-back id (root_ids root) fresh none) (is_among-front id (root_ids root) fresh none) in
      let pushed = subst (AreSegments n) (append_assoc fresh (root_ids root) (id ∷ [])) (AreSegments-push id n (fresh ++ root_ids root) swapped lt other) in
      subst (λ (l : List ℕ). AreSegments n (l ++ fresh)) (sym all) (AreSegments-swap n fresh (root_ids root ++ id ∷ []) pushed)

  -- the fresh ids, and the tails from an index on
  pub taken-switched : (k : ℕ) → AreSegments n (fresh ++ drop k root.tail)
  taken-switched k =
      let tails = AreSegments-back n root.base (root.tail ++ fresh) (subst (AreSegments n) (append_assoc root.base root.tail fresh) are) in
      let parts = subst (λ (l : List ℕ). AreSegments n (l ++ fresh)) (sym (take-append-drop k root.tail)) tails in
      let kept = AreSegments-back n (take k root.tail) (drop k root.tail ++ fresh) (subst (AreSegments n) (append_assoc (take k root.tail) (drop k root.tail) fresh) parts) in
      AreSegments-swap n (drop k root.tail) fresh kept

pub index_of-below : (id : ℕ) (ids : List ℕ) → is_among id ids ≡ true → index_of id ids < length ids
index_of-below id [] is = absurd cc
index_of-below id (x ∷ ids) is = here (nat_eq id x) refl (λ (named : is_among id ids ≡ true). index_of-below id ids named)
  where
    here : (b : Bool) → nat_eq id x ≡ b → (is_among id ids ≡ true → index_of id ids < length ids) → index_of id (x ∷ ids) < length (x ∷ ids)
    here true same further = rw same (omega arith)
    here false differs further =
        let rest = further (ap (λ (b : Bool). b || is_among id ids) (sym differs) ∙ is) in
        rw differs (omega (arith, rest))

pub IsLawful-switched : (sectors : ℕ) (current next : Root) (fresh : List ℕ) (cut base_number : ℕ) → IsSwitchedRoot current fresh cut base_number next → is_among cut current.tail ≡ true → AreSegments (segment_count sectors) (root_ids current ++ fresh) → base_number < 2 ^ 63 → current.epoch + 1 < 2 ^ 63 → IsLawful sectors next
IsLawful-switched sectors current next fresh cut base_number is among are low small = record {
  epoch_from = omega (arith, is.epoch);
  epoch_to = omega (arith, is.epoch, small);
  base_number = omega (arith, is.number, low);
  tail = omega (arith, ap length is.tail, length-drop (index_of cut current.tail) current.tail, index_of-below cut current.tail among);
  ids = subst (AreSegments (segment_count sectors)) (λ i. sym is.base i ++ sym is.tail i) (taken-switched (segment_count sectors) current fresh are (index_of cut current.tail));
}

-- ---- how many are free

free-all : (n : ℕ) → free_below n [] ≡ n
unfolding free_below
free-all zero = refl
free-all (suc n) = omega (arith, free-all n)

or-last : (a b : Bool) → (a || b) ≡ (b || (a || false))
or-last true b = sym (or-true b)
or-last false true = refl
or-last false false = refl

-- an id may stand before the others or after them
among-first : (k id : ℕ) (ids : List ℕ) → is_among k (id ∷ ids) ≡ is_among k (ids ++ id ∷ [])
among-first k id ids = or-last (nat_eq k id) (is_among k ids) ∙ sym (list_any-append (nat_eq k) ids (id ∷ []))

-- of that many segments each is free or taken, and none twice
free_taken : (n : ℕ) (ids : List ℕ) → AreSegments n ids → free_below n ids + length ids ≡ n
free_taken n [] are = omega (arith, free-all n)
free_taken n (id ∷ ids) are =
    let first = AreSegments-first n id ids are in
    omega (arith, free-as (id ∷ ids) (ids ++ id ∷ []) (λ k. among-first k id ids) n, free-less ids id n first.0.below first.0.none, free_taken n ids first.1)

pub free_and_taken : (sectors : ℕ) (base tail fresh : List ℕ) → AreSegments (segment_count sectors) ((base ++ tail) ++ fresh)
    → free_below (segment_count sectors) ((base ++ tail) ++ fresh) + (length base + length tail + length fresh) ≡ segment_count sectors
free_and_taken sectors base tail fresh are = omega (arith, free_taken (segment_count sectors) ((base ++ tail) ++ fresh) are, length-append (base ++ tail) fresh, length-append base tail)
