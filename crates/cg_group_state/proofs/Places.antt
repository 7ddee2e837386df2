-- Changes to the member at a position that a search found.
use Rattle.std.proofs.Common.{◌≡◌, ℕ, find, suc, ◌+◌, ◌<◌, ◌≤◌, Bool, true, false, cond, not, List, [], ◌∷◌, length, get_or, nat_lt, subst, Some, None, refl, sym, ap, ◌∙◌, arith}
use Rattle.std.proofs.Math.ListN.{set}
use Rattle.std.proofs.lemmas.Bool.Decides.{nat_tests}
use Rattle.std.specs.Prelude.{if◌then◌else◌}
use Rattle.std.specs.List.{position, position_or_len}
use Rattle.cg_group_state.specs.declared.member.Member.{Member}
use Rattle.cg_group_state.specs.Membership.{has_id, with_member}

-- `with_member` changes the member at the first position with the id
with_member_at : (id : List ℕ) (f : Member → Member) (ms : List Member) (d : Member) → position_or_len (has_id id) ms < length ms → with_member id f ms ≡ set ms (position_or_len (has_id id) ms) (f (get_or ms (position_or_len (has_id id) ms) d))
unfolding with_member
with_member_at id f [] d lt = refl
with_member_at id f (m ∷ ms) d lt =
    elim (has_id id m) as (λ b. cond (not b) (1 + position_or_len (has_id id) ms) 0 < length (m ∷ ms) → (if b then f m ∷ ms else m ∷ with_member id f ms) ≡ set (m ∷ ms) (cond (not b) (1 + position_or_len (has_id id) ms) 0) (f (get_or (m ∷ ms) (cond (not b) (1 + position_or_len (has_id id) ms) 0) d))) [
      | true ↦ λ lt. refl
      | false ↦ λ lt. let e : 1 + position_or_len (has_id id) ms ≡ suc (position_or_len (has_id id) ms) = omega arith in rw e (ap (λ r. m ∷ r) (with_member_at id f ms d (omega arith)))
    ] lt

with_member_past : (id : List ℕ) (f : Member → Member) (ms : List Member) → length ms ≤ position_or_len (has_id id) ms → with_member id f ms ≡ ms
unfolding with_member
with_member_past id f [] le = refl
with_member_past id f (m ∷ ms) le =
    elim (has_id id m) as (λ b. length (m ∷ ms) ≤ cond (not b) (1 + position_or_len (has_id id) ms) 0 → (if b then f m ∷ ms else m ∷ with_member id f ms) ≡ m ∷ ms) [
      | true ↦ λ le. absurd (omega arith)
      | false ↦ λ le. ap (λ r. m ∷ r) (with_member_past id f ms (omega arith))
    ] le

pub place_is : (n k i : ℕ) → cond (nat_lt n k) (Some n) None ≡ Some i → (n ≡ i) × (n < k)
place_is n k i e = (grind (arith, nat_tests), grind (arith, nat_tests))

pub no_place_is : (n k : ℕ) → cond (nat_lt n k) (Some n) None ≡ None → k ≤ n
no_place_is n k e = grind (arith, nat_tests)

-- the same, for the position that a search returns
pub with_member_place : (id : List ℕ) (f : Member → Member) (ms : List Member) (i : ℕ) (d : Member) → position (has_id id) ms ≡ Some i → with_member id f ms ≡ set ms i (f (get_or ms i d))
with_member_place id f ms i d e =
    let at = place_is (position_or_len (has_id id) ms) (length ms) i e in
    let P : ℕ → Type 0 = λ n. with_member id f ms ≡ set ms n (f (get_or ms n d)) in
    subst P at.0 (with_member_at id f ms d at.1)

pub with_member_no_place : (id : List ℕ) (f : Member → Member) (ms : List Member) → position (has_id id) ms ≡ None → with_member id f ms ≡ ms
with_member_no_place id f ms e = with_member_past id f ms (no_place_is (position_or_len (has_id id) ms) (length ms) e)

-- the goal that remains after the member at the position is changed
pub with_member_from_place : (id : List ℕ) (f : Member → Member) (ms : List Member) (i : ℕ) (m m' : Member) → position (has_id id) ms ≡ Some i → m ≡ get_or ms i m → m' ≡ f m → set ms i m' ≡ with_member id f ms
with_member_from_place id f ms i m m' at was is =
    sym (with_member_place id f ms i m at ∙ ap (λ x. set ms i (f x)) (sym was) ∙ ap (λ x. set ms i x) (sym is))

pub ruleset placing = (with_member_no_place)

find_at : {X : Type 0} (p : X → Bool) (xs : List X) (d : X) → position_or_len p xs < length xs → find p xs ≡ Some (get_or xs (position_or_len p xs) d)
find_at p [] d lt = absurd (omega arith)
find_at {X} p (x ∷ xs) d lt =
    elim (p x) as (λ b. cond (not b) (1 + position_or_len p xs) 0 < length (x ∷ xs) → cond b (Some x) (find p xs) ≡ Some (get_or (x ∷ xs) (cond (not b) (1 + position_or_len p xs) 0) d)) [
      | true ↦ λ lt. refl
      | false ↦ λ lt. let e : 1 + position_or_len p xs ≡ suc (position_or_len p xs) = omega arith in rw e (find_at p xs d (omega arith))
    ] lt

find_past : {X : Type 0} (p : X → Bool) (xs : List X) → length xs ≤ position_or_len p xs → find p xs ≡ None
find_past p [] le = refl
find_past {X} p (x ∷ xs) le =
    elim (p x) as (λ b. length (x ∷ xs) ≤ cond (not b) (1 + position_or_len p xs) 0 → cond b (Some x) (find p xs) ≡ None) [
      | true ↦ λ le. absurd (omega arith)
      | false ↦ λ le. find_past p xs (omega arith)
    ] le

-- a search by `find` returns the element at the position that `position` returns
pub find_from_position : {X : Type 0} (p : X → Bool) (xs : List X) (i : ℕ) (d : X) → position p xs ≡ Some i → find p xs ≡ Some (get_or xs i d)
find_from_position {X} p xs i d e =
    let at = place_is (position_or_len p xs) (length xs) i e in
    let P : ℕ → Type 0 = λ n. find p xs ≡ Some (get_or xs n d) in
    subst P at.0 (find_at p xs d at.1)

-- where `position` returns nothing, `find` returns nothing
pub find_from_no_position : {X : Type 0} (p : X → Bool) (xs : List X) → position p xs ≡ None → find p xs ≡ None
find_from_no_position p xs e = find_past p xs (no_place_is (position_or_len p xs) (length xs) e)
