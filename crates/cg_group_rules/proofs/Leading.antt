-- A member of the group leads it, by the ids of the members alone.
use Rattle.std.proofs.Common.{◌≡◌, ℕ, Bool, true, false, ◌||◌, List, [], ◌∷◌, find, cond, refl, sym, ap, ◌∙◌, Some}
use Rattle.std.specs.List.{list_any}
use Rattle.std.proofs.lemmas.Bool.{or_left, or_right}
use Rattle.cg_group_state.specs.declared.member.Member.{Member}
use Rattle.cg_group_state.specs.Members.{ids}
use Rattle.cg_group_state.specs.Membership.{find_member, has_id}

-- whether one of the members leads depends on their ids alone
any_id : (p : List ℕ → Bool) (ms : List Member) → list_any (λ m. p m.id) ms ≡ list_any p (ids ms)
any_id p [] = refl
any_id p (m ∷ ms) = ap (λ b. p m.id || b) (any_id p ms)

pub any_same_ids : (p : List ℕ → Bool) (xs ys : List Member) → ids xs ≡ ids ys → list_any (λ m. p m.id) xs ≡ list_any (λ m. p m.id) ys
any_same_ids p xs ys e = any_id p xs ∙ ap (list_any p) e ∙ sym (any_id p ys)

pub any_found : (p : Member → Bool) (id : List ℕ) (ms : List Member) (m : Member) → find_member id ms ≡ Some m → p m ≡ true → list_any p ms ≡ true
unfolding find_member
any_found p id [] m e h = cc
any_found p id (x ∷ xs) m e h =
    elim (has_id id x) as (λ b. cond b (Some x) (find (has_id id) xs) ≡ Some m → (p x || list_any p xs) ≡ true) [
      | true ↦ λ k. or_left (p x) (list_any p xs) (ap p (some_is k) ∙ h)
      | false ↦ λ k. or_right (p x) (list_any p xs) (any_found p id xs m k h)
    ] e
  where
    some_is : {y : Member} → Some y ≡ Some m → y ≡ m
    some_is k = cc
