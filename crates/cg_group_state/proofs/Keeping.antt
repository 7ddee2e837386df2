-- The fields of a member that no stage of an event changes: all but `heard` and `waits`.
use Rattle.std.proofs.Common.{◌≡◌, ℕ, true, false, List, [], ◌∷◌, map, refl, ap, ◌∙◌}
use Rattle.std.specs.Prelude.{if◌then◌else◌}
use Rattle.cg_group_state.specs.declared.calls.Calls.{Calls}
use Rattle.cg_group_state.specs.declared.group.Group.{Group}
use Rattle.cg_group_state.specs.declared.member.Member.{Member}
use Rattle.cg_group_state.specs.declared.member.Waits.{Waits}
use Rattle.cg_group_state.specs.declared.member.Waits.TheVariants.{Nothing}
use Rattle.cg_group_state.specs.Membership.{has_id, with_member, hearing, heard}
use Rattle.cg_group_state.specs.Waiting.{after_answer, after_answers, is_waiting, answered}

-- a function that a change preserves for each member is preserved for the list
pub map-same : {A : Type 0} (f : Member → A) (change : Member → Member) → ((m : Member) → f (change m) ≡ f m) → (ms : List Member) → map f (map change ms) ≡ map f ms
map-same f change keeps [] = refl
map-same f change keeps (m ∷ ms) = ap (λ x. x ∷ map f (map change ms)) (keeps m) ∙ ap (λ xs. f m ∷ xs) (map-same f change keeps ms)

pub map-with_member : {A : Type 0} (f : Member → A) (id : List ℕ) (change : Member → Member) → ((m : Member) → f (change m) ≡ f m) → (ms : List Member) → map f (with_member id change ms) ≡ map f ms
unfolding with_member
map-with_member f id change keeps [] = refl
map-with_member f id change keeps (m ∷ ms) =
    elim (has_id id m) as (λ b. map f (if b then change m ∷ ms else m ∷ with_member id change ms) ≡ f m ∷ map f ms) [
      | true ↦ ap (λ x. x ∷ map f ms) (keeps m)
      | false ↦ ap (λ xs. f m ∷ xs) (map-with_member f id change keeps ms)
    ]

-- the function reads neither the moment last heard nor the parked call
abbrev pub IsLasting : {A : Type 0} → (Member → A) → Type 0
IsLasting f = (m : Member) (h : ℕ) (w : Waits) → f (record m { heard = h; waits = w }) ≡ f m

module _ {A : Type 0} (f : Member → A) (lasts : IsLasting f) where
  keep-after_answer : (which : Calls) (now : ℕ) (m : Member) → f (after_answer which now m) ≡ f m
  keep-after_answer which now m = elim (is_waiting which m) as (λ b. f (if b then answered now m else m) ≡ f m) [ true ↦ lasts m now Nothing | false ↦ refl ]

  pub keep-after_answers : (which : Calls) (now : ℕ) (ms : List Member) → map f (after_answers which now ms) ≡ map f ms
  unfolding after_answers
  keep-after_answers which now ms = map-same f (after_answer which now) (keep-after_answer which now) ms

  pub keep-hearing : (now : ℕ) (id : List ℕ) (g : Group) → map f (hearing now id g).members ≡ map f g.members
  unfolding hearing
  keep-hearing now id g = map-with_member f id (heard now) (λ m. lasts m now m.waits) g.members
