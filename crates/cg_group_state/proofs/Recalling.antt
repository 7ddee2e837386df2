-- A member that was changed; if it is recalled, it is as it was before.
use Rattle.std.proofs.Common.{◌≡◌, ℕ, true, false, cond, List, [], ◌∷◌, find, Some, None, refl, sym, ap, ◌∙◌}
use Rattle.std.specs.Prelude.{if◌then◌else◌}
use Rattle.cg_group_state.specs.declared.member.Member.{Member}
use Rattle.cg_group_state.specs.declared.member.Waits.{Waits}
use Rattle.cg_group_state.specs.Waiting.{waits_with, recalled}
use Rattle.cg_group_state.specs.Membership.{is_same, has_id, find_member, heard, with_member}

-- the member with the id, after one of this id was changed
pub find-with_member : (id : List ℕ) (change : Member → Member) → ((m : Member) → (change m).id ≡ m.id) → (ms : List Member) (m : Member) → find_member id ms ≡ Some m → find_member id (with_member id change ms) ≡ Some (change m)
unfolding find_member with_member
find-with_member id change keeps [] m e = cc
find-with_member id change keeps (x ∷ xs) m e =
    (elim (has_id id x) as (λ b. has_id id x ≡ b → cond b (Some x) (find (has_id id) xs) ≡ Some m → find (has_id id) (if b then change x ∷ xs else x ∷ with_member id change xs) ≡ Some (change m)) [
      | true ↦ λ h f.
          let same : x ≡ m = cc in
          let own : has_id id (change x) ≡ true = own_id x h in
          ap (λ b. cond b (Some (change x)) (find (has_id id) xs)) own ∙ ap (λ y. Some (change y)) same
      | false ↦ λ h f. ap (λ b. cond b (Some x) (find (has_id id) (with_member id change xs))) h ∙ find-with_member id change keeps xs m f
    ]) refl e
  where
    own_id : (y : Member) → has_id id y ≡ true → has_id id (change y) ≡ true
    own_id y h = ap (λ i. has_id id (record y { id = i })) (keeps y) ∙ h

-- two changes of one member, of which the first keeps the ids, are one
pub with_member_twice : (id : List ℕ) (f g : Member → Member) → ((m : Member) → (f m).id ≡ m.id) → (ms : List Member) → with_member id g (with_member id f ms) ≡ with_member id (λ m. g (f m)) ms
unfolding with_member
with_member_twice id f g keeps [] = refl
with_member_twice id f g keeps (m ∷ ms) =
    (elim (has_id id m) as (λ b. has_id id m ≡ b → with_member id g (if b then f m ∷ ms else m ∷ with_member id f ms) ≡ (if b then g (f m) ∷ ms else m ∷ with_member id (λ x. g (f x)) ms)) [
      | true ↦ λ e. ap (λ b. if b then g (f m) ∷ ms else f m ∷ with_member id g ms) (ap (λ n. is_same n id) (keeps m) ∙ e)
      | false ↦ λ e. ap (λ b. if b then g m ∷ with_member id f ms else m ∷ with_member id g (with_member id f ms)) e ∙ ap (λ xs. m ∷ xs) (with_member_twice id f g keeps ms)
    ]) refl

-- a change that leaves the member as it is
pub with_member_same : (id : List ℕ) (f : Member → Member) (m : Member) (ms : List Member) → find_member id ms ≡ Some m → f m ≡ m → with_member id f ms ≡ ms
unfolding with_member find_member
with_member_same id f m [] e same = refl
with_member_same id f m (x ∷ xs) e same =
    (elim (has_id id x) as (λ b. cond b (Some x) (find (has_id id) xs) ≡ Some m → (if b then f x ∷ xs else x ∷ with_member id f xs) ≡ x ∷ xs) [
      | true ↦ λ e. let is : x ≡ m = cc in ap (λ y. y ∷ xs) (ap f is ∙ same ∙ sym is)
      | false ↦ λ e. ap (λ ys. x ∷ ys) (with_member_same id f m xs e same)
    ]) e

-- a member that was heard, and whose call was parked
pub recalled_after_waiting : (id : List ℕ) (now : ℕ) (waits : Waits) (m : Member) (ms : List Member) → find_member id ms ≡ Some m → with_member id (recalled m.heard m.waits) (with_member id (waits_with now waits) (with_member id (heard now) ms)) ≡ ms
recalled_after_waiting id now waits m ms found =
    ap (with_member id (recalled m.heard m.waits)) (with_member_twice id (heard now) (waits_with now waits) (λ x. refl) ms)
    ∙ with_member_twice id (λ x. waits_with now waits (heard now x)) (recalled m.heard m.waits) (λ x. refl) ms
    ∙ with_member_same id (λ x. recalled m.heard m.waits (waits_with now waits (heard now x))) m ms found refl

-- where no member has the id, no member is changed
pub with_member_none : (id : List ℕ) (f : Member → Member) (ms : List Member) → find_member id ms ≡ None → with_member id f ms ≡ ms
unfolding with_member find_member
with_member_none id f [] e = refl
with_member_none id f (m ∷ ms) e =
    elim (has_id id m) as (λ b. cond b (Some m) (find (has_id id) ms) ≡ None → (if b then f m ∷ ms else m ∷ with_member id f ms) ≡ m ∷ ms) [
      | true ↦ λ k. cc
      | false ↦ λ k. ap (λ xs. m ∷ xs) (with_member_none id f ms k)
    ] e

-- a change that keeps ids, and another one that takes it back for the member with the id
pub taken_back : (id : List ℕ) (f g : Member → Member) → ((m : Member) → (f m).id ≡ m.id) → (ms : List Member) (m : Member) → find_member id ms ≡ Some m → g (f m) ≡ m → with_member id g (with_member id f ms) ≡ ms
taken_back id f g keeps ms m found is = with_member_twice id f g keeps ms ∙ with_member_same id (λ x. g (f x)) m ms found is
