-- A new member that is removed again: the group is as it was.
use Rattle.std.proofs.Common.{◌≡◌, ℕ, true, false, not, List, [], ◌∷◌, ◌++◌, filter, find, cond, is_some, Option, Some, None, refl, sym, ap, ◌∙◌}
use Rattle.std.proofs.lemmas.Bool.{false≢true}
use Rattle.std.proofs.lemmas.Cmp.{nat_list_eq_equiv}
use Rattle.cg_group_state.specs.declared.group.Group.{Group}
use Rattle.cg_group_state.specs.declared.member.Member.{Member}
use Rattle.cg_group_state.specs.Membership.{find_member, has_id, is_same}
use Rattle.cg_group_rules.specs.declared.member_join.Header.{Header}
use Rattle.cg_group_rules.specs.ParkedJoin.{with_header}

own_id : (id : List ℕ) (m : Member) → m.id ≡ id → has_id id m ≡ true
own_id id m e = ap (λ i. is_same i id) e ∙ nat_list_eq_equiv.refl id

pub pushed_out : (id : List ℕ) (ms : List Member) (m : Member) → m.id ≡ id → is_some (find_member id ms) ≡ false → filter (λ o. not (has_id id o)) (ms ++ m ∷ []) ≡ ms
unfolding find_member
pushed_out id [] m own none = ap (λ b. cond (not b) (m ∷ []) []) (own_id id m own)
pushed_out id (x ∷ xs) m own none =
    (elim (has_id id x) as (λ b. is_some (cond b (Some x) (find (has_id id) xs)) ≡ false → cond (not b) (x ∷ filter (λ o. not (has_id id o)) (xs ++ m ∷ [])) (filter (λ o. not (has_id id o)) (xs ++ m ∷ [])) ≡ x ∷ xs) [
      | true ↦ λ k. absurd (false≢true (sym k))
      | false ↦ λ k. ap (λ ys. x ∷ ys) (pushed_out id xs m own k)
    ]) none

header_alone : (h : Option Header) (g : Group) (ms : List Member) → with_header h (record g { members = ms }) ≡ record (with_header h g) { members = ms }
header_alone None g ms = refl
header_alone (Some h) g ms = refl

pub expelled : (h : Option Header) (id : List ℕ) (m : Member) (g after : Group) → after.members ≡ g.members ++ m ∷ [] → with_header h after ≡ record g { members = after.members } → m.id ≡ id → is_some (find_member id g.members) ≡ false
    → with_header h (record after { members = filter (λ o. not (has_id id o)) after.members }) ≡ g
expelled h id m g after pushed before own none =
    header_alone h after (filter (λ o. not (has_id id o)) after.members)
    ∙ ap (λ (x : Group). record x { members = filter (λ o. not (has_id id o)) after.members }) before
    ∙ ap (λ ms. record g { members = ms }) (ap (filter (λ o. not (has_id id o))) pushed ∙ pushed_out id g.members m own none)
