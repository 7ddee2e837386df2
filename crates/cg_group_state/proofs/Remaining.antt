-- The members that stay in a group.
use Rattle.std.proofs.Common.{◌≡◌, ℕ, ◌+◌, Bool, true, false, not, ◌&&◌, ◌||◌, List, [], ◌∷◌, cond, filter, find, Some, None, map, fold, refl, ap, ◌∙◌, arith}
use Rattle.std.specs.Prelude.{count_by}
use Rattle.std.specs.List.{list_any}
use Rattle.cg_group_state.specs.declared.member.Member.{Member}
use Rattle.cg_group_state.specs.declared.who_stays.Staying.{Staying}
use Rattle.cg_group_state.specs.declared.who_stays.Staying.TheVariants.{All}
use Rattle.cg_group_state.specs.Membership.{is_empty}
use Rattle.cg_group_state.specs.Staying.{remaining, stays}
use Rattle.cg_group_state.specs.Vote.{candidate_protocols, is_common}

pub all_stay : (ms : List Member) → remaining All ms ≡ ms
all_stay [] = refl
all_stay (m ∷ ms) = ap (λ xs. m ∷ xs) (all_stay ms)

-- none stays if no member does
pub none_remain : (who : Staying) (ms : List Member) → is_empty (remaining who ms) ≡ not (list_any (stays who) ms)
none_remain who [] = refl
none_remain who (m ∷ ms) =
    elim (stays who m) as (λ b. is_empty (cond b (m ∷ remaining who ms) (remaining who ms)) ≡ not (b || list_any (stays who) ms)) [
      | true ↦ refl
      | false ↦ none_remain who ms
    ]

-- the members that stay and pass are those that pass among those that stay
counted_from : (who : Staying) (q : Member → Bool) (ms : List Member) (a : ℕ) → fold (λ a m. a + cond (stays who m && q m) 1 0) a ms ≡ fold (λ a m. a + cond (q m) 1 0) a (remaining who ms)
counted_from who q [] a = refl
counted_from who q (m ∷ ms) a =
    elim (stays who m) as (λ b. fold (λ a x. a + cond (stays who x && q x) 1 0) (a + cond (b && q m) 1 0) ms ≡ fold (λ a x. a + cond (q x) 1 0) a (cond b (m ∷ remaining who ms) (remaining who ms))) [
      | true ↦ counted_from who q ms (a + cond (q m) 1 0)
      | false ↦
          let same : a + 0 ≡ a = omega arith in
          ap (λ n. fold (λ a x. a + cond (stays who x && q x) 1 0) n ms) same ∙ counted_from who q ms a
    ]

pub count_remaining : (who : Staying) (q : Member → Bool) (ms : List Member) → count_by (λ m. stays who m && q m) ms ≡ count_by q (remaining who ms)
count_remaining who q ms = counted_from who q ms 0

-- the candidates are those of the first member that stays
pub candidates_none : (who : Staying) (ms : List Member) → find (stays who) ms ≡ None → candidate_protocols (remaining who ms) ≡ []
unfolding candidate_protocols
candidates_none who [] h = refl
candidates_none who (m ∷ ms) h =
    (elim (stays who m) as (λ b. cond b (Some m) (find (stays who) ms) ≡ None → candidate_protocols (cond b (m ∷ remaining who ms) (remaining who ms)) ≡ []) [
      | true ↦ λ h. cc
      | false ↦ λ h. candidates_none who ms h
    ]) h

pub candidates_some : (who : Staying) (ms : List Member) (first : Member) → find (stays who) ms ≡ Some first → candidate_protocols (remaining who ms) ≡ filter (is_common (remaining who ms)) (map (λ p. p.name) first.protocols)
unfolding candidate_protocols
candidates_some who [] first h = cc
candidates_some who (m ∷ ms) first h =
    (elim (stays who m) as (λ b. cond b (Some m) (find (stays who) ms) ≡ Some first → candidate_protocols (cond b (m ∷ remaining who ms) (remaining who ms)) ≡ filter (is_common (cond b (m ∷ remaining who ms) (remaining who ms))) (map (λ p. p.name) first.protocols)) [
      | true ↦ λ h. let same : m ≡ first = cc in ap (λ (x : Member). filter (is_common (m ∷ remaining who ms)) (map (λ p. p.name) x.protocols)) same
      | false ↦ λ h. candidates_some who ms first h
    ]) h
