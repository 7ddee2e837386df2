-- A JOIN of a member that is parked as a rebalance begins: it may be parked before the rebalance begins.
use Rattle.std.proofs.Common.{◌≡◌, ℕ, Bool, true, false, not, List, [], ◌∷◌, ◌++◌, map, find, cond, Some, refl, sym, ap, ◌∙◌}
use Rattle.std.proofs.lemmas.List.{append-nil}
use Rattle.std.specs.Prelude.{if◌then◌else◌, is_some}
use Rattle.cg_names.specs.declared.code.Code.TheVariants.{RebalanceInProgress}
use Rattle.cg_group_state.specs.declared.calls.Calls.TheVariants.{Any, Joins, Syncs}
use Rattle.cg_group_state.specs.declared.effects.Effects.{Effects}
use Rattle.cg_group_state.specs.declared.group.Group.{Group}
use Rattle.cg_group_state.specs.declared.group.Phase.TheVariants.{Preparing}
use Rattle.cg_group_state.specs.declared.member.Member.{Member}
use Rattle.cg_group_state.specs.declared.member.Waits.TheVariants.{Nothing, Join, Sync}
use Rattle.cg_group_state.specs.declared.reply.Reply.{Reply}
use Rattle.cg_request.specs.declared.ticket.Ticket.{Ticket}
use Rattle.cg_group_rules.specs.Join.{displaced, in_join_phase, waiting}
use Rattle.cg_group_state.specs.Waiting.{waits_with, after_answer, after_answers, answer, answered, answers, called, is_waiting, refusing}
use Rattle.cg_group_state.specs.Membership.{find_member, has_id, is_preparing, with_member}
use Rattle.cg_group_rules.specs.Rebalance.{begun, prepare_rebalance, turned}
use Rattle.cg_group_rules.specs.ParkedJoin.{refused_call}

-- an answered SYNC leaves the id of its member
same_id : (id : List ℕ) (now : ℕ) (m : Member) → has_id id (after_answer Syncs now m) ≡ has_id id m
same_id id now m = elim (is_waiting Syncs m) as (λ b. has_id id (if b then answered now m else m) ≡ has_id id m) [ true ↦ refl | false ↦ refl ]

-- of the calls of a member, a JOIN is still parked once the SYNCs are answered
join_stays : (now : ℕ) (m : Member) → answer Joins (refusing RebalanceInProgress) m ≡ answer Any (refusing RebalanceInProgress) (after_answer Syncs now m)
join_stays now m =
    elim m.waits as (λ w. answer Joins (refusing RebalanceInProgress) (record m { waits = w }) ≡ answer Any (refusing RebalanceInProgress) (if is_some (called Syncs w) then answered now (record m { waits = w }) else record m { waits = w })) [
      | Nothing ↦ refl
      | Join t ↦ refl
      | Sync t ↦ refl
    ]

pub joins_displaced : (now : ℕ) (id : List ℕ) (ms : List Member) → refused_call Joins (find_member id ms) ≡ displaced (find_member id (after_answers Syncs now ms))
unfolding find_member after_answers
joins_displaced now id [] = refl
joins_displaced now id (m ∷ ms) =
    (elim (has_id id m) as (λ b. refused_call Joins (cond b (Some m) (find (has_id id) ms)) ≡ displaced (cond b (Some (after_answer Syncs now m)) (find (has_id id) (map (after_answer Syncs now) ms)))) [
      | true ↦ join_stays now m
      | false ↦ joins_displaced now id ms
    ])
    ∙ ap (λ b. displaced (cond b (Some (after_answer Syncs now m)) (find (has_id id) (map (after_answer Syncs now) ms)))) (sym (same_id id now m))

-- a JOIN that is parked and an answered SYNC, in either order
commutes_one : (now : ℕ) (ticket : Ticket) (m : Member) → after_answer Syncs now (waits_with now (Join ticket) m) ≡ waits_with now (Join ticket) (after_answer Syncs now m)
commutes_one now ticket m =
    elim m.waits as (λ w. after_answer Syncs now (waits_with now (Join ticket) (record m { waits = w })) ≡ waits_with now (Join ticket) (if is_some (called Syncs w) then answered now (record m { waits = w }) else record m { waits = w })) [
      | Nothing ↦ refl
      | Join t ↦ refl
      | Sync t ↦ refl
    ]

commutes : (now : ℕ) (ticket : Ticket) (id : List ℕ) (ms : List Member) → after_answers Syncs now (with_member id (waits_with now (Join ticket)) ms) ≡ with_member id (waits_with now (Join ticket)) (after_answers Syncs now ms)
unfolding after_answers with_member
commutes now ticket id [] = refl
commutes now ticket id (m ∷ ms) =
    (elim (has_id id m) as (λ b. map (after_answer Syncs now) (if b then waits_with now (Join ticket) m ∷ ms else m ∷ with_member id (waits_with now (Join ticket)) ms)
    ≡ (if b then waits_with now (Join ticket) (after_answer Syncs now m) ∷ map (after_answer Syncs now) ms else after_answer Syncs now m ∷ with_member id (waits_with now (Join ticket)) (map (after_answer Syncs now) ms))) [
      | true ↦ ap (λ x. x ∷ map (after_answer Syncs now) ms) (commutes_one now ticket m)
      | false ↦ ap (λ xs. after_answer Syncs now m ∷ xs) (commutes now ticket id ms)
    ])
    ∙ ap (λ b. if b then waits_with now (Join ticket) (after_answer Syncs now m) ∷ map (after_answer Syncs now) ms else after_answer Syncs now m ∷ with_member id (waits_with now (Join ticket)) (map (after_answer Syncs now) ms)) (sym (same_id id now m))

module _ (now : ℕ) (id : List ℕ) (ticket : Ticket) (g : Group) (e : Effects) (replies : List (Ticket × Reply)) where
  abbrev parked : Group
  parked = record g { members = with_member id (waits_with now (Join ticket)) g.members }

  by_phase : (b : Bool) → replies ≡ (e.replies ++ (if not b then answers Syncs (refusing RebalanceInProgress) g.members else [])) ++ displaced (find_member id (if not b then after_answers Syncs now g.members else g.members))
      → turned (begun (not b) now parked) (record e { replies = replies }) ≡ waiting now id (Join ticket) (if b then turned g e else prepare_rebalance now (turned g e))
  unfolding waiting prepare_rebalance
  by_phase true is = ap (λ rs. turned parked (record e { replies = rs })) (is ∙ ap (λ rs. rs ++ displaced (find_member id g.members)) (append-nil e.replies))
  by_phase false is =
      ap (λ rs. turned (begun true now parked) (record e { replies = rs })) is
      ∙ ap (λ ms. turned (record g { phase = Preparing; started = now; members = ms }) (record e { replies = (e.replies ++ answers Syncs (refusing RebalanceInProgress) g.members) ++ displaced (find_member id (after_answers Syncs now g.members)) })) (commutes now ticket id g.members)

  pub parked_first : replies ≡ (e.replies ++ (if not (is_preparing g.phase) then answers Syncs (refusing RebalanceInProgress) g.members else [])) ++ displaced (find_member id (if not (is_preparing g.phase) then after_answers Syncs now g.members else g.members))
      → turned (begun (not (is_preparing g.phase)) now parked) (record e { replies = replies }) ≡ waiting now id (Join ticket) (in_join_phase now (turned g e))
  parked_first is = by_phase (is_preparing g.phase) is
