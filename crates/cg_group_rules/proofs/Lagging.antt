-- A JOIN that is parked: the rebalance goes on, since another member has not joined yet.
use Rattle.std.proofs.Common.{◌≡◌, ℕ, Bool, true, false, not, ◌&&◌, ◌||◌, List, [], ◌∷◌, refl, ap, ◌∙◌}
use Rattle.std.specs.Prelude.{if◌then◌else◌}
use Rattle.std.specs.List.{list_all, list_any}
use Rattle.std.proofs.lemmas.Bool.{false≢true, or_left, or_right}
use Rattle.cg_group_state.specs.declared.calls.Calls.TheVariants.{Joins}
use Rattle.cg_group_state.specs.declared.group.Group.{Group}
use Rattle.cg_group_state.specs.declared.group.Phase.{Phase}
use Rattle.cg_group_state.specs.declared.group.Phase.TheVariants.{Empty, Preparing, Completing, Stable}
use Rattle.cg_group_state.specs.declared.member.Member.{Member}
use Rattle.cg_group_state.specs.declared.member.Waits.TheVariants.{Join}
use Rattle.cg_group_state.specs.declared.turn.Turn.{Turn}
use Rattle.cg_request.specs.declared.request_fields.JoinRequest.{JoinRequest}
use Rattle.cg_request.specs.declared.ticket.Ticket.{Ticket}
use Rattle.cg_group_rules.specs.Join.{is_current, update_member_and_rebalance, join_current, join_known, rejoined, updating, waiting}
use Rattle.cg_group_state.specs.JoinTerms.{updated}
use Rattle.cg_group_state.specs.Waiting.{waits_with, is_waiting}
use Rattle.cg_group_state.specs.Membership.{has_id, is_preparing, with_member}
use Rattle.cg_group_rules.specs.Rebalance.{complete_join, is_ready, prepare_rebalance, try_complete_join, turn_of}

-- another member than this one has not joined yet
abbrev pub lags : List ℕ → Member → Bool
lags id m = not (has_id id m) && not (is_waiting Joins m)

lags_by : (a b c : Bool) → (not a && not b) || c ≡ true → a ≡ true → c ≡ true
lags_by true b c h e = h
lags_by false b c h e = absurd (false≢true e)

-- a change of one member leaves the others behind
lags-changed : (id : List ℕ) (change : Member → Member) (ms : List Member) → list_any (lags id) ms ≡ true → list_any (lags id) (with_member id change ms) ≡ true
unfolding with_member
lags-changed id change [] h = h
lags-changed id change (m ∷ ms) h =
    (elim (has_id id m) as (λ b. has_id id m ≡ b → list_any (lags id) (if b then change m ∷ ms else m ∷ with_member id change ms) ≡ true) [
      | true ↦ λ e. or_right (lags id (change m)) (list_any (lags id) ms) (lags_by (has_id id m) (is_waiting Joins m) (list_any (lags id) ms) h e)
      | false ↦ λ e.
          (elim (lags id m) as (λ b. lags id m ≡ b → (b || list_any (lags id) ms) ≡ true → (lags id m || list_any (lags id) (with_member id change ms)) ≡ true) [
            | true ↦ λ l _. or_left (lags id m) (list_any (lags id) (with_member id change ms)) l
            | false ↦ λ l k. or_right (lags id m) (list_any (lags id) (with_member id change ms)) (lags-changed id change ms k)
          ]) refl h
    ]) refl

not_all_by : (a b : Bool) (c d : Bool) → (not a && not b) || c ≡ true → (c ≡ true → d ≡ false) → b && d ≡ false
not_all_by a false c d h k = refl
not_all_by true true c d h k = k h
not_all_by false true c d h k = k h

-- so not every member has joined
pub lags-not_all : (id : List ℕ) (ms : List Member) → list_any (lags id) ms ≡ true → list_all (is_waiting Joins) ms ≡ false
lags-not_all id [] h = absurd (false≢true h)
lags-not_all id (m ∷ ms) h = not_all_by (has_id id m) (is_waiting Joins m) (list_any (lags id) ms) (list_all (is_waiting Joins) ms) h (lags-not_all id ms)

pub preparing_is : (p : Phase) → is_preparing p ≡ true → p ≡ Preparing
preparing_is Preparing e = refl
preparing_is Empty e = absurd (false≢true e)
preparing_is Completing e = absurd (false≢true e)
preparing_is Stable e = absurd (false≢true e)

pub join_parked : (now : ℕ) (r : JoinRequest) (id : List ℕ) (ticket : Ticket) (m : Member) (g : Group) → g.phase ≡ Preparing → list_any (lags id) g.members ≡ true
    → join_known now r id ticket m g ≡ waiting now id (Join ticket) (turn_of (updating r id g))
unfolding join_known update_member_and_rebalance rejoined try_complete_join is_ready waiting updating is_current
join_parked now r id ticket m g e h =
    let changed : List Member = with_member id (waits_with now (Join ticket)) (with_member id (updated r) g.members) in
    let t : Turn = waiting now id (Join ticket) (turn_of (updating r id g)) in
    let behind : list_all (is_waiting Joins) changed ≡ false =
    lags-not_all id changed (lags-changed id (waits_with now (Join ticket)) (with_member id (updated r) g.members) (lags-changed id (updated r) g.members h)) in
    ap (λ p. if is_current r m g p then join_current now id ticket m g else update_member_and_rebalance now r id ticket g) e
    ∙ ap (λ p. try_complete_join now (waiting now id (Join ticket) (if is_preparing p then turn_of (updating r id g) else prepare_rebalance now (turn_of (updating r id g))))) e
    ∙ ap (λ b. if is_preparing g.phase && b then complete_join now t else t) behind
    ∙ ap (λ p. if is_preparing p && false then complete_join now t else t) e

-- the JOIN of a known member changes nothing, or joins a rebalance
pub known_current : (now : ℕ) (r : JoinRequest) (id : List ℕ) (ticket : Ticket) (m : Member) (g : Group) → is_current r m g g.phase ≡ true → join_known now r id ticket m g ≡ join_current now id ticket m g
unfolding join_known
known_current now r id ticket m g e = ap (λ b. if b then join_current now id ticket m g else update_member_and_rebalance now r id ticket g) e

pub known_again : (now : ℕ) (r : JoinRequest) (id : List ℕ) (ticket : Ticket) (m : Member) (g : Group) → is_current r m g g.phase ≡ false → join_known now r id ticket m g ≡ update_member_and_rebalance now r id ticket g
unfolding join_known
known_again now r id ticket m g e = ap (λ b. if b then join_current now id ticket m g else update_member_and_rebalance now r id ticket g) e
