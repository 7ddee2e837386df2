-- A new member whose JOIN is parked.
use Rattle.std.proofs.Common.{◌≡◌, ℕ, Bool, true, List, [], ◌∷◌, inl, None, sym, ap, ◌∙◌, subst}
use Rattle.std.specs.List.{list_any}
use Rattle.std.proofs.lemmas.Bool.{or_left, or_right}
use Rattle.std.proofs.lemmas.List.Folds.{list_any-append}
use Rattle.cg_group_state.specs.declared.calls.Calls.TheVariants.{OfSession}
use Rattle.cg_group_state.specs.declared.effects.Effects.{Effects}
use Rattle.cg_group_state.specs.declared.group.Group.{Group}
use Rattle.cg_group_state.specs.declared.member.Member.{Member}
use Rattle.cg_group_state.specs.declared.turn.Turn.{Turn}
use Rattle.cg_group_state.specs.declared.member.Waits.TheVariants.{Join}
use Rattle.cg_request.specs.declared.request_fields.JoinRequest.{JoinRequest}
use Rattle.cg_request.specs.declared.ticket.Ticket.{Ticket}
use Rattle.cg_group.specs.InPlace.{Parks}
use Rattle.cg_group_table.specs.GroupChanges.{KeepsId, StepsTo}
use Rattle.cg_group_table.specs.SessionIndex.{is_known}
use Rattle.cg_group_table.proofs.Framed.{each-append}
use Rattle.cg_group_table.proofs.Mapped.{keeps_step}
use Rattle.cg_group_rules.specs.Join.{new_member}
use Rattle.cg_group_rules.specs.Rebalance.{turn_of, turned}
use Rattle.cg_group_state.specs.Waiting.{is_waiting}
use Rattle.cg_group_rules.specs.ParkedJoin.{entered}
use Rattle.cg_group.proofs.Displacing.{asked_join}

-- the call of the new member is parked, and those of the others stay
pub parks_entered : (now : ℕ) (r : JoinRequest) (id : List ℕ) (ticket : Ticket) (g : Group) → Parks ticket None g (entered now r id ticket g)
unfolding new_member
parks_entered now r id ticket g =
    let m : Member = new_member now r id [] (Join ticket) in
    let of_session : ℕ → Member → Bool = λ q x. is_waiting (OfSession q) x in
    record {
      asked = list_any-append (of_session ticket.session) g.members (m ∷ []) ∙ or_right (list_any (of_session ticket.session) g.members) (list_any (of_session ticket.session) (m ∷ [])) (or_left (of_session ticket.session m) (list_any (of_session ticket.session) []) (asked_join ticket));
      stays = λ q h. inl (list_any-append (of_session q) g.members (m ∷ []) ∙ or_left (list_any (of_session q) g.members) (list_any (of_session q) (m ∷ [])) h);
      known = λ sessions own h. each-append (λ (x : Member). is_known sessions x.waits ≡ true) g.members (m ∷ []) h (own, tt);
    }

-- such a step keeps the id of its group, and parks the call
pub keeps_entered : {E : Type 0} (now : ℕ) (r : JoinRequest) (id : List ℕ) (ticket : Ticket) → KeepsId (λ g. StepsTo {E = E} (λ t. t ≡ turn_of (entered now r id ticket g)) g)
keeps_entered now r id ticket = keeps_step (λ g t. t ≡ turn_of (entered now r id ticket g)) (λ g t is. ap (λ (u : Turn). u.group.id) is)

pub parks_newcomer : (now : ℕ) (r : JoinRequest) (id : List ℕ) (ticket : Ticket) (g after : Group) (e : Effects) → turned after e ≡ turn_of (entered now r id ticket g) → Parks ticket None g after
parks_newcomer now r id ticket g after e is =
    let P : Group → Type 0 = λ k. Parks ticket None g k in
    subst P (sym (ap (λ (t : Turn). t.group) is)) (parks_entered now r id ticket g)
