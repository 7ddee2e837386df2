-- The JOIN of a new member that is parked: the rebalance goes on, since another member has not joined yet.
use Rattle.std.proofs.Common.{◌≡◌, ℕ, true, false, ◌&&◌, List, [], ◌∷◌, Option, Some, None, Ok, is_some, refl, sym, ap, ◌∙◌}
use Rattle.std.specs.Prelude.{if◌then◌else◌}
use Rattle.std.specs.List.{list_all}
use Rattle.std.proofs.lemmas.Bool.{false≢true}
use Rattle.std.proofs.lemmas.List.Folds.{list_all-append}
use Rattle.cg_group_state.specs.declared.calls.Calls.TheVariants.{Joins}
use Rattle.cg_group_state.specs.declared.group.Group.{Group}
use Rattle.cg_group_state.specs.declared.member.Member.{Member}
use Rattle.cg_group_state.specs.declared.member.Waits.TheVariants.{Join}
use Rattle.cg_request.specs.declared.request_fields.JoinRequest.{JoinRequest}
use Rattle.cg_request.specs.declared.ticket.Ticket.{Ticket}
use Rattle.cg_group_rules.specs.Join.{admitted, in_join_phase, add_member_and_rebalance, new_member}
use Rattle.cg_group_state.specs.MemberId.{drawn, own_name}
use Rattle.cg_group_state.specs.Membership.{find_instance, is_empty, is_preparing}
use Rattle.cg_group_rules.specs.Rebalance.{complete_join, is_ready, prepare_rebalance, try_complete_join, turn_of}
use Rattle.cg_group_state.specs.Waiting.{is_waiting}
use Rattle.cg_group_rules.specs.JoinChecks.{join_held, join_placed}
use Rattle.cg_group_rules.specs.ParkedJoin.{entered}

-- where a member has not joined yet, there is a member
not_empty : (ms : List Member) → list_all (is_waiting Joins) ms ≡ false → is_empty ms ≡ false
not_empty [] h = absurd (false≢true (sym h))
not_empty (m ∷ ms) h = refl

pub join_entered : (now : ℕ) (r : JoinRequest) (id : List ℕ) (ticket : Ticket) (g : Group) → is_preparing g.phase ≡ true → list_all (is_waiting Joins) g.members ≡ false
    → add_member_and_rebalance now r id ticket g ≡ turn_of (entered now r id ticket g)
unfolding add_member_and_rebalance admitted try_complete_join is_ready
join_entered now r id ticket g preparing behind =
    let m : Member = new_member now r id [] (Join ticket) in
    let after : Group = entered now r id ticket g in
    let still : list_all (is_waiting Joins) after.members ≡ false = list_all-append (is_waiting Joins) g.members (m ∷ []) ∙ ap (λ b. b && list_all (is_waiting Joins) (m ∷ [])) behind in
    ap (λ b. try_complete_join now (in_join_phase now (turn_of (record g { kind = if b then Some r.kind else g.kind; leader = if b then Some m.id else g.leader; members = after.members })))) (not_empty g.members behind)
    ∙ ap (λ b. try_complete_join now (if b then turn_of after else prepare_rebalance now (turn_of after))) preparing
    ∙ ap (λ b. if is_preparing g.phase && b then complete_join now (turn_of after) else turn_of after) still
    ∙ ap (λ b. if b && false then complete_join now (turn_of after) else turn_of after) preparing

pub is_none : {X : Type 0} (o : Option X) → is_some o ≡ false → o ≡ None
is_none None h = refl
is_none (Some x) h = absurd (false≢true (sym h))

-- a JOIN that passes the checks of a new member is parked, if it gives no id and replaces no member
pub held_entered : (now : ℕ) (r : JoinRequest) (fresh : List ℕ) (ticket : Ticket) (g : Group) → is_preparing g.phase ≡ true → list_all (is_waiting Joins) g.members ≡ false → is_some r.member ≡ false → is_some (find_instance r.instance g.members) ≡ false
    → join_held now r fresh ticket None g ≡ Ok (join_placed now r (drawn (own_name r) fresh) ticket g (find_instance r.instance g.members)) → join_held now r fresh ticket r.member g ≡ Ok (turn_of (entered now r (drawn (own_name r) fresh) ticket g))
held_entered now r fresh ticket g preparing behind new alone taken =
    let id : List ℕ = drawn (own_name r) fresh in
    ap (λ o. join_held now r fresh ticket o g) (is_none r.member new)
    ∙ taken
    ∙ ap (λ o. Ok (join_placed now r id ticket g o)) (is_none (find_instance r.instance g.members) alone)
    ∙ ap Ok (join_entered now r id ticket g preparing behind)
