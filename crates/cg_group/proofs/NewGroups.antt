-- A JOIN in a group that is not loaded parks no call: its member is alone, so the rebalance completes at once.
use Rattle.std.proofs.Common.{◌≡◌, ℕ, Bool, true, false, List, length, refl, ap, ◌∙◌, Some, None, Result, Ok, Err, ok_or}
use Rattle.std.specs.Prelude.{is_some, nat_le}
use Rattle.cg_names.specs.declared.code.Code.{Code}
use Rattle.cg_names.specs.declared.code.Code.TheVariants.{CoordinatorNotAvailable, InvalidGroupId, InvalidSessionTimeout, UnknownMemberId}
use Rattle.cg_group_state.specs.declared.group.Group.{Group}
use Rattle.cg_group_state.specs.declared.turn.Turn.{Turn}
use Rattle.cg_group_rules.specs.Join.{admitted, add_member_and_rebalance, new_group, new_member}
use Rattle.cg_group_state.specs.MemberId.{drawn, own_name}
use Rattle.cg_group_state.specs.JoinTerms.{is_session_refused}
use Rattle.cg_group_rules.specs.Rebalance.{complete_join, is_ready, init_next_generation, prepare_rebalance, reply_to_joins, try_complete_join}
use Rattle.cg_group_state.specs.Checks.{◌>>=◌, refused_if}
use Rattle.cg_group_state.specs.Waiting.{after_answers}
use Rattle.cg_request.specs.declared.request_fields.JoinRequest.{JoinRequest}
use Rattle.cg_request.specs.declared.ticket.Ticket.{Ticket}
use Rattle.cg_group_rules.specs.JoinChecks.{join_unheld}
use Rattle.cg_group_rules.specs.declared.group_limit.TheConstants.{GROUPS_MAX}
use Rattle.cg_group.specs.InPlace.{groups_of}
use Rattle.cg_group.specs.Machine.{join, join_in}
use Rattle.cg_group_table.specs.GroupTable.{find_group}
use Rattle.cg_group_table.specs.SessionIndex.{AreKnown, Known, StayParked}
use Rattle.cg_group_table.proofs.KeptLists.{each-put}
use Rattle.cg_group_table.proofs.Tight.{stay_added}

-- a JOIN in a group that is not loaded
pub join_absent : (now : ℕ) (r : JoinRequest) (fresh : List ℕ) (ticket : Ticket) (groups : List Group) (id : List ℕ) → r.group ≡ Some id → find_group id groups ≡ None → is_session_refused r ≡ false → join now r fresh ticket groups ≡ join_unheld now r fresh ticket (length groups) id
unfolding join
join_absent now r fresh ticket groups id named none lawful =
    ap (λ o. ok_or o InvalidGroupId >>= λ i. refused_if (is_session_refused r) InvalidSessionTimeout >>= λ _. join_in now r fresh ticket groups i (find_group i groups)) named
    ∙ ap (λ b. refused_if b InvalidSessionTimeout >>= λ _. join_in now r fresh ticket groups id (find_group id groups)) lawful
    ∙ ap (join_in now r fresh ticket groups id) none

module _ (now : ℕ) (r : JoinRequest) (fresh : List ℕ) (ticket : Ticket) (loaded : ℕ) (id : List ℕ) where
  made : Turn
  made = add_member_and_rebalance now r (drawn (own_name r) fresh) ticket (new_group id)

  -- the only member has no parked call
  known_alone : (sessions : ℕ → Bool) → Known sessions made.group
  unfolding made add_member_and_rebalance try_complete_join is_ready complete_join reply_to_joins init_next_generation prepare_rebalance admitted new_member new_group after_answers
  known_alone sessions = (refl, tt)

  own_id : made.group.id ≡ id
  unfolding made add_member_and_rebalance try_complete_join is_ready complete_join reply_to_joins init_next_generation prepare_rebalance admitted new_member new_group after_answers
  own_id = refl

  -- the JOIN is refused, or makes the group
  refused_or_made : (P : Result Turn Code → Type 0) → ((code : Code) → P (Err code)) → P (Ok made) → P (join_unheld now r fresh ticket loaded id)
  unfolding made join_unheld
  refused_or_made P e h =
      elim (is_some r.member) as (λ b. P (refused_if b UnknownMemberId >>= λ _. refused_if (nat_le GROUPS_MAX loaded) CoordinatorNotAvailable >>= λ _. Ok (add_member_and_rebalance now r (drawn (own_name r) fresh) ticket (new_group id)))) [
        | true ↦ e UnknownMemberId
        | false ↦ elim (nat_le GROUPS_MAX loaded) as (λ b. P (refused_if b CoordinatorNotAvailable >>= λ _. Ok (add_member_and_rebalance now r (drawn (own_name r) fresh) ticket (new_group id)))) [
          | true ↦ e CoordinatorNotAvailable
          | false ↦ h
        ]
      ]

  pub known_created : (homes : ℕ → List ℕ → Bool) (groups : List Group) → AreKnown homes groups → AreKnown homes (groups_of (join_unheld now r fresh ticket loaded id) groups)
  known_created homes groups h =
      refused_or_made (λ o. AreKnown homes (groups_of o groups)) (λ code. h)
      (each-put (λ g. Known (λ session. homes session g.id) g) made.group groups (known_alone (λ session. homes session made.group.id)) h)

  pub stay_created : (groups : List Group) → find_group id groups ≡ None → StayParked groups (groups_of (join_unheld now r fresh ticket loaded id) groups)
  stay_created groups none =
      refused_or_made (λ o. StayParked groups (groups_of o groups)) (λ code session x h. h)
      (stay_added made.group groups (ap (λ i. find_group i groups) own_id ∙ none))
