-- A group that an event does not change stays as it is.
use Rattle.std.proofs.Common.{◌≡◌, ℕ, false, not, List, [], ◌∷◌, ◌++◌, refl, ap, ◌∙◌}
use Rattle.std.specs.Prelude.{◌||◌, if◌then◌else◌, is_some, Option, Some, None, option_map, option_to_list}
use Rattle.std.specs.List.{list_any}
use Rattle.std.proofs.lemmas.Bool.{or_parts}
use Rattle.cg_group_state.specs.declared.calls.Calls.{Calls}
use Rattle.cg_group_state.specs.declared.calls.Calls.TheVariants.{OfSession}
use Rattle.cg_group_state.specs.declared.group.Group.{Group}
use Rattle.cg_group_state.specs.declared.member.Member.{Member}
use Rattle.cg_group_state.specs.declared.reply.Reply.{Reply}
use Rattle.cg_request.specs.declared.ticket.Ticket.{Ticket}
use Rattle.cg_group_state.specs.declared.turn.Turn.{Turn}
use Rattle.cg_group_rules.specs.Leave.{after_removal, gone_in}
use Rattle.cg_group_state.specs.Membership.{keeping}
use Rattle.cg_group_rules.specs.Rebalance.{complete_join, is_ready, try_complete_join, turn_of}
use Rattle.cg_group_rules.specs.Tick.{at_deadline, ended, expire_heartbeats, is_due, ticked}
use Rattle.cg_group_state.specs.Staying.{is_overdue, outstays}
use Rattle.cg_group_rules.specs.TickDeadline.{gone_touches, tick_touches}
use Rattle.cg_group_state.specs.Waiting.{after_answer, after_answers, answer, answered, answers, called, is_waiting, refusing}
use Rattle.cg_names.specs.declared.code.Code.TheVariants.{CoordinatorNotAvailable}

-- a stage whose condition fails changes nothing
calm_expired : (now : ℕ) (t : Turn) → list_any (is_overdue now) t.group.members ≡ false → is_ready t.group ≡ false → expire_heartbeats now t ≡ t
unfolding expire_heartbeats try_complete_join
calm_expired now t overdue ready =
    ap (λ b. if b then after_removal now (record t { group = keeping (λ m. not (is_overdue now m)) t.group }) else try_complete_join now t) overdue
    ∙ ap (λ b. if b then complete_join now t else t) ready

calm_at_deadline : (now : ℕ) (t : Turn) → is_due now t.group ≡ false → at_deadline now t ≡ t
unfolding at_deadline
calm_at_deadline now t due = ap (λ b. if b then ended now (record t { group = keeping outstays t.group }) else t) due

pub calm_ticked : (now : ℕ) (g : Group) → tick_touches now g ≡ false → ticked now g ≡ turn_of g
unfolding ticked
calm_ticked now g calm =
    let parts = or_parts (list_any (is_overdue now) g.members) (is_ready g || is_due now g) calm in
    let rest = or_parts (is_ready g) (is_due now g) parts.1 in
    ap (at_deadline now) (calm_expired now (turn_of g) parts.0 rest.0) ∙ calm_at_deadline now (turn_of g) rest.1

-- members without a parked call of this kind do not change

calm_one : (which : Calls) (now : ℕ) (m : Member) → is_waiting which m ≡ false → after_answer which now m ≡ m
calm_one which now m calm = ap (λ b. if b then answered now m else m) calm

silent_one : (which : Calls) (reply : Member → Reply) (m : Member) → is_waiting which m ≡ false → answer which reply m ≡ []
silent_one which reply m calm = go (called which m.waits) calm
  where
    go : (o : Option Ticket) → is_some o ≡ false → option_to_list {X = Ticket × Reply} (option_map (λ t. (t, reply m)) o) ≡ []
    go None e = refl
    go (Some t) e = cc

calm_after_answers : (which : Calls) (now : ℕ) (ms : List Member) → list_any (is_waiting which) ms ≡ false → after_answers which now ms ≡ ms
unfolding after_answers
calm_after_answers which now [] calm = refl
calm_after_answers which now (m ∷ ms) calm =
    let parts = or_parts (is_waiting which m) (list_any (is_waiting which) ms) calm in
    ap (λ x. x ∷ after_answers which now ms) (calm_one which now m parts.0) ∙ ap (λ xs. m ∷ xs) (calm_after_answers which now ms parts.1)

silent_answers : (which : Calls) (reply : Member → Reply) (ms : List Member) → list_any (is_waiting which) ms ≡ false → answers which reply ms ≡ []
unfolding answers
silent_answers which reply [] calm = refl
silent_answers which reply (m ∷ ms) calm =
    let parts = or_parts (is_waiting which m) (list_any (is_waiting which) ms) calm in
    ap (λ xs. xs ++ answers which reply ms) (silent_one which reply m parts.0) ∙ silent_answers which reply ms parts.1

pub calm_gone_in : (now session : ℕ) (g : Group) → gone_touches session g ≡ false → gone_in now session g ≡ turn_of g
unfolding gone_in
calm_gone_in now session g calm =
    ap (λ ms. record { group = record g { members = ms }; replies = answers (OfSession session) (refusing CoordinatorNotAvailable) g.members; commands = [] }) (calm_after_answers (OfSession session) now g.members calm)
    ∙ ap (λ rs. record { group = g; replies = rs; commands = [] }) (silent_answers (OfSession session) (refusing CoordinatorNotAvailable) g.members calm)
