-- BEAT (protocol guide, "Heartbeat").
use Rattle.std.specs.Prelude.{◌≡◌, ℕ, List, pos, not, [], ◌∷◌, Result, Ok, Err, if◌then◌else◌}
use Rattle.std.specs.Ordering.{int_eq}
use Rattle.cg_names.specs.declared.code.Code.{Code}
use Rattle.cg_names.specs.declared.code.Code.TheVariants.{IllegalGeneration, RebalanceInProgress}
use Rattle.cg_group_state.specs.declared.group.Group.{Group}
use Rattle.cg_group_state.specs.declared.reply.Reply.{Reply}
use Rattle.cg_group_state.specs.declared.reply.Reply.TheVariants as reply
use Rattle.cg_request.specs.declared.request_fields.BeatRequest.{BeatRequest}
use Rattle.cg_request.specs.declared.ticket.Ticket.{Ticket}
use Rattle.cg_group_state.specs.declared.turn.Turn.{Turn}
use Rattle.cg_group_state.specs.MemberCheck.{validate_current_member}
use Rattle.cg_group_state.specs.Membership.{hearing, is_preparing}
use Rattle.cg_group_state.specs.Checks.{◌>>=◌, refused_if}

-- in PreparingRebalance, a BEAT gets 27; in CompletingRebalance, between its JOINED and its SYNC, it gets OK
unfoldable pub beat_reply : Group → Reply
beat_reply g = if is_preparing g.phase then reply.Refused RebalanceInProgress else reply.Done

-- BEAT that passes the checks: the member is heard, even if it gets 27
unfoldable pub beat_taken : ℕ → List ℕ → Ticket → Group → Turn
beat_taken now id ticket g = record { group = hearing now id g; replies = (ticket, beat_reply g) ∷ []; commands = [] }

-- BEAT in a loaded group
unfoldable pub beat_held : ℕ → BeatRequest → Ticket → Group → Result Turn Code
beat_held now r ticket g = do
  who ← validate_current_member r.instance r.member g.members
  _ ← refused_if (not (int_eq r.generation (pos g.generation))) IllegalGeneration
  Ok (beat_taken now who.0 ticket g)

-- the BEAT passes its checks in this group, from this member, and gets this reply
pub record IsBeat (r : BeatRequest) (g : Group) (id : List ℕ) (reply : Reply) : Type 0 where
  pub taken : (now : ℕ) (ticket : Ticket) → beat_held now r ticket g ≡ Ok (beat_taken now id ticket g)
  pub answered : reply ≡ beat_reply g

-- the BEAT is refused in this group
abbrev pub IsBeatRefused : BeatRequest → Group → Code → Type 0
IsBeatRefused r g code = (now : ℕ) (ticket : Ticket) → beat_held now r ticket g ≡ Err code
