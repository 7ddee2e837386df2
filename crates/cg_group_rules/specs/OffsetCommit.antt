-- COMMIT (protocol guide, "OffsetCommit").
use Rattle.std.specs.Prelude.{◌≡◌, ℕ, ℤ, pos, int_lt, Bool, true, false, not, nat_le, List, [], ◌∷◌, map, Option, Some, None, Result, Ok, Err, if◌then◌else◌}
use Rattle.std.specs.Ordering.{int_eq}
use Rattle.cg_names.specs.declared.code.Code.{Code}
use Rattle.cg_names.specs.declared.code.Code.TheVariants.{CoordinatorNotAvailable, IllegalGeneration, OffsetMetadataTooLarge, RebalanceInProgress, UnknownMemberId}
use Rattle.cg_record.specs.declared.committed.Committed.{Committed}
use Rattle.cg_record.specs.declared.entry.Entry.{Entry}
use Rattle.cg_record.specs.declared.command.Command.TheVariants as command
use Rattle.cg_request.specs.declared.commit_entry.CommitEntry.{CommitEntry}
use Rattle.cg_request.specs.declared.request_fields.CommitRequest.{CommitRequest}
use Rattle.cg_group_rules.specs.declared.group_limit.TheConstants.{GROUPS_MAX}
use Rattle.cg_group_state.specs.declared.effects.Effects.{Effects}
use Rattle.cg_group_state.specs.declared.group.Group.{Group}
use Rattle.cg_group_state.specs.declared.group.Phase.{Phase}
use Rattle.cg_group_state.specs.declared.group.Phase.TheVariants.{Empty, Preparing, Completing, Stable}
use Rattle.cg_group_state.specs.declared.reply.Reply.TheVariants as reply
use Rattle.cg_request.specs.declared.ticket.Ticket.{Ticket}
use Rattle.cg_group_state.specs.declared.turn.Turn.{Turn}
use Rattle.cg_request.specs.Commits.{is_too_large, kept_entry}
use Rattle.cg_group_state.specs.MemberCheck.{validate_current_member}
use Rattle.cg_group_rules.specs.Join.{new_group}
use Rattle.cg_group_state.specs.Membership.{hearing, is_empty}
use Rattle.cg_group_rules.specs.Rebalance.{turned}
use Rattle.cg_group_state.specs.Checks.{◌>>=◌, refused_if}

-- a negative generation marks a commit from a non-member (a simple consumer)
abbrev pub is_negative : ℤ → Bool
is_negative generation = int_lt generation (pos 0)

abbrev pub is_completing : Phase → Bool
is_completing Completing = true
is_completing Empty = false
is_completing Preparing = false
is_completing Stable = false

-- a COMMIT to a group with members: the committing member
unfoldable pub commit_of_member : ℤ → Option (List ℕ) → Option (List ℕ) → Group → Result (Option (List ℕ)) Code
commit_of_member generation instance member g = do
  who ← validate_current_member instance member g.members
  _ ← refused_if (not (int_eq generation (pos g.generation))) IllegalGeneration
  _ ← refused_if (is_completing g.phase) RebalanceInProgress
  Ok (Some who.0)

-- a COMMIT to a group without members: only one from a non-member passes
abbrev pub commit_of_none : ℤ → Result (Option (List ℕ)) Code
commit_of_none generation = do
  _ ← refused_if (not (is_negative generation)) UnknownMemberId
  Ok None

-- the committing member; none if the group has no members
unfoldable pub committer : ℤ → Option (List ℕ) → Option (List ℕ) → Group → Result (Option (List ℕ)) Code
committer generation instance member g = if is_empty g.members then commit_of_none generation else commit_of_member generation instance member g

-- a member that commits is heard
abbrev pub hearing_committer : ℕ → Option (List ℕ) → Group → Group
hearing_committer now None g = g
hearing_committer now (Some id) g = hearing now id g

-- the commit of these entries for a group, at this moment
abbrev pub commit_at : ℕ → List Entry → List ℕ → Committed
commit_at now entries group = record { group = group; moment = Some now; entries = entries }

-- the command that stores the commit, and the reply
abbrev pub commit_effects : Committed → Ticket → Effects
commit_effects commit ticket = record { commands = command.Committed commit ∷ []; replies = (ticket, reply.Done) ∷ [] }

-- the step that stores the entries for the group
unfoldable pub keeping_entries : ℕ → List Entry → Ticket → Group → Turn
keeping_entries now entries ticket g = turned g (commit_effects (commit_at now entries g.id) ticket)

-- COMMIT that passes the checks
abbrev pub committed : ℕ → List CommitEntry → Ticket → Group → Turn
committed now entries ticket g = keeping_entries now (map kept_entry entries) ticket g

-- COMMIT after the check of its sender
abbrev pub commit_by : ℕ → Option (List ℕ) → List CommitEntry → Ticket → Group → Result Turn Code
commit_by now who entries ticket g = do
  _ ← refused_if (is_too_large entries) OffsetMetadataTooLarge
  Ok (committed now entries ticket (hearing_committer now who g))

-- COMMIT in a loaded group
unfoldable pub commit_held : ℕ → ℤ → Option (List ℕ) → Option (List ℕ) → List CommitEntry → Ticket → Group → Result Turn Code
commit_held now generation instance member entries ticket g = do
  who ← committer generation instance member g
  commit_by now who entries ticket g

-- the COMMIT is refused in this group
abbrev pub IsCommitRefused : CommitRequest → Group → Code → Type 0
IsCommitRefused r g code = (now : ℕ) (ticket : Ticket) → commit_held now r.generation r.instance r.member r.entries ticket g ≡ Err code

-- the group in which this member, if there is one, was last heard at this moment
abbrev pub heard_at : Option (List ℕ) → Option ℕ → Group → Group
heard_at None moment g = g
heard_at (Some id) None g = g
heard_at (Some id) (Some moment) g = hearing moment id g

-- the COMMIT passes its checks in this group, in which the committing member is heard; `before` is the moment at which it was
-- last heard
pub record IsCommit (now : ℕ) (r : CommitRequest) (g after : Group) (before : Option ℕ) : Type 0 where
  pub who : Option (List ℕ)
  pub heard : after ≡ hearing_committer now who g
  pub taken : (ticket : Ticket) → commit_held now r.generation r.instance r.member r.entries ticket g ≡ Ok (committed now r.entries ticket after)
  pub small : is_too_large r.entries ≡ false
  pub back : heard_at r.member before after ≡ g

-- the error code of a COMMIT of a member, of those that come after the member check
abbrev pub late_refusal : CommitRequest → Group → Option Code
late_refusal r g =
    if not (int_eq r.generation (pos g.generation)) then Some IllegalGeneration
    else (if is_completing g.phase then Some RebalanceInProgress else (if is_too_large r.entries then Some OffsetMetadataTooLarge else None))

-- the error code of a COMMIT to a group without members
abbrev pub simple_refusal : CommitRequest → Option Code
simple_refusal r = if not (is_negative r.generation) then Some UnknownMemberId else (if is_too_large r.entries then Some OffsetMetadataTooLarge else None)

-- COMMIT in a group that is not loaded: the group is created, without members
unfoldable pub commit_unheld : ℕ → ℤ → List CommitEntry → Ticket → ℕ → List ℕ → Result Turn Code
commit_unheld now generation entries ticket loaded id = do
  _ ← refused_if (not (is_negative generation)) IllegalGeneration
  _ ← refused_if (is_too_large entries) OffsetMetadataTooLarge
  _ ← refused_if (nat_le GROUPS_MAX loaded) CoordinatorNotAvailable
  Ok (committed now entries ticket (new_group id))
