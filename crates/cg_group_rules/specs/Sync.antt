-- SYNC (protocol guide, "SyncGroup"): the leader sends the assignments, and each member gets its own.
use Rattle.std.specs.Prelude.{ℕ, pos, not, List, [], ◌∷◌, ◌++◌, map, Option, Result, Ok, option_map, option_and_then, option_to_list, if◌then◌else◌}
use Rattle.std.specs.Ordering.{int_eq}
use Rattle.cg_names.specs.declared.code.Code.{Code}
use Rattle.cg_names.specs.declared.code.Code.TheVariants.{IllegalGeneration, RebalanceInProgress}
use Rattle.cg_group_state.specs.declared.calls.Calls.TheVariants.{Syncs}
use Rattle.cg_record.specs.declared.command.Command.{Command}
use Rattle.cg_record.specs.declared.command.Command.TheVariants as command
use Rattle.cg_record.specs.declared.member_record.MemberRecord.{MemberRecord}
use Rattle.cg_record.specs.Rosters.{RosterParts, roster_of}
use Rattle.cg_group_state.specs.declared.group.Group.{Group}
use Rattle.cg_group_state.specs.declared.group.Phase.{Phase}
use Rattle.cg_group_state.specs.declared.group.Phase.TheVariants.{Empty, Preparing, Completing, Stable}
use Rattle.cg_group_state.specs.declared.member.Member.{Member}
use Rattle.cg_group_state.specs.declared.member.Waits.TheVariants.{Sync}
use Rattle.cg_group_state.specs.declared.reply.Reply.{Reply}
use Rattle.cg_group_state.specs.declared.reply.Reply.TheVariants as reply
use Rattle.cg_request.specs.declared.request_fields.SyncEntry.{SyncEntry}
use Rattle.cg_request.specs.declared.request_fields.SyncRequest.{SyncRequest}
use Rattle.cg_request.specs.declared.ticket.Ticket.{Ticket}
use Rattle.cg_group_state.specs.declared.turn.Turn.{Turn}
use Rattle.cg_group_state.specs.MemberCheck.{validate_current_member}
use Rattle.cg_group_rules.specs.Join.{waiting}
use Rattle.cg_group_state.specs.Membership.{hearing, is_preparing, leads}
use Rattle.cg_group_rules.specs.Rebalance.{completed_generation, subscription_for, turn_of}
use Rattle.cg_group_state.specs.Checks.{◌>>=◌, refused_if}
use Rattle.cg_group_state.specs.Waiting.{after_answers, answers}
use Rattle.cg_group_state.specs.Assignments.{assigned}

-- the group with its assignments, in Stable
unfoldable pub assigning : List SyncEntry → Group → Group
assigning entries g = record g { phase = Stable; members = map (assigned entries) g.members }

-- the member as the command stores it
abbrev pub kept_member : Option (List ℕ) → Member → MemberRecord
kept_member protocol m = record {
  id = m.id;
  instance = m.instance;
  client = m.client;
  session = m.session;
  rebalance = m.rebalance;
  subscription = subscription_for protocol m.protocols;
  assignment = m.assignment;
}

-- the members of the generation as the command stores them
abbrev pub kept_roster : List ℕ → List ℕ → Group → RosterParts
kept_roster protocol leader g = roster_of protocol leader (map (kept_member g.protocol) g.members)

-- the command that a generation has its assignments; it then has a number, a type, a protocol and a leader
unfoldable pub assigned_command : Group → List Command
assigned_command g =
    option_to_list (option_and_then (λ generation. option_and_then (λ kind. option_and_then (λ protocol. option_map (λ leader. command.Assigned (record {
      group = g.id;
      generation = generation;
      kind = kind;
      roster = kept_roster protocol leader g;
    })) g.leader) g.protocol) g.kind) (completed_generation g.generation))

-- the reply to a SYNC of the member
abbrev pub synced_reply : Member → Reply
synced_reply m = reply.Synced m.assignment

-- every parked SYNC gets its reply
unfoldable pub reply_to_syncs : ℕ → Turn → Turn
reply_to_syncs now t = record {
  group = record t.group { members = after_answers Syncs now t.group.members };
  replies = t.replies ++ answers Syncs synced_reply t.group.members;
  commands = t.commands;
}

-- the leader's SYNC: the assignments are set, and every parked SYNC gets its reply
unfoldable pub propagate_assignment : ℕ → List SyncEntry → Turn → Turn
propagate_assignment now entries t =
    let g : Group = assigning entries t.group in
    reply_to_syncs now (record { group = g; replies = t.replies; commands = t.commands ++ assigned_command g })

-- SYNC in Completing: it is parked, and the member is heard
unfoldable pub sync_waits : ℕ → SyncRequest → List ℕ → Ticket → Member → Group → Turn
sync_waits now r id ticket m g =
    let t : Turn = waiting now id (Sync ticket) (turn_of (hearing now id g)) in
    if leads g m then propagate_assignment now r.entries t else t

-- SYNC in Stable: the member gets its assignment at once, and is heard
unfoldable pub sync_current : ℕ → List ℕ → Ticket → Member → Group → Turn
sync_current now id ticket m g = record { group = hearing now id g; replies = (ticket, synced_reply m) ∷ []; commands = [] }

-- SYNC that is not refused
unfoldable pub sync_taken : ℕ → SyncRequest → List ℕ → Ticket → Member → Group → Phase → Turn
sync_taken now r id ticket m g Completing = sync_waits now r id ticket m g
sync_taken now r id ticket m g Stable = sync_current now id ticket m g
sync_taken now r id ticket m g Empty = sync_current now id ticket m g
sync_taken now r id ticket m g Preparing = sync_current now id ticket m g

-- SYNC in a loaded group
unfoldable pub sync_held : ℕ → SyncRequest → Ticket → Group → Result Turn Code
sync_held now r ticket g = do
  who ← validate_current_member r.instance r.member g.members
  _ ← refused_if (not (int_eq r.generation (pos g.generation))) IllegalGeneration
  _ ← refused_if (is_preparing g.phase) RebalanceInProgress
  Ok (sync_taken now r who.0 ticket who.1 g g.phase)
