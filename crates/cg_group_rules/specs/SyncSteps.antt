-- SYNC, in place: how it is processed, and the distribution of the assignments that the leader hands in.
use Rattle.std.specs.Prelude.{◌≡◌, ℕ, true, List, [], ◌++◌, Some}
use Rattle.cg_names.specs.declared.code.Code.TheVariants.{RebalanceInProgress}
use Rattle.cg_group_state.specs.declared.calls.Calls.TheVariants.{Any, Syncs}
use Rattle.cg_group_state.specs.declared.effects.Effects.{Effects}
use Rattle.cg_group_state.specs.declared.group.Group.{Group}
use Rattle.cg_group_state.specs.declared.group.Phase.{Phase}
use Rattle.cg_group_state.specs.declared.group.Phase.TheVariants.{Stable}
use Rattle.cg_group_state.specs.declared.member.Member.{Member}
use Rattle.cg_group_state.specs.declared.member.Waits.{Waits}
use Rattle.cg_group_state.specs.declared.member.Waits.TheVariants.{Sync}
use Rattle.cg_group_state.specs.declared.turn.Turn.{Turn}
use Rattle.cg_request.specs.declared.request_fields.SyncEntry.{SyncEntry}
use Rattle.cg_request.specs.declared.request_fields.SyncRequest.{SyncRequest}
use Rattle.cg_request.specs.declared.ticket.Ticket.{Ticket}
use Rattle.cg_group_rules.specs.declared.sync.SyncCase.{SyncCase}
use Rattle.cg_group_rules.specs.declared.sync.SyncCase.TheVariants.{Current, Parked, Leading}
use Rattle.cg_group_state.specs.Assignments.{with_assignments}
use Rattle.cg_group_rules.specs.Join.{waiting}
use Rattle.cg_group_state.specs.Waiting.{waits_with, answer, answers, called, recalled, refusing}
use Rattle.cg_group_state.specs.Membership.{find_member, heard, hearing, leads, with_member}
use Rattle.cg_group_rules.specs.Rebalance.{turn_of}
use Rattle.cg_group_rules.specs.Sync.{assigned_command, propagate_assignment, sync_current, sync_taken, synced_reply}

-- the member with this id leads the group
abbrev pub IsLeader : List ℕ → Group → Type 0
IsLeader id g = (m : Member) × (find_member id g.members ≡ Some m) × (leads g m ≡ true)

-- the leader's SYNC, with these entries
abbrev pub distributing : ℕ → List ℕ → Ticket → List SyncEntry → Group → Turn
distributing now id ticket entries g = propagate_assignment now entries (waiting now id (Sync ticket) (turn_of (hearing now id g)))

-- a SYNC of the member that is not refused is processed in this way
abbrev pub IsSyncCase : Group → Member → SyncCase → Type 0
IsSyncCase g m (Current bytes) = (m.assignment ≡ bytes) × ((now : ℕ) (r : SyncRequest) (id : List ℕ) (ticket : Ticket) → sync_taken now r id ticket m g g.phase ≡ sync_current now id ticket m g)
IsSyncCase g m (Parked older) = (older ≡ called Any m.waits) × ((now : ℕ) (r : SyncRequest) (id : List ℕ) (ticket : Ticket) → sync_taken now r id ticket m g g.phase ≡ waiting now id (Sync ticket) (turn_of (hearing now id g)))
IsSyncCase g m Leading = (leads g m ≡ true) × ((now : ℕ) (r : SyncRequest) (id : List ℕ) (ticket : Ticket) → sync_taken now r id ticket m g g.phase ≡ distributing now id ticket r.entries g)

-- the effects of a call that parks in the place of this member's older one: that call gets 27
abbrev pub displacing : Member → Effects
displacing m = record { commands = []; replies = answer Any (refusing RebalanceInProgress) m }

-- the group with the leader's SYNC parked and these assignments, in Stable
unfoldable pub handed : ℕ → List ℕ → Ticket → List (List ℕ) → Group → Group
handed now id ticket list g = record g {
  phase = Stable;
  members = with_assignments list (with_member id (waits_with now (Sync ticket)) (with_member id (heard now) g.members));
}

-- the same, undone: these assignments, and the phase and the leader as they were
unfoldable pub handed_back : List ℕ → ℕ → Waits → Phase → List (List ℕ) → Group → Group
handed_back id moment waits phase list g = record g {
  phase = phase;
  members = with_member id (recalled moment waits) (with_assignments list g.members);
}

-- the effects, with the command that the generation has its assignments and the replies to the parked SYNCs
abbrev pub telling : Group → Effects → Effects
telling g e = record { commands = e.commands ++ assigned_command g; replies = e.replies ++ answers Syncs synced_reply g.members }
