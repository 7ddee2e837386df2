-- The rebalance: its start, its completion, and the replies to its members (KIP-62; protocol guide, "JoinGroup").
use Rattle.std.specs.Prelude.{ℕ, Bool, ◌&&◌, nat_le, List, [], ◌++◌, map, Option, Some, None, option_map, option_and_then, option_to_list, unwrap_or, find, if◌then◌else◌}
use Rattle.std.specs.List.{list_any, list_all}
use Rattle.cg_names.specs.Generations.{next_generation}
use Rattle.cg_names.specs.declared.code.Code.TheVariants.{RebalanceInProgress}
use Rattle.cg_group_state.specs.declared.calls.Calls.TheVariants.{Joins, Syncs}
use Rattle.cg_record.specs.declared.command.Command.{Command}
use Rattle.cg_record.specs.declared.command.Command.TheVariants as command
use Rattle.cg_group_state.specs.declared.effects.Effects.{Effects}
use Rattle.cg_group_state.specs.declared.group.Group.{Group}
use Rattle.cg_group_state.specs.declared.group.Phase.TheVariants.{Empty, Preparing, Completing}
use Rattle.cg_group_state.specs.declared.member.Member.{Member}
use Rattle.cg_request.specs.declared.protocol.Protocol.{Protocol}
use Rattle.cg_group_state.specs.declared.reply.JoinedMember.{JoinedMember}
use Rattle.cg_group_state.specs.declared.reply.Reply.{Reply}
use Rattle.cg_group_state.specs.declared.reply.Reply.TheVariants as reply
use Rattle.cg_group_state.specs.declared.turn.Turn.{Turn}
use Rattle.cg_group_state.specs.Membership.{is_named, leads, is_empty, is_preparing}
use Rattle.cg_group_state.specs.Vote.{select_protocol}
use Rattle.cg_group_state.specs.Waiting.{is_waiting, after_answers, answers, refusing}

-- the state at the start of an event: no replies and no commands yet
abbrev pub turn_of : Group → Turn
turn_of g = record { group = g; replies = []; commands = [] }

-- the state of an event that has changed its group so far, and has these effects
abbrev pub turned : Group → Effects → Turn
turned g e = record { group = g; replies = e.replies; commands = e.commands }

-- the group as a rebalance begins in it now, or as it is: a parked SYNC has its reply
abbrev pub begun : Bool → ℕ → Group → Group
begun begins now g = if begins then record g { phase = Preparing; started = now; members = after_answers Syncs now g.members } else g

-- prepare: every parked SYNC gets 27, and a rebalance begins now
unfoldable pub prepare_rebalance : ℕ → Turn → Turn
prepare_rebalance now t = record {
  group = record t.group { phase = Preparing; started = now; members = after_answers Syncs now t.group.members };
  replies = t.replies ++ answers Syncs (refusing RebalanceInProgress) t.group.members;
  commands = t.commands;
}

-- the member's subscription for the protocol
unfoldable pub subscription_for : Option (List ℕ) → List Protocol → List ℕ
subscription_for protocol protocols = unwrap_or (option_map (λ p. p.subscription) (find (λ p. is_named protocol p.name) protocols)) []

abbrev pub joined_member : Option (List ℕ) → Member → JoinedMember
joined_member protocol m = record { id = m.id; instance = m.instance; subscription = subscription_for protocol m.protocols }

-- the members, for the leader alone
unfoldable pub joined_members : Group → Member → List JoinedMember
joined_members g m = if leads g m then map (joined_member g.protocol) g.members else []

-- the reply to a JOIN of the member in the current generation
unfoldable pub joined_reply : Group → Member → Reply
joined_reply g m = reply.Joined (record {
  generation = g.generation;
  kind = g.kind;
  protocol = g.protocol;
  leader = g.leader;
  member = m.id;
  members = joined_members g m;
})

-- the leader stays if its JOIN is parked; otherwise the first member with a parked JOIN leads
unfoldable pub next_leader : Group → Option (List ℕ)
next_leader g =
    if list_any (λ m. leads g m && is_waiting Joins m) g.members
    then g.leader
    else option_map (λ m. m.id) (find (is_waiting Joins) g.members)

-- the next generation, with the protocol of the vote and its leader
unfoldable pub init_next_generation : Group → Group
init_next_generation g = record g {
  phase = Completing;
  generation = next_generation g.generation;
  protocol = select_protocol g.members;
  leader = next_leader g;
}

-- the generation, if a rebalance has completed it
abbrev pub completed_generation : ℕ → Option ℕ
completed_generation generation = if nat_le 1 generation then Some generation else None

-- the command that a generation has no members from this moment on; a group that never had a member has no type, and makes no
-- such command
unfoldable pub emptied_command : ℕ → Group → List Command
emptied_command now g =
    option_to_list (option_and_then (λ generation. option_map (λ kind. command.Emptied (record {
      group = g.id;
      generation = generation;
      kind = kind;
      moment = Some now;
    })) g.kind) (completed_generation g.generation))

-- complete, without members: the group is emptied now
unfoldable pub emptied : ℕ → Turn → Turn
emptied now t =
    let g : Group = record t.group { phase = Empty; generation = next_generation t.group.generation; protocol = None; leader = None; emptied = Some now } in
    record { group = g; replies = t.replies; commands = t.commands ++ emptied_command now g }

-- every parked JOIN gets its reply
unfoldable pub reply_to_joins : ℕ → Turn → Turn
reply_to_joins now t = record {
  group = record t.group { members = after_answers Joins now t.group.members };
  replies = t.replies ++ answers Joins (joined_reply t.group) t.group.members;
  commands = t.commands;
}

-- complete: the rebalance ends with the next generation
unfoldable pub complete_join : ℕ → Turn → Turn
complete_join now t = if is_empty t.group.members then emptied now t else reply_to_joins now (record t { group = init_next_generation t.group })

-- a rebalance is under way, and every member has a parked JOIN (or no member is left)
unfoldable pub is_ready : Group → Bool
is_ready g = is_preparing g.phase && list_all (is_waiting Joins) g.members

-- complete, if the rebalance is ready
unfoldable pub try_complete_join : ℕ → Turn → Turn
try_complete_join now t = if is_ready t.group then complete_join now t else t
