-- JOIN that replaces the member with the same instance (KIP-345).
use Rattle.std.specs.Prelude.{ℕ, Bool, false, ◌&&◌, List, [], ◌∷◌, ◌++◌, Option, Some, None, if◌then◌else◌}
use Rattle.std.specs.List.{list_any}
use Rattle.cg_names.specs.declared.code.Code.TheVariants.{FencedInstanceId}
use Rattle.cg_record.specs.declared.command.Command.{Command}
use Rattle.cg_record.specs.declared.command.Command.TheVariants as command
use Rattle.cg_record.specs.declared.member_record.MemberRecord.{MemberRecord}
use Rattle.cg_group_state.specs.declared.calls.Calls.TheVariants.{Any}
use Rattle.cg_group_state.specs.declared.group.Group.{Group}
use Rattle.cg_group_state.specs.declared.member.Member.{Member}
use Rattle.cg_group_state.specs.declared.member.Waits.TheVariants.{Nothing}
use Rattle.cg_group_state.specs.declared.reply.Reply.{Reply}
use Rattle.cg_group_state.specs.declared.reply.Reply.TheVariants as reply
use Rattle.cg_request.specs.declared.request_fields.JoinRequest.{JoinRequest}
use Rattle.cg_request.specs.declared.ticket.Ticket.{Ticket}
use Rattle.cg_group_state.specs.declared.turn.Turn.{Turn}
use Rattle.cg_group_rules.specs.Join.{new_member, rejoined}
use Rattle.cg_group_state.specs.Membership.{has_instance, is_named, is_stable, leads, seating}
use Rattle.cg_group_rules.specs.Sync.{kept_member}
use Rattle.cg_group_state.specs.Vote.{select_protocol}
use Rattle.cg_group_state.specs.Waiting.{answer, refusing}

-- the replaced member leads
abbrev pub leads_and_goes : Member → Group → Member → Bool
leads_and_goes new g m = has_instance new.instance m && leads g m

-- the group with the new member in that position; it leads if the replaced member led
unfoldable pub replacing : Member → Group → Group
replacing new g = record g {
  members = seating new g.members;
  leader = if list_any (leads_and_goes new g) g.members then Some new.id else g.leader;
}

-- the vote gives the group's protocol
abbrev pub is_protocol : Group → Option (List ℕ) → Bool
is_protocol g None = false
is_protocol g (Some name) = is_named g.protocol name

-- the group is stable, and its vote still gives its protocol
unfoldable pub keeps_generation : Group → Bool
keeps_generation g = is_stable g.phase && is_protocol g (select_protocol g.members)

-- the new member has the assignment of the old one, and no parked call
abbrev pub successor : ℕ → JoinRequest → List ℕ → Member → Member
successor now r id old = new_member now r id old.assignment Nothing

-- the old member is replaced, and its parked call gets 82
unfoldable pub replaced : Member → Member → Group → Turn
replaced new old g = record { group = replacing new g; replies = answer Any (refusing FencedInstanceId) old; commands = [] }

-- the command that stores the replacement
abbrev pub replaced_command : MemberRecord → Group → Command
replaced_command new g = command.Replaced (record { group = g.id; member = new })

-- the current generation, with the leader from before the replacement and no members
abbrev pub replaced_reply : List ℕ → Group → Reply
replaced_reply id before = reply.Joined (record {
  generation = before.generation;
  kind = before.kind;
  protocol = before.protocol;
  leader = before.leader;
  member = id;
  members = [];
})

-- the generation continues with the new member
unfoldable pub replaced_in_place : Ticket → MemberRecord → Group → Turn → Turn
replaced_in_place ticket new before t = record {
  group = t.group;
  replies = t.replies ++ (ticket, replaced_reply new.id before) ∷ [];
  commands = t.commands ++ replaced_command new before ∷ [];
}

-- JOIN of a member that replaces the old one
unfoldable pub replace_static_member : ℕ → JoinRequest → List ℕ → Ticket → Member → Group → Turn
replace_static_member now r id ticket old g =
    let new : Member = successor now r id old in
    let t : Turn = replaced new old g in
    if keeps_generation t.group then replaced_in_place ticket (kept_member g.protocol new) g t else rejoined now id ticket t
