-- What a step of one group does to the requests of its members: each is answered, or stays parked.
use Rattle.std.specs.Prelude.{◌≡◌, ◌+◌, ℕ, true, List, Option, Some, is_some}
use Rattle.std.specs.List.{sum_by}
use Rattle.std.specs.Option.{option_to_list}
use Rattle.cg_group_state.specs.declared.calls.Calls.TheVariants.{Any}
use Rattle.cg_request.specs.declared.commit_entry.CommitEntry.{CommitEntry}
use Rattle.cg_group_state.specs.declared.group.Group.{Group}
use Rattle.cg_group_state.specs.declared.group.Phase.{Phase}
use Rattle.cg_group_state.specs.declared.member.Member.{Member}
use Rattle.cg_group_state.specs.declared.reply.Reply.{Reply}
use Rattle.cg_request.specs.declared.request_fields.JoinRequest.{JoinRequest}
use Rattle.cg_request.specs.declared.request_fields.SyncRequest.{SyncRequest}
use Rattle.cg_request.specs.declared.ticket.Ticket.{Ticket}
use Rattle.cg_group_state.specs.declared.turn.Turn.{Turn}
use Rattle.cg_group_rules.specs.Heartbeat.{beat_taken}
use Rattle.cg_group_rules.specs.OffsetCommit.{committed, hearing_committer}
use Rattle.cg_group_rules.specs.Join.{join_known, add_member_and_rebalance}
use Rattle.cg_group_rules.specs.Leave.{gone_in, leave_taken}
use Rattle.cg_group_state.specs.Members.{ids, instances}
use Rattle.cg_group_state.specs.Membership.{find_instance, find_member}
use Rattle.cg_request.specs.Names.{are_distinct}
use Rattle.cg_group_rules.specs.StaticMember.{replace_static_member}
use Rattle.cg_group_rules.specs.Sync.{sync_taken}
use Rattle.cg_group_rules.specs.Tick.{ticked}
use Rattle.cg_group_state.specs.Waiting.{called}
use Rattle.cg_desk.specs.Held.{calls_of}
use Rattle.cg_desk.specs.Bags.{AreSameTickets}
use Rattle.cg_desk.specs.Owed.{weight_calls}

-- the weight of a member's parked request; below, the sums over members and over replies
abbrev pub own : (Ticket → ℕ) → Member → ℕ
own weight m = weight_calls weight (option_to_list (called Any m.waits))

abbrev pub waits_of : (Ticket → ℕ) → List Member → ℕ
waits_of weight members = sum_by (own weight) members

abbrev pub told_of : (Ticket → ℕ) → List (Ticket × Reply) → ℕ
told_of weight replies = weight_calls weight (calls_of replies)

-- the weight of what a step has answered and of what is parked in its group
abbrev pub total : (Ticket → ℕ) → Turn → ℕ
total weight t = told_of weight t.replies + waits_of weight t.group.members

-- what a step has answered and what is parked after it are what was parked before it and the request that it comes from
abbrev pub TakesIn : Group → Ticket → Turn → Type 0
TakesIn g ticket t = AreSameTickets (λ weight. total weight t) (λ weight. waits_of weight g.members + weight ticket)

-- the same for an event that comes from no request
abbrev pub TakesNone : Group → Turn → Type 0
TakesNone g t = AreSameTickets (λ weight. total weight t) (λ weight. waits_of weight g.members)

-- every step of a group keeps its requests
pub record TurnsKeepTheirCalls : Type 0 where
  pub first_join : (now : ℕ) (r : JoinRequest) (id : List ℕ) (ticket : Ticket) (g : Group) → TakesIn g ticket (add_member_and_rebalance now r id ticket g)
  pub join : (now : ℕ) (r : JoinRequest) (id : List ℕ) (ticket : Ticket) (m : Member) (g : Group) → is_some (find_member id g.members) ≡ true → TakesIn g ticket (join_known now r id ticket m g)
  pub replace : (now : ℕ) (r : JoinRequest) (id : List ℕ) (ticket : Ticket) (old : Member) (g : Group) → are_distinct (instances g.members) ≡ true → find_instance r.instance g.members ≡ Some old → TakesIn g ticket (replace_static_member now r id ticket old g)
  pub sync : (now : ℕ) (r : SyncRequest) (id : List ℕ) (ticket : Ticket) (m : Member) (g : Group) (phase : Phase) → is_some (find_member id g.members) ≡ true → TakesIn g ticket (sync_taken now r id ticket m g phase)
  pub beat : (now : ℕ) (id : List ℕ) (ticket : Ticket) (g : Group) → TakesIn g ticket (beat_taken now id ticket g)
  pub leave : (now : ℕ) (id : List ℕ) (ticket : Ticket) (m : Member) (g : Group) → are_distinct (ids g.members) ≡ true → find_member id g.members ≡ Some m → TakesIn g ticket (leave_taken now id ticket m g)
  pub commit : (now : ℕ) (entries : List CommitEntry) (ticket : Ticket) (who : Option (List ℕ)) (g : Group) → TakesIn g ticket (committed now entries ticket (hearing_committer now who g))
  pub gone : (now session : ℕ) (g : Group) → TakesNone g (gone_in now session g)
  pub tick : (now : ℕ) (g : Group) → TakesNone g (ticked now g)
