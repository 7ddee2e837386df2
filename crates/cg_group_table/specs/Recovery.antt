-- Recovery: the groups that have a record or an offset, as the last command on each left them.
use Rattle.std.specs.Prelude.{ℕ, List, [], ◌∷◌, map, Option, Some, None}
use Rattle.std.specs.FinMap as finmap
use Rattle.cg_fold.specs.declared.group_record.GroupRecord.{GroupRecord}
use Rattle.cg_fold.specs.Durable.{State}
use Rattle.cg_fold.specs.Snapshot.{groups_in, in_order}
use Rattle.cg_record.specs.declared.member_record.MemberRecord.{MemberRecord}
use Rattle.cg_fold.specs.declared.group_record.RecordedMembers.{RecordedMembers}
use Rattle.cg_fold.specs.declared.group_record.RecordedMembers.TheVariants as recorded
use Rattle.cg_group_state.specs.declared.group.Group.{Group}
use Rattle.cg_group_state.specs.declared.group.Phase.TheVariants.{Empty, Stable}
use Rattle.cg_group_state.specs.declared.member.Member.{Member}
use Rattle.cg_group_state.specs.declared.member.Waits.TheVariants.{Nothing}
use Rattle.cg_group_rules.specs.Join.{new_group}
use Rattle.cg_group_table.specs.GroupTable.{Machine}

-- a member is heard at the moment of recovery, and its list is the chosen protocol alone
unfoldable pub revived_member : ℕ → List ℕ → MemberRecord → Member
revived_member now protocol m = record {
  id = m.id;
  instance = m.instance;
  client = m.client;
  session = m.session;
  rebalance = m.rebalance;
  protocols = record { name = protocol; subscription = m.subscription } ∷ [];
  assignment = m.assignment;
  heard = now;
  waits = Nothing;
}

-- a record with members makes a stable group, one without members an empty group
unfoldable pub revived_with : ℕ → List ℕ → GroupRecord → RecordedMembers → Group
revived_with now id r (recorded.Roster roster) = record {
  id = id;
  phase = Stable;
  generation = r.generation;
  kind = Some r.kind;
  protocol = Some roster.protocol;
  leader = Some roster.leader;
  members = map (revived_member now roster.protocol) roster.members;
  started = 0;
  emptied = None;
}
revived_with now id r (recorded.Empty moment) = record {
  id = id;
  phase = Empty;
  generation = r.generation;
  kind = Some r.kind;
  protocol = None;
  leader = None;
  members = [];
  started = 0;
  emptied = moment;
}

-- offsets without a record make an empty group of generation 0 without a type
abbrev pub revived_from : ℕ → List ℕ → Option GroupRecord → Group
revived_from now id None = new_group id
revived_from now id (Some r) = revived_with now id r r.members

-- the group with this id
unfoldable pub revived : ℕ → State → List ℕ → Group
revived now state id = revived_from now id (finmap.get state.records id)

-- the state of the machine after recovery
unfoldable pub revive : State → ℕ → Machine
revive state now = record { groups = map (revived now state) (in_order (groups_in state)); offsets = state.offsets; last = now; loaded = now }
