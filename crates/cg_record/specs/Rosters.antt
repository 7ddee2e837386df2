-- Which members a stable group can have, and the replacement of one (KIP-345).
use Rattle.std.specs.Prelude.{◌≡◌, ℕ, ◌<◌, ◌≤◌, Bool, true, false, not, ◌||◌, ◌&&◌, List, length, map, slice_index_or, Option, Some, None, IsTrue, if◌then◌else◌}
use Rattle.std.specs.List.{list_any, IsDistinct}
use Rattle.std.specs.Str.{bytes_eq}
use Rattle.cg_record.specs.declared.roster.TheConstants.{MEMBERS_MAX}
use Rattle.cg_record.specs.declared.member_record.MemberRecord.{MemberRecord}

-- the protocol of a completed rebalance, its leader, and the members in joining order
pub record RosterParts : Type 0 where
  pub protocol : List ℕ
  pub leader : List ℕ
  pub members : List MemberRecord

-- the record of these parts
abbrev pub roster_of : List ℕ → List ℕ → List MemberRecord → RosterParts
roster_of protocol leader members = record { protocol = protocol; leader = leader; members = members }

-- the member has this id
abbrev pub has_id : List ℕ → MemberRecord → Bool
has_id id member = bytes_eq member.id id

-- both instances are given, and are equal
abbrev pub is_one_instance : Option (List ℕ) → Option (List ℕ) → Bool
is_one_instance (Some a) (Some b) = bytes_eq a b
is_one_instance (Some a) None = false
is_one_instance None b = false

-- the member has this instance
abbrev pub has_instance : Option (List ℕ) → MemberRecord → Bool
has_instance instance member = is_one_instance member.instance instance

-- both have the same id, or the same instance
abbrev pub have_one_name : MemberRecord → MemberRecord → Bool
have_one_name a b = has_id b.id a || has_instance b.instance a

-- one of the members has the leader's id
abbrev pub is_led_by : List ℕ → List MemberRecord → Bool
is_led_by leader members = list_any (has_id leader) members

-- no two members have the same id or instance
abbrev pub AreApart : List MemberRecord → Type 0
AreApart members = IsDistinct have_one_name members

-- the members of one group
pub record AreMembers (members : List MemberRecord) : Type 0 where
  pub some : 1 ≤ length members
  pub few : length members ≤ MEMBERS_MAX
  pub apart : AreApart members

-- the members of one group, one of whom leads
pub record IsRoster (roster : RosterParts) : Type 0 where
  pub members : AreMembers roster.members
  pub led : IsTrue (is_led_by roster.leader roster.members)

-- ---- the replacement of a member (KIP-345)

-- the new member has the old one's instance
abbrev pub takes_place_of : MemberRecord → MemberRecord → Bool
takes_place_of new old = has_instance new.instance old

-- the new member has the id of a member that it does not replace
abbrev pub has_id_of_other : MemberRecord → MemberRecord → Bool
has_id_of_other new other = has_id new.id other && not (takes_place_of new other)

-- one of the members has the new one's instance, and no other has its id
abbrev pub may_replace : MemberRecord → List MemberRecord → Bool
may_replace new members = list_any (takes_place_of new) members && not (list_any (has_id_of_other new) members)

-- the index of the member that the new one may replace
pub record IsPlace (new : MemberRecord) (members : List MemberRecord) (at : ℕ) : Type 0 where
  pub may : may_replace new members ≡ true
  pub within : at < length members
  pub taken : (d : MemberRecord) → takes_place_of new (slice_index_or members at d) ≡ true

-- the new member, if it replaces this one
abbrev pub seated : MemberRecord → MemberRecord → MemberRecord
seated new old = if takes_place_of new old then new else old

-- the replaced member leads
abbrev pub leads_and_goes : MemberRecord → List ℕ → MemberRecord → Bool
leads_and_goes new leader old = takes_place_of new old && has_id leader old

-- the new one's id, if it replaces the leader
abbrev pub leader_after : MemberRecord → RosterParts → List ℕ
leader_after new roster = if list_any (leads_and_goes new roster.leader) roster.members then new.id else roster.leader

-- the members after the replacement, if it is allowed
unfoldable pub replaced_in : MemberRecord → RosterParts → RosterParts
replaced_in new roster =
    if may_replace new roster.members then roster_of roster.protocol (leader_after new roster) (map (seated new) roster.members)
    else roster
