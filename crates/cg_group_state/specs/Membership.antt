-- Look-ups and changes of the members of a group, by their ids, instances and protocols.
use Rattle.std.specs.Prelude.{ℕ, Bool, true, false, ◌&&◌, List, [], ◌∷◌, Option, Some, None, find, filter, if◌then◌else◌, map}
use Rattle.std.specs.List.{list_any}
use Rattle.std.specs.Cmp.Lexicographic.{pointwise}
use Rattle.cg_group_state.specs.declared.group.Group.{Group}
use Rattle.cg_group_state.specs.declared.group.Phase.{Phase}
use Rattle.cg_group_state.specs.declared.group.Phase.TheVariants.{Empty, Preparing, Completing, Stable}
use Rattle.cg_group_state.specs.declared.member.Member.{Member}
use Rattle.cg_request.specs.declared.protocol.Protocol.{Protocol}
pub use Rattle.cg_request.specs.Names.{is_same, is_named}

-- the member has this id
abbrev pub has_id : List ℕ → Member → Bool
has_id id m = is_same m.id id

-- an instance is given, and the member has it
abbrev pub has_instance : Option (List ℕ) → Member → Bool
has_instance None m = false
has_instance (Some instance) m = is_named m.instance instance

-- the member with this instance
unfoldable pub find_instance : Option (List ℕ) → List Member → Option Member
find_instance instance members = find (has_instance instance) members

-- the member with this id
unfoldable pub find_member : List ℕ → List Member → Option Member
find_member id members = find (has_id id) members

-- the members with the first one of this id changed
unfoldable pub with_member : List ℕ → (Member → Member) → List Member → List Member
with_member id change [] = []
with_member id change (m ∷ ms) = if has_id id m then change m ∷ ms else m ∷ with_member id change ms

-- the member, heard at this moment
abbrev pub heard : ℕ → Member → Member
heard now m = record m { heard = now }

-- the group with this member heard at this moment
unfoldable pub hearing : ℕ → List ℕ → Group → Group
hearing now id g = record g { members = with_member id (heard now) g.members }

-- the member leads the group
abbrev pub leads : Group → Member → Bool
leads g m = is_named g.leader m.id

-- some member has this id
abbrev pub has_member : List ℕ → List Member → Bool
has_member id members = list_any (λ m. is_same id m.id) members

-- some member leads the group
abbrev pub is_led : Group → Bool
is_led g = list_any (leads g) g.members

-- the leader, if it is still a member
abbrev pub leader_among : List Member → Option (List ℕ) → Option (List ℕ)
leader_among members leader = if list_any (λ m. is_named leader m.id) members then leader else None

-- the group with these members alone; if the leader is removed, the group has no leader
unfoldable pub keeping : (Member → Bool) → Group → Group
keeping stays g = record g { members = filter stays g.members; leader = leader_among (filter stays g.members) g.leader }

abbrev pub is_empty : List Member → Bool
is_empty [] = true
is_empty (m ∷ ms) = false

abbrev pub is_preparing : Phase → Bool
is_preparing Preparing = true
is_preparing Empty = false
is_preparing Completing = false
is_preparing Stable = false

abbrev pub is_stable : Phase → Bool
is_stable Stable = true
is_stable Empty = false
is_stable Preparing = false
is_stable Completing = false

-- two protocols have the same name and subscription
abbrev pub is_same_protocol : Protocol → Protocol → Bool
is_same_protocol p q = is_same p.name q.name && is_same p.subscription q.subscription

-- two protocol lists are the same: names, order and subscriptions
abbrev pub are_same_protocols : List Protocol → List Protocol → Bool
are_same_protocols = pointwise is_same_protocol

-- the new member, if it replaces this one
abbrev pub seated : Member → Member → Member
seated new m = if has_instance new.instance m then new else m

-- the members with the new one at the position of the one with its instance
unfoldable pub seating : Member → List Member → List Member
seating new members = map (seated new) members
