-- The session index: which groups may have a parked call of which session.
use Rattle.std.specs.Prelude.{◌≡◌, ℕ, Bool, true, false, List, Option, Some, None, is_some, option_to_list}
use Rattle.std.specs.List.{flat_map}
use Rattle.std.specs.BTreeMap as map
use Rattle.std.specs.BTreeMap.{BTreeMap}
use Rattle.std.specs.Ordering.{nat_cmp}
use Rattle.std.specs.Cmp.Lexicographic.{slice_cmp}
use Rattle.cg_request.specs.declared.event.Event.{Event}
use Rattle.cg_request.specs.declared.event.Event.TheVariants as event
use Rattle.cg_request.specs.declared.ticket.Ticket.{Ticket}
use Rattle.cg_group_state.specs.declared.calls.Calls.TheVariants.{Any, OfSession}
use Rattle.cg_group_state.specs.declared.group.Group.{Group}
use Rattle.cg_group_state.specs.declared.member.Member.{Member}
use Rattle.cg_group_state.specs.declared.member.Waits.{Waits}
use Rattle.cg_group_state.specs.declared.member.Waits.TheVariants.{Nothing, Join, Sync}
use Rattle.cg_group_state.specs.declared.reply.Reply.{Reply}
use Rattle.cg_group_state.specs.Waiting.{answers, called, refusing}
use Rattle.cg_names.specs.declared.code.Code.TheVariants.{CoordinatorNotAvailable}
use Rattle.cg_group_table.specs.declared.session_index.Home.{Home}
use Rattle.cg_group_table.specs.declared.session_index.Home.TheVariants.{Certain, Doubtful}
use Rattle.cg_group_table.specs.GroupTable.{find_group}
use Rattle.cg_group_table.specs.Kept.{Each}
use Rattle.cg_group_rules.specs.TickDeadline.{gone_touches}

-- the member has no parked call, or one of these sessions
abbrev pub is_known : (ℕ → Bool) → Waits → Bool
is_known sessions Nothing = true
is_known sessions (Join t) = sessions t.session
is_known sessions (Sync t) = sessions t.session

-- each member of the group has no parked call, or one of these sessions
abbrev pub Known : (ℕ → Bool) → Group → Type 0
Known sessions g = Each (λ m. is_known sessions m.waits ≡ true) g.members

-- the index has each parked call: its session with its group
abbrev pub AreKnown : (ℕ → List ℕ → Bool) → List Group → Type 0
AreKnown homes groups = Each (λ g. Known (λ session. homes session g.id) g) groups

-- if the event's call may be parked, the index has its session with the group that it names
abbrev pub Owns : (ℕ → List ℕ → Bool) → Event → Type 0
Owns homes (event.Join ticket r fresh) = (id : List ℕ) → r.group ≡ Some id → homes ticket.session id ≡ true
Owns homes (event.Sync ticket r) = (id : List ℕ) → r.group ≡ Some id → homes ticket.session id ≡ true
Owns homes (event.Beat ticket r) = Unit {0}
Owns homes (event.Leave ticket r) = Unit {0}
Owns homes (event.Commit ticket r) = Unit {0}
Owns homes (event.Fetch ticket r) = Unit {0}
Owns homes (event.Delete ticket id) = Unit {0}
Owns homes (event.Drop ticket r) = Unit {0}
Owns homes (event.Describe ticket id) = Unit {0}
Owns homes (event.List ticket) = Unit {0}
Owns homes (event.Gone session) = Unit {0}
Owns homes event.Tick = Unit {0}

-- the group is one of these
abbrev pub is_noted : List ℕ → Option (BTreeMap (List ℕ) Home) → Bool
is_noted id None = false
is_noted id (Some groups) = is_some (map.get (slice_cmp nat_cmp) groups id)

-- the index has the group for the session
abbrev pub is_home : BTreeMap ℕ (BTreeMap (List ℕ) Home) → ℕ → List ℕ → Bool
is_home homes session id = is_noted id (map.get nat_cmp homes session)

-- the index has the session
abbrev pub has_homes : BTreeMap ℕ (BTreeMap (List ℕ) Home) → ℕ → Bool
has_homes homes session = is_some (map.get nat_cmp homes session)

-- the entry says that a call is parked
abbrev pub is_lived_in : Option Home → Bool
is_lived_in None = false
is_lived_in (Some Certain) = true
is_lived_in (Some Doubtful) = false

-- the group is one of these, as one in which a call is parked
abbrev pub is_certain_in : List ℕ → Option (BTreeMap (List ℕ) Home) → Bool
is_certain_in id None = false
is_certain_in id (Some groups) = is_lived_in (map.get (slice_cmp nat_cmp) groups id)

-- the index has the group for the session, as one in which a call is parked
abbrev pub is_certain : BTreeMap ℕ (BTreeMap (List ℕ) Home) → ℕ → List ℕ → Bool
is_certain homes session id = is_certain_in id (map.get nat_cmp homes session)

-- the group is one of these only if a call is parked in it
abbrev pub IsSettledIn : List ℕ → Option (BTreeMap (List ℕ) Home) → Type 0
IsSettledIn id groups = is_noted id groups ≡ true → is_certain_in id groups ≡ true

-- a session that the index has has a group
abbrev pub IsFilled : Option (BTreeMap (List ℕ) Home) → Type 0
IsFilled None = Unit {0}
IsFilled (Some groups) = map.IsEmpty groups → ⊥

-- the index has the group for the session only if a call is parked in it, and the session only with a group
abbrev pub IsSettled : BTreeMap ℕ (BTreeMap (List ℕ) Home) → ℕ → List ℕ → Type 0
IsSettled homes session id = IsSettledIn id (map.get nat_cmp homes session) × IsFilled (map.get nat_cmp homes session)

-- a call of the session is parked in the group
abbrev pub is_parked : ℕ → Option Group → Bool
is_parked session None = false
is_parked session (Some g) = gone_touches session g

-- the parked calls of these members, in their order
abbrev pub parked_calls : List Member → List Ticket
parked_calls members = flat_map (λ m. option_to_list (called Any m.waits)) members

-- if the index has the group for the session, a call of the session is parked there
abbrev pub IsLetGo : BTreeMap ℕ (BTreeMap (List ℕ) Home) → List Group → List ℕ → ℕ → Type 0
IsLetGo homes groups id session = is_home homes session id ≡ true → is_parked session (find_group id groups) ≡ true

-- the session of the parked call, if there is one, has this property
abbrev pub IfParked : (ℕ → Type 0) → Option Ticket → Type 0
IfParked P None = Unit {0}
IfParked P (Some t) = P t.session

-- the index has no more than it needs: for each session the groups in which a call of it is parked, and only sessions
-- with a group
abbrev pub IsTight : BTreeMap ℕ (BTreeMap (List ℕ) Home) → List Group → Type 0
IsTight homes groups = ((session : ℕ) (id : List ℕ) → IsLetGo homes groups id session) × ((session : ℕ) → IsFilled (map.get nat_cmp homes session))

-- each call that was parked in one of these groups is parked in it in the others too
abbrev pub StayParked : List Group → List Group → Type 0
StayParked groups others = (session : ℕ) (id : List ℕ) → is_parked session (find_group id groups) ≡ true → is_parked session (find_group id others) ≡ true

-- the replies to the parked calls of a session that ends: each gets 15
abbrev pub refusals : ℕ → List Group → List (Ticket × Reply)
refusals session groups = flat_map (λ (g : Group). answers (OfSession session) (refusing CoordinatorNotAvailable) g.members) groups
