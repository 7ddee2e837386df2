-- The ways of a JOIN: whether its group is loaded, and what it comes to there.
use Rattle.std.proofs.Common.{◌≡◌, ℕ, true, false, List, is_some, Option, Some, None, Ok, refl, ap, sym, subst, ◌∙◌}
use Rattle.std.specs.Prelude.{is_ok}
use Rattle.cg_group_state.specs.declared.effects.Effects.{Effects}
use Rattle.cg_group_state.specs.declared.group.Group.{Group}
use Rattle.cg_group_state.specs.declared.member.Member.{Member}
use Rattle.cg_group_state.specs.declared.turn.Turn.{Turn}
use Rattle.cg_group_state.specs.JoinTerms.{is_session_refused}
use Rattle.cg_group_rules.specs.Join.{update_member_and_rebalance, updating, waiting}
use Rattle.cg_group_state.specs.Membership.{find_instance}
use Rattle.cg_group_rules.specs.Rebalance.{turn_of, turned}
use Rattle.cg_group_state.specs.declared.member.Waits.TheVariants.{Join}
use Rattle.cg_request.specs.declared.request_fields.JoinRequest.{JoinRequest}
use Rattle.cg_request.specs.declared.ticket.Ticket.{Ticket}
use Rattle.cg_group_rules.specs.JoinChecks.{join_held, join_placed}
use Rattle.cg_group_rules.specs.JoinWays.{IsJoinWay, IsParked}
use Rattle.cg_group_rules.specs.declared.join_way.JoinWay.{JoinWay}
use Rattle.cg_group_rules.specs.declared.join_way.JoinWay.TheVariants as way
use Rattle.cg_group.specs.InPlace.{IsCallOf, IsJoinIn, IsNamed, IsStepped, IsWay, Parks, StepParks}
use Rattle.cg_group.specs.Machine.{concluded, join}
use Rattle.cg_group_table.specs.GroupChanges.{KeepsId, StepsTo}
use Rattle.cg_group_table.specs.GroupTable.{IsHeld, at_moment, find_group, outcome}
use Rattle.cg_group_table.proofs.Framed.{framed-update_member_and_rebalance, framed-add_member_and_rebalance, framed-replace_static_member}
use Rattle.cg_group_table.proofs.Mapped.{keeps_step}
use Rattle.cg_group.proofs.Displacing.{parks_joined}
use Rattle.cg_group.proofs.InPlace.{join_here}
use Rattle.cg_group.proofs.KnownSessions.{parks-join}
use Rattle.cg_group.proofs.Stepped.{concluded_stepped, step_parks}

-- the way in a loaded group
pub way_held : (r : JoinRequest) (fresh : List ℕ) (groups : List Group) (own : List ℕ) (g : Group) → IsNamed r.group groups own g → is_session_refused r ≡ false → (w : JoinWay) → IsJoinWay r fresh g w → IsWay r fresh groups own w
way_held r fresh groups own g named session (way.Refused code) h = λ now ticket. join_here now r fresh ticket groups own g named session ∙ h now ticket
way_held r fresh groups own g named session way.Creates h = absurd h
way_held r fresh groups own g named session (way.Current id reply) h = record { group = g; named = named; session = session; way = h }
way_held r fresh groups own g named session (way.Parks id older) h = record { group = g; named = named; session = session; way = h }
way_held r fresh groups own g named session (way.Rejoins id) h = record { group = g; named = named; session = session; way = h }
way_held r fresh groups own g named session way.Enters h = record { group = g; named = named; session = session; way = h }
way_held r fresh groups own g named session way.Joins h = record { group = g; named = named; session = session; way = h }

-- a JOIN in a loaded group comes to a step of the group
module _ (r : JoinRequest) (groups : List Group) (own : List ℕ) (holds : Group → Type 0) (at : IsJoinIn r groups own holds) where
  pub same_joined : (g : Group) → find_group own groups ≡ Some g → at.group ≡ g
  same_joined g found = let same : Some at.group ≡ Some g = sym at.named.found ∙ found in cc

  pub held_joined : IsHeld groups own
  held_joined = ap is_some at.named.found

  pub holds_joined : (g : Group) → find_group own groups ≡ Some g → holds g
  holds_joined g found = subst holds (same_joined g found) at.way

  module _ (now : ℕ) (fresh : List ℕ) (ticket : Ticket) (step : Group → Turn) (comes : join_held now r fresh ticket r.member at.group ≡ Ok (step at.group)) where
    joined : (g : Group) → find_group own groups ≡ Some g → (t : Turn) → t ≡ step g → join now r fresh ticket groups ≡ Ok t
    joined g found t is = join_here now r fresh ticket groups own at.group at.named at.session ∙ comes ∙ ap (λ k. Ok (step k)) (same_joined g found) ∙ ap Ok (sym is)

    pub joined_taken : is_ok (join now r fresh ticket groups) ≡ true
    joined_taken = ap is_ok (joined at.group at.named.found (step at.group) refl)

    pub joined_parks : (g after : Group) (e : Effects) → find_group own groups ≡ Some g → turned after e ≡ step g → StepParks groups ticket (turned after e)
    joined_parks g after e found is = step_parks now groups ticket (join now r fresh ticket groups) (turned after e) (joined g found (turned after e) is) (parks-join now groups ticket r fresh)

    pub joined_is : {E : Type 0} (later : List Group) (e : Effects) → IsStepped {E = E} (λ g. StepsTo (λ t. t ≡ step g) g) own groups later e → concluded (at_moment now groups) ticket (join now r fresh ticket groups) ≡ outcome (at_moment now later) e
    joined_is later e s = concluded_stepped (λ g t. t ≡ step g) own groups later e s (join now r fresh ticket groups) (λ g found t is. joined g found t is) now ticket

-- these steps keep the id of their group
pub keeps_again : {E : Type 0} (now : ℕ) (r : JoinRequest) (id : List ℕ) (ticket : Ticket) → KeepsId (λ g. StepsTo {E = E} (λ t. t ≡ update_member_and_rebalance now r id ticket g) g)
keeps_again now r id ticket = keeps_step (λ g t. t ≡ update_member_and_rebalance now r id ticket g) (λ g t is. ap (λ (u : Turn). u.group.id) is ∙ (framed-update_member_and_rebalance now r id ticket g).0)

id-placed : (now : ℕ) (r : JoinRequest) (id : List ℕ) (ticket : Ticket) (g : Group) (o : Option Member) → (join_placed now r id ticket g o).group.id ≡ g.id
id-placed now r id ticket g None = (framed-add_member_and_rebalance now r id ticket g).0
id-placed now r id ticket g (Some old) = (framed-replace_static_member now r id ticket old g).0

pub keeps_placed : {E : Type 0} (now : ℕ) (r : JoinRequest) (id : List ℕ) (ticket : Ticket) → KeepsId (λ g. StepsTo {E = E} (λ t. t ≡ join_placed now r id ticket g (find_instance r.instance g.members)) g)
keeps_placed now r id ticket =
    keeps_step (λ g t. t ≡ join_placed now r id ticket g (find_instance r.instance g.members))
    (λ g t is. ap (λ (u : Turn). u.group.id) is ∙ id-placed now r id ticket g (find_instance r.instance g.members))

-- a JOIN that is only parked
module _ (r : JoinRequest) (groups : List Group) (own id : List ℕ) (older : Option Ticket) (at : IsJoinIn r groups own (λ g. IsParked r g id older)) (now : ℕ) (fresh : List ℕ) (ticket : Ticket) where
  abbrev parked_step : Group → Turn
  parked_step g = waiting now id (Join ticket) (turn_of (updating r id g))

  pub parked_taken : is_ok (join now r fresh ticket groups) ≡ true
  parked_taken = joined_taken r groups own (λ g. IsParked r g id older) at now fresh ticket parked_step (at.way.taken now fresh ticket)

  pub parked_call : (g : Group) → find_group own groups ≡ Some g → IsCallOf older id g
  parked_call g found = let is = holds_joined r groups own (λ g. IsParked r g id older) at g found in record { member = is.member; found = is.found; called = is.called }

  pub parked_parks : (g after : Group) (e : Effects) → find_group own groups ≡ Some g → turned after e ≡ parked_step g → Parks ticket older g after
  parked_parks g after e found is = parks_joined now r id ticket older g after e (parked_call g found) is

  pub parked_is : {E : Type 0} (later : List Group) (e : Effects) → IsStepped {E = E} (λ g. StepsTo (λ t. t ≡ parked_step g) g) own groups later e → concluded (at_moment now groups) ticket (join now r fresh ticket groups) ≡ outcome (at_moment now later) e
  parked_is later e s = joined_is r groups own (λ g. IsParked r g id older) at now fresh ticket parked_step (at.way.taken now fresh ticket) later e s
