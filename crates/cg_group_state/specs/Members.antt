-- Which members one group can have.
use Rattle.std.specs.Prelude.{◌≡◌, ℕ, ◌≤◌, true, List, length, map}
use Rattle.std.specs.List.{flat_map}
use Rattle.std.specs.Option.{option_to_list}
use Rattle.cg_record.specs.declared.roster.TheConstants.{MEMBERS_MAX}
use Rattle.cg_group_state.specs.declared.member.Member.{Member}
use Rattle.cg_request.specs.Names.{are_distinct}

-- the ids of the members, in joining order
abbrev pub ids : List Member → List (List ℕ)
ids members = map (λ m. m.id) members

-- the instances of the static members
abbrev pub instances : List Member → List (List ℕ)
instances members = flat_map (λ m. option_to_list m.instance) members

-- no two members share an id or an instance
abbrev pub AreDistinct : List Member → Type 0
AreDistinct members = (are_distinct (ids members) ≡ true) × (are_distinct (instances members) ≡ true)

-- the members of one group
pub record AreMembers (members : List Member) : Type 0 where
  pub few : length members ≤ MEMBERS_MAX
  pub distinct : AreDistinct members
