-- The members of a group in a map, each under its own id.
use Rattle.std.specs.Prelude.{◌≡◌, ℕ, List}
use Rattle.indexmap.specs.IndexMap.{IndexMap, keys, values}
use Rattle.cg_group_state.specs.declared.member.Member.{Member}
use Rattle.cg_group_state.specs.Members.{ids}

-- the key of each member is its id
abbrev pub AreKeyed : {S : Type 0} → IndexMap (List ℕ) Member S → Type 0
AreKeyed members = keys members ≡ ids (values members)
