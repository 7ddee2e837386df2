-- The member check (KIP-345, "fencing"): the caller is a member of the group, and no other member has taken its
-- instance.
use Rattle.std.specs.Prelude.{ℕ, not, List, Option, Some, None, Result, Ok, ok_or}
use Rattle.cg_names.specs.declared.code.Code.{Code}
use Rattle.cg_names.specs.declared.code.Code.TheVariants.{FencedInstanceId, UnknownMemberId}
use Rattle.cg_group_state.specs.declared.member.Member.{Member}
use Rattle.cg_group_state.specs.Membership.{find_instance, find_member, is_named}
use Rattle.cg_group_state.specs.Checks.{◌>>=◌, refused_if}

-- if an instance is given, a member has it, and that member has the given id
unfoldable pub fencing : Option (List ℕ) → Option (List ℕ) → List Member → Result (Unit {0}) Code
fencing None member members = Ok tt
fencing (Some instance) member members = do
  m ← ok_or (find_instance (Some instance) members) UnknownMemberId
  refused_if (not (is_named member m.id)) FencedInstanceId

-- the calling member and its id, by the instance and the id in the request; a static member may give its id alone
unfoldable pub validate_current_member : Option (List ℕ) → Option (List ℕ) → List Member → Result (List ℕ × Member) Code
validate_current_member instance member members = do
  _ ← fencing instance member members
  id ← ok_or member UnknownMemberId
  m ← ok_or (find_member id members) UnknownMemberId
  Ok (id, m)
