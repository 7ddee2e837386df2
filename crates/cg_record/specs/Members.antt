-- A member of a group: its ranges, its encoding and its decoding.
use Rattle.std.specs.Prelude.{ℕ, ◌≤◌, Bool, not, List, ◌++◌, length, Option, IfSome, Ok}
use Rattle.std.specs.List.{list_any}
use Rattle.cg_names.specs.Grammar.{IsName}
use Rattle.cg_names.specs.declared.name.TheConstants.{NAME_BYTES_MAX, MEMBER_ID_BYTES_MAX}
use Rattle.cg_record.specs.declared.millis.TheConstants.{SESSION_MS_MIN, SESSION_MS_MAX, REBALANCE_MS_MAX}
use Rattle.cg_record.specs.declared.opaque.TheConstants.{SUBSCRIPTION_BYTES_MAX, ASSIGNMENT_BYTES_MAX}
use Rattle.cg_record.specs.declared.fault.RecordFault.TheVariants.{BadLength, Repeated}
use Rattle.cg_record.specs.declared.member_record.MemberRecord.{MemberRecord}
use Rattle.cg_record.specs.Rosters.{has_id, has_instance}
use Rattle.cg_record.specs.Texts.{four, name_text, optional_text, bytes_text}
use Rattle.cg_record.specs.Fields.{Read, ◌>>=◌, only, at_most, is_from_to, four_at, name_at, optional_name_at, text_at}

-- the fields of a member besides its id and instance
pub record Profile : Type 0 where
  pub client : List ℕ
  pub session : ℕ
  pub rebalance : ℕ
  pub subscription : List ℕ
  pub assignment : List ℕ

-- each field is in range
pub record IsProfile (profile : Profile) : Type 0 where
  pub client : IsName NAME_BYTES_MAX profile.client
  pub shortest : SESSION_MS_MIN ≤ profile.session
  pub longest : profile.session ≤ SESSION_MS_MAX
  pub rebalance : profile.rebalance ≤ REBALANCE_MS_MAX
  pub subscription : length profile.subscription ≤ SUBSCRIPTION_BYTES_MAX
  pub assignment : length profile.assignment ≤ ASSIGNMENT_BYTES_MAX

-- the profile of a member
abbrev pub profile_of : MemberRecord → Profile
profile_of m = record { client = m.client; session = m.session; rebalance = m.rebalance; subscription = m.subscription; assignment = m.assignment }

-- each field of the member is in range
pub record IsMember (member : MemberRecord) : Type 0 where
  pub id : IsName MEMBER_ID_BYTES_MAX member.id
  pub instance : IfSome member.instance (IsName NAME_BYTES_MAX)
  pub profile : IsProfile (profile_of member)

-- ---- encoding

unfoldable pub profile_text : Profile → List ℕ
profile_text p = name_text p.client ++ four p.session ++ four p.rebalance ++ bytes_text p.subscription ++ bytes_text p.assignment

-- the encoding of a member: id, instance, client, session and rebalance timeout, subscription, assignment
unfoldable pub member_text : MemberRecord → List ℕ
member_text m = name_text m.id ++ optional_text m.instance ++ profile_text (profile_of m)

-- ---- decoding

unfoldable pub profile_at : List ℕ → Read Profile
profile_at bytes = do
  client ← name_at NAME_BYTES_MAX bytes
  session ← only (is_from_to SESSION_MS_MIN SESSION_MS_MAX) BadLength (four_at client.1)
  rebalance ← only (at_most REBALANCE_MS_MAX) BadLength (four_at session.1)
  subscription ← text_at SUBSCRIPTION_BYTES_MAX rebalance.1
  assignment ← text_at ASSIGNMENT_BYTES_MAX subscription.1
  Ok (record { client = client.0; session = session.0; rebalance = rebalance.0; subscription = subscription.0; assignment = assignment.0 }, assignment.1)

-- a member from its parts
abbrev pub member_of : List ℕ → Option (List ℕ) → Profile → MemberRecord
member_of id instance p = record { id = id; instance = instance; client = p.client; session = p.session; rebalance = p.rebalance; subscription = p.subscription; assignment = p.assignment }

-- none of the members has this id
abbrev pub is_new_id : List MemberRecord → List ℕ → Bool
is_new_id front id = not (list_any (has_id id) front)

-- none of the members has this instance
abbrev pub is_new_instance : List MemberRecord → Option (List ℕ) → Bool
is_new_instance front instance = not (list_any (has_instance instance) front)

-- the next member of a group, after those in front
unfoldable pub member_at : List MemberRecord → List ℕ → Read MemberRecord
member_at front bytes = do
  id ← only (is_new_id front) Repeated (name_at MEMBER_ID_BYTES_MAX bytes)
  instance ← only (is_new_instance front) Repeated (optional_name_at NAME_BYTES_MAX id.1)
  profile ← profile_at instance.1
  Ok (member_of id.0 instance.0 profile.0, profile.1)
