-- An index over the entries of the leader's SYNC, and the exchange of the members' assignments.
use Rattle.std.specs.Prelude.{◌≡◌, ℕ, List, [], ◌∷◌, find, nat_eq, Option, Some, option_map, if◌then◌else◌, unwrap_or}
use Rattle.std.specs.Cmp.Lexicographic.{pointwise}
use Rattle.indexmap.specs.IndexMap.{IndexMap, get}
use Rattle.cg_request.specs.declared.request_fields.SyncEntry.{SyncEntry}
use Rattle.cg_group_state.specs.declared.member.Member.{Member}
use Rattle.cg_group_state.specs.Membership.{is_same}

-- the index has for each member the assignment of its first entry
abbrev pub IsIndex : {S : Type 0} → List SyncEntry → IndexMap (List ℕ) (List ℕ) S → Type 0
IsIndex entries index = (id : List ℕ) → get (pointwise nat_eq) index id ≡ option_map (λ e. e.assignment) (find (λ e. is_same e.member id) entries)

-- the look-up of a member after the entry is added in front of the others
abbrev pub after_note : SyncEntry → List ℕ → Option (List ℕ) → Option (List ℕ)
after_note entry id noted = if is_same entry.member id then Some entry.assignment else noted

-- the look-up of a member after the entries are added, from the last to the first
abbrev pub after_notes : List SyncEntry → List ℕ → Option (List ℕ) → Option (List ℕ)
after_notes [] id noted = noted
after_notes (entry ∷ entries) id noted = after_note entry id (after_notes entries id noted)

-- the members, each with the assignment at its place; past the end of the list they keep theirs
unfoldable pub with_assignments : List (List ℕ) → List Member → List Member
with_assignments [] members = members
with_assignments (a ∷ rest) [] = []
with_assignments (a ∷ rest) (m ∷ members) = record m { assignment = a } ∷ with_assignments rest members

-- the member's assignment in the leader's entries, or no bytes; entries for non-members are ignored
unfoldable pub assignment_for : List SyncEntry → List ℕ → List ℕ
assignment_for entries id = unwrap_or (option_map (λ e. e.assignment) (find (λ e. is_same e.member id) entries)) []

-- the member with its assignment from these entries
abbrev pub assigned : List SyncEntry → Member → Member
assigned entries m = record m { assignment = assignment_for entries m.id }
