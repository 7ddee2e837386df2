-- The records of groups, and the changes of a record.
use Rattle.std.specs.Prelude.{◌≡◌, ◌⊎◌, ℕ, List, Option, Some, None, refl}
use Rattle.std.proofs.Common.{inl, inr}
use Rattle.std.specs.Option.{option_map}
use Rattle.std.specs.Coded.{Coded, code_by, coded×, coded⊎, coded_list, coded_option, coded_ℕ}
use Rattle.std.specs.FinMap.{find, put}
use Rattle.cg_record.specs.declared.assigned.Assigned.{Assigned}
use Rattle.cg_record.specs.declared.emptied.Emptied.{Emptied}
use Rattle.cg_record.specs.declared.member_record.MemberRecord.{MemberRecord}
use Rattle.cg_record.specs.Rosters.{RosterParts, replaced_in}
use Rattle.cg_fold.specs.declared.group_record.GroupRecord.{GroupRecord}
use Rattle.cg_fold.specs.declared.group_record.RecordedMembers.{RecordedMembers}
use Rattle.cg_fold.specs.declared.group_record.RecordedMembers.TheVariants.{Empty, Roster}
use Rattle.cg_fold.specs.Key.{name_cmp}
use Rattle.cg_fold.specs.Grouped.{OfGroup}

-- a record with the id of its group
abbrev pub KeptRecord : Type 0
KeptRecord = OfGroup GroupRecord

-- the record of a group whose members have their assignments
abbrev pub assigned_record : Assigned → GroupRecord
assigned_record a = record { generation = a.generation; kind = a.kind; members = Roster a.roster }

-- the record of a group without members
abbrev pub emptied_record : Emptied → GroupRecord
emptied_record e = record { generation = e.generation; kind = e.kind; members = Empty e.moment }

-- the members after the replacement of one, if it is allowed
abbrev pub replaced_members : MemberRecord → RecordedMembers → RecordedMembers
replaced_members new (Empty moment) = Empty moment
replaced_members new (Roster roster) = Roster (replaced_in new roster)

-- the record after the replacement of a member, if it is allowed
abbrev pub replaced_record : MemberRecord → GroupRecord → GroupRecord
replaced_record new r = record r { members = replaced_members new r.members }

-- the roster of the members, if there are any
abbrev pub roster_in : RecordedMembers → Option RosterParts
roster_in (Empty moment) = None
roster_in (Roster roster) = Some roster

-- the sorted records with a new one, if there is one
abbrev pub put_found : List ℕ → Option GroupRecord → List KeptRecord → List KeptRecord
put_found group None records = records
put_found group (Some r) records = put name_cmp group r records

-- the records with a replaced member in the record of one group
abbrev pub replaced_among : List ℕ → MemberRecord → List KeptRecord → List KeptRecord
replaced_among group new records = put_found group (option_map (replaced_record new) (find name_cmp group records)) records

-- a member, a roster, the members of a record and a record have the codes of their parts
abbrev pub member_code : Coded MemberRecord
member_code = code_by (List ℕ × (Option (List ℕ) × (List ℕ × (ℕ × (ℕ × (List ℕ × List ℕ))))))
    (coded× (coded_list coded_ℕ) (coded× (coded_option (coded_list coded_ℕ)) (coded× (coded_list coded_ℕ) (coded× coded_ℕ (coded× coded_ℕ (coded× (coded_list coded_ℕ) (coded_list coded_ℕ)))))))
    (λ m. (m.id, (m.instance, (m.client, (m.session, (m.rebalance, (m.subscription, m.assignment)))))))
    (λ p. record { id = p.0; instance = p.1.0; client = p.1.1.0; session = p.1.1.1.0; rebalance = p.1.1.1.1.0; subscription = p.1.1.1.1.1.0; assignment = p.1.1.1.1.1.1 })
    (λ _. refl)

abbrev pub roster_code : Coded RosterParts
roster_code = code_by (List ℕ × (List ℕ × List MemberRecord)) (coded× (coded_list coded_ℕ) (coded× (coded_list coded_ℕ) (coded_list member_code))) (λ r. (r.protocol, (r.leader, r.members))) (λ p. record { protocol = p.0; leader = p.1.0; members = p.1.1 }) (λ _. refl)

abbrev pub parts_of : RecordedMembers → Option ℕ ⊎ RosterParts
parts_of (Empty moment) = inl moment
parts_of (Roster roster) = inr roster

abbrev pub members_of : Option ℕ ⊎ RosterParts → RecordedMembers
members_of (inl moment) = Empty moment
members_of (inr roster) = Roster roster

pub members_of-parts_of : (members : RecordedMembers) → members_of (parts_of members) ≡ members
members_of-parts_of (Empty moment) = refl
members_of-parts_of (Roster roster) = refl

abbrev pub members_code : Coded RecordedMembers
members_code = code_by (Option ℕ ⊎ RosterParts) (coded⊎ (coded_option coded_ℕ) roster_code) parts_of members_of members_of-parts_of

abbrev pub record_code : Coded GroupRecord
record_code = code_by (ℕ × (List ℕ × RecordedMembers)) (coded× coded_ℕ (coded× (coded_list coded_ℕ) members_code)) (λ r. (r.generation, (r.kind, r.members))) (λ p. record { generation = p.0; kind = p.1.0; members = p.1.1 }) (λ _. refl)
