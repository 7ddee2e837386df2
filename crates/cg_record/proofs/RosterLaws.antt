-- The laws of a roster and of an assigned group: each decoder accepts exactly the encoding.
use Rattle.std.proofs.Common.{◌≡◌, ℕ, true, List, [], ◌∷◌, ◌++◌, length, refl, sym, subst, append_assoc, arith}
use Rattle.std.specs.List.{flat_map, AllByRecursion}
use Rattle.std.proofs.lemmas.List.{append-nil}
use Rattle.cg_names.specs.declared.name.TheConstants.{NAME_BYTES_MAX, MEMBER_ID_BYTES_MAX}
use Rattle.cg_names.specs.declared.generation.TheConstants.{GENERATION_MAX}
use Rattle.cg_record.specs.declared.roster.TheConstants.{MEMBERS_MAX}
use Rattle.cg_record.specs.declared.fault.RecordFault.TheVariants.{BadName, BadLength}
use Rattle.cg_record.specs.declared.member_record.MemberRecord.{MemberRecord}
use Rattle.cg_record.specs.declared.assigned.Assigned.{Assigned}
use Rattle.cg_record.specs.Rosters.{RosterParts, roster_of, have_one_name, is_led_by, AreApart, AreMembers}
use Rattle.cg_record.specs.Members.{IsMember, member_text, member_at}
use Rattle.cg_record.specs.Lawful.{IsJoined, IsAssigned}
use Rattle.cg_record.specs.Texts.{four, name_text}
use Rattle.cg_record.specs.Fields.{is_from_to, many_at}
use Rattle.cg_record.specs.Spelling.{roster_text, assigned_text}
use Rattle.cg_record.specs.Reading.{listed_at, roster_at, assigned_at}
use Rattle.cg_record.proofs.Keys.{IsDistinct-push, IsDistinct-middle, IsDistinct-nil}
use Rattle.cg_record.proofs.Laws.{Reads, reads_only, reads_then, reads_end, reads_as}
use Rattle.cg_record.proofs.FieldLaws.{reads_four, reads_name, from_to-true, is_from_to-true}
use Rattle.cg_record.proofs.ManyLaws.{Grows, AreRead, reads_many, reads_counted}
use Rattle.cg_record.proofs.MemberLaws.{IsNext, reads_member}

members_grow : Grows AreApart IsNext
members_grow = record {
  nil = IsDistinct-nil have_one_name;
  push = λ front m apart new. IsDistinct-push have_one_name front m apart new;
  middle = λ front m more apart. IsDistinct-middle have_one_name front m more apart;
}

pub reads_members : (n : ℕ) → Reads (many_at member_at n []) (flat_map member_text) (AreRead IsMember AreApart n)
reads_members n = reads_many member_at member_text IsMember AreApart IsNext members_grow reads_member n

-- the members of a group, each in range
abbrev pub AreListed : List MemberRecord → Type 0
AreListed members = AreMembers members × AllByRecursion IsMember members

abbrev listed_text : List MemberRecord → List ℕ
listed_text members = length members ∷ flat_map member_text members

pub reads_listed : Reads listed_at listed_text AreListed
unfolding listed_at
reads_listed =
    reads_as
    (reads_counted member_at member_text IsMember AreApart IsNext members_grow reads_member MEMBERS_MAX (omega arith))
    (λ ms. refl)
    (λ ms known is. (record { some = is.some; few = is.few; apart = is.distinct }, is.each))
    (λ ms known is. record { some = is.0.some; few = is.0.few; distinct = is.0.apart; each = is.1 })

pub reads_roster : Reads roster_at roster_text IsJoined
unfolding roster_at roster_text
reads_roster =
    reads_as
    (reads_then (λ (r : RosterParts). r.protocol) (reads_name NAME_BYTES_MAX (omega arith)) (λ protocol is_protocol.
    reads_then (λ (r : RosterParts). r.leader) (reads_name MEMBER_ID_BYTES_MAX (omega arith)) (λ leader is_leader.
    reads_as {Other = λ r. AreListed r.members × (is_led_by r.leader r.members ≡ true)}
    (reads_then (λ (r : RosterParts). r.members) (reads_only (is_led_by leader) BadName reads_listed) (λ members are_members.
    reads_end (roster_of protocol leader members) (((tt, refl), refl), refl)
    (λ r known. let same : roster_of protocol leader members ≡ roster_of r.protocol r.leader r.members = cc in same)))
    (λ r. append-nil (listed_text r.members))
    (λ r known is. (is.0.0, subst (λ (l : List ℕ). is_led_by l r.members ≡ true) (sym known.1) is.0.1))
    (λ r known is. ((is.0, subst (λ (l : List ℕ). is_led_by l r.members ≡ true) known.1 is.1), tt)))))
    (λ r. sym (append_assoc (name_text r.protocol) (name_text r.leader) (listed_text r.members)))
    (λ r known is. record { protocol = is.0; leader = is.1.0; together = record { members = is.1.1.0.0; led = is.1.1.1 }; each = is.1.1.0.1 })
    (λ r known is. (is.protocol, (is.leader, ((is.together.members, is.each), is.together.led))))

abbrev pub assigned_of : List ℕ → ℕ → List ℕ → RosterParts → Assigned
assigned_of group generation kind roster = record { group = group; generation = generation; kind = kind; roster = roster }

regrouped : (a b c d : List ℕ) → a ++ (b ++ (c ++ (d ++ []))) ≡ ((a ++ b) ++ c) ++ d
regrouped a b c d = simp (append-nil, append_assoc)

pub reads_assigned : Reads assigned_at assigned_text IsAssigned
unfolding assigned_at assigned_text
reads_assigned =
    reads_as
    (reads_then (λ (a : Assigned). a.group) (reads_name NAME_BYTES_MAX (omega arith)) (λ group is_group.
    reads_then (λ (a : Assigned). a.generation) (reads_only (is_from_to 1 GENERATION_MAX) BadLength reads_four) (λ generation is_generation.
    reads_then (λ (a : Assigned). a.kind) (reads_name NAME_BYTES_MAX (omega arith)) (λ kind is_kind.
    reads_then (λ (a : Assigned). a.roster) reads_roster (λ roster is_roster.
    reads_end (assigned_of group generation kind roster) ((((tt, refl), refl), refl), refl)
    (λ a known. let same : assigned_of group generation kind roster ≡ assigned_of a.group a.generation a.kind a.roster = cc in same))))))
    (λ a. regrouped (name_text a.group) (four a.generation) (name_text a.kind) (roster_text a.roster))
    (λ a known is.
    let range = from_to-true 1 GENERATION_MAX a.generation is.1.0.1 in
    record { group = is.0; started = range.0; generation = range.1; kind = is.1.1.0; roster = is.1.1.1.0 })
    (λ a known is. (is.group, ((omega (arith, is.generation), is_from_to-true 1 GENERATION_MAX a.generation is.started is.generation), (is.kind, (is.roster, tt)))))
