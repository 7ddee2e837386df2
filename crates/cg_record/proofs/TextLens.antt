-- The lengths of encodings, and of lists of encodings that grow.
use Rattle.std.proofs.Common.{◌≡◌, ℕ, ◌+◌, List, ◌∷◌, ◌++◌, length, Some, None, refl, arith}
use Rattle.std.specs.List.{flat_map}
use Rattle.std.proofs.lemmas.List.{length-append}
use Rattle.cg_record.specs.declared.entry.Entry.{Entry}
use Rattle.cg_record.specs.declared.topic_partition.TopicPartition.{TopicPartition}
use Rattle.cg_record.specs.declared.emptied.Emptied.{Emptied}
use Rattle.cg_record.specs.declared.committed.Committed.{Committed}
use Rattle.cg_record.specs.declared.assigned.Assigned.{Assigned}
use Rattle.cg_record.specs.declared.member_record.MemberRecord.{MemberRecord}
use Rattle.cg_record.specs.declared.replaced.Replaced.{Replaced}
use Rattle.cg_record.specs.Rosters.{RosterParts}
use Rattle.cg_record.specs.Members.{Profile, profile_of, profile_text, member_text}
use Rattle.cg_record.specs.Versions.{newest}
use Rattle.cg_record.specs.Moments.{moment_text}
use Rattle.cg_record.specs.Counts.{count_text}
use Rattle.cg_record.specs.Texts.{number, two, four, eight, name_text, optional_text, bytes_text}
use Rattle.cg_record.specs.Spelling.{entry_text, key_text, removal_text, roster_text, assigned_text, emptied_text, replaced_text, committed_text}

four_len : (n : ℕ) → length (four n) ≡ 4
unfolding number
four_len n = refl

eight_len : (n : ℕ) → length (eight n) ≡ 8
unfolding number
eight_len n = refl

two_len : (n : ℕ) → length (two n) ≡ 2
unfolding number
two_len n = refl

count_len : (n : ℕ) → length (count_text newest n) ≡ 2
unfolding count_text
count_len n = two_len n

pub unknown_len : length (moment_text newest None) ≡ 1
unfolding moment_text
unknown_len = refl

pub known_len : (m : ℕ) → length (moment_text newest (Some m)) ≡ 9
unfolding moment_text
known_len m = omega (arith, eight_len m)

pub key_len : (k : TopicPartition) → length (key_text k) ≡ length k.topic + 5
key_len k = omega (arith, length-append (name_text k.topic) (four k.partition), four_len k.partition)

pub entry_len : (e : Entry) → length (entry_text e) ≡ length (key_text e.key) + length e.metadata + 12
unfolding entry_text
entry_len e =
    omega (
      arith,
      length-append (key_text e.key ++ eight e.offset) (bytes_text e.metadata),
      length-append (key_text e.key) (eight e.offset),
      length-append (four (length e.metadata)) e.metadata,
      eight_len e.offset,
      four_len (length e.metadata),
    )

pub committed_len : (c : Committed) → length (committed_text newest c) ≡ length c.group + length (moment_text newest c.moment) + length (flat_map entry_text c.entries) + 3
unfolding committed_text
committed_len c =
    omega (
      arith,
      length-append (name_text c.group ++ moment_text newest c.moment) (count_text newest (length c.entries) ++ flat_map entry_text c.entries),
      length-append (name_text c.group) (moment_text newest c.moment),
      length-append (count_text newest (length c.entries)) (flat_map entry_text c.entries),
      count_len (length c.entries),
    )

pub removal_len : (group : List ℕ) (partitions : List TopicPartition) → length (removal_text newest group partitions) ≡ length group + length (flat_map key_text partitions) + 3
unfolding removal_text
removal_len group partitions =
    omega (
      arith,
      length-append (name_text group) (count_text newest (length partitions) ++ flat_map key_text partitions),
      length-append (count_text newest (length partitions)) (flat_map key_text partitions),
      count_len (length partitions),
    )

profile_len : (p : Profile) → length (profile_text p) ≡ length p.client + length p.subscription + length p.assignment + 17
unfolding profile_text
profile_len p =
    omega (
      arith,
      length-append (name_text p.client ++ four p.session ++ four p.rebalance ++ bytes_text p.subscription) (bytes_text p.assignment),
      length-append (name_text p.client ++ four p.session ++ four p.rebalance) (bytes_text p.subscription),
      length-append (name_text p.client ++ four p.session) (four p.rebalance),
      length-append (name_text p.client) (four p.session),
      length-append (four (length p.subscription)) p.subscription,
      length-append (four (length p.assignment)) p.assignment,
      four_len p.session,
      four_len p.rebalance,
      four_len (length p.subscription),
      four_len (length p.assignment),
    )

pub member_len : (m : MemberRecord) → length (member_text m) ≡ length m.id + length (optional_text m.instance) + length m.client + length m.subscription + length m.assignment + 18
unfolding member_text
member_len m =
    omega (
      arith,
      length-append (name_text m.id ++ optional_text m.instance) (profile_text (profile_of m)),
      length-append (name_text m.id) (optional_text m.instance),
      profile_len (profile_of m),
    )

pub roster_len : (r : RosterParts) → length (roster_text r) ≡ length r.protocol + length r.leader + length (flat_map member_text r.members) + 3
unfolding roster_text
roster_len r =
    omega (
      arith,
      length-append (name_text r.protocol ++ name_text r.leader) (length r.members ∷ flat_map member_text r.members),
      length-append (name_text r.protocol) (name_text r.leader),
    )

pub assigned_len : (a : Assigned) → length (assigned_text a) ≡ length a.group + length a.kind + length (roster_text a.roster) + 6
unfolding assigned_text
assigned_len a =
    omega (
      arith,
      length-append (name_text a.group ++ four a.generation ++ name_text a.kind) (roster_text a.roster),
      length-append (name_text a.group ++ four a.generation) (name_text a.kind),
      length-append (name_text a.group) (four a.generation),
      four_len a.generation,
    )

pub replaced_len : (r : Replaced) → length (replaced_text r) ≡ length r.group + length (member_text r.member) + 1
unfolding replaced_text
replaced_len r = omega (arith, length-append (name_text r.group) (member_text r.member))

pub emptied_len : (e : Emptied) → length (emptied_text newest e) ≡ length e.group + length e.kind + length (moment_text newest e.moment) + 6
unfolding emptied_text
emptied_len e =
    omega (
      arith,
      length-append (name_text e.group ++ four e.generation ++ name_text e.kind) (moment_text newest e.moment),
      length-append (name_text e.group ++ four e.generation) (name_text e.kind),
      length-append (name_text e.group) (four e.generation),
      four_len e.generation,
    )
