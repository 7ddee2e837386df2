-- The law of a commit: its decoder accepts exactly its encoding.
use Rattle.std.proofs.Common.{◌≡◌, ℕ, ◌≤◌, ◌-◌, false, List, [], ◌∷◌, ◌++◌, length, Option, refl, sym, ap, ◌∙◌, append_assoc, arith}
use Rattle.std.specs.Prelude.{not, min}
use Rattle.std.specs.List.{flat_map, list_any, AllByRecursion}
use Rattle.std.proofs.lemmas.Bool.{leb-true, le-leb, not-true}
use Rattle.std.proofs.lemmas.List.{append-nil}
use Rattle.std.proofs.lemmas.List.Sums.{sum_by-append, sum_by-cons, sum_by_push}
use Rattle.cg_names.specs.declared.name.TheConstants.{NAME_BYTES_MAX}
use Rattle.cg_record.specs.declared.partition.TheConstants.{PARTITION_MAX}
use Rattle.cg_record.specs.declared.offset.TheConstants.{OFFSET_MAX}
use Rattle.cg_record.specs.declared.metadata.TheConstants.{METADATA_BYTES_MAX}
use Rattle.cg_record.specs.declared.entries.TheConstants.{COMMIT_METADATA_BYTES_MAX}
use Rattle.cg_record.specs.declared.format.Version.{Version}
use Rattle.cg_record.specs.declared.fault.RecordFault.TheVariants.{BadLength, Repeated}
use Rattle.cg_record.specs.declared.entry.Entry.{Entry}
use Rattle.cg_record.specs.declared.topic_partition.TopicPartition.{TopicPartition}
use Rattle.cg_record.specs.declared.committed.Committed.{Committed}
use Rattle.cg_record.specs.Keys.{have_one_key, HasDistinctKeys, metadata_bytes, metadata_room, AreEntries}
use Rattle.cg_record.specs.Lawful.{IsKey, IsEntry, IsCommitted}
use Rattle.cg_record.specs.Texts.{eight, name_text, bytes_text}
use Rattle.cg_record.specs.Partitions.{topic_partition}
use Rattle.cg_record.specs.Spelling.{key_text, entry_text, committed_text}
use Rattle.cg_record.specs.Fields.{at_most, many_at}
use Rattle.cg_record.specs.Moments.{moment_text}
use Rattle.cg_record.specs.Counts.{count_text}
use Rattle.cg_record.specs.Saying.{CanSayMoment}
use Rattle.cg_record.specs.Versions.{count_max}
use Rattle.cg_record.specs.Reading.{is_new, key_at, kept_at, entry_at, listed_entries_at, committed_at}
use Rattle.cg_record.proofs.Keys.{IsDistinct-push, IsDistinct-middle, IsDistinct-nil}
use Rattle.cg_record.proofs.Laws.{Reads, reads_only, reads_then, reads_end, reads_as}
use Rattle.cg_record.proofs.ManyLaws.{Grows, AreRead, reads_many, reads_numbered}
use Rattle.cg_record.proofs.MomentLaws.{reads_moment}
use Rattle.cg_record.proofs.CountLaws.{IsCount, max_few, reads_count}
use Rattle.cg_record.proofs.FieldLaws.{reads_four, reads_eight, reads_name, reads_text}

-- ---- a partition of a topic, and its offset and metadata

pub reads_key : Reads key_at key_text IsKey
unfolding key_at
reads_key =
    reads_as
    (reads_then (λ (k : TopicPartition). k.topic) (reads_name NAME_BYTES_MAX (omega arith)) (λ topic is_topic.
    reads_then (λ (k : TopicPartition). k.partition) (reads_only (at_most PARTITION_MAX) BadLength reads_four) (λ partition is_partition.
    reads_end (topic_partition topic partition) ((tt, refl), refl) (λ k known. let same : topic_partition topic partition ≡ topic_partition k.topic k.partition = cc in same))))
    (λ k. simp append-nil)
    (λ k known is. record { topic = is.0; partition = leb-true _ _ is.1.0.1 })
    (λ k known is. (is.topic, ((omega (arith, is.partition), le-leb _ _ is.partition), tt)))

abbrev pub kept_text : ℕ × List ℕ → List ℕ
kept_text kept = eight kept.0 ++ bytes_text kept.1

-- an offset, and at most `max` bytes of metadata
abbrev pub IsKeptIn : ℕ → ℕ × List ℕ → Type 0
IsKeptIn max k = (k.0 ≤ OFFSET_MAX) × (length k.1 ≤ max)

pub reads_kept : (max : ℕ) → max ≤ METADATA_BYTES_MAX → Reads (kept_at max) kept_text (IsKeptIn max)
unfolding kept_at
reads_kept max le =
    reads_as
    (reads_then (λ (k : ℕ × List ℕ). k.0) (reads_only (at_most OFFSET_MAX) BadLength reads_eight) (λ offset is_offset.
    reads_then (λ (k : ℕ × List ℕ). k.1) (reads_text max (omega (arith, le))) (λ metadata is_metadata.
    reads_end (offset, metadata) ((tt, refl), refl) (λ k known. let same : (offset, metadata) ≡ (k.0, k.1) = cc in same))))
    (λ k. simp append-nil)
    (λ k known is. (leb-true _ _ is.0.1, is.1.0))
    (λ k known is. let small : k.0 ≤ OFFSET_MAX = is.0 in ((omega (arith, small), le-leb _ _ is.0), (is.1, tt)))

-- ---- an entry

-- an entry for a partition that none of the others has, and whose metadata fit the commit
abbrev pub IsNext : List Entry → Entry → Type 0
IsNext front e = (list_any (λ other. have_one_key other e) front ≡ false) × (length e.metadata ≤ COMMIT_METADATA_BYTES_MAX - metadata_bytes front)

abbrev pub entry_of : TopicPartition → ℕ × List ℕ → Entry
entry_of key kept = record { key = key; offset = kept.0; metadata = kept.1 }

-- both limits of the metadata
room_parts : (n room : ℕ) → n ≤ min METADATA_BYTES_MAX room → (n ≤ METADATA_BYTES_MAX) × (n ≤ room)
room_parts n room le = (omega (arith, le), omega (arith, le))

room_join : (n room : ℕ) → n ≤ METADATA_BYTES_MAX → n ≤ room → n ≤ min METADATA_BYTES_MAX room
room_join n room own total = omega (arith, own, total)

pub room_small : (room : ℕ) → min METADATA_BYTES_MAX room ≤ METADATA_BYTES_MAX
room_small room = omega arith

pub reads_entry : (front : List Entry) → Reads (entry_at front) entry_text (λ e. IsEntry e × IsNext front e)
unfolding entry_at entry_text
reads_entry front =
    let room = COMMIT_METADATA_BYTES_MAX - metadata_bytes front in
    reads_as
    (reads_then (λ (e : Entry). e.key) (reads_only (is_new front) Repeated reads_key) (λ key is_key.
    reads_then (λ (e : Entry). (e.offset, e.metadata)) (reads_kept (metadata_room front) (room_small (COMMIT_METADATA_BYTES_MAX - metadata_bytes front))) (λ kept is_kept.
    reads_end (entry_of key kept) ((tt, refl), refl) (λ e known. sym (ap (λ (k : TopicPartition). entry_of k (e.offset, e.metadata)) known.0.1 ∙ ap (entry_of key) known.1)))))
    (λ e. ap (λ (more : List ℕ). key_text e.key ++ more) (append-nil (kept_text (e.offset, e.metadata))) ∙ sym (append_assoc (key_text e.key) (eight e.offset) (bytes_text e.metadata)))
    (λ e known is.
    let short = room_parts (length e.metadata) (COMMIT_METADATA_BYTES_MAX - metadata_bytes front) is.1.0.1 in
    (record { key = is.0.0; kept = record { offset = is.1.0.0; metadata = short.0 } }, (not-true _ is.0.1, short.1)))
    (λ e known is.
    let short = room_join (length e.metadata) (COMMIT_METADATA_BYTES_MAX - metadata_bytes front) is.0.kept.metadata is.1.1 in
    ((is.0.key, ap not is.1.0), ((is.0.kept.offset, short), tt)))

-- ---- entries

-- entries for different partitions, whose metadata fit one commit
abbrev pub AreApart : List Entry → Type 0
AreApart entries = HasDistinctKeys entries × (metadata_bytes entries ≤ COMMIT_METADATA_BYTES_MAX)

abbrev size_of : Entry → ℕ
size_of e = length e.metadata

entries_grow : Grows AreApart IsNext
entries_grow = record {
  nil = (IsDistinct-nil have_one_key, omega arith);
  push = λ front e apart new.
      let small : metadata_bytes front ≤ COMMIT_METADATA_BYTES_MAX = apart.1 in
      let fits : length e.metadata ≤ COMMIT_METADATA_BYTES_MAX - metadata_bytes front = new.1 in
      (IsDistinct-push have_one_key front e apart.0 new.0, omega (arith, small, fits, sum_by_push size_of front e));
  middle = λ front e more apart.
      let small : metadata_bytes (front ++ e ∷ more) ≤ COMMIT_METADATA_BYTES_MAX = apart.1 in
      (IsDistinct-middle have_one_key front e more apart.0, omega (arith, small, sum_by-append size_of front (e ∷ more), sum_by-cons size_of e more));
}

pub reads_entries : (n : ℕ) → Reads (many_at entry_at n []) (flat_map entry_text) (AreRead IsEntry AreApart n)
reads_entries n = reads_many entry_at entry_text IsEntry AreApart IsNext entries_grow reads_entry n

abbrev pub AreListed : Version → List Entry → Type 0
AreListed version entries = IsCount version (length entries) × (AreApart entries × AllByRecursion IsEntry entries)

abbrev listed_text : Version → List Entry → List ℕ
listed_text version entries = count_text version (length entries) ++ flat_map entry_text entries

pub reads_listed_entries : (version : Version) → Reads (listed_entries_at version) (listed_text version) (AreListed version)
unfolding listed_entries_at
reads_listed_entries version = reads_numbered entry_at entry_text IsEntry AreApart IsNext entries_grow reads_entry (reads_count version)

pub entries_are : (version : Version) (entries : List Entry) → AreListed version entries → AreEntries entries
entries_are version entries is =
    let most : length entries ≤ count_max version = is.0.1 in
    record { distinct = record { some = is.0.0; few = omega (arith, most, max_few version); distinct = is.1.0.0 }; metadata = is.1.0.1 }

-- ---- a commit

abbrev pub commit_of : List ℕ → Option ℕ → List Entry → Committed
commit_of group moment entries = record { group = group; moment = moment; entries = entries }

regrouped : (a b c : List ℕ) → a ++ (b ++ (c ++ [])) ≡ (a ++ b) ++ c
regrouped a b c = simp (append-nil, append_assoc)

-- a commit that the version can say
abbrev pub IsCommittedIn : Version → Committed → Type 0
IsCommittedIn version c = IsCommitted c × (CanSayMoment version c.moment × (length c.entries ≤ count_max version))

pub reads_committed : (version : Version) → Reads (committed_at version) (committed_text version) (IsCommittedIn version)
unfolding committed_at committed_text
reads_committed version =
    reads_as
    (reads_then (λ (c : Committed). c.group) (reads_name NAME_BYTES_MAX (omega arith)) (λ group is_group.
    reads_then (λ (c : Committed). c.moment) (reads_moment version) (λ moment is_moment.
    reads_then (λ (c : Committed). c.entries) (reads_listed_entries version) (λ entries are_entries.
    reads_end (commit_of group moment entries) (((tt, refl), refl), refl)
    (λ c known. let same : commit_of group moment entries ≡ commit_of c.group c.moment c.entries = cc in same)))))
    (λ c. regrouped (name_text c.group) (moment_text version c.moment) (listed_text version c.entries))
    (λ c known is. (record { group = is.0; moment = is.1.0.0; entries = entries_are version c.entries is.1.1.0; each = is.1.1.0.1.1 }, (is.1.0.1, is.1.1.0.0.1)))
    (λ c known is. (is.0.group, ((is.0.moment, is.1.0), (((is.0.entries.distinct.some, is.1.1), ((is.0.entries.distinct.distinct, is.0.entries.metadata), is.0.each)), tt))))
