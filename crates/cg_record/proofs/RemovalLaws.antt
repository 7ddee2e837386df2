-- The law of a removal of offsets: its decoder accepts exactly its encoding.
use Rattle.std.proofs.Common.{◌≡◌, ℕ, ◌≤◌, false, List, [], ◌++◌, length, refl, ap, arith}
use Rattle.std.specs.Prelude.{not}
use Rattle.std.specs.List.{flat_map, list_any, IsDistinct, AllByRecursion}
use Rattle.std.proofs.lemmas.Bool.{not-true}
use Rattle.std.proofs.lemmas.List.{append-nil}
use Rattle.cg_names.specs.declared.name.TheConstants.{NAME_BYTES_MAX}
use Rattle.cg_record.specs.declared.format.Version.{Version}
use Rattle.cg_record.specs.declared.fault.RecordFault.TheVariants.{Repeated}
use Rattle.cg_record.specs.declared.topic_partition.TopicPartition.{TopicPartition}
use Rattle.cg_record.specs.Counts.{count_text}
use Rattle.cg_record.specs.Fields.{many_at}
use Rattle.cg_record.specs.Lawful.{IsKey, IsRemoval}
use Rattle.cg_record.specs.Partitions.{are_one}
use Rattle.cg_record.specs.Reading.{is_new_partition, partition_at, listed_partitions_at, removal_at}
use Rattle.cg_record.specs.Spelling.{key_text, removal_text}
use Rattle.cg_record.specs.Texts.{name_text}
use Rattle.cg_record.specs.Versions.{count_max}
use Rattle.cg_record.proofs.CommitLaws.{reads_key}
use Rattle.cg_record.proofs.CountLaws.{IsCount, max_few, reads_count}
use Rattle.cg_record.proofs.FieldLaws.{reads_name}
use Rattle.cg_record.proofs.Keys.{IsDistinct-push, IsDistinct-middle, IsDistinct-nil}
use Rattle.cg_record.proofs.Laws.{Reads, reads_only, reads_then, reads_end, reads_as}
use Rattle.cg_record.proofs.ManyLaws.{Grows, AreRead, reads_many, reads_numbered}

-- a partition that is none of the others
abbrev pub IsNext : List TopicPartition → TopicPartition → Type 0
IsNext front p = list_any (λ other. are_one other p) front ≡ false

abbrev pub AreApart : List TopicPartition → Type 0
AreApart partitions = IsDistinct are_one partitions

reads_partition : (front : List TopicPartition) → Reads (partition_at front) key_text (λ p. IsKey p × IsNext front p)
unfolding partition_at
reads_partition front =
    reads_as
    (reads_only (is_new_partition front) Repeated reads_key)
    (λ p. refl)
    (λ p known is. (is.0, not-true _ is.1))
    (λ p known is. (is.0, ap not is.1))

partitions_grow : Grows AreApart IsNext
partitions_grow = record {
  nil = IsDistinct-nil are_one;
  push = λ front p apart new. IsDistinct-push are_one front p apart new;
  middle = λ front p more apart. IsDistinct-middle are_one front p more apart;
}

pub reads_partitions : (n : ℕ) → Reads (many_at partition_at n []) (flat_map key_text) (AreRead IsKey AreApart n)
reads_partitions n = reads_many partition_at key_text IsKey AreApart IsNext partitions_grow reads_partition n

abbrev pub AreListed : Version → List TopicPartition → Type 0
AreListed version partitions = IsCount version (length partitions) × (AreApart partitions × AllByRecursion IsKey partitions)

abbrev listed_text : Version → List TopicPartition → List ℕ
listed_text version partitions = count_text version (length partitions) ++ flat_map key_text partitions

reads_listed_partitions : (version : Version) → Reads (listed_partitions_at version) (listed_text version) (AreListed version)
unfolding listed_partitions_at
reads_listed_partitions version = reads_numbered partition_at key_text IsKey AreApart IsNext partitions_grow reads_partition (reads_count version)

-- a removal that the version can say
abbrev pub IsRemovalIn : Version → List ℕ × List TopicPartition → Type 0
IsRemovalIn version r = IsRemoval r.0 r.1 × (length r.1 ≤ count_max version)

pub reads_removal : (version : Version) → Reads (removal_at version) (λ r. removal_text version r.0 r.1) (IsRemovalIn version)
unfolding removal_at removal_text
reads_removal version =
    reads_as
    (reads_then (λ (r : List ℕ × List TopicPartition). r.0) (reads_name NAME_BYTES_MAX (omega arith)) (λ group is_group.
    reads_then (λ (r : List ℕ × List TopicPartition). r.1) (reads_listed_partitions version) (λ partitions are_partitions.
    reads_end (group, partitions) ((tt, refl), refl) (λ r known. let same : (group, partitions) ≡ (r.0, r.1) = cc in same))))
    (λ r. ap (λ (more : List ℕ). name_text r.0 ++ more) (append-nil (listed_text version r.1)))
    (λ r known is.
    let most : length r.1 ≤ count_max version = is.1.0.0.1 in
    (record { group = is.0; partitions = record { some = is.1.0.0.0; few = omega (arith, most, max_few version); distinct = is.1.0.1.0 }; each = is.1.0.1.1 }, most))
    (λ r known is. (is.0.group, (((is.0.partitions.some, is.1), (is.0.partitions.distinct, is.0.each)), tt)))
