-- topic:partition:offset:bytes and topic:partition, parsed and spelled.
use Rattle.std.proofs.Common.{◌≡◌, ℕ, ◌^◌, ◌<◌, ◌≤◌, true, false, List, [], ◌∷◌, ◌++◌, length, map, refl, ap, sym, subst, ◌∙◌, arith, eqb}
use Rattle.std.specs.Prelude.{◌&&◌, nat_le}
use Rattle.std.specs.List.{list_all, AllByRecursion, IsDistinct}
use Rattle.std.specs.Fmt.{decimal}
use Rattle.std.specs.Str.{bytes_eq}
use Rattle.std.proofs.lemmas.Bool.{eqb-true, leb-true, le-leb}
use Rattle.std.proofs.lemmas.List.{length-map}
use Rattle.std.proofs.lemmas.Slice.Eq.{bytes_eq-Decides}
use Rattle.std.proofs.Math.Bool.{and_comm}
use Rattle.cg_names.specs.declared.name.TheConstants.{NAME_BYTES_MAX}
use Rattle.cg_record.specs.declared.entries.TheConstants.{ENTRIES_MAX}
use Rattle.cg_record.specs.declared.offset.TheConstants.{OFFSET_MAX}
use Rattle.cg_record.specs.declared.partition.TheConstants.{PARTITION_MAX}
use Rattle.cg_record.specs.declared.topic_partition.TopicPartition.{TopicPartition}
use Rattle.cg_record.specs.Lawful.{IsKey}
use Rattle.cg_record.specs.Partitions.{ArePartitions, are_one, topic_partition}
use Rattle.cg_request.specs.declared.commit_entry.CommitEntry.{CommitEntry}
use Rattle.cg_request.specs.Commits.{AreCommits, share_partition}
use Rattle.cg_line.specs.Fields.{bytes_in, is_bytes, is_name}
use Rattle.cg_line.specs.Numbers.{is_digit, is_number, value_of}
use Rattle.cg_line.specs.Parsing.{are_commits, are_partitions, commit_in, have_own_places, is_commit, is_partition, is_place, metadata_field, offset_field, partition_field, partition_in, share_place, topic_field}
use Rattle.cg_line.specs.Requests.{IsCommitEntry, commit_word, partition_word}
use Rattle.cg_line.specs.Splitting.{before, behind, joined}
use Rattle.cg_line.specs.Words.{bytes_word}
use Rattle.cg_line.proofs.Apart.{own_places}
use Rattle.cg_line.proofs.Decimals.{decimal-value_of, digits_of_number, is_number-decimal, value_of-decimal, value_of-le}
use Rattle.cg_line.proofs.Generations.{decimal_free}
use Rattle.cg_line.proofs.Hexed.{bytes_in-bytes_word, bytes_spelled, is_bytes-bytes_word}
use Rattle.cg_line.proofs.Joined.{IsFree, before-free, before-joined, behind-joined, free_append, free_from, joined-cut}
use Rattle.cg_line.proofs.Keyed.{bytes_some}
use Rattle.cg_line.proofs.Lists.{pass_all, read_all}
use Rattle.cg_line.proofs.Optionals.{IsName-from_test, bytes_free, is_name-from_name, name_free}
use Rattle.cg_line.proofs.Value.{both_of}

some_joined : (a b : List ℕ) (mark : ℕ) → 0 < length (a ++ mark ∷ b)
some_joined [] b mark = omega arith
some_joined (x ∷ xs) b mark = omega arith

-- if the part after a mark is joined itself, it is not empty
some_behind : (mark : ℕ) (w : List ℕ) → 0 < length (behind mark w) → 0 < length w
some_behind mark w some =
    let P : List ℕ → Type 0 = λ v. 0 < length v in
    subst P (joined-cut mark w some) (some_joined (before mark w) (behind mark w) mark)

partition_small : (n : ℕ) → n ≤ PARTITION_MAX → n < 2 ^ 64
partition_small n within = omega arith

offset_small : (n : ℕ) → n ≤ OFFSET_MAX → n < 2 ^ 64
offset_small n within = omega arith

-- numbers with equal spellings are equal
same_number : (most : ℕ) (a b : List ℕ) → most < 2 ^ 64 → is_number most a ≡ true → is_number most b ≡ true → bytes_eq a b ≡ eqb (value_of a) (value_of b)
same_number most a b small is_a is_b =
    elim (eqb (value_of a) (value_of b)) as (λ t. eqb (value_of a) (value_of b) ≡ t → bytes_eq a b ≡ t) [
      | true ↦ λ same.
          let values = ap decimal (eqb-true _ _ same) in
          (bytes_eq-Decides a b).1 (sym (decimal-value_of most a small is_a) ∙ (values ∙ decimal-value_of most b small is_b))
      | false ↦ λ other. elim (bytes_eq a b) as (λ t. bytes_eq a b ≡ t → t ≡ false) [
        | true ↦ λ same. absurd (
            let texts = (bytes_eq-Decides a b).0 same in
            let P : List ℕ → Type 0 = λ v. eqb (value_of a) (value_of v) ≡ false in
            let wrong = subst P (sym texts) other in
            grind arith)
        | false ↦ λ _. refl
      ] refl
    ] refl

-- commits
pub record CommitParts (w : List ℕ) : Type 0 where
  pub topic : is_name NAME_BYTES_MAX (topic_field w) ≡ true
  pub partition : is_number PARTITION_MAX (partition_field w) ≡ true
  pub offset : is_number OFFSET_MAX (offset_field w) ≡ true
  pub metadata : is_bytes (metadata_field w) ≡ true

commit_parts : (w : List ℕ) → is_commit w ≡ true → CommitParts w
unfolding is_commit is_place
commit_parts w is =
    let a = both_of (is_place w && is_number OFFSET_MAX (offset_field w)) (is_bytes (metadata_field w)) is in
    let b = both_of (is_place w) (is_number OFFSET_MAX (offset_field w)) a.0 in
    let c = both_of (is_name NAME_BYTES_MAX (topic_field w)) (is_number PARTITION_MAX (partition_field w)) b.0 in
    record { topic = c.0; partition = c.1; offset = b.1; metadata = a.1 }

pub commit_spelled : (w : List ℕ) → is_commit w ≡ true → commit_word (commit_in w) ≡ w
unfolding commit_in joined
commit_spelled w is =
    let parts = commit_parts w is in
    let third = bytes_some (metadata_field w) parts.metadata in
    let second = some_behind 58 (behind 58 (behind 58 w)) third in
    let first = some_behind 58 (behind 58 w) second in
    ap (λ rest. topic_field w ++ 58 ∷ (decimal (value_of (partition_field w)) ++ 58 ∷ (decimal (value_of (offset_field w)) ++ 58 ∷ rest))) (bytes_spelled (metadata_field w) parts.metadata).0
    ∙ (ap (λ o. topic_field w ++ 58 ∷ (decimal (value_of (partition_field w)) ++ 58 ∷ (o ++ 58 ∷ metadata_field w))) (decimal-value_of OFFSET_MAX (offset_field w) (offset_small OFFSET_MAX (omega arith)) parts.offset)
    ∙ (ap (λ p. topic_field w ++ 58 ∷ (p ++ 58 ∷ (offset_field w ++ 58 ∷ metadata_field w))) (decimal-value_of PARTITION_MAX (partition_field w) (partition_small PARTITION_MAX (omega arith)) parts.partition)
    ∙ (ap (λ rest. topic_field w ++ 58 ∷ (partition_field w ++ 58 ∷ rest)) (joined-cut 58 (behind 58 (behind 58 w)) third)
    ∙ (ap (λ rest. topic_field w ++ 58 ∷ rest) (joined-cut 58 (behind 58 w) second)
    ∙ joined-cut 58 w first))))

pub commit_lawful : (w : List ℕ) → is_commit w ≡ true → IsCommitEntry (commit_in w)
unfolding commit_in
commit_lawful w is =
    let parts = commit_parts w is in
    record {
      key = record { topic = IsName-from_test NAME_BYTES_MAX (topic_field w) parts.topic; partition = value_of-le PARTITION_MAX (partition_field w) parts.partition };
      offset = value_of-le OFFSET_MAX (offset_field w) parts.offset;
      metadata = (bytes_spelled (metadata_field w) parts.metadata).1;
    }

-- the fields of a commit's word
pub record HasFields (w t p o m : List ℕ) : Type 0 where
  pub topic : topic_field w ≡ t
  pub partition : partition_field w ≡ p
  pub offset : offset_field w ≡ o
  pub metadata : metadata_field w ≡ m

fields_of : (t p o m : List ℕ) → IsFree 58 t → IsFree 58 p → IsFree 58 o → HasFields (joined 58 (t ∷ p ∷ o ∷ m ∷ [])) t p o m
unfolding joined
fields_of t p o m free_t free_p free_o =
    let one = behind-joined 58 t (p ++ 58 ∷ (o ++ 58 ∷ m)) free_t in
    let two = behind-joined 58 p (o ++ 58 ∷ m) free_p in
    let three = behind-joined 58 o m free_o in
    record {
      topic = before-joined 58 t (p ++ 58 ∷ (o ++ 58 ∷ m)) free_t;
      partition = ap (before 58) one ∙ before-joined 58 p (o ++ 58 ∷ m) free_p;
      offset = ap (λ v. before 58 (behind 58 v)) one ∙ (ap (before 58) two ∙ before-joined 58 o m free_o);
      metadata = ap (λ v. behind 58 (behind 58 v)) one ∙ (ap (behind 58) two ∙ three);
    }

fields_of_word : (e : CommitEntry) → IsCommitEntry e → HasFields (commit_word e) e.key.topic (decimal e.key.partition) (decimal e.offset) (bytes_word e.metadata)
fields_of_word e is =
    fields_of e.key.topic (decimal e.key.partition) (decimal e.offset) (bytes_word e.metadata) (name_free 58 NAME_BYTES_MAX e.key.topic refl is.key.topic)
    (decimal_free 58 e.key.partition refl (partition_small e.key.partition is.key.partition)) (decimal_free 58 e.offset refl (offset_small e.offset is.offset))

pub is_commit-word : (e : CommitEntry) → IsCommitEntry e → is_commit (commit_word e) ≡ true
unfolding is_commit is_place
is_commit-word e is =
    let fields = fields_of_word e is in
    rw (
      fields.topic,
      fields.partition,
      fields.offset,
      fields.metadata,
      is_name-from_name NAME_BYTES_MAX e.key.topic is.key.topic,
      is_number-decimal PARTITION_MAX e.key.partition is.key.partition (partition_small e.key.partition is.key.partition),
      is_number-decimal OFFSET_MAX e.offset is.offset (offset_small e.offset is.offset),
    ) (is_bytes-bytes_word e.metadata is.metadata)

made : (t : List ℕ) (p o : ℕ) (m : List ℕ) (e : CommitEntry) → t ≡ e.key.topic → p ≡ e.key.partition → o ≡ e.offset → m ≡ e.metadata
    → record { key = topic_partition t p; offset = o; metadata = m } ≡ e
made t p o m e is_t is_p is_o is_m = rw (is_t, is_p, is_o, is_m) refl

pub commit_in-word : (e : CommitEntry) → IsCommitEntry e → commit_in (commit_word e) ≡ e
unfolding commit_in
commit_in-word e is =
    let fields = fields_of_word e is in
    made (topic_field (commit_word e)) (value_of (partition_field (commit_word e))) (value_of (offset_field (commit_word e))) (bytes_in (metadata_field (commit_word e))) e fields.topic
    (ap value_of fields.partition ∙ value_of-decimal e.key.partition (partition_small e.key.partition is.key.partition))
    (ap value_of fields.offset ∙ value_of-decimal e.offset (offset_small e.offset is.offset))
    (ap bytes_in fields.metadata ∙ bytes_in-bytes_word e.metadata is.metadata)

free_mark : (mark : ℕ) (w : List ℕ) → eqb mark 32 ≡ false → IsFree 32 w → IsFree 32 (mark ∷ w)
free_mark mark w other free = rw other free

pub commit_free : (e : CommitEntry) → IsCommitEntry e → IsFree 32 (commit_word e)
unfolding joined
commit_free e is =
    let p = decimal_free 32 e.key.partition refl (partition_small e.key.partition is.key.partition) in
    let o = decimal_free 32 e.offset refl (offset_small e.offset is.offset) in
    let m = bytes_free 32 e.metadata refl refl is.metadata in
    let rest = free_append 32 (decimal e.offset) (58 ∷ bytes_word e.metadata) o (free_mark 58 (bytes_word e.metadata) refl m) in
    let more = free_append 32 (decimal e.key.partition) (58 ∷ (decimal e.offset ++ 58 ∷ bytes_word e.metadata)) p (free_mark 58 (decimal e.offset ++ 58 ∷ bytes_word e.metadata) refl rest) in
    free_append 32 e.key.topic (58 ∷ (decimal e.key.partition ++ 58 ∷ (decimal e.offset ++ 58 ∷ bytes_word e.metadata))) (name_free 32 NAME_BYTES_MAX e.key.topic refl is.key.topic)
    (free_mark 58 (decimal e.key.partition ++ 58 ∷ (decimal e.offset ++ 58 ∷ bytes_word e.metadata)) refl more)

share_agree : (a b : List ℕ) → is_commit a ≡ true → is_commit b ≡ true → share_place a b ≡ share_partition (commit_in a) (commit_in b)
unfolding share_place commit_in
share_agree a b is_a is_b =
    let left = commit_parts a is_a in
    let right = commit_parts b is_b in
    and_comm (bytes_eq (topic_field a) (topic_field b)) (bytes_eq (partition_field a) (partition_field b))
    ∙ ap (λ t. t && bytes_eq (topic_field a) (topic_field b)) (same_number PARTITION_MAX (partition_field a) (partition_field b) (partition_small PARTITION_MAX (omega arith)) left.partition right.partition)

pub record AreCommitWords (ws : List (List ℕ)) : Type 0 where
  pub some : 1 ≤ length ws
  pub few : length ws ≤ ENTRIES_MAX
  pub each : list_all is_commit ws ≡ true
  pub apart : have_own_places ws ≡ true

pub commit_words_parts : (ws : List (List ℕ)) → are_commits ws ≡ true → AreCommitWords ws
unfolding are_commits
commit_words_parts ws are =
    let a = both_of (nat_le 1 (length ws) && nat_le (length ws) ENTRIES_MAX && list_all is_commit ws) (have_own_places ws) are in
    let b = both_of (nat_le 1 (length ws) && nat_le (length ws) ENTRIES_MAX) (list_all is_commit ws) a.0 in
    let c = both_of (nat_le 1 (length ws)) (nat_le (length ws) ENTRIES_MAX) b.0 in
    record { some = leb-true _ _ c.0; few = leb-true _ _ c.1; each = b.1; apart = a.1 }

pub commits_lawful : (ws : List (List ℕ)) → are_commits ws ≡ true → AreCommits (map commit_in ws)
commits_lawful ws are =
    let words = commit_words_parts ws are in
    let len = length-map ws commit_in in
    let some = words.some in
    let few = words.few in
    let own = own_places share_partition is_commit commit_in share_agree ws words.each in
    record { some = omega (arith, len); few = omega (arith, len); distinct = own.0 words.apart }

pub are_commits-words : (es : List CommitEntry) → AreCommits es → AllByRecursion IsCommitEntry es → are_commits (map commit_word es) ≡ true
unfolding are_commits
are_commits-words es are each =
    let pass = pass_all IsCommitEntry is_commit commit_word is_commit-word es each in
    let back = read_all IsCommitEntry commit_in commit_word commit_in-word es each in
    let own = own_places share_partition is_commit commit_in share_agree (map commit_word es) pass in
    let apart = own.1 (subst (λ (read : List CommitEntry). IsDistinct share_partition read) (sym back) are.distinct) in
    rw (length-map es commit_word, le-leb 1 (length es) are.some, le-leb (length es) ENTRIES_MAX are.few, pass) apart

-- partitions
pub record PartitionParts (w : List ℕ) : Type 0 where
  pub topic : is_name NAME_BYTES_MAX (before 58 w) ≡ true
  pub partition : is_number PARTITION_MAX (behind 58 w) ≡ true

partition_parts : (w : List ℕ) → is_partition w ≡ true → PartitionParts w
unfolding is_partition
partition_parts w is =
    let a = both_of (is_name NAME_BYTES_MAX (before 58 w)) (is_number PARTITION_MAX (behind 58 w)) is in
    record { topic = a.0; partition = a.1 }

number_some : (most : ℕ) (w : List ℕ) → is_number most w ≡ true → 0 < length w
unfolding is_number
number_some most [] is = absurd (cc)
number_some most (b ∷ bs) is = omega arith

pub partition_spelled : (w : List ℕ) → is_partition w ≡ true → partition_word (partition_in w) ≡ w
unfolding partition_in joined
partition_spelled w is =
    let parts = partition_parts w is in
    ap (λ p. before 58 w ++ 58 ∷ p) (decimal-value_of PARTITION_MAX (behind 58 w) (partition_small PARTITION_MAX (omega arith)) parts.partition)
    ∙ joined-cut 58 w (number_some PARTITION_MAX (behind 58 w) parts.partition)

pub partition_lawful : (w : List ℕ) → is_partition w ≡ true → IsKey (partition_in w)
unfolding partition_in
partition_lawful w is =
    let parts = partition_parts w is in
    record { topic = IsName-from_test NAME_BYTES_MAX (before 58 w) parts.topic; partition = value_of-le PARTITION_MAX (behind 58 w) parts.partition }

pub is_partition-word : (p : TopicPartition) → IsKey p → is_partition (partition_word p) ≡ true
unfolding is_partition joined
is_partition-word p is =
    let free = name_free 58 NAME_BYTES_MAX p.topic refl is.topic in
    rw (before-joined 58 p.topic (decimal p.partition) free, behind-joined 58 p.topic (decimal p.partition) free, is_name-from_name NAME_BYTES_MAX p.topic is.topic)
    (is_number-decimal PARTITION_MAX p.partition is.partition (partition_small p.partition is.partition))

pub partition_in-word : (p : TopicPartition) → IsKey p → partition_in (partition_word p) ≡ p
unfolding partition_in joined
partition_in-word p is =
    let free = name_free 58 NAME_BYTES_MAX p.topic refl is.topic in
    rw (before-joined 58 p.topic (decimal p.partition) free, behind-joined 58 p.topic (decimal p.partition) free)
    (ap (topic_partition p.topic) (value_of-decimal p.partition (partition_small p.partition is.partition)))

pub partition_free : (p : TopicPartition) → IsKey p → IsFree 32 (partition_word p)
unfolding joined
partition_free p is =
    free_append 32 p.topic (58 ∷ decimal p.partition) (name_free 32 NAME_BYTES_MAX p.topic refl is.topic)
    (free_mark 58 (decimal p.partition) refl (decimal_free 32 p.partition refl (partition_small p.partition is.partition)))

-- the partition number in a FETCH's word has no colon after it
plain_field : (w : List ℕ) → is_partition w ≡ true → partition_field w ≡ behind 58 w
plain_field w is = before-free 58 (behind 58 w) (free_from is_digit 58 (behind 58 w) refl (digits_of_number PARTITION_MAX (behind 58 w) (partition_parts w is).partition))

one_agree : (a b : List ℕ) → is_partition a ≡ true → is_partition b ≡ true → share_place a b ≡ are_one (partition_in a) (partition_in b)
unfolding share_place partition_in
one_agree a b is_a is_b =
    let left = partition_parts a is_a in
    let right = partition_parts b is_b in
    and_comm (bytes_eq (topic_field a) (topic_field b)) (bytes_eq (partition_field a) (partition_field b))
    ∙ (ap (λ x. bytes_eq x (partition_field b) && bytes_eq (topic_field a) (topic_field b)) (plain_field a is_a)
    ∙ (ap (λ x. bytes_eq (behind 58 a) x && bytes_eq (topic_field a) (topic_field b)) (plain_field b is_b)
    ∙ ap (λ t. t && bytes_eq (topic_field a) (topic_field b)) (same_number PARTITION_MAX (behind 58 a) (behind 58 b) (partition_small PARTITION_MAX (omega arith)) left.partition right.partition)))

pub record ArePartitionWords (ws : List (List ℕ)) : Type 0 where
  pub some : 1 ≤ length ws
  pub few : length ws ≤ ENTRIES_MAX
  pub each : list_all is_partition ws ≡ true
  pub apart : have_own_places ws ≡ true

pub partition_words_parts : (ws : List (List ℕ)) → are_partitions ws ≡ true → ArePartitionWords ws
unfolding are_partitions
partition_words_parts ws are =
    let a = both_of (nat_le 1 (length ws) && nat_le (length ws) ENTRIES_MAX && list_all is_partition ws) (have_own_places ws) are in
    let b = both_of (nat_le 1 (length ws) && nat_le (length ws) ENTRIES_MAX) (list_all is_partition ws) a.0 in
    let c = both_of (nat_le 1 (length ws)) (nat_le (length ws) ENTRIES_MAX) b.0 in
    record { some = leb-true _ _ c.0; few = leb-true _ _ c.1; each = b.1; apart = a.1 }

pub partitions_lawful : (ws : List (List ℕ)) → are_partitions ws ≡ true → ArePartitions (map partition_in ws)
partitions_lawful ws are =
    let words = partition_words_parts ws are in
    let len = length-map ws partition_in in
    let some = words.some in
    let few = words.few in
    let own = own_places are_one is_partition partition_in one_agree ws words.each in
    record { some = omega (arith, len); few = omega (arith, len); distinct = own.0 words.apart }

pub are_partitions-words : (ps : List TopicPartition) → ArePartitions ps → AllByRecursion IsKey ps → are_partitions (map partition_word ps) ≡ true
unfolding are_partitions
are_partitions-words ps are each =
    let pass = pass_all IsKey is_partition partition_word is_partition-word ps each in
    let back = read_all IsKey partition_in partition_word partition_in-word ps each in
    let own = own_places are_one is_partition partition_in one_agree (map partition_word ps) pass in
    let apart = own.1 (subst (λ (read : List TopicPartition). IsDistinct are_one read) (sym back) are.distinct) in
    rw (length-map ps partition_word, le-leb 1 (length ps) are.some, le-leb (length ps) ENTRIES_MAX are.few, pass) apart
