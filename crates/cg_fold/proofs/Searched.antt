-- A binary search among partitions that are in order.
use Rattle.std.proofs.Common.{⊎_elim, ◌≡◌, ℕ, ◌<◌, ◌≤◌, Bool, true, false, List, length, get_or, zero-le, Result, Ok, Err, sym, ap, subst, ◌∙◌, refl, arith}
use Rattle.std.proofs.Math.Dec.{T}
use Rattle.std.specs.Bool.{OnTrue}
use Rattle.std.specs.Prelude.{◌==◌, bytes_eq, is_ok}
use Rattle.std.specs.List.{IsAllAdjacentAnswer}
use Rattle.std.specs.List.Sorted.{IsBinarySearchResult, IsNonDecreasingBy, IsPartitionPoint, IsSearchInRange}
use Rattle.std.specs.Cmp.{tied_itself}
use Rattle.std.specs.Ordering.{is_lt, ordering_index}
use Rattle.std.specs.declared.cmp.Ordering.{Ordering}
use Rattle.std.specs.declared.cmp.Ordering.TheVariants.{Less, Equal, Greater}
use Rattle.std.proofs.lemmas.Bool.{cases_lt}
use Rattle.std.proofs.lemmas.Bool.Decides.{Decides-eqb}
use Rattle.std.proofs.lemmas.Slice.Eq.{bytes_eq-Decides}
use Rattle.std.proofs.lemmas.List.Folds.{list_any_at, list_any_none}
use Rattle.std.proofs.lemmas.List.Sorted.{IsNonDecreasingBy-from_all_adjacent}
use Rattle.cg_record.specs.declared.topic_partition.TopicPartition.{TopicPartition}
use Rattle.cg_record.specs.Partitions.{are_one, partition_cmp, topic_partition}
use Rattle.cg_fold.specs.Key.{AreInOrder, is_among}
use Rattle.cg_fold.proofs.KeyOrder.{partition_total, partition_same}
use Rattle.cg_fold.proofs.Place.{and, both, less}
use Rattle.cg_fold.proofs.Put.{tested, is_true}

pub one_partition : (a b : TopicPartition) → are_one a b ≡ true → a ≡ b
one_partition a b one =
    let parts = both (a.partition == b.partition) (bytes_eq a.topic b.topic) (tested one) in
    let partition = (Decides-eqb a.partition b.partition).0 (is_true (a.partition == b.partition) parts.0) in
    let topic = (bytes_eq-Decides a.topic b.topic).0 (is_true (bytes_eq a.topic b.topic) parts.1) in
    ap (λ t. topic_partition t a.partition) topic ∙ ap (topic_partition b.topic) partition

one_itself : (a : TopicPartition) → are_one a a ≡ true
one_itself a =
    is_true _ (and (a.partition == a.partition) (bytes_eq a.topic a.topic)
    (tested ((Decides-eqb a.partition a.partition).1 refl)) (tested ((bytes_eq-Decides a.topic a.topic).1 refl)))

-- how far up a partition stands against another one
abbrev place_of : TopicPartition → TopicPartition → ℕ
place_of key partition = ordering_index (partition_cmp partition key)

rises : (a b key : TopicPartition) → partition_cmp a b ≡ Less → place_of key a ≤ place_of key b
rises a b key before = step (partition_cmp b key) refl
  where
    step : (o : Ordering) → partition_cmp b key ≡ o → place_of key a ≤ ordering_index o
    step Less is = subst (λ o. ordering_index o ≤ 0) (sym (partition_total.trans a b key before is)) (omega arith)
    step Equal is = subst (λ o. ordering_index o ≤ 1) (sym before ∙ ap (partition_cmp a) (partition_same b key is)) (omega arith)
    step Greater is = top (partition_cmp a key)
      where
        top : (o : Ordering) → ordering_index o ≤ 2
        top Less = omega arith
        top Equal = omega arith
        top Greater = omega arith

-- what a comparison of neighbours finds
pub in_order_where : (partitions : List TopicPartition) (b : Bool) → IsAllAdjacentAnswer (λ p q r. r ≡ is_lt (partition_cmp p q)) partitions b → OnTrue b (AreInOrder partitions)
in_order_where partitions true each = λ k d inside. less _ (subst T (each k d inside) tt)
in_order_where partitions false some = tt

risen : (partitions : List TopicPartition) (key : TopicPartition) → AreInOrder partitions → IsNonDecreasingBy (place_of key) partitions
risen partitions key ordered = IsNonDecreasingBy-from_all_adjacent (place_of key) partitions (λ k d inside. rises _ _ key (ordered k d inside))

pub searched : (partitions : List TopicPartition) (key : TopicPartition) (r : Result ℕ ℕ) → AreInOrder partitions → IsSearchInRange r (length partitions)
    → IsBinarySearchResult (λ p. partition_cmp p key) partitions r → is_ok r ≡ is_among partitions key
searched partitions key (Ok i) ordered within at =
    let same : get_or partitions i key ≡ key = partition_same (get_or partitions i key) key (at key) in
    sym (list_any_at (are_one key) partitions i key within (ap (are_one key) same ∙ one_itself key))
searched partitions key (Err i) ordered within split =
    sym (list_any_none (are_one key) partitions other)
  where
    point : IsPartitionPoint (λ p. partition_cmp p key ≡ Less) (λ p. partition_cmp p key ≡ Greater) partitions i
    point = split (risen partitions key ordered)

    tie : (k : ℕ) (d : TopicPartition) → are_one key (get_or partitions k d) ≡ true → partition_cmp (get_or partitions k d) key ≡ Equal
    tie k d one = ap (λ p. partition_cmp p key) (sym (one_partition key (get_or partitions k d) one)) ∙ tied_itself partition_total key

    apart : (k : ℕ) (d : TopicPartition) → k < length partitions → partition_cmp (get_or partitions k d) key ≡ Equal → ⊥
    apart k d inside same = ⊎_elim
        (λ (before : k < i). let clash : Less ≡ Equal = sym (point.0 k d zero-le before) ∙ same in cc)
        (λ (after : i ≤ k). let clash : Greater ≡ Equal = sym (point.1 k d after inside) ∙ same in cc)
        (cases_lt k i)

    other : (k : ℕ) (d : TopicPartition) → k < length partitions → are_one key (get_or partitions k d) ≡ false
    other k d inside = step (are_one key (get_or partitions k d)) refl
      where
        step : (b : Bool) → are_one key (get_or partitions k d) ≡ b → b ≡ false
        step false is = refl
        step true is = absurd (apart k d inside (tie k d is))
