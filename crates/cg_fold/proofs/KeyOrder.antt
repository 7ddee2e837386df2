-- The orders of keys and of partitions are total, and only equal ones compare equal.
use Rattle.std.proofs.Common.{◌≡◌, ℕ, List, refl, ap, ◌∙◌}
use Rattle.std.specs.Ordering.{nat_cmp, ordering_then}
use Rattle.std.specs.Cmp.{IsTotalOrder, then_total, on_total, nat_cmp_total, tied_itself}
use Rattle.std.specs.Cmp.Lexicographic.{nat_list_cmp_total}
use Rattle.std.specs.declared.cmp.Ordering.{Ordering}
use Rattle.std.specs.declared.cmp.Ordering.TheVariants.{Less, Equal, Greater}
use Rattle.std.specs.FinMap.{IsAntisymmetric, nat_cmp-IsAntisymmetric, slice_cmp-IsAntisymmetric}
use Rattle.cg_record.specs.declared.topic_partition.TopicPartition.{TopicPartition}
use Rattle.cg_record.specs.Partitions.{partition_cmp, topic_partition}
use Rattle.cg_fold.specs.Key.{key_cmp, key_of, name_cmp}

pub partition_total : IsTotalOrder partition_cmp
partition_total = then_total (on_total (λ p. p.topic) nat_list_cmp_total) (on_total (λ p. p.partition) nat_cmp_total)

pub key_total : IsTotalOrder key_cmp
key_total = then_total (on_total (λ k. k.group) nat_list_cmp_total) (on_total (λ k. k.partition) partition_total)

pub name_total : IsTotalOrder name_cmp
name_total = nat_list_cmp_total

pub name_same : IsAntisymmetric name_cmp
name_same = slice_cmp-IsAntisymmetric nat_cmp-IsAntisymmetric

-- if two orders in turn give Equal, each of them does
both_tie : (a b : Ordering) → ordering_then a b ≡ Equal → (a ≡ Equal) × (b ≡ Equal)
both_tie Less b e = absurd (cc e)
both_tie Equal b e = (refl, e)
both_tie Greater b e = absurd (cc e)

pub partition_same : IsAntisymmetric partition_cmp
partition_same x y tie =
    let parts = both_tie (name_cmp x.topic y.topic) (nat_cmp x.partition y.partition) tie in
    ap (λ t. topic_partition t x.partition) (name_same x.topic y.topic parts.0) ∙ ap (topic_partition y.topic) (nat_cmp-IsAntisymmetric x.partition y.partition parts.1)

pub key_same : IsAntisymmetric key_cmp
key_same x y tie =
    let parts = both_tie (name_cmp x.group y.group) (partition_cmp x.partition y.partition) tie in
    ap (λ g. key_of g x.partition) (name_same x.group y.group parts.0) ∙ ap (key_of y.group) (partition_same x.partition y.partition parts.1)

-- the order of the partitions of a group is that of their keys
pub cmp_in : (g : List ℕ) (a b : TopicPartition) → key_cmp (key_of g a) (key_of g b) ≡ partition_cmp a b
cmp_in g a b = ap (λ o. ordering_then o (partition_cmp a b)) (tied_itself name_total g)
