-- The offsets of one group, and those that a commit adds.
use Rattle.std.proofs.Common.{ℕ, zero, suc, cond, take, drop, ◌+◌, ◌<◌, ◌≤◌, List, [], ◌∷◌, length, Some, None, arith, ◌≡◌}
use Rattle.std.proofs.Math.Dec.{T}
use Rattle.std.specs.List.{fold}
use Rattle.std.specs.Ordering.{is_eq, is_lt}
use Rattle.std.specs.declared.cmp.Ordering.{Ordering}
use Rattle.std.specs.declared.cmp.Ordering.TheVariants.{Less, Equal, Greater}
use Rattle.std.specs.FinMap.{find, is_sorted}
use Rattle.std.specs.FinMap.Entries.{by_order}
use Rattle.cg_record.specs.declared.topic_partition.TopicPartition.{TopicPartition}
use Rattle.cg_record.specs.Partitions.{partition_cmp}
use Rattle.cg_fold.specs.Key.{KeptRow, put_row}
use Rattle.cg_fold.proofs.KeyOrder.{partition_total}
use Rattle.cg_fold.proofs.Place.{and, below_all, both}
use Rattle.cg_fold.proofs.Put.{sorted-put}

pub sorted-fold : (rows new : List KeptRow) → T (is_sorted partition_cmp rows) → T (is_sorted partition_cmp (fold put_row rows new))
sorted-fold rows [] sorted = sorted
sorted-fold rows (row ∷ new) sorted = sorted-fold (put_row rows row) new (sorted-put partition_total row.0 row.1 rows sorted)

-- an insertion makes a list longer by at most one element, and never shorter
length-put : (row : KeptRow) (rows : List KeptRow) → (length rows ≤ length (put_row rows row)) × ((length (put_row rows row) ≤ length rows + 1) × (0 < length (put_row rows row)))
length-put row [] = (omega arith, (omega arith, omega arith))
length-put row (r ∷ rows) = step (partition_cmp row.0 r.0) (length-put row rows)
  where
    step : (o : Ordering) → (length rows ≤ length (put_row rows row)) × ((length (put_row rows row) ≤ length rows + 1) × (0 < length (put_row rows row)))
        → (suc (length rows) ≤ length (by_order o ((row.0, row.1) ∷ r ∷ rows) ((r.0, row.1) ∷ rows) (r ∷ put_row rows row)))
        × ((length (by_order o ((row.0, row.1) ∷ r ∷ rows) ((r.0, row.1) ∷ rows) (r ∷ put_row rows row)) ≤ suc (length rows) + 1)
        × (0 < length (by_order o ((row.0, row.1) ∷ r ∷ rows) ((r.0, row.1) ∷ rows) (r ∷ put_row rows row))))
    step Less rest = (omega arith, (omega arith, omega arith))
    step Equal rest = (omega arith, (omega arith, omega arith))
    step Greater rest = (omega (arith, rest.0), (omega (arith, rest.1.0), omega arith))

-- the insertion of a new partition makes it longer
pub length-put_absent : (row : KeptRow) (rows : List KeptRow) → find partition_cmp row.0 rows ≡ None → length (put_row rows row) ≡ length rows + 1
length-put_absent row [] absent = omega arith
length-put_absent row (r ∷ rows) absent = step (partition_cmp row.0 r.0) (length-put_absent row rows) absent
  where
    step : (o : Ordering) → (find partition_cmp row.0 rows ≡ None → length (put_row rows row) ≡ length rows + 1) → cond (is_eq o) (Some r.1) (find partition_cmp row.0 rows) ≡ None
        → length (by_order o ((row.0, row.1) ∷ r ∷ rows) ((r.0, row.1) ∷ rows) (r ∷ put_row rows row)) ≡ suc (length rows) + 1
    step Less rest none = omega arith
    step Equal rest none = absurd (cc)
    step Greater rest none = omega (arith, rest none)

pub length-fold : (rows new : List KeptRow) → length (fold put_row rows new) ≤ length rows + length new
length-fold rows [] = omega arith
length-fold rows (row ∷ new) = omega (arith, length-fold (put_row rows row) new, (length-put row rows).1.0)

pub length-fold_more : (rows new : List KeptRow) → length rows ≤ length (fold put_row rows new)
length-fold_more rows [] = omega arith
length-fold_more rows (row ∷ new) = omega (arith, length-fold_more (put_row rows row) new, (length-put row rows).0)

some-fold : (rows new : List KeptRow) → 0 < length rows → 0 < length (fold put_row rows new)
some-fold rows [] some = some
some-fold rows (row ∷ new) some = some-fold (put_row rows row) new (length-put row rows).1.1

pub some-more : (rows new : List KeptRow) → 0 < length new → 0 < length (fold put_row rows new)
some-more rows [] some = absurd (omega (arith, some))
some-more rows (row ∷ new) some = some-fold (put_row rows row) new (length-put row rows).1.1

-- ---- a part of the offsets

below-take : (k : TopicPartition) (n : ℕ) (rows : List KeptRow) → T (below_all partition_cmp k rows) → T (below_all partition_cmp k (take n rows))
below-take k zero rows below = tt
below-take k (suc n) [] below = tt
below-take k (suc n) (row ∷ rows) below =
    let parts = both (is_lt (partition_cmp k row.0)) (below_all partition_cmp k rows) below in
    and (is_lt (partition_cmp k row.0)) (below_all partition_cmp k (take n rows)) parts.0 (below-take k n rows parts.1)

pub sorted-take : (n : ℕ) (rows : List KeptRow) → T (is_sorted partition_cmp rows) → T (is_sorted partition_cmp (take n rows))
sorted-take zero rows sorted = tt
sorted-take (suc n) [] sorted = tt
sorted-take (suc n) (row ∷ rows) sorted =
    let parts = both (below_all partition_cmp row.0 rows) (is_sorted partition_cmp rows) sorted in
    and (below_all partition_cmp row.0 (take n rows)) (is_sorted partition_cmp (take n rows)) (below-take row.0 n rows parts.0) (sorted-take n rows parts.1)

pub sorted-drop : (n : ℕ) (rows : List KeptRow) → T (is_sorted partition_cmp rows) → T (is_sorted partition_cmp (drop n rows))
sorted-drop zero rows sorted = sorted
sorted-drop (suc n) [] sorted = tt
sorted-drop (suc n) (row ∷ rows) sorted = sorted-drop n rows (both (below_all partition_cmp row.0 rows) (is_sorted partition_cmp rows) sorted).1
