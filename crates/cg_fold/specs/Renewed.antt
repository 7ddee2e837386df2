-- Changes of offsets in place.
use Rattle.std.specs.Prelude.{◌≡◌, ℕ, ◌<◌, Bool, List, [], is_some, slice_index_or, slice_set}
use Rattle.std.specs.List.{AllByRecursion, AllZip, prefix_len}
use Rattle.std.specs.FinMap.{find}
use Rattle.cg_record.specs.declared.entry.Entry.{Entry}
use Rattle.cg_fold.specs.declared.renewals.Renewal.{Renewal}
use Rattle.cg_record.specs.Partitions.{partition_cmp, topic_partition}
use Rattle.cg_fold.specs.Key.{IsOwn, KeptRow, is_below}

-- the renewal has the index of the row with this partition, and the new value
pub record IsRenewal (rows : List KeptRow) (kept : KeptRow) (renewal : Renewal) : Type 0 where
  pub at : renewal.at ≡ prefix_len (is_below kept.0) rows
  pub own : IsOwn rows renewal.at kept.0
  pub stored : renewal.stored ≡ kept.1

-- one renewal for each new offset
abbrev pub AreRenewals : List KeptRow → List KeptRow → List Renewal → Type 0
AreRenewals rows kept renewals = AllZip (IsRenewal rows) kept renewals

-- all indices are below this one
abbrev pub AreBelow : ℕ → List Renewal → Type 0
AreBelow len renewals = AllByRecursion (λ renewal. renewal.at < len) renewals

-- the partition of the entry has a row
abbrev pub has_row : List KeptRow → Entry → Bool
has_row rows entry = is_some (find partition_cmp entry.key rows)

-- the rows with the new value at this index, under the partition that is there
abbrev pub renewed : List KeptRow → Renewal → List KeptRow
renewed rows renewal = slice_set rows renewal.at ((slice_index_or rows renewal.at (topic_partition [] 0, renewal.stored)).0, renewal.stored)
