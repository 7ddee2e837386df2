-- The sorted records and offsets as maps.
use Rattle.std.proofs.Common.{◌≡◌, ℕ, Bool, cond, List, [], length, Option, Some, None, ap, sym, ◌∙◌, refl, subst}
use Rattle.std.specs.Prelude.{IsTrue, filter}
use Rattle.std.specs.List.{fold}
use Rattle.std.specs.Option.{option_map}
use Rattle.std.specs.declared.cmp.Ordering.{Ordering}
use Rattle.std.specs.declared.cmp.Ordering.TheVariants.{Equal}
use Rattle.std.specs.Cmp.{IsTotalOrder}
use Rattle.std.specs.FinMap as map
use Rattle.std.specs.FinMap.{IsAntisymmetric, find, is_sorted, put}
use Rattle.std.specs.FinMap.Entries.{is_sorted-where_key, find-where_key}
use Rattle.cg_record.specs.declared.command.Command.TheVariants as variants
use Rattle.cg_record.specs.declared.committed.Committed.{Committed}
use Rattle.cg_record.specs.declared.replaced.Replaced.{Replaced}
use Rattle.cg_record.specs.declared.deleted.Deleted.{Deleted}
use Rattle.cg_record.specs.declared.member_record.MemberRecord.{MemberRecord}
use Rattle.cg_record.specs.declared.topic_partition.TopicPartition.{TopicPartition}
use Rattle.cg_fold.specs.declared.stored_offset.StoredOffset.{StoredOffset}
use Rattle.cg_fold.specs.declared.group_record.GroupRecord.{GroupRecord}
use Rattle.cg_fold.specs.Key.{KeptOffset, key_cmp, name_cmp}
use Rattle.cg_fold.specs.Record.{KeptRecord, replaced_record, put_found, replaced_among}
use Rattle.cg_fold.specs.Grouped.{is_another}
use Rattle.cg_fold.specs.Durable.{State, effect, with_entry, with_record, with_member, is_beside, is_of_other, without_group, without_offsets}
use Rattle.cg_fold.proofs.KeyOrder.{name_total, name_same}
use Rattle.cg_fold.proofs.Put.{tested, is_true, insert-from_sorted}

-- ---- any map

module _ {K X : Type 0} (R : K → K → Ordering) where
  abbrev pub map_in : List (K × X) → map.FinMap R X
  map_in es = map.from_sorted es

  pub map-nil : map_in [] ≡ map.empty
  map-nil = map.empty_of_len (map_in []) (map.len-entries (map_in []) ∙ ap length (map.entries-from_sorted R [] tt))

  pub map-len : (es : List (K × X)) → IsTrue (is_sorted R es) → map.len (map_in es) ≡ length es
  map-len es sorted = map.len-entries (map_in es) ∙ ap length (map.entries-from_sorted R es (tested sorted))

  pub map-get : (es : List (K × X)) (key : K) → IsTrue (is_sorted R es) → map.get (map_in es) key ≡ find R key es
  map-get es key sorted = map.get-from_sorted R es key (tested sorted)

  -- the entries whose keys pass a test
  pub map-filter : IsTotalOrder R → IsAntisymmetric R → (p : K → Bool) (es : List (K × X)) → IsTrue (is_sorted R es) → map_in (filter (λ e. p e.0) es) ≡ map.retain_keys (map_in es) p
  map-filter o same p es sorted =
      let alike : (q x : K) → R q x ≡ Equal → p x ≡ p q = λ q x tie. ap p (sym (same q x tie)) in
      map.same_map o same _ _ (λ q.
      map.get-from_sorted R (filter (λ e. p e.0) es) q (is_sorted-where_key R p es (tested sorted))
      ∙ find-where_key R p q (alike q) es
      ∙ ap (λ found. cond (p q) found None) (sym (map-get es q sorted))
      ∙ sym (map.get-retain_keys (map_in es) p q (alike q)))

  pub filter_keeps_order : (p : K → Bool) (es kept : List (K × X)) → kept ≡ filter (λ e. p e.0) es → IsTrue (is_sorted R es) → IsTrue (is_sorted R kept)
  filter_keeps_order p es kept is sorted = subst (λ l. IsTrue (is_sorted R l)) (sym is) (is_true _ (is_sorted-where_key R p es (tested sorted)))

-- ---- the map of offsets

abbrev pub Offsets : Type 0
Offsets = map.FinMap key_cmp StoredOffset

abbrev pub map_of : List KeptOffset → Offsets
map_of rows = map_in key_cmp rows

-- ---- the two maps of a state

abbrev pub records_of : List KeptRecord → map.FinMap name_cmp GroupRecord
records_of records = map_in name_cmp records

abbrev pub state_of : map.FinMap name_cmp GroupRecord → Offsets → State
state_of records offsets = record { records = records; offsets = offsets }

abbrev pub state : List KeptRecord → Offsets → State
state records offsets = state_of (records_of records) offsets

pub state-nil : (records : List KeptRecord) (offsets : Offsets) → records ≡ [] → offsets ≡ map.empty → state records offsets ≡ state_of map.empty map.empty
state-nil records offsets none nothing = ap (λ r. state_of (records_of r) offsets) none ∙ ap (λ m. state_of m offsets) (map-nil name_cmp) ∙ ap (state_of map.empty) nothing

-- the effect of a commit on a state
pub state-commit : (commit : Committed) (records : List KeptRecord) (before after : Offsets) (now : State)
    → after ≡ fold (with_entry commit.group commit.moment) before commit.entries → state records before ≡ now → state records after ≡ effect now (variants.Committed commit)
unfolding effect
state-commit commit records before after now committed is =
    ap (state_of (records_of records)) committed ∙ ap (λ (s : State). state_of s.records (fold (with_entry commit.group commit.moment) s.offsets commit.entries)) is

-- the effect of a command that sets a record
pub state-keep : (group : List ℕ) (new : GroupRecord) (before after : List KeptRecord) (offsets : Offsets) (now : State)
    → IsTrue (is_sorted name_cmp before) → after ≡ put name_cmp group new before → state before offsets ≡ now → state after offsets ≡ with_record now group new
state-keep group new before after offsets now sorted stored is =
    let maps : records_of after ≡ map.insert (records_of before) group new = ap records_of stored ∙ sym (insert-from_sorted name_total group new before (tested sorted)) in
    ap (λ m. state_of m offsets) maps ∙ ap (λ s. with_record s group new) is

-- the effect of a replacement
found_then : (group : List ℕ) (new : MemberRecord) (found : Option GroupRecord) (before after : List KeptRecord) (offsets : Offsets)
    → IsTrue (is_sorted name_cmp before) → after ≡ put_found group (option_map (replaced_record new) found) before → state after offsets ≡ with_member (state before offsets) group new found
found_then group new None before after offsets sorted same = ap (λ r. state r offsets) same
found_then group new (Some held) before after offsets sorted same = state-keep group (replaced_record new held) before after offsets (state before offsets) sorted same refl

pub state-replace : (replaced : Replaced) (new : MemberRecord) (before after : List KeptRecord) (offsets : Offsets) (now : State)
    → IsTrue (is_sorted name_cmp before) → new ≡ replaced.member → after ≡ replaced_among replaced.group new before
    → state before offsets ≡ now → state after offsets ≡ effect now (variants.Replaced replaced)
unfolding effect
state-replace replaced new before after offsets now sorted named stored is =
    found_then replaced.group new (find name_cmp replaced.group before) before after offsets sorted stored
    ∙ ap (λ found. with_member (state before offsets) replaced.group new found) (sym (map-get name_cmp before replaced.group sorted))
    ∙ ap (λ m. with_member (state before offsets) replaced.group m (map.get (records_of before) replaced.group)) named
    ∙ ap (λ s. with_member s replaced.group replaced.member (map.get s.records replaced.group)) is

-- the state without some offsets of a group
pub state-fewer : (group : List ℕ) (partitions : List TopicPartition) (records : List KeptRecord) (before after : Offsets) (now : State)
    → after ≡ map.retain_keys before (is_beside group partitions) → state records before ≡ now → state records after ≡ without_offsets now group partitions
state-fewer group partitions records before after now fewer is =
    ap (state_of (records_of records)) fewer ∙ ap (λ s. without_offsets s group partitions) is

-- the effect of a deletion
pub state-delete : (deleted : Deleted) (before after : List KeptRecord) (offsets left : Offsets) (now : State) → IsTrue (is_sorted name_cmp before)
    → after ≡ filter (λ kept. is_another deleted.group kept.0) before → left ≡ map.retain_keys offsets (is_of_other deleted.group)
    → state before offsets ≡ now → state after left ≡ effect now (variants.Deleted deleted)
unfolding effect
state-delete deleted before after offsets left now sorted records_are offsets_are is =
    ap (λ r. state r left) records_are
    ∙ ap (λ m. state_of m left) (map-filter name_cmp name_total name_same (is_another deleted.group) before sorted)
    ∙ ap (state_of (map.retain_keys (records_of before) (is_another deleted.group))) offsets_are
    ∙ ap (λ s. without_group s deleted.group) is
