-- Sorted shelves as the map of their offsets.
use Rattle.std.proofs.Common.{◌≡◌, ℕ, ◌<◌, Bool, true, false, cond, List, [], ◌∷◌, ◌++◌, length, map as each, Some, None, ap, sym, ◌∙◌, refl, subst, arith, append-nil}
use Rattle.std.proofs.Math.Dec.{T}
use Rattle.std.specs.Prelude.{◌||◌, ◌&&◌, IsTrue, filter, bytes_eq, is_some}
use Rattle.std.specs.List.{list_all, list_any}
use Rattle.std.specs.Ordering.{eq_by_cmp, is_eq, is_lt, ordering_then}
use Rattle.std.specs.declared.cmp.Ordering.TheVariants.{Less}
use Rattle.std.specs.FinMap as map
use Rattle.std.specs.FinMap.{find, is_sorted}
use Rattle.std.specs.FinMap.Entries.{find-where_key}
use Rattle.std.proofs.lemmas.List.Elements.{filter-append}
use Rattle.std.proofs.lemmas.List.Folds.{list_any-append}
use Rattle.std.proofs.lemmas.Slice.Eq.{bytes_eq-Decides}
use Rattle.std.proofs.Math.Bool.{or-false, or_self}
use Rattle.cg_record.specs.declared.entry.Entry.{Entry}
use Rattle.cg_record.specs.declared.topic_partition.TopicPartition.{TopicPartition}
use Rattle.cg_record.specs.Partitions.{partition_cmp}
use Rattle.cg_fold.specs.Key.{KeptOffset, KeptRow, OffsetKey, in_group, key_cmp, key_of, name_cmp, without_group_id}
use Rattle.cg_fold.specs.Record.{KeptRecord}
use Rattle.cg_fold.specs.Shelf.{KeptShelf, EachShelf, AreShelves, stock, rows_on, rows_at}
use Rattle.cg_fold.specs.Durable.{State, has_offset}
use Rattle.cg_fold.specs.Renewed.{has_row}
use Rattle.cg_fold.specs.Snapshot.{groups_in, groups_of_either, in_order, is_of_group, offsets_in}
use Rattle.cg_fold.proofs.KeyOrder.{cmp_in, key_same}
use Rattle.cg_fold.proofs.Place.{and, below_all, both, less}
use Rattle.cg_fold.proofs.Put.{tested}
use Rattle.cg_fold.proofs.Names.{in_order_same, itself, strange, tied}
use Rattle.cg_fold.proofs.Kept.{Offsets, map_of, state}

-- ---- the rows of one group, and its offsets

abbrev pub kept_all : List ℕ → List KeptRow → List KeptOffset
kept_all g rows = each (in_group g) rows

-- a search among the offsets of a group is a search among its rows
pub find-kept : (k : OffsetKey) (rows : List KeptRow) → find key_cmp k (kept_all k.group rows) ≡ find partition_cmp k.partition rows
find-kept k [] = refl
find-kept k (row ∷ rows) =
    ap (λ o. cond (is_eq o) (Some row.1) (find key_cmp k (kept_all k.group rows))) (cmp_in k.group k.partition row.0)
    ∙ ap (cond (is_eq (partition_cmp k.partition row.0)) (Some row.1)) (find-kept k rows)

pub rows-kept : (g : List ℕ) (rows : List KeptRow) → each without_group_id (kept_all g rows) ≡ rows
rows-kept g [] = refl
rows-kept g (row ∷ rows) = ap (λ l. row ∷ l) (rows-kept g rows)

-- the offsets of a group among others are made of its rows
pub kept-filter : (g : List ℕ) (kept : List KeptOffset) → kept_all g (each without_group_id (filter (λ k. is_of_group g k.0) kept)) ≡ filter (λ k. is_of_group g k.0) kept
kept-filter g [] = refl
kept-filter g (k ∷ kept) = step (is_of_group g k.0) refl (kept-filter g kept)
  where
    others : List KeptOffset
    others = filter (λ q. is_of_group g q.0) kept

    step : (b : Bool) → is_of_group g k.0 ≡ b → kept_all g (each without_group_id others) ≡ others → kept_all g (each without_group_id (cond b (k ∷ others) others)) ≡ cond b (k ∷ others) others
    step true is rest =
        ap (λ h. (key_of h k.0.partition, k.1) ∷ kept_all g (each without_group_id others)) (sym ((bytes_eq-Decides k.0.group g).0 is))
        ∙ ap (λ l. k ∷ l) rest
    step false is rest = rest

below-kept : (g : List ℕ) (at : TopicPartition) (rows : List KeptRow) → T (below_all partition_cmp at rows) → T (below_all key_cmp (key_of g at) (kept_all g rows))
below-kept g at [] below = tt
below-kept g at (row ∷ rows) below =
    let k = key_of g at in
    let parts = both (is_lt (partition_cmp at row.0)) (below_all partition_cmp at rows) below in
    let first : T (is_lt (key_cmp k (in_group g row).0)) = subst (λ o. T (is_lt o)) (sym (cmp_in g at row.0)) parts.0 in
    and (is_lt (key_cmp k (in_group g row).0)) (below_all key_cmp k (kept_all g rows)) first (below-kept g at rows parts.1)

-- ---- shelves, some of them possibly empty

abbrev pub EachSound : List KeptShelf → Type 0
EachSound [] = Unit {0}
EachSound (shelf ∷ shelves) = T (is_sorted partition_cmp shelf.1) × EachSound shelves

pub sound : (shelves : List KeptShelf) → EachShelf shelves → EachSound shelves
sound [] each = tt
sound (shelf ∷ shelves) each = (tested each.0.by_partition, sound shelves each.1)

pub none_above : (x : List ℕ) (shelves : List KeptShelf) → T (below_all name_cmp x shelves) → find name_cmp x shelves ≡ None
none_above x [] all = refl
none_above x (s ∷ shelves) all =
    let parts = both (is_lt (name_cmp x s.0)) (below_all name_cmp x shelves) all in
    ap (λ r. cond (is_eq r) (Some s.1) (find name_cmp x shelves)) (less (name_cmp x s.0) parts.0) ∙ none_above x shelves parts.1

filter-own : (g : List ℕ) (rows : List KeptRow) → filter (λ k. is_of_group g k.0) (kept_all g rows) ≡ kept_all g rows
filter-own g [] = refl
filter-own g (row ∷ rows) =
    ap (λ b. cond b (in_group g row ∷ filter (λ k. is_of_group g k.0) (kept_all g rows)) (filter (λ k. is_of_group g k.0) (kept_all g rows))) (itself g)
    ∙ ap (λ l. in_group g row ∷ l) (filter-own g rows)

filter-strange : (g h : List ℕ) (rows : List KeptRow) → bytes_eq h g ≡ false → filter (λ k. is_of_group g k.0) (kept_all h rows) ≡ []
filter-strange g h [] apart = refl
filter-strange g h (row ∷ rows) apart =
    ap (λ b. cond b (in_group h row ∷ filter (λ k. is_of_group g k.0) (kept_all h rows)) (filter (λ k. is_of_group g k.0) (kept_all h rows))) apart
    ∙ filter-strange g h rows apart

-- the offsets of a group are those on its shelf
filter-stock : (g : List ℕ) (shelves : List KeptShelf) → T (is_sorted name_cmp shelves) → filter (λ k. is_of_group g k.0) (stock shelves) ≡ kept_all g (rows_at g shelves)
filter-stock g [] sorted = refl
filter-stock g (s ∷ shelves) sorted =
    let parts = both (below_all name_cmp s.0 shelves) (is_sorted name_cmp shelves) sorted in
    filter-append (λ k. is_of_group g k.0) (kept_all s.0 s.1) (stock shelves)
    ∙ ap (λ l. filter (λ k. is_of_group g k.0) (kept_all s.0 s.1) ++ l) (filter-stock g shelves parts.1)
    ∙ step (eq_by_cmp name_cmp g s.0) refl parts.0
  where
    step : (b : Bool) → eq_by_cmp name_cmp g s.0 ≡ b → T (below_all name_cmp s.0 shelves)
        → filter (λ k. is_of_group g k.0) (kept_all s.0 s.1) ++ kept_all g (rows_at g shelves) ≡ kept_all g (rows_on (cond b (Some s.1) (find name_cmp g shelves)))
    step true is above =
        let same : g ≡ s.0 = tied g s.0 is in
        let none : rows_at g shelves ≡ [] = ap (λ q. rows_at q shelves) same ∙ ap rows_on (none_above s.0 shelves above) in
        ap (λ l. filter (λ k. is_of_group g k.0) (kept_all s.0 s.1) ++ kept_all g l) none ∙ append-nil (filter (λ k. is_of_group g k.0) (kept_all s.0 s.1))
        ∙ ap (λ h. filter (λ k. is_of_group g k.0) (kept_all h s.1)) (sym same) ∙ filter-own g s.1
    step false is above = ap (λ l. l ++ kept_all g (rows_at g shelves)) (filter-strange g s.0 s.1 (strange g s.0 is))

-- a search among all offsets is a search on the shelf of the key's group
find-stock : (k : OffsetKey) (shelves : List KeptShelf) → T (is_sorted name_cmp shelves) → find key_cmp k (stock shelves) ≡ find partition_cmp k.partition (rows_at k.group shelves)
find-stock k shelves sorted =
    sym (find-where_key key_cmp (is_of_group k.group) k (λ x tie. ap (is_of_group k.group) (sym (key_same k x tie))) (stock shelves)
    ∙ ap (λ b. cond b (find key_cmp k (stock shelves)) None) (itself k.group))
    ∙ ap (find key_cmp k) (filter-stock k.group shelves sorted)
    ∙ find-kept k (rows_at k.group shelves)

-- ---- the offsets of all shelves are sorted

below-append : (k : OffsetKey) (rows others : List KeptOffset) → T (below_all key_cmp k rows) → T (below_all key_cmp k others) → T (below_all key_cmp k (rows ++ others))
below-append k [] others p q = q
below-append k (row ∷ rows) others p q =
    let parts = both (is_lt (key_cmp k row.0)) (below_all key_cmp k rows) p in
    and (is_lt (key_cmp k row.0)) (below_all key_cmp k (rows ++ others)) parts.0 (below-append k rows others parts.1 q)

below-rows : (k : OffsetKey) (g : List ℕ) (rows : List KeptRow) → name_cmp k.group g ≡ Less → T (below_all key_cmp k (kept_all g rows))
below-rows k g [] lt = tt
below-rows k g (row ∷ rows) lt =
    let first : T (is_lt (key_cmp k (in_group g row).0)) = subst (λ r. T (is_lt (ordering_then r (partition_cmp k.partition row.0)))) (sym lt) tt in
    and (is_lt (key_cmp k (in_group g row).0)) (below_all key_cmp k (kept_all g rows)) first (below-rows k g rows lt)

below-stock : (k : OffsetKey) (shelves : List KeptShelf) → T (below_all name_cmp k.group shelves) → T (below_all key_cmp k (stock shelves))
below-stock k [] above = tt
below-stock k (s ∷ shelves) above =
    let parts = both (is_lt (name_cmp k.group s.0)) (below_all name_cmp k.group shelves) above in
    below-append k (kept_all s.0 s.1) (stock shelves) (below-rows k s.0 s.1 (less (name_cmp k.group s.0) parts.0)) (below-stock k shelves parts.1)

sorted-shelf : (g : List ℕ) (rows : List KeptRow) (shelves : List KeptShelf) → T (is_sorted partition_cmp rows) → T (below_all name_cmp g shelves) → T (is_sorted key_cmp (stock shelves)) → T (is_sorted key_cmp (kept_all g rows ++ stock shelves))
sorted-shelf g [] shelves sorted above rest = rest
sorted-shelf g (row ∷ rows) shelves sorted above rest =
    let k = (in_group g row).0 in
    let parts = both (below_all partition_cmp row.0 rows) (is_sorted partition_cmp rows) sorted in
    and (below_all key_cmp k (kept_all g rows ++ stock shelves)) (is_sorted key_cmp (kept_all g rows ++ stock shelves))
    (below-append k (kept_all g rows) (stock shelves) (below-kept g row.0 rows parts.0) (below-stock k shelves above))
    (sorted-shelf g rows shelves parts.1 above rest)

pub sorted-stock : (shelves : List KeptShelf) → T (is_sorted name_cmp shelves) → EachSound shelves → T (is_sorted key_cmp (stock shelves))
sorted-stock [] sorted each = tt
sorted-stock (s ∷ shelves) sorted each =
    let parts = both (below_all name_cmp s.0 shelves) (is_sorted name_cmp shelves) sorted in
    sorted-shelf s.0 s.1 shelves each.0 parts.0 (sorted-stock shelves parts.1 each.1)

-- a look-up in the map of all offsets
pub get-stock : (k : OffsetKey) (shelves : List KeptShelf) → T (is_sorted name_cmp shelves) → EachSound shelves → map.get (map_of (stock shelves)) k ≡ find partition_cmp k.partition (rows_at k.group shelves)
get-stock k shelves sorted each = map.get-from_sorted key_cmp (stock shelves) k (sorted-stock shelves sorted each) ∙ find-stock k shelves sorted

-- a search among the offsets of the key's group is a look-up in the map
pub find-offsets_in : (k : OffsetKey) (now : Offsets) → find partition_cmp k.partition (offsets_in now k.group) ≡ map.get now k
find-offsets_in k now =
    sym (find-kept k (offsets_in now k.group))
    ∙ ap (find key_cmp k) (kept-filter k.group (map.entries now))
    ∙ find-where_key key_cmp (is_of_group k.group) k (λ x tie. ap (is_of_group k.group) (sym (key_same k x tie))) (map.entries now)
    ∙ ap (λ b. cond b (find key_cmp k (map.entries now)) None) (itself k.group) ∙ sym (map.get-entries now k)

pub shelves-group : (g : List ℕ) (len : ℕ) (shelves : List KeptShelf) (now : Offsets) → AreShelves len shelves → map_of (stock shelves) ≡ now → rows_at g shelves ≡ offsets_in now g
shelves-group g len shelves now are is =
    let sorted = sorted-stock shelves (tested are.by_group) (sound shelves are.each) in
    sym (rows-kept g (rows_at g shelves))
    ∙ ap (each without_group_id) (sym (filter-stock g shelves (tested are.by_group)))
    ∙ ap (λ l. each without_group_id (filter (λ k. is_of_group g k.0) l)) (sym (map.entries-from_sorted key_cmp (stock shelves) sorted)) ∙ ap (λ m. offsets_in m g) is

pub shelves-len : (len : ℕ) (shelves : List KeptShelf) (now : Offsets) → AreShelves len shelves → map_of (stock shelves) ≡ now → len ≡ map.len now
shelves-len len shelves now are is =
    are.counted ∙ sym (map.len-entries (map_of (stock shelves)) ∙ ap length (map.entries-from_sorted key_cmp (stock shelves) (sorted-stock shelves (tested are.by_group) (sound shelves are.each)))) ∙ ap map.len is

-- ---- the groups that have offsets

-- the groups of offsets
abbrev groups_of : List KeptOffset → List (List ℕ)
groups_of kept = each (λ k. k.group) (each (λ k. k.0) kept)

any-own : (q g : List ℕ) (rows : List KeptRow) → 0 < length rows → list_any (bytes_eq q) (groups_of (kept_all g rows)) ≡ bytes_eq q g
any-own q g [] some = absurd (omega (arith, some))
any-own q g (row ∷ []) some = or-false (bytes_eq q g)
any-own q g (row ∷ next ∷ rows) some = ap (λ b. bytes_eq q g || b) (any-own q g (next ∷ rows) (omega arith)) ∙ or_self (bytes_eq q g)

each-append : (rows others : List KeptOffset) → groups_of (rows ++ others) ≡ groups_of rows ++ groups_of others
each-append [] others = refl
each-append (row ∷ rows) others = ap (λ l. row.0.group ∷ l) (each-append rows others)

-- a group has a shelf if it has an offset
any-stock : (q : List ℕ) (shelves : List KeptShelf) → EachShelf shelves → list_any (bytes_eq q) (groups_of (stock shelves)) ≡ list_any (bytes_eq q) (each (λ s. s.0) shelves)
any-stock q [] each-shelf = refl
any-stock q (s ∷ shelves) each-shelf =
    ap (list_any (bytes_eq q)) (each-append (kept_all s.0 s.1) (stock shelves))
    ∙ list_any-append (bytes_eq q) (groups_of (kept_all s.0 s.1)) (groups_of (stock shelves))
    ∙ ap (λ b. b || list_any (bytes_eq q) (groups_of (stock shelves))) (any-own q s.0 s.1 each-shelf.0.some)
    ∙ ap (λ b. bytes_eq q s.0 || b) (any-stock q shelves each-shelf.1)

-- the groups of a state are those of its records and of its shelves
pub groups_of_shelves : (len : ℕ) (records : List KeptRecord) (shelves : List KeptShelf) (now : State) → IsTrue (is_sorted name_cmp records) → AreShelves len shelves
    → state records (map_of (stock shelves)) ≡ now → groups_of_either records shelves ≡ in_order (groups_in now)
groups_of_shelves len records shelves now sorted are is =
    let held = state records (map_of (stock shelves)) in
    let kept : map.entries held.records ≡ records = map.entries-from_sorted name_cmp records (tested sorted) in
    let stored : map.entries held.offsets ≡ stock shelves = map.entries-from_sorted key_cmp (stock shelves) (sorted-stock shelves (tested are.by_group) (sound shelves are.each)) in
    in_order_same (each (λ k. k.0) records ++ each (λ s. s.0) shelves) (groups_in held) (λ q.
    list_any-append (bytes_eq q) (each (λ k. k.0) records) (each (λ s. s.0) shelves)
    ∙ ap (λ b. list_any (bytes_eq q) (each (λ k. k.0) records) || b) (sym (any-stock q shelves are.each))
    ∙ ap (λ l. list_any (bytes_eq q) (each (λ k. k.0) l) || list_any (bytes_eq q) (each (λ k. k.group) (each (λ row. row.0) (stock shelves)))) (sym kept)
    ∙ ap (λ l. list_any (bytes_eq q) (map.keys held.records) || list_any (bytes_eq q) (each (λ k. k.group) (each (λ row. row.0) l))) (sym stored)
    ∙ sym (list_any-append (bytes_eq q) (map.keys held.records) (each (λ k. k.group) (map.keys held.offsets))))
    ∙ ap (λ s. in_order (groups_in s)) is

-- the entries have offsets where they have rows on the shelf of their group
pub known_on : (g : List ℕ) (len : ℕ) (shelves : List KeptShelf) (now : Offsets) → AreShelves len shelves → map_of (stock shelves) ≡ now
    → (entries : List Entry) → list_all (has_row (rows_at g shelves)) entries ≡ list_all (has_offset g now) entries
known_on g len shelves now are is [] = refl
known_on g len shelves now are is (entry ∷ entries) =
    let key = key_of g entry.key in
    let one : has_row (rows_at g shelves) entry ≡ has_offset g now entry =
    ap is_some (ap (find partition_cmp entry.key) (shelves-group g len shelves now are is) ∙ find-offsets_in key now) in
    ap (λ b. b && list_all (has_row (rows_at g shelves)) entries) one ∙ ap (λ b. has_offset g now entry && b) (known_on g len shelves now are is entries)
