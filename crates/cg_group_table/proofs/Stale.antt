-- What expires in a group, by its phase, its type and its rows.
use Rattle.std.proofs.Common.{◌≡◌, ◌≤◌, ◌+◌, ℕ, zero, suc, Bool, true, false, not, ◌||◌, List, [], ◌∷◌, ◌++◌, append_assoc, append-nil, arith, cond, drop, filter, is_some, length, map, refl, sym, ap, ◌∙◌, subst, take}
use Rattle.std.proofs.Math.Dec.{T}
use Rattle.std.proofs.lemmas.List.{length-append}
use Rattle.std.specs.Cmp.{tied_itself}
use Rattle.std.specs.FinMap.{is_sorted}
use Rattle.std.specs.FinMap.Entries.{below_all}
use Rattle.std.specs.List.{AllByRecursion, IsDistinct, list_any}
use Rattle.std.specs.Ordering.{is_lt}
use Rattle.std.specs.Prelude.{IsTrue, if◌then◌else◌}
use Rattle.cg_record.specs.declared.command.Command.{Command}
use Rattle.cg_record.specs.declared.command.Command.TheVariants.{Deleted, Expired}
use Rattle.cg_record.specs.declared.entries.TheConstants.{ENTRIES_MAX}
use Rattle.cg_record.specs.declared.topic_partition.TopicPartition.{TopicPartition}
use Rattle.cg_record.specs.Partitions.{ArePartitions, are_one, partition_cmp}
use Rattle.cg_fold.specs.Key.{KeptRow}
use Rattle.cg_fold.proofs.KeyOrder.{partition_total}
use Rattle.cg_fold.proofs.Place.{and, both}
use Rattle.cg_fold.proofs.Put.{is_true, tested}
use Rattle.cg_fold.proofs.Searched.{one_partition}
use Rattle.cg_fold.specs.Snapshot.{offsets_in}
use Rattle.cg_group_state.specs.declared.group.Group.{Group}
use Rattle.cg_group_state.specs.Offsets.{OffsetMap}
use Rattle.cg_group_table.specs.Expiry.{expires, expiries, expiring, expiring_as, expiring_if, is_nil, is_stale, is_stale_row, is_vacant, stale_of}
use Rattle.cg_group_table.specs.declared.expiry.TheConstants.{EXPIRED_COMMANDS_MAX}

pub expiring_not : (loaded now : ℕ) (offsets : OffsetMap) (g : Group) → is_vacant g ≡ false → expiring loaded now offsets g ≡ []
unfolding expiring_if
expiring_not loaded now offsets g e = ap (λ b. expiring_if b loaded now offsets g) e

pub expires_not : (loaded now : ℕ) (offsets : OffsetMap) (g : Group) → is_vacant g ≡ false → expires loaded now offsets g ≡ false
expires_not loaded now offsets g e = ap (λ cs. not (is_nil cs)) (expiring_not loaded now offsets g e)

-- a group with a record
pub expiring_recorded : (loaded now : ℕ) (offsets : OffsetMap) (g : Group) → is_vacant g ≡ true → is_some g.kind ≡ true → expiring loaded now offsets g ≡ (if is_stale loaded now g.emptied then Deleted (record { group = g.id }) ∷ [] else [])
unfolding expiring_as expiring_if
expiring_recorded loaded now offsets g e k = ap (λ b. expiring_if b loaded now offsets g) e ∙ ap (λ b. expiring_as b loaded now offsets g) k

pub expires_recorded : (loaded now : ℕ) (offsets : OffsetMap) (g : Group) → is_vacant g ≡ true → is_some g.kind ≡ true → expires loaded now offsets g ≡ is_stale loaded now g.emptied
expires_recorded loaded now offsets g e k =
    ap (λ cs. not (is_nil cs)) (expiring_recorded loaded now offsets g e k)
    ∙ (elim (is_stale loaded now g.emptied) as (λ b. not (is_nil {X = Command} (if b then Deleted (record { group = g.id }) ∷ [] else [])) ≡ b) [ true ↦ refl | false ↦ refl ])

-- a group without one
pub expiring_rows : (loaded now : ℕ) (offsets : OffsetMap) (g : Group) → is_vacant g ≡ true → is_some g.kind ≡ false → expiring loaded now offsets g ≡ expiries EXPIRED_COMMANDS_MAX g.id (stale_of loaded now (offsets_in offsets g.id))
unfolding expiring_as expiring_if
expiring_rows loaded now offsets g e k = ap (λ b. expiring_if b loaded now offsets g) e ∙ ap (λ b. expiring_as b loaded now offsets g) k

some-expiries : (most : ℕ) (group : List ℕ) (ps : List TopicPartition) → is_nil (expiries (suc most) group ps) ≡ is_nil ps
unfolding expiries
some-expiries most group [] = refl
some-expiries most group (p ∷ ps) = refl

any-stale : (loaded now : ℕ) (rows : List KeptRow) → not (is_nil (stale_of loaded now rows)) ≡ list_any (is_stale_row loaded now) rows
any-stale loaded now [] = refl
any-stale loaded now (row ∷ rows) =
    elim (is_stale_row loaded now row) as (λ b. not (is_nil (map (λ (r : KeptRow). r.0) (cond b (row ∷ filter (is_stale_row loaded now) rows) (filter (is_stale_row loaded now) rows)))) ≡ (b || list_any (is_stale_row loaded now) rows)) [
      | true ↦ refl
      | false ↦ any-stale loaded now rows
    ]

pub expires_rows : (loaded now : ℕ) (offsets : OffsetMap) (g : Group) → is_vacant g ≡ true → is_some g.kind ≡ false → expires loaded now offsets g ≡ list_any (is_stale_row loaded now) (offsets_in offsets g.id)
expires_rows loaded now offsets g e k =
    ap (λ cs. not (is_nil cs)) (expiring_rows loaded now offsets g e k)
    ∙ ap not (some-expiries _ g.id (stale_of loaded now (offsets_in offsets g.id)))
    ∙ any-stale loaded now (offsets_in offsets g.id)

-- ---- the partitions of sorted rows are different

ones_apart : (a b : TopicPartition) → T (is_lt (partition_cmp a b)) → are_one a b ≡ false
ones_apart a b lt = step (are_one a b) refl
  where
    step : (c : Bool) → are_one a b ≡ c → c ≡ false
    step false is = refl
    step true is = absurd (subst (λ r. T (is_lt r)) (ap (λ k. partition_cmp k b) (one_partition a b is) ∙ tied_itself partition_total b) lt)

apart_from : (row : KeptRow) (rows : List KeptRow) → T (below_all partition_cmp row.0 rows) → AllByRecursion (λ p. are_one row.0 p ≡ false) (map (λ (r : KeptRow). r.0) rows)
apart_from row [] below = tt
apart_from row (next ∷ rows) below =
    let parts = both (is_lt (partition_cmp row.0 next.0)) (below_all partition_cmp row.0 rows) below in
    (ones_apart row.0 next.0 parts.0, apart_from row rows parts.1)

below-filter : (row : KeptRow) (q : KeptRow → Bool) (rows : List KeptRow) → T (below_all partition_cmp row.0 rows) → T (below_all partition_cmp row.0 (filter q rows))
below-filter row q [] below = tt
below-filter row q (next ∷ rows) below =
    let parts = both (is_lt (partition_cmp row.0 next.0)) (below_all partition_cmp row.0 rows) below in
    elim (q next) as (λ b. T (below_all partition_cmp row.0 (cond b (next ∷ filter q rows) (filter q rows)))) [
      | true ↦ and (is_lt (partition_cmp row.0 next.0)) (below_all partition_cmp row.0 (filter q rows)) parts.0 (below-filter row q rows parts.1)
      | false ↦ below-filter row q rows parts.1
    ]

distinct-partitions : (q : KeptRow → Bool) (rows : List KeptRow) → T (is_sorted partition_cmp rows) → IsDistinct are_one (map (λ (r : KeptRow). r.0) (filter q rows))
unfolding IsDistinct
distinct-partitions q [] sorted = tt
distinct-partitions q (row ∷ rows) sorted =
    let parts = both (below_all partition_cmp row.0 rows) (is_sorted partition_cmp rows) sorted in
    elim (q row) as (λ b. IsDistinct are_one (map (λ (r : KeptRow). r.0) (cond b (row ∷ filter q rows) (filter q rows)))) [
      | true ↦ (apart_from row (filter q rows) (below-filter row q rows parts.0), distinct-partitions q rows parts.1)
      | false ↦ distinct-partitions q rows parts.1
    ]

-- ---- the stale partitions, as many as one command names

-- of all partitions these were found, and the rest was not looked at
pub record IsScanned (all rest found : List TopicPartition) : Type 0 where
  pub left : ℕ
  pub count : length found + left ≡ ENTRIES_MAX
  pub taken : found ++ take left rest ≡ take ENTRIES_MAX all
  pub others : drop left rest ≡ drop ENTRIES_MAX all

pub scanned-none : (all : List TopicPartition) → IsScanned all all []
scanned-none all = record { left = ENTRIES_MAX; count = omega arith; taken = refl; others = refl }

-- one more was found, where there is room
pub scanned-more : (all rest found : List TopicPartition) (p : TopicPartition) → (length found ≡ ENTRIES_MAX → ⊥) → IsScanned all (p ∷ rest) found → IsScanned all rest (found ++ p ∷ [])
scanned-more all rest found p room h = go h.left h.count h.taken h.others
  where
    go : (left : ℕ) → length found + left ≡ ENTRIES_MAX → found ++ take left (p ∷ rest) ≡ take ENTRIES_MAX all → drop left (p ∷ rest) ≡ drop ENTRIES_MAX all → IsScanned all rest (found ++ p ∷ [])
    go zero count taken others = absurd (room (omega (arith, count)))
    go (suc left) count taken others = record {
      left = left;
      count = let len = length-append found (p ∷ []) in omega (arith, len, count);
      taken = append_assoc found (p ∷ []) (take left rest) ∙ taken;
      others = others;
    }

-- there is no room for more
pub scanned-full : (all rest found : List TopicPartition) → length found ≡ ENTRIES_MAX → IsScanned all rest found → (found ≡ take ENTRIES_MAX all) × (rest ≡ drop ENTRIES_MAX all)
scanned-full all rest found full h = go h.left h.count h.taken h.others
  where
    go : (left : ℕ) → length found + left ≡ ENTRIES_MAX → found ++ take left rest ≡ take ENTRIES_MAX all → drop left rest ≡ drop ENTRIES_MAX all → (found ≡ take ENTRIES_MAX all) × (rest ≡ drop ENTRIES_MAX all)
    go zero count taken others = (sym (append-nil found) ∙ taken, others)
    go (suc left) count taken others = absurd (omega (arith, count, full))

-- there are no more
pub scanned-all : (all rest found : List TopicPartition) → rest ≡ [] → IsScanned all rest found → (found ≡ take ENTRIES_MAX all) × (rest ≡ drop ENTRIES_MAX all)
scanned-all all [] found e h = (sym (append-nil found) ∙ ap (λ ps. found ++ ps) (sym (take_none h.left)) ∙ h.taken, sym (drop_none h.left) ∙ h.others)
  where
    none : List TopicPartition
    none = []

    take_none : (n : ℕ) → take n none ≡ none
    take_none zero = refl
    take_none (suc n) = refl

    drop_none : (n : ℕ) → drop n none ≡ none
    drop_none zero = refl
    drop_none (suc n) = refl
scanned-all all (p ∷ ps) found e h = cc

-- ---- one row after another

-- these partitions were found, and these rows were not looked at, of rows in order
pub record AreScanned (loaded now : ℕ) (rows rest : List KeptRow) (found : List TopicPartition) : Type 0 where
  pub scanned : IsScanned (stale_of loaded now rows) (stale_of loaded now rest) found
  pub sorted : IsTrue (is_sorted partition_cmp rest)

pub stale_first : (loaded now : ℕ) (row : KeptRow) (rows : List KeptRow) → is_stale_row loaded now row ≡ true → stale_of loaded now (row ∷ rows) ≡ row.0 ∷ stale_of loaded now rows
stale_first loaded now row rows is = ap (λ b. map (λ (r : KeptRow). r.0) (cond b (row ∷ filter (is_stale_row loaded now) rows) (filter (is_stale_row loaded now) rows))) is

pub stale_later : (loaded now : ℕ) (row : KeptRow) (rows : List KeptRow) → is_stale_row loaded now row ≡ false → stale_of loaded now (row ∷ rows) ≡ stale_of loaded now rows
stale_later loaded now row rows is = ap (λ b. map (λ (r : KeptRow). r.0) (cond b (row ∷ filter (is_stale_row loaded now) rows) (filter (is_stale_row loaded now) rows))) is

sorted_rest : (row : KeptRow) (others : List KeptRow) → IsTrue (is_sorted partition_cmp (row ∷ others)) → IsTrue (is_sorted partition_cmp others)
sorted_rest row others sorted = is_true (is_sorted partition_cmp others) (both (below_all partition_cmp row.0 others) (is_sorted partition_cmp others) (tested sorted)).1

-- before the first row
pub none_scanned : (loaded now : ℕ) (rows : List KeptRow) → IsTrue (is_sorted partition_cmp rows) → AreScanned loaded now rows rows []
none_scanned loaded now rows sorted = record { scanned = scanned-none (stale_of loaded now rows); sorted = sorted }

module _ (loaded now : ℕ) (rows rest others : List KeptRow) (row : KeptRow) (found : List TopicPartition) (first : rest ≡ row ∷ others) (h : AreScanned loaded now rows rest found) where
  abbrev Scanned : List TopicPartition → List TopicPartition → Type 0
  Scanned left found = IsScanned (stale_of loaded now rows) left found

  sorted_others : IsTrue (is_sorted partition_cmp others)
  sorted_others = sorted_rest row others (subst (λ rs. IsTrue (is_sorted partition_cmp rs)) first h.sorted)

  -- after a stale row
  pub one_scanned : is_stale_row loaded now row ≡ true → (length found ≡ ENTRIES_MAX → ⊥) → AreScanned loaded now rows others (found ++ row.0 ∷ [])
  one_scanned is room = record {
    scanned = scanned-more (stale_of loaded now rows) (stale_of loaded now others) found row.0 room (subst (λ left. Scanned left found) (ap (stale_of loaded now) first ∙ stale_first loaded now row others is) h.scanned);
    sorted = sorted_others;
  }

  -- after another one
  pub one_passed : is_stale_row loaded now row ≡ false → AreScanned loaded now rows others found
  one_passed is = record {
    scanned = subst (λ left. Scanned left found) (ap (stale_of loaded now) first ∙ stale_later loaded now row others is) h.scanned;
    sorted = sorted_others;
  }

-- as many as one command names were found, and what is left comes after them
pub record AreTaken (loaded now : ℕ) (rows rest : List KeptRow) (found : List TopicPartition) : Type 0 where
  pub first : found ≡ take ENTRIES_MAX (stale_of loaded now rows)
  pub others : stale_of loaded now rest ≡ drop ENTRIES_MAX (stale_of loaded now rows)

module _ (loaded now : ℕ) (rows rest : List KeptRow) (found : List TopicPartition) (h : AreScanned loaded now rows rest found) where
  pub few_scanned : length found ≤ ENTRIES_MAX
  few_scanned = let count = h.scanned.count in omega (arith, count)

  pub taken_full : length found ≡ ENTRIES_MAX → AreTaken loaded now rows rest found
  taken_full full =
      let parts = scanned-full (stale_of loaded now rows) (stale_of loaded now rest) found full h.scanned in
      record { first = parts.0; others = parts.1 }

  pub taken_all : rest ≡ [] → AreTaken loaded now rows rest found
  taken_all none =
      let parts = scanned-all (stale_of loaded now rows) (stale_of loaded now rest) found (ap (stale_of loaded now) none) h.scanned in
      record { first = parts.0; others = parts.1 }

-- the first of different partitions are different
apart-take : (p : TopicPartition) (n : ℕ) (ps : List TopicPartition) → AllByRecursion (λ q. are_one p q ≡ false) ps → AllByRecursion (λ q. are_one p q ≡ false) (take n ps)
apart-take p zero ps h = tt
apart-take p (suc n) [] h = tt
apart-take p (suc n) (q ∷ qs) h = (h.0, apart-take p n qs h.1)

distinct-take : (n : ℕ) (ps : List TopicPartition) → IsDistinct are_one ps → IsDistinct are_one (take n ps)
unfolding IsDistinct
distinct-take zero ps h = tt
distinct-take (suc n) [] h = tt
distinct-take (suc n) (p ∷ ps) h = (apart-take p n ps h.0, distinct-take n ps h.1)

pub taken_distinct : (loaded now : ℕ) (rows rest : List KeptRow) (found : List TopicPartition) → IsTrue (is_sorted partition_cmp rows) → length found ≤ ENTRIES_MAX → AreTaken loaded now rows rest found → 1 ≤ length found → ArePartitions found
taken_distinct loaded now rows rest found sorted few taken some = record {
  some = some;
  few = few;
  distinct = subst (IsDistinct are_one) (sym taken.first) (distinct-take ENTRIES_MAX (stale_of loaded now rows) (distinct-partitions (is_stale_row loaded now) rows (tested sorted)));
}

-- ---- one command after another

pub no_expiries : (left : ℕ) (group : List ℕ) (ps : List TopicPartition) → length (take ENTRIES_MAX ps) ≡ 0 → expiries left group ps ≡ []
unfolding expiries
no_expiries zero group ps none = refl
no_expiries (suc left) group [] none = refl
no_expiries (suc left) group (p ∷ ps) none = cc

pub spent_expiries : (left : ℕ) (group : List ℕ) (ps : List TopicPartition) → left ≤ 0 → expiries left group ps ≡ []
unfolding expiries
spent_expiries zero group ps none = refl
spent_expiries (suc left) group ps none = absurd (omega (arith, none))

pub next_expiry : (left next : ℕ) (group : List ℕ) (ps found later : List TopicPartition) → left ≡ next + 1 → found ≡ take ENTRIES_MAX ps → later ≡ drop ENTRIES_MAX ps → (length found ≡ 0 → ⊥) → expiries left group ps ≡ Expired (record { group = group; partitions = found }) ∷ expiries next group later
unfolding expiries
next_expiry zero next group ps found later is first others some = absurd (omega (arith, is))
next_expiry (suc left) next group [] found later is first others some = absurd (some (ap length first))
next_expiry (suc left) next group (p ∷ ps) found later is first others some =
    let same : left ≡ next = omega (arith, is) in
    ap (λ n. Expired (record { group = group; partitions = take ENTRIES_MAX (p ∷ ps) }) ∷ expiries n group (drop ENTRIES_MAX (p ∷ ps))) same ∙ ap (λ qs. Expired (record { group = group; partitions = qs }) ∷ expiries next group (drop ENTRIES_MAX (p ∷ ps))) (sym first) ∙ ap (λ qs. Expired (record { group = group; partitions = found }) ∷ expiries next group qs) (sym others)
