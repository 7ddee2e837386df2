-- The removal of some partitions from the shelf of a group.
use Rattle.std.proofs.Common.{◌≡◌, ℕ, ◌+◌, ◌<◌, Bool, true, false, cond, List, [], ◌∷◌, ◌++◌, length, Some, None, ap, sym, ◌∙◌, refl, subst, arith}
use Rattle.std.proofs.Math.Dec.{T}
use Rattle.std.specs.Prelude.{◌||◌, IsTrue, not, filter, bytes_eq}
use Rattle.std.specs.BTreeMap.{is_at}
use Rattle.std.specs.Map.{lookup, set_value}
use Rattle.std.specs.Ordering.{eq_by_cmp, is_eq}
use Rattle.std.specs.declared.cmp.Ordering.{Ordering}
use Rattle.std.specs.declared.cmp.Ordering.TheVariants.{Less, Equal, Greater}
use Rattle.std.specs.Cmp.{tied_itself}
use Rattle.std.specs.FinMap as map
use Rattle.std.specs.FinMap.{find, is_sorted, put}
use Rattle.std.specs.FinMap.Entries.{by_order, find-where_key, is_sorted-where_key}
use Rattle.std.proofs.lemmas.Slice.Eq.{bytes_eq-Decides}
use Rattle.cg_record.specs.declared.topic_partition.TopicPartition.{TopicPartition}
use Rattle.cg_record.specs.Partitions.{partition_cmp}
use Rattle.cg_fold.specs.Key.{KeptRow, OffsetKey, is_among, name_cmp, rows_beside}
use Rattle.cg_fold.specs.Grouped.{is_another}
use Rattle.cg_fold.specs.Shelf.{KeptShelf, EachShelf, AreShelves, stock, rows_on, rows_at, with_fewer, with_shelf}
use Rattle.cg_fold.specs.Durable.{is_beside}
use Rattle.cg_fold.proofs.KeyOrder.{key_total, key_same, name_total, name_same, partition_same}
use Rattle.cg_fold.proofs.Place.{above_all, below_all, both}
use Rattle.cg_fold.proofs.Put.{tested, is_true, put_keeps_order}
use Rattle.cg_fold.proofs.Names.{itself, strange, tie_is_same, tied}
use Rattle.cg_fold.proofs.Maps.{lookup-find, set_value-put}
use Rattle.cg_fold.proofs.Stock.{kept_all, sound, none_above, get-stock}
use Rattle.cg_fold.proofs.Kept.{Offsets, map_of, filter_keeps_order}
use Rattle.cg_fold.proofs.Restock.{each-filter, each-put, get-mapped, length-stock-put, rows_at-put, sorted-at}

-- ---- the shelves without that of a group

abbrev others : List ℕ → List KeptShelf → List KeptShelf
others g shelves = filter (λ held. is_another g held.0) shelves

others_absent : (g : List ℕ) (shelves : List KeptShelf) → find name_cmp g shelves ≡ None → others g shelves ≡ shelves
others_absent g [] none = refl
others_absent g (s ∷ shelves) none = step (eq_by_cmp name_cmp g s.0) refl (others_absent g shelves) none
  where
    step : (b : Bool) → eq_by_cmp name_cmp g s.0 ≡ b → (find name_cmp g shelves ≡ None → others g shelves ≡ shelves) → cond b (Some s.1) (find name_cmp g shelves) ≡ None
        → cond (not (bytes_eq s.0 g)) (s ∷ others g shelves) (others g shelves) ≡ s ∷ shelves
    step true is rest clash = absurd cc
    step false is rest none = ap (λ b. cond (not b) (s ∷ others g shelves) (others g shelves)) (strange g s.0 is) ∙ ap (λ l. s ∷ l) (rest none)

-- a shelf of the group changes nothing there
others-put : (g : List ℕ) (rows : List KeptRow) (shelves : List KeptShelf) → others g (put name_cmp g rows shelves) ≡ others g shelves
others-put g rows [] = ap (λ b. cond (not b) ((g, rows) ∷ []) []) (itself g)
others-put g rows (s ∷ shelves) = step (name_cmp g s.0) refl (others-put g rows shelves)
  where
    step : (o : Ordering) → name_cmp g s.0 ≡ o → others g (put name_cmp g rows shelves) ≡ others g shelves
        → others g (by_order o ((g, rows) ∷ s ∷ shelves) ((s.0, rows) ∷ shelves) (s ∷ put name_cmp g rows shelves)) ≡ others g (s ∷ shelves)
    step Less is rest = ap (λ b. cond (not b) ((g, rows) ∷ others g (s ∷ shelves)) (others g (s ∷ shelves))) (itself g)
    step Equal is rest =
        let same : bytes_eq s.0 g ≡ true = (bytes_eq-Decides s.0 g).1 (sym (tied g s.0 (ap is_eq is))) in
        ap (λ b. cond (not b) ((s.0, rows) ∷ others g shelves) (others g shelves)) same ∙ sym (ap (λ b. cond (not b) (s ∷ others g shelves) (others g shelves)) same)
    step Greater is rest = ap (λ l. cond (not (bytes_eq s.0 g)) (s ∷ l) l) rest

-- an empty shelf has no offsets
stock-others : (g : List ℕ) (shelves : List KeptShelf) → T (is_sorted name_cmp shelves) → stock (others g shelves) ≡ stock (put name_cmp g [] shelves)
stock-others g [] sorted = refl
stock-others g (s ∷ shelves) sorted =
    let parts = both (below_all name_cmp s.0 shelves) (is_sorted name_cmp shelves) sorted in
    step (name_cmp g s.0) refl parts.0 (stock-others g shelves parts.1)
  where
    stays : eq_by_cmp name_cmp g s.0 ≡ false → stock (others g (s ∷ shelves)) ≡ stock (s ∷ others g shelves)
    stays is = ap (λ b. stock (cond (not b) (s ∷ others g shelves) (others g shelves))) (strange g s.0 is)

    step : (o : Ordering) → name_cmp g s.0 ≡ o → T (below_all name_cmp s.0 shelves) → stock (others g shelves) ≡ stock (put name_cmp g [] shelves)
        → stock (others g (s ∷ shelves)) ≡ stock (by_order o ((g, []) ∷ s ∷ shelves) ((s.0, []) ∷ shelves) (s ∷ put name_cmp g [] shelves))
    step Less is above rest = stays (ap is_eq is) ∙ ap (λ l. stock (s ∷ l)) (others_absent g shelves (above_all name_total g s.0 shelves is above))
    step Equal is above rest =
        let same : g ≡ s.0 = tied g s.0 (ap is_eq is) in
        ap (λ b. stock (cond (not b) (s ∷ others g shelves) (others g shelves))) ((bytes_eq-Decides s.0 g).1 (sym same))
        ∙ ap stock (others_absent g shelves (ap (λ q. find name_cmp q shelves) same ∙ none_above s.0 shelves above))
    step Greater is above rest = stays (ap is_eq is) ∙ ap (λ l. kept_all s.0 s.1 ++ l) rest

-- ---- the shelves with these rows for a group

stock-with_shelf : (g : List ℕ) (rows : List KeptRow) (shelves : List KeptShelf) → T (is_sorted name_cmp shelves) → stock (with_shelf g rows shelves) ≡ stock (put name_cmp g rows shelves)
stock-with_shelf g [] shelves sorted = stock-others g shelves sorted
stock-with_shelf g (row ∷ rows) shelves sorted = refl

rows_at-with_shelf : (g : List ℕ) (rows : List KeptRow) (shelves : List KeptShelf) → rows_at g (with_shelf g rows shelves) ≡ rows
rows_at-with_shelf g [] shelves =
    ap rows_on (find-where_key name_cmp (is_another g) g (λ x tie. ap (is_another g) (sym (name_same g x tie))) shelves ∙ ap (λ b. cond (not b) (find name_cmp g shelves) None) (itself g))
rows_at-with_shelf g (row ∷ rows) shelves = rows_at-put g g (row ∷ rows) shelves ∙ ap (λ o. cond (is_eq o) (row ∷ rows) (rows_at g shelves)) (tied_itself name_total g)

some_on_shelf : (g : List ℕ) (rows : List KeptRow) (shelves : List KeptShelf) → 0 < length rows → with_shelf g rows shelves ≡ put name_cmp g rows shelves
some_on_shelf g [] shelves some = absurd (omega (arith, some))
some_on_shelf g (row ∷ rows) shelves some = refl

none_on_shelf : (g : List ℕ) (rows : List KeptRow) (shelves : List KeptShelf) → length rows ≡ 0 → with_shelf g rows shelves ≡ others g shelves
none_on_shelf g [] shelves none = refl
none_on_shelf g (row ∷ rows) shelves none = absurd (omega (arith, none))

shelf_keeps_order : (g : List ℕ) (rows : List KeptRow) (shelves : List KeptShelf) → IsTrue (is_sorted name_cmp shelves) → IsTrue (is_sorted name_cmp (with_shelf g rows shelves))
shelf_keeps_order g [] shelves sorted = filter_keeps_order name_cmp (is_another g) shelves (others g shelves) refl sorted
shelf_keeps_order g (row ∷ rows) shelves sorted = put_keeps_order name_total g (row ∷ rows) shelves (put name_cmp g (row ∷ rows) shelves) refl sorted

each-with_shelf : (g : List ℕ) (rows : List KeptRow) (shelves : List KeptShelf) → T (is_sorted partition_cmp rows) → EachShelf shelves → EachShelf (with_shelf g rows shelves)
each-with_shelf g [] shelves sorted each = each-filter (is_another g) shelves each
each-with_shelf g (row ∷ rows) shelves sorted each = each-put g (row ∷ rows) shelves (record { some = omega arith; by_partition = is_true _ sorted }) each

-- ---- the removal, in the form of the calls

-- the group has no shelf
pub fewer_absent : (before : List KeptShelf) (group : List ℕ) (partitions : List TopicPartition) → lookup (is_at (name_cmp group)) before ≡ None → before ≡ with_fewer group partitions before
fewer_absent before group partitions absent =
    let none : find name_cmp group before ≡ None = sym (lookup-find name_cmp group before) ∙ absent in
    sym (ap (λ f. with_shelf group (rows_beside partitions (rows_on f)) before) none ∙ others_absent group before none)

-- the group has a shelf
module _ (before held : List KeptShelf) (group : List ℕ) (partitions : List TopicPartition) (rows rows' : List KeptRow) (there : lookup (is_at (name_cmp group)) before ≡ Some rows)
    (set_is : held ≡ set_value (is_at (name_cmp group)) before rows') (new : rows' ≡ rows_beside partitions rows) (sorted : IsTrue (is_sorted name_cmp before)) where
  found : find name_cmp group before ≡ Some rows
  found = sym (lookup-find name_cmp group before) ∙ there

  put_is : held ≡ put name_cmp group rows' before
  put_is = set_is ∙ set_value-put name_total group rows rows' before (tested sorted) found

  left_are : rows' ≡ rows_beside partitions (rows_at group before)
  left_are = new ∙ sym (ap (λ f. rows_beside partitions (rows_on f)) found)

  pub held_sorted : IsTrue (is_sorted name_cmp held)
  held_sorted = put_keeps_order name_total group rows' before held put_is sorted

  pub fewer_some : 0 < length rows' → held ≡ with_fewer group partitions before
  fewer_some some = put_is ∙ sym (some_on_shelf group rows' before some) ∙ ap (λ r. with_shelf group r before) left_are

  pub fewer_none : (after : List KeptShelf) → length rows' ≡ 0 → after ≡ others group held → after ≡ with_fewer group partitions before
  fewer_none after none left =
      left ∙ ap (others group) put_is ∙ others-put group rows' before ∙ sym (none_on_shelf group rows' before none) ∙ ap (λ r. with_shelf group r before) left_are

  -- the number of offsets that are gone
  pub gone_from : (after : List KeptShelf) (gone : ℕ) → after ≡ with_fewer group partitions before → length rows' + gone ≡ length rows → length (rows_at group after) + gone ≡ length (rows_at group before)
  gone_from after gone is count =
      let now : rows_at group after ≡ rows' = ap (rows_at group) is ∙ rows_at-with_shelf group (rows_beside partitions (rows_at group before)) before ∙ sym left_are in
      omega (arith, count, ap length now, ap (λ f. length (rows_on f)) found)

-- ---- the effect on the map, the count and the shelves

module _ (g : List ℕ) (partitions : List TopicPartition) (len : ℕ) (before after : List KeptShelf) (are : AreShelves len before) (is : after ≡ with_fewer g partitions before) where
  sorted_left : T (is_sorted partition_cmp (rows_beside partitions (rows_at g before)))
  sorted_left = is_sorted-where_key partition_cmp (λ p. not (is_among partitions p)) (rows_at g before) (sorted-at g before (sound before are.each))

  pub shelves-fewer : (now : Offsets) → map_of (stock before) ≡ now → map_of (stock after) ≡ map.retain_keys now (is_beside g partitions)
  shelves-fewer now now_is =
      let rows = rows_beside partitions (rows_at g before) in
      let in_order = tested are.by_group in
      let each-sound = sound before are.each in
      let beside = is_beside g partitions in
      ap (λ l. map_of (stock l)) is ∙ ap map_of (stock-with_shelf g rows before in_order)
      ∙ map.same_map key_total key_same _ _ (λ q.
      get-mapped q g rows before sorted_left in_order each-sound
      ∙ step q (eq_by_cmp name_cmp q.group g) refl
      ∙ ap (λ o. cond (beside q) o None) (sym (get-stock q before in_order each-sound))
      ∙ sym (map.get-retain_keys (map_of (stock before)) beside q (λ x tie. ap beside (sym (key_same q x tie)))))
      ∙ ap (λ m. map.retain_keys m beside) now_is
    where
      step : (q : OffsetKey) (b : Bool) → eq_by_cmp name_cmp q.group g ≡ b
          → find partition_cmp q.partition (cond b (rows_beside partitions (rows_at g before)) (rows_at q.group before)) ≡ cond (is_beside g partitions q) (find partition_cmp q.partition (rows_at q.group before)) None
      step q true tie =
          let p : TopicPartition → Bool = λ partition. not (is_among partitions partition) in
          find-where_key partition_cmp p q.partition (λ x same. ap p (sym (partition_same q.partition x same))) (rows_at g before)
          ∙ ap (λ h. cond (p q.partition) (find partition_cmp q.partition (rows_at h before)) None) (sym (tied q.group g tie))
          ∙ ap (λ c. cond (not c || p q.partition) (find partition_cmp q.partition (rows_at q.group before)) None) (sym tie ∙ tie_is_same q.group g)
      step q false tie =
          ap (λ c. cond (not c || not (is_among partitions q.partition)) (find partition_cmp q.partition (rows_at q.group before)) None) (sym tie ∙ tie_is_same q.group g)

  pub length-stock-fewer : length (stock after) + length (rows_at g before) ≡ len + length (rows_at g after)
  length-stock-fewer =
      let rows = rows_beside partitions (rows_at g before) in
      let in_order = tested are.by_group in
      let count : length (stock after) ≡ length (stock (put name_cmp g rows before)) = ap (λ l. length (stock l)) is ∙ ap length (stock-with_shelf g rows before in_order) in
      let there : rows_at g after ≡ rows = ap (rows_at g) is ∙ rows_at-with_shelf g rows before in
      omega (arith, count, ap length there, length-stock-put g rows before in_order, are.counted)

  pub are_fewer : (new_len : ℕ) → new_len ≡ length (stock after) → AreShelves new_len after
  are_fewer new_len count =
      let rows = rows_beside partitions (rows_at g before) in
      record {
        by_group = subst (λ l. IsTrue (is_sorted name_cmp l)) (sym is) (shelf_keeps_order g rows before are.by_group);
        each = subst EachShelf (sym is) (each-with_shelf g rows before sorted_left are.each);
        counted = count;
      }
