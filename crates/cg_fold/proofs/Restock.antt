-- The effect of commits and deletions on the shelves and on the map of their offsets.
use Rattle.std.proofs.Common.{◌≡◌, ℕ, ◌+◌, ◌<◌, ◌≤◌, Bool, true, false, cond, List, [], ◌∷◌, ◌++◌, length, Option, Some, None, ap, sym, ◌∙◌, refl, subst, arith}
use Rattle.std.proofs.Math.Dec.{T}
use Rattle.std.specs.Prelude.{not, filter, bytes_eq}
use Rattle.std.specs.List.{fold}
use Rattle.std.specs.Ordering.{eq_by_cmp, is_eq, ordering_then}
use Rattle.std.specs.declared.cmp.Ordering.{Ordering}
use Rattle.std.specs.declared.cmp.Ordering.TheVariants.{Less, Equal, Greater}
use Rattle.std.specs.Cmp.{tied_itself}
use Rattle.std.specs.FinMap as map
use Rattle.std.specs.FinMap.{find, is_sorted, put}
use Rattle.std.specs.FinMap.Entries.{by_order, find-put, find-where_key}
use Rattle.std.proofs.lemmas.Slice.Eq.{bytes_eq-Decides}
use Rattle.cg_record.specs.declared.committed.Committed.{Committed}
use Rattle.cg_record.specs.declared.entry.Entry.{Entry}
use Rattle.cg_fold.specs.declared.stored_offset.StoredOffset.{StoredOffset}
use Rattle.cg_record.specs.declared.topic_partition.TopicPartition.{TopicPartition}
use Rattle.cg_record.specs.Partitions.{partition_cmp}
use Rattle.cg_fold.specs.Key.{KeptOffset, KeptRow, OffsetKey, key_cmp, key_of, name_cmp, put_row, row_of, rows_of}
use Rattle.cg_fold.specs.Grouped.{is_another}
use Rattle.cg_fold.specs.Shelf.{KeptShelf, AreShelfRows, EachShelf, AreShelves, stock, rows_on, rows_at, with_more}
use Rattle.cg_fold.specs.Durable.{is_of_other, with_entry}
use Rattle.cg_fold.proofs.KeyOrder.{key_total, key_same, name_total, name_same, partition_total}
use Rattle.cg_fold.proofs.Place.{above_all, below_all, both}
use Rattle.cg_fold.proofs.Put.{tested, is_true, sorted-put, put_keeps_order}
use Rattle.cg_fold.proofs.Own.{length-fold, sorted-fold, some-more}
use Rattle.cg_fold.proofs.Names.{strange, tied}
use Rattle.cg_fold.proofs.Stock.{EachSound, kept_all, sound, none_above, get-stock}
use Rattle.cg_fold.proofs.Kept.{Offsets, map_of, filter_keeps_order}

-- ---- a shelf inserted among the others

sound-put : (g : List ℕ) (rows : List KeptRow) (shelves : List KeptShelf) → T (is_sorted partition_cmp rows) → EachSound shelves → EachSound (put name_cmp g rows shelves)
sound-put g rows [] sorted each = (sorted, tt)
sound-put g rows (s ∷ shelves) sorted each = step (name_cmp g s.0) (sound-put g rows shelves sorted each.1)
  where
    step : (o : Ordering) → EachSound (put name_cmp g rows shelves) → EachSound (by_order o ((g, rows) ∷ s ∷ shelves) ((s.0, rows) ∷ shelves) (s ∷ put name_cmp g rows shelves))
    step Less rest = (sorted, each)
    step Equal rest = (sorted, each.1)
    step Greater rest = (each.0, rest)

pub each-put : (g : List ℕ) (rows : List KeptRow) (shelves : List KeptShelf) → AreShelfRows rows → EachShelf shelves → EachShelf (put name_cmp g rows shelves)
each-put g rows [] new each = (new, tt)
each-put g rows (s ∷ shelves) new each = step (name_cmp g s.0) (each-put g rows shelves new each.1)
  where
    step : (o : Ordering) → EachShelf (put name_cmp g rows shelves) → EachShelf (by_order o ((g, rows) ∷ s ∷ shelves) ((s.0, rows) ∷ shelves) (s ∷ put name_cmp g rows shelves))
    step Less rest = (new, each)
    step Equal rest = (new, each.1)
    step Greater rest = (each.0, rest)

on-cond : (b : Bool) (rows : List KeptRow) (found : Option (List KeptRow)) → rows_on (cond b (Some rows) found) ≡ cond b rows (rows_on found)
on-cond true rows found = refl
on-cond false rows found = refl

pub rows_at-put : (q g : List ℕ) (rows : List KeptRow) (shelves : List KeptShelf) → rows_at q (put name_cmp g rows shelves) ≡ cond (eq_by_cmp name_cmp q g) rows (rows_at q shelves)
rows_at-put q g rows shelves = ap rows_on (find-put name_cmp name_total q g rows shelves) ∙ on-cond (eq_by_cmp name_cmp q g) rows (find name_cmp q shelves)

pub sorted-at : (g : List ℕ) (shelves : List KeptShelf) → EachSound shelves → T (is_sorted partition_cmp (rows_at g shelves))
sorted-at g [] each = tt
sorted-at g (s ∷ shelves) each = step (eq_by_cmp name_cmp g s.0) (sorted-at g shelves each.1)
  where
    step : (b : Bool) → T (is_sorted partition_cmp (rows_at g shelves)) → T (is_sorted partition_cmp (rows_on (cond b (Some s.1) (find name_cmp g shelves))))
    step true rest = each.0
    step false rest = rest

-- ---- the map of the shelves with these rows for one group

abbrev pub mapped : List ℕ → List KeptRow → List KeptShelf → Offsets
mapped g rows shelves = map_of (stock (put name_cmp g rows shelves))

pub get-mapped : (k : OffsetKey) (g : List ℕ) (rows : List KeptRow) (shelves : List KeptShelf) → T (is_sorted partition_cmp rows) → T (is_sorted name_cmp shelves) → EachSound shelves
    → map.get (mapped g rows shelves) k ≡ find partition_cmp k.partition (cond (eq_by_cmp name_cmp k.group g) rows (rows_at k.group shelves))
get-mapped k g rows shelves sorted in_order each =
    get-stock k (put name_cmp g rows shelves) (sorted-put name_total g rows shelves in_order) (sound-put g rows shelves sorted each)
    ∙ ap (find partition_cmp k.partition) (rows_at-put k.group g rows shelves)

-- a key of the group has the partition or another one; a key of another group differs
tie-within : (q : OffsetKey) (g : List ℕ) (at : TopicPartition) (b : Bool) → eq_by_cmp name_cmp q.group g ≡ b
    → eq_by_cmp key_cmp q (key_of g at) ≡ cond b (eq_by_cmp partition_cmp q.partition at) false
tie-within q g at b is = step (name_cmp q.group g) refl b is
  where
    step : (o : Ordering) → name_cmp q.group g ≡ o → (b : Bool) → is_eq o ≡ b → is_eq (ordering_then o (partition_cmp q.partition at)) ≡ cond b (is_eq (partition_cmp q.partition at)) false
    step Less o-is true is = absurd (cc is)
    step Less o-is false is = refl
    step Equal o-is true is = refl
    step Equal o-is false is = absurd (cc is)
    step Greater o-is true is = absurd (cc is)
    step Greater o-is false is = refl

insert-mapped : (g : List ℕ) (at : TopicPartition) (v : StoredOffset) (rows : List KeptRow) (shelves : List KeptShelf) → T (is_sorted partition_cmp rows) → T (is_sorted name_cmp shelves) → EachSound shelves
    → map.insert (mapped g rows shelves) (key_of g at) v ≡ mapped g (put_row rows (at, v)) shelves
insert-mapped g at v rows shelves sorted in_order each =
    let key = key_of g at in
    map.same_map key_total key_same _ _ (λ q.
    map.get-insert key_total (mapped g rows shelves) key v q
    ∙ ap (cond (eq_by_cmp key_cmp q key) (Some v)) (get-mapped q g rows shelves sorted in_order each)
    ∙ ap (λ b. cond b (Some v) (find partition_cmp q.partition (cond (eq_by_cmp name_cmp q.group g) rows (rows_at q.group shelves)))) (tie-within q g at (eq_by_cmp name_cmp q.group g) refl)
    ∙ step q (eq_by_cmp name_cmp q.group g)
    ∙ sym (get-mapped q g (put_row rows (at, v)) shelves (sorted-put partition_total at v rows sorted) in_order each))
  where
    step : (q : OffsetKey) (b : Bool)
        → cond (cond b (eq_by_cmp partition_cmp q.partition at) false) (Some v) (find partition_cmp q.partition (cond b rows (rows_at q.group shelves))) ≡ find partition_cmp q.partition (cond b (put_row rows (at, v)) (rows_at q.group shelves))
    step q true = sym (find-put partition_cmp partition_total q.partition at v rows)
    step q false = refl

fold-mapped : (g : List ℕ) (moment : Option ℕ) (entries : List Entry) (rows : List KeptRow) (shelves : List KeptShelf) → T (is_sorted partition_cmp rows) → T (is_sorted name_cmp shelves) → EachSound shelves
    → fold (with_entry g moment) (mapped g rows shelves) entries ≡ mapped g (fold put_row rows (rows_of moment entries)) shelves
fold-mapped g moment [] rows shelves sorted in_order each-sound = refl
fold-mapped g moment (entry ∷ entries) rows shelves sorted in_order each-sound =
    let new = row_of moment entry in
    ap (λ m. fold (with_entry g moment) m entries) (insert-mapped g new.0 new.1 rows shelves sorted in_order each-sound)
    ∙ fold-mapped g moment entries (put_row rows new) shelves (sorted-put partition_total new.0 new.1 rows sorted) in_order each-sound

-- replacing a shelf by itself changes nothing
mapped-same : (g : List ℕ) (shelves : List KeptShelf) → T (is_sorted name_cmp shelves) → EachSound shelves → map_of (stock shelves) ≡ mapped g (rows_at g shelves) shelves
mapped-same g shelves in_order each =
    map.same_map key_total key_same _ _ (λ q.
    get-stock q shelves in_order each ∙ step q (eq_by_cmp name_cmp q.group g) refl
    ∙ sym (get-mapped q g (rows_at g shelves) shelves (sorted-at g shelves each) in_order each))
  where
    step : (q : OffsetKey) (b : Bool) → eq_by_cmp name_cmp q.group g ≡ b → find partition_cmp q.partition (rows_at q.group shelves) ≡ find partition_cmp q.partition (cond b (rows_at g shelves) (rows_at q.group shelves))
    step q true is = ap (λ h. find partition_cmp q.partition (rows_at h shelves)) (tied q.group g is)
    step q false is = refl

-- the effect of a commit on the map
pub shelves-commit : (commit : Committed) (len : ℕ) (before after : List KeptShelf) (now : Offsets) → AreShelves len before
    → after ≡ with_more commit.group (rows_of commit.moment commit.entries) before → map_of (stock before) ≡ now
    → map_of (stock after) ≡ fold (with_entry commit.group commit.moment) now commit.entries
shelves-commit commit len before after now are put_is is =
    let in_order = tested are.by_group in
    let each-sound = sound before are.each in
    ap (λ l. map_of (stock l)) put_is
    ∙ sym (fold-mapped commit.group commit.moment commit.entries (rows_at commit.group before) before (sorted-at commit.group before each-sound) in_order each-sound)
    ∙ ap (λ m. fold (with_entry commit.group commit.moment) m commit.entries) (sym (mapped-same commit.group before in_order each-sound) ∙ is)

-- ---- the number of offsets

length-kept : (g : List ℕ) (rows : List KeptRow) (others : List KeptOffset) → length (kept_all g rows ++ others) ≡ length rows + length others
length-kept g [] others = omega arith
length-kept g (row ∷ rows) others = omega (arith, length-kept g rows others)

pub length-stock-put : (g : List ℕ) (rows : List KeptRow) (shelves : List KeptShelf) → T (is_sorted name_cmp shelves)
    → length (stock (put name_cmp g rows shelves)) + length (rows_at g shelves) ≡ length (stock shelves) + length rows
length-stock-put g rows [] sorted = omega (arith, length-kept g rows [])
length-stock-put g rows (s ∷ shelves) sorted =
    let parts = both (below_all name_cmp s.0 shelves) (is_sorted name_cmp shelves) sorted in
    step (name_cmp g s.0) refl parts.0 (length-stock-put g rows shelves parts.1)
  where
    step : (o : Ordering) → name_cmp g s.0 ≡ o → T (below_all name_cmp s.0 shelves)
        → length (stock (put name_cmp g rows shelves)) + length (rows_at g shelves) ≡ length (stock shelves) + length rows
        → length (stock (by_order o ((g, rows) ∷ s ∷ shelves) ((s.0, rows) ∷ shelves) (s ∷ put name_cmp g rows shelves))) + length (rows_on (cond (is_eq o) (Some s.1) (find name_cmp g shelves))) ≡ length (kept_all s.0 s.1 ++ stock shelves) + length rows
    step Less is above rest =
        let none : length (rows_at g shelves) ≡ 0 = ap (λ f. length (rows_on f)) (above_all name_total g s.0 shelves is above) in
        omega (arith, none, length-kept g rows (kept_all s.0 s.1 ++ stock shelves))
    step Equal is above rest = omega (arith, length-kept s.0 rows (stock shelves), length-kept s.0 s.1 (stock shelves))
    step Greater is above rest = omega (arith, rest, length-kept s.0 s.1 (stock (put name_cmp g rows shelves)), length-kept s.0 s.1 (stock shelves))

pub length-stock-more : (g : List ℕ) (len : ℕ) (before after : List KeptShelf) (more : List KeptRow) → AreShelves len before → after ≡ with_more g more before
    → length (stock after) + length (rows_at g before) ≡ len + length (rows_at g after)
length-stock-more g len before after more are put_is =
    let rows = fold put_row (rows_at g before) more in
    let there : rows_at g after ≡ rows = ap (rows_at g) put_is ∙ rows_at-put g g rows before ∙ ap (λ o. cond (is_eq o) rows (rows_at g before)) (tied_itself name_total g) in
    let count : length (stock after) ≡ length (stock (put name_cmp g rows before)) = ap (λ l. length (stock l)) put_is in
    omega (arith, count, ap length there, length-stock-put g rows before (tested are.by_group), are.counted)

-- ---- the removal of a group

pub each-filter : (p : List ℕ → Bool) (shelves : List KeptShelf) → EachShelf shelves → EachShelf (filter (λ s. p s.0) shelves)
each-filter p [] each = tt
each-filter p (s ∷ shelves) each = step (p s.0) (each-filter p shelves each.1)
  where
    step : (b : Bool) → EachShelf (filter (λ t. p t.0) shelves) → EachShelf (cond b (s ∷ filter (λ t. p t.0) shelves) (filter (λ t. p t.0) shelves))
    step true rest = (each.0, rest)
    step false rest = rest

found-kept : (q : TopicPartition) (b : Bool) (found : Option (List KeptRow)) → find partition_cmp q (rows_on (cond b found None)) ≡ cond b (find partition_cmp q (rows_on found)) None
found-kept q true found = refl
found-kept q false found = refl

pub shelves-forget : (g : List ℕ) (len : ℕ) (before after : List KeptShelf) (now : Offsets) → AreShelves len before
    → after ≡ filter (λ held. is_another g held.0) before → map_of (stock before) ≡ now → map_of (stock after) ≡ map.retain_keys now (is_of_other g)
shelves-forget g len before after now are left is =
    let others = filter (λ (held : KeptShelf). is_another g held.0) before in
    let sorted : T (is_sorted name_cmp others) = tested (filter_keeps_order name_cmp (is_another g) before others refl are.by_group) in
    ap (λ l. map_of (stock l)) left
    ∙ map.same_map key_total key_same _ _ (λ q.
    get-stock q others sorted (sound others (each-filter (is_another g) before are.each))
    ∙ ap (λ f. find partition_cmp q.partition (rows_on f)) (find-where_key name_cmp (is_another g) q.group (λ x tie. ap (is_another g) (sym (name_same q.group x tie))) before)
    ∙ found-kept q.partition (is_another g q.group) (find name_cmp q.group before)
    ∙ ap (λ o. cond (is_another g q.group) o None) (sym (get-stock q before (tested are.by_group) (sound before are.each)))
    ∙ sym (map.get-retain_keys (map_of (stock before)) (is_of_other g) q (λ x tie. ap (is_of_other g) (sym (key_same q x tie)))))
    ∙ ap (λ m. map.retain_keys m (is_of_other g)) is

length-stock-left : (g : List ℕ) (shelves : List KeptShelf) → T (is_sorted name_cmp shelves)
    → length (stock (filter (λ held. is_another g held.0) shelves)) + length (rows_at g shelves) ≡ length (stock shelves)
length-stock-left g [] sorted = refl
length-stock-left g (s ∷ shelves) sorted =
    let parts = both (below_all name_cmp s.0 shelves) (is_sorted name_cmp shelves) sorted in
    step (eq_by_cmp name_cmp g s.0) refl parts.0 (length-stock-left g shelves parts.1)
  where
    rest : List KeptShelf
    rest = filter (λ held. is_another g held.0) shelves

    step : (b : Bool) → eq_by_cmp name_cmp g s.0 ≡ b → T (below_all name_cmp s.0 shelves) → length (stock rest) + length (rows_at g shelves) ≡ length (stock shelves)
        → length (stock (cond (not (bytes_eq s.0 g)) (s ∷ rest) rest)) + length (rows_on (cond b (Some s.1) (find name_cmp g shelves))) ≡ length (kept_all s.0 s.1 ++ stock shelves)
    step true is above others =
        let same : g ≡ s.0 = tied g s.0 is in
        let none : length (rows_at g shelves) ≡ 0 = ap (λ q. length (rows_at q shelves)) same ∙ ap (λ f. length (rows_on f)) (none_above s.0 shelves above) in
        let gone : length (stock (cond (not (bytes_eq s.0 g)) (s ∷ rest) rest)) ≡ length (stock rest) = ap (λ b. length (stock (cond (not b) (s ∷ rest) rest))) ((bytes_eq-Decides s.0 g).1 (sym same)) in
        omega (arith, gone, none, others, length-kept s.0 s.1 (stock shelves))
    step false is above others =
        let stays : length (stock (cond (not (bytes_eq s.0 g)) (s ∷ rest) rest)) ≡ length (kept_all s.0 s.1 ++ stock rest) = ap (λ b. length (stock (cond (not b) (s ∷ rest) rest))) (strange g s.0 is) in
        omega (arith, stays, others, length-kept s.0 s.1 (stock shelves), length-kept s.0 s.1 (stock rest))

pub length-stock-others : (g : List ℕ) (len : ℕ) (before after : List KeptShelf) → AreShelves len before → after ≡ filter (λ held. is_another g held.0) before
    → length (stock after) + length (rows_at g before) ≡ len
length-stock-others g len before after are left = ap (λ l. length (stock l) + length (rows_at g before)) left ∙ length-stock-left g before (tested are.by_group) ∙ sym are.counted

-- the offsets of the group after a commit are the old ones with the new ones inserted
pub rows_at-more : (g : List ℕ) (before after : List KeptShelf) (more : List KeptRow) → after ≡ with_more g more before → rows_at g after ≡ fold put_row (rows_at g before) more
rows_at-more g before after more put_is =
    let rows = fold put_row (rows_at g before) more in
    ap (rows_at g) put_is ∙ rows_at-put g g rows before ∙ ap (λ o. cond (is_eq o) rows (rows_at g before)) (tied_itself name_total g)

-- their number is at most the sum of both
pub length-rows-more : (g : List ℕ) (before after : List KeptShelf) (more : List KeptRow) → after ≡ with_more g more before → length (rows_at g after) ≤ length (rows_at g before) + length more
length-rows-more g before after more put_is = omega (arith, ap length (rows_at-more g before after more put_is), length-fold (rows_at g before) more)

-- no group has more offsets than there are in all
pub length-rows : (g : List ℕ) (len : ℕ) (shelves : List KeptShelf) → AreShelves len shelves → length (rows_at g shelves) ≤ len
length-rows g len shelves are = omega (arith, length-stock-others g len shelves _ are refl)

-- ---- the result is a list of shelves

pub shelves-more : (g : List ℕ) (len new_len : ℕ) (before after : List KeptShelf) (more : List KeptRow) → AreShelves len before → 0 < length more
    → after ≡ with_more g more before → new_len ≡ length (stock after) → AreShelves new_len after
shelves-more g len new_len before after more are some put_is count =
    let sorted = sorted-at g before (sound before are.each) in
    let rows = fold put_row (rows_at g before) more in
    let shelf : AreShelfRows rows = record { some = some-more (rows_at g before) more some; by_partition = is_true _ (sorted-fold (rows_at g before) more sorted) } in
    record {
      by_group = put_keeps_order name_total g rows before after put_is are.by_group;
      each = subst EachShelf (sym put_is) (each-put g rows before shelf are.each);
      counted = count;
    }

pub shelves-others : (g : List ℕ) (len new_len : ℕ) (before after : List KeptShelf) → AreShelves len before → after ≡ filter (λ held. is_another g held.0) before
    → new_len ≡ length (stock after) → AreShelves new_len after
shelves-others g len new_len before after are left count = record {
  by_group = filter_keeps_order name_cmp (is_another g) before after left are.by_group;
  each = subst EachShelf (sym left) (each-filter (is_another g) before are.each);
  counted = count;
}
