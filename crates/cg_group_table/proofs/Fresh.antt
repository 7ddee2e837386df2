-- Rows that are not stale before a moment, one after another.
use Rattle.std.proofs.Common.{◌≡◌, ◌<◌, ◌≤◌, ◌+◌, ℕ, zero, suc, true, false, cond, Some, List, [], ◌∷◌, get_or, length, take, refl, sym, ap, ◌∙◌, arith, subst, Option, unwrap_or}
use Rattle.std.specs.FinMap.{find}
use Rattle.std.specs.Ordering.{eq_by_cmp}
use Rattle.cg_record.specs.Partitions.{partition_cmp}
use Rattle.cg_record.specs.declared.topic_partition.TopicPartition.{TopicPartition}
use Rattle.cg_fold.specs.declared.stored_offset.StoredOffset.{StoredOffset}
use Rattle.cg_fold.specs.Key.{KeptRow}
use Rattle.cg_fold.specs.Snapshot.{offsets_in}
use Rattle.cg_fold.proofs.Stock.{find-offsets_in}
use Rattle.cg_group_state.specs.declared.group.Group.{Group}
use Rattle.cg_group_state.specs.Offsets.{OffsetMap}
use Rattle.cg_group_table.proofs.KeptLists.{same_names}
use Rattle.cg_group_table.specs.Kept.{Each}
use Rattle.cg_group_table.specs.Resting.{AreFresh, IsFresh}
use Rattle.cg_group_table.specs.declared.expiry.TheConstants.{RETENTION_MS}

abbrev pub HaveFresh : ℕ → ℕ → List KeptRow → Type 0
HaveFresh until loaded rows = Each (λ (row : KeptRow). IsFresh until loaded row.1.moment) rows

pub fresh_sooner : (until sooner loaded : ℕ) (moment : Option ℕ) → sooner ≤ until → IsFresh until loaded moment → IsFresh sooner loaded moment
fresh_sooner until sooner loaded moment le h = omega (arith, le, h)

all_sooner : (until sooner loaded : ℕ) (rows : List KeptRow) → sooner ≤ until → HaveFresh until loaded rows → HaveFresh sooner loaded rows
all_sooner until sooner loaded [] le h = tt
all_sooner until sooner loaded (row ∷ rows) le h = (fresh_sooner until sooner loaded row.1.moment le h.0, all_sooner until sooner loaded rows le h.1)

each_take : {X : Type 0} (P : X → Type 0) (xs : List X) (i j : ℕ) (x : X) → j ≡ i + 1 → i < length xs → x ≡ get_or xs i x → Each P (take i xs) → P x → Each P (take j xs)
each_take P [] i j x next lt is h p = absurd (omega (arith, lt))
each_take P (y ∷ ys) i zero x next lt is h p = tt
each_take P (y ∷ ys) zero (suc j) x next lt is h p = (subst P is p, none P ys j (omega (arith, next)))
  where
    none : {X : Type 0} (P : X → Type 0) (ys : List X) (j : ℕ) → j ≡ 0 → Each P (take j ys)
    none P ys zero e = tt
    none P ys (suc j) e = absurd (omega (arith, e))
each_take P (y ∷ ys) (suc i) (suc j) x next lt is h p = (h.0, each_take P ys i j x (omega (arith, next)) (omega (arith, lt)) is h.1 p)

-- one more row
pub fresh_more : (until sooner loaded : ℕ) (rows : List KeptRow) (i : ℕ) (row : KeptRow) → i < length rows → row ≡ get_or rows i row → sooner ≤ until → HaveFresh until loaded (take i rows) → IsFresh sooner loaded row.1.moment → HaveFresh sooner loaded (take (i + 1) rows)
fresh_more until sooner loaded rows i row lt is le h own = each_take (λ (row : KeptRow). IsFresh sooner loaded row.1.moment) rows i (i + 1) row refl lt is (all_sooner until sooner loaded (take i rows) le h) own

-- all of them
take_all : {X : Type 0} (xs : List X) (n : ℕ) → length xs ≤ n → take n xs ≡ xs
take_all [] zero le = refl
take_all [] (suc n) le = refl
take_all (x ∷ xs) zero le = absurd (omega (arith, le))
take_all (x ∷ xs) (suc n) le = ap (λ ys. x ∷ ys) (take_all xs n (omega (arith, le)))

pub fresh_all : (until loaded : ℕ) (rows : List KeptRow) (i : ℕ) → length rows ≤ i → HaveFresh until loaded (take i rows) → HaveFresh until loaded rows
fresh_all until loaded rows i le h = subst (HaveFresh until loaded) (take_all rows i le) h

-- the offset of a key is among the rows of its group
found_fresh : (until loaded : ℕ) (partition : TopicPartition) (stored : StoredOffset) (rows : List KeptRow) → HaveFresh until loaded rows → find {X = StoredOffset} partition_cmp partition rows ≡ Some stored → IsFresh until loaded stored.moment
found_fresh until loaded partition stored [] h found = cc
found_fresh until loaded partition stored (row ∷ rows) h found =
    elim (eq_by_cmp partition_cmp partition row.0) as (λ b. cond b (Some row.1) (find partition_cmp partition rows) ≡ Some stored → IsFresh until loaded stored.moment) [
      | true ↦ λ e. let same : row.1 ≡ stored = cc in subst (λ (o : StoredOffset). IsFresh until loaded o.moment) same h.0
      | false ↦ λ e. found_fresh until loaded partition stored rows h.1 e
    ] found

pub offsets_fresh : (until loaded : ℕ) (offsets : OffsetMap) (g : Group) → HaveFresh until loaded (offsets_in offsets g.id) → AreFresh until loaded offsets g
offsets_fresh until loaded offsets g h untyped key stored own there =
    let rows : HaveFresh until loaded (offsets_in offsets key.group) = subst (λ id. HaveFresh until loaded (offsets_in offsets id)) (same_names g.id key.group own) h in
    found_fresh until loaded key.partition stored (offsets_in offsets key.group) rows (find-offsets_in key offsets ∙ there)
