-- Offsets added to the shelf of a group.
use Rattle.std.proofs.Common.{◌≡◌, ℕ, ◌+◌, ◌<◌, true, List, [], ◌∷◌, length, Some, None, ap, sym, subst, ◌∙◌, arith}
use Rattle.std.specs.Prelude.{IsTrue}
use Rattle.std.specs.BTreeMap.{is_at}
use Rattle.std.specs.List.{fold, list_all}
use Rattle.std.specs.Map.{lookup, set_value}
use Rattle.std.specs.FinMap.{is_sorted, put}
use Rattle.cg_record.specs.declared.entry.Entry.{Entry}
use Rattle.cg_fold.specs.Key.{KeptRow, name_cmp, put_row}
use Rattle.cg_fold.specs.Renewed.{has_row}
use Rattle.cg_fold.specs.Shelf.{KeptShelf, rows_on, rows_at, with_more}
use Rattle.cg_fold.proofs.KeyOrder.{name_total}
use Rattle.cg_fold.proofs.Maps.{lookup-find, set_value-put}
use Rattle.cg_fold.proofs.Put.{tested}
use Rattle.cg_fold.proofs.Restock.{rows_at-more}

-- the group has a shelf
module _ (before after : List KeptShelf) (group : List ℕ) (rows rows' more : List KeptRow) (there : lookup (is_at (name_cmp group)) before ≡ Some rows)
    (set_is : after ≡ set_value (is_at (name_cmp group)) before rows') (new : rows' ≡ fold put_row rows more) (sorted : IsTrue (is_sorted name_cmp before)) where
  pub added_over : after ≡ with_more group more before
  added_over =
      let found = sym (lookup-find name_cmp group before) ∙ there in
      set_is ∙ set_value-put name_total group rows rows' before (tested sorted) found
      ∙ ap (λ r. put name_cmp group r before) (new ∙ sym (ap (λ f. fold put_row (rows_on f) more) found))

  -- the number of offsets that it gains
  pub grown_over : (grown : ℕ) → length rows' ≡ length rows + grown → length (rows_at group after) ≡ length (rows_at group before) + grown
  grown_over grown count =
      let held : rows_at group before ≡ rows = ap rows_on (sym (lookup-find name_cmp group before) ∙ there) in
      omega (arith, count, ap length held, ap length new, ap length (rows_at-more group before after more added_over ∙ ap (λ r. fold put_row r more) held))

-- the group has no shelf
module _ (before after : List KeptShelf) (group : List ℕ) (rows more : List KeptRow) (absent : lookup (is_at (name_cmp group)) before ≡ None)
    (put_is : after ≡ put name_cmp group rows before) (new : rows ≡ fold put_row [] more) where
  held_none : rows_at group before ≡ []
  held_none = ap rows_on (sym (lookup-find name_cmp group before) ∙ absent)

  pub added_between : after ≡ with_more group more before
  added_between = put_is ∙ ap (λ r. put name_cmp group r before) (new ∙ sym (ap (λ r. fold put_row r more) held_none))

  -- all offsets on the new shelf are new
  pub grown_between : (read : List KeptRow) → read ≡ rows → length (rows_at group after) ≡ length (rows_at group before) + length read
  grown_between read is =
      omega (arith, ap length held_none, ap length (is ∙ new), ap length (rows_at-more group before after more added_between ∙ ap (λ r. fold put_row r more) held_none))

-- a group without a shelf has a row for no entry
pub none_known : (shelves : List KeptShelf) (group : List ℕ) (entries : List Entry) → lookup (is_at (name_cmp group)) shelves ≡ None
    → 0 < length entries → list_all (has_row (rows_at group shelves)) entries ≡ true → ⊥
none_known shelves group [] absent some known = absurd (omega (arith, some))
none_known shelves group (entry ∷ entries) absent some known =
    absurd (cc (subst (λ r. list_all (has_row r) (entry ∷ entries) ≡ true) (ap rows_on (sym (lookup-find name_cmp group shelves) ∙ absent)) known))
