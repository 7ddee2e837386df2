-- The commits of a snapshot.
use Rattle.std.proofs.Common.{◌≡◌, ℕ, zero, suc, ◌<◌, ◌≤◌, Bool, true, false, List, [], ◌∷◌, ◌++◌, length, map as each, take, drop, ap, sym, ◌∙◌, refl, subst, arith, append_assoc, length-drop, append-nil}
use Rattle.std.proofs.Math.Dec.{T}
use Rattle.std.specs.Prelude.{◌==◌, IsTrue, bytes_eq}
use Rattle.std.specs.List.{AllByRecursion, IsDistinct}
use Rattle.std.specs.Ordering.{is_lt}
use Rattle.std.specs.Cmp.{tied_itself}
use Rattle.std.specs.FinMap.{is_sorted}
use Rattle.std.proofs.lemmas.Bool.Decides.{Decides-eqb}
use Rattle.std.proofs.lemmas.List.{length-map, length-take-le}
use Rattle.std.proofs.lemmas.Slice.Eq.{bytes_eq-Decides}
use Rattle.cg_record.specs.declared.command.Command.{Command}
use Rattle.cg_record.specs.declared.entries.TheConstants.{COMMIT_METADATA_BYTES_MAX, ENTRIES_MAX}
use Rattle.cg_record.specs.declared.entry.Entry.{Entry}
use Rattle.cg_record.specs.Keys.{AreEntries, have_one_key, metadata_bytes}
use Rattle.cg_record.specs.Partitions.{partition_cmp, topic_partition}
use Rattle.cg_fold.specs.Key.{KeptRow}
use Rattle.cg_fold.specs.Snapshot.{CutsRuns, IsRun, commit_command, commits_by, commits_of, entry_of, first_len, first_moment}
use Rattle.cg_fold.proofs.KeyOrder.{partition_total}
use Rattle.cg_fold.proofs.Place.{below_all, both}
use Rattle.cg_fold.proofs.Put.{tested, is_true}
use Rattle.cg_fold.proofs.Longest.{first_run}

-- ---- the offsets of one group are for different partitions

same_key : (a b : KeptRow) → have_one_key (entry_of a) (entry_of b) ≡ true → a.0 ≡ b.0
same_key a b one =
    let parts = both (a.0.partition == b.0.partition) (bytes_eq a.0.topic b.0.topic) (tested one) in
    let partition = (Decides-eqb a.0.partition b.0.partition).0 (is_true (a.0.partition == b.0.partition) parts.0) in
    let topic = (bytes_eq-Decides a.0.topic b.0.topic).0 (is_true (bytes_eq a.0.topic b.0.topic) parts.1) in
    ap (λ t. topic_partition t a.0.partition) topic ∙ ap (topic_partition b.0.topic) partition

keys_apart : (a b : KeptRow) → T (is_lt (partition_cmp a.0 b.0)) → have_one_key (entry_of a) (entry_of b) ≡ false
keys_apart a b lt = step (have_one_key (entry_of a) (entry_of b)) refl
  where
    step : (c : Bool) → have_one_key (entry_of a) (entry_of b) ≡ c → c ≡ false
    step false is = refl
    step true is = absurd (subst (λ r. T (is_lt r)) (ap (λ k. partition_cmp k b.0) (same_key a b is) ∙ tied_itself partition_total b.0) lt)

apart_from : (row : KeptRow) (rows : List KeptRow) → T (below_all partition_cmp row.0 rows) → AllByRecursion (λ e. have_one_key (entry_of row) e ≡ false) (each entry_of rows)
apart_from row [] below = tt
apart_from row (next ∷ rows) below =
    let parts = both (is_lt (partition_cmp row.0 next.0)) (below_all partition_cmp row.0 rows) below in
    (keys_apart row next parts.0, apart_from row rows parts.1)

pub distinct_entries : (rows : List KeptRow) → T (is_sorted partition_cmp rows) → IsDistinct have_one_key (each entry_of rows)
unfolding IsDistinct
distinct_entries [] sorted = tt
distinct_entries (row ∷ rows) sorted =
    let parts = both (below_all partition_cmp row.0 rows) (is_sorted partition_cmp rows) sorted in
    (apart_from row rows parts.0, distinct_entries rows parts.1)

pub are_entries : (rows : List KeptRow) (entries : List Entry) → 0 < length rows → length rows ≤ ENTRIES_MAX → metadata_bytes (each entry_of rows) ≤ COMMIT_METADATA_BYTES_MAX
    → IsTrue (is_sorted partition_cmp rows) → entries ≡ each entry_of rows → AreEntries entries
are_entries rows entries some few short sorted is =
    let same : length entries ≡ length rows = ap length is ∙ length-map rows entry_of in
    record {
      distinct = record {
        some = omega (arith, same, some);
        few = subst (λ n. n ≤ ENTRIES_MAX) (sym same) few;
        distinct = subst (IsDistinct have_one_key) (sym is) (distinct_entries rows (tested sorted));
      };
      metadata = subst (λ l. metadata_bytes l ≤ COMMIT_METADATA_BYTES_MAX) (sym is) short;
    }

-- ---- the list of commits

-- a run has as many offsets as its length says
pub length-run : {len : ℕ} (rows : List KeptRow) → IsRun rows len → length (take len rows) ≡ len
length-run {len} rows is = length-take-le len rows is.within

-- the first of these offsets is in the first run
pub fewer_left : (run : List KeptRow → ℕ) → CutsRuns run → (row : KeptRow) (rows : List KeptRow) → length (drop (run (row ∷ rows)) (row ∷ rows)) ≤ length rows
fewer_left run cuts row rows = (let is = cuts (row ∷ rows) (omega arith) in omega (arith, is.some, length-drop (run (row ∷ rows)) (row ∷ rows)))

-- the bound on the number of offsets does not matter, if it is large enough
commits_any : (run : List KeptRow → ℕ) → CutsRuns run → (most more : ℕ) (g : List ℕ) (rows : List KeptRow) → length rows ≤ most → length rows ≤ more → commits_by run most g rows ≡ commits_by run more g rows
unfolding commits_by
commits_any run cuts zero zero g rows le also = refl
commits_any run cuts zero (suc more) g [] le also = refl
commits_any run cuts zero (suc more) g (row ∷ rows) le also = absurd (omega (arith, le))
commits_any run cuts (suc most) zero g [] le also = refl
commits_any run cuts (suc most) zero g (row ∷ rows) le also = absurd (omega (arith, also))
commits_any run cuts (suc most) (suc more) g [] le also = refl
commits_any run cuts (suc most) (suc more) g (row ∷ rows) le also =
    let fewer = fewer_left run cuts row rows in
    let len = run (row ∷ rows) in
    ap (λ l. commit_command g row.1.moment (take len (row ∷ rows)) ∷ l) (commits_any run cuts most more g (drop len (row ∷ rows)) (omega (arith, fewer, le)) (omega (arith, fewer, also)))

commits_first : (run : List KeptRow → ℕ) → CutsRuns run → (g : List ℕ) (rows : List KeptRow) → 0 < length rows
    → commits_by run (length rows) g rows ≡ commit_command g (first_moment rows) (take (run rows) rows) ∷ commits_by run (length (drop (run rows) rows)) g (drop (run rows) rows)
unfolding commits_by
commits_first run cuts g [] some = absurd (omega (arith, some))
commits_first run cuts g (row ∷ rows) some =
    let len = run (row ∷ rows) in
    ap (λ l. commit_command g row.1.moment (take len (row ∷ rows)) ∷ l)
    (commits_any run cuts (length rows) (length (drop len (row ∷ rows))) g (drop len (row ∷ rows)) (fewer_left run cuts row rows) (omega arith))

-- the first commit, appended, in the form of the call
pub commits_pushed : (g : List ℕ) (rows first others : List KeptRow) (command : Command) (before after all : List Command) → 0 < length rows
    → first ≡ take (first_len rows) rows → others ≡ drop (first_len rows) rows → command ≡ commit_command g (first_moment rows) first → after ≡ before ++ command ∷ []
    → before ++ commits_of (length rows) g rows ≡ all → after ++ commits_of (length others) g others ≡ all
commits_pushed g rows first others command before after all some taken left is pushed rest =
    ap (λ l. l ++ commits_of (length others) g others) pushed
    ∙ append_assoc before (command ∷ []) (commits_of (length others) g others)
    ∙ ap (λ c. before ++ c ∷ commits_of (length others) g others) (is ∙ ap (commit_command g (first_moment rows)) taken)
    ∙ ap (λ l. before ++ commit_command g (first_moment rows) (take (first_len rows) rows) ∷ commits_of (length l) g l) left
    ∙ ap (λ l. before ++ l) (sym (commits_first first_len first_run g rows some)) ∙ rest

pub commits_none : (g : List ℕ) (rows : List KeptRow) (before all : List Command) → length rows ≡ 0 → before ++ commits_of (length rows) g rows ≡ all → before ≡ all
unfolding commits_by
commits_none g [] before all none rest = sym (append-nil before) ∙ rest
commits_none g (row ∷ rows) before all none rest = absurd (omega (arith, none))
