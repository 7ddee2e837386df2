-- The runs of a snapshot: their moments, their lengths and their metadata.
use Rattle.std.proofs.Common.{◌≡◌, ◌⊎◌, inl, inr, ℕ, zero, suc, ◌+◌, ◌-◌, ◌<◌, ◌≤◌, Bool, true, false, cond, ◌&&◌, List, [], ◌∷◌, length, map as each, take, drop, slice_index_or, Option, Some, None, nat_eq, nat_le, ap, sym, ◌∙◌, refl, subst, arith}
use Rattle.std.specs.List.{list_all}
use Rattle.std.specs.Option.{option_eq}
use Rattle.std.proofs.lemmas.Bool.Decides.{Decides-eqb, leb_tells}
use Rattle.std.proofs.lemmas.List.{take_all}
use Rattle.std.proofs.lemmas.List.Sums.{sum_by-cons}
use Rattle.cg_record.specs.declared.entries.TheConstants.{COMMIT_METADATA_BYTES_MAX, ENTRIES_MAX}
use Rattle.cg_record.specs.declared.metadata.TheConstants.{METADATA_BYTES_MAX}
use Rattle.cg_record.specs.declared.entry.Entry.{Entry}
use Rattle.cg_record.specs.Keys.{metadata_bytes}
use Rattle.cg_fold.specs.Key.{KeptRow}
use Rattle.cg_fold.specs.Snapshot.{CutsRuns, FitsCommit, IsLongestRun, entry_of, first_len, has_moment, run_len}
use Rattle.cg_fold.proofs.Place.{one-more}

pub same_moment : (a b : Option ℕ) → option_eq nat_eq a b ≡ true → a ≡ b
same_moment None None is = refl
same_moment None (Some b) is = absurd (cc is)
same_moment (Some a) None is = absurd (cc is)
same_moment (Some a) (Some b) is = ap (λ m. Some m) ((Decides-eqb a b).0 is)

own_moment : (a : Option ℕ) → option_eq nat_eq a a ≡ true
own_moment None = refl
own_moment (Some a) = (Decides-eqb a a).1 refl

pub both_true : (a b : Bool) → (a && b) ≡ true → (a ≡ true) × (b ≡ true)
both_true true b is = (refl, is)
both_true false b is = absurd (cc is)

le_tested : (a b : ℕ) → nat_le a b ≡ true → a ≤ b
le_tested a b is = step (leb_tells a b)
  where
    step : ((nat_le a b ≡ true) × (a ≤ b)) ⊎ ((nat_le a b ≡ false) × (b < a)) → a ≤ b
    step (inl both) = both.1
    step (inr both) = absurd (let clash : true ≡ false = sym is ∙ both.0 in cc)

le_test : (a b : ℕ) → a ≤ b → nat_le a b ≡ true
le_test a b le = step (leb_tells a b)
  where
    step : ((nat_le a b ≡ true) × (a ≤ b)) ⊎ ((nat_le a b ≡ false) × (b < a)) → nat_le a b ≡ true
    step (inl both) = both.0
    step (inr both) = absurd (omega (arith, le, both.1))

-- the bytes of metadata of these offsets together
abbrev bytes : List KeptRow → ℕ
bytes rows = metadata_bytes (each entry_of rows)

bytes-more : (row : KeptRow) (rows : List KeptRow) → bytes (row ∷ rows) ≡ length row.1.metadata + bytes rows
bytes-more row rows = sum_by-cons (λ (e : Entry). length e.metadata) (entry_of row) (each entry_of rows)

-- so many offsets in front have this moment; at most `most`, with at most `room` bytes of metadata together
record Continues (moment : Option ℕ) (most room : ℕ) (rows : List KeptRow) (len : ℕ) : Type 0 where
  few : len ≤ most
  within : len ≤ length rows
  one_moment : list_all (has_moment moment) (take len rows) ≡ true
  metadata : bytes (take len rows) ≤ room

-- the count does so
run_continues : (moment : Option ℕ) (most room : ℕ) (rows : List KeptRow) → Continues moment most room rows (run_len moment most room rows)
unfolding run_len
run_continues moment zero room rows = record { few = omega arith; within = omega arith; one_moment = refl; metadata = omega arith }
run_continues moment (suc most) room [] = record { few = omega arith; within = omega arith; one_moment = refl; metadata = omega arith }
run_continues moment (suc most) room (row ∷ rows) =
    step (has_moment moment row && nat_le (length row.1.metadata) room) refl (run_continues moment most (room - length row.1.metadata) rows)
  where
    step : (b : Bool) → (has_moment moment row && nat_le (length row.1.metadata) room) ≡ b
        → Continues moment most (room - length row.1.metadata) rows (run_len moment most (room - length row.1.metadata) rows)
        → Continues moment (suc most) room (row ∷ rows) (cond b (suc (run_len moment most (room - length row.1.metadata) rows)) 0)
    step true is rest =
        let parts = both_true (has_moment moment row) (nat_le (length row.1.metadata) room) is in
        let fits : length row.1.metadata ≤ room = le_tested (length row.1.metadata) room parts.1 in
        let n = run_len moment most (room - length row.1.metadata) rows in
        record {
          few = omega (arith, rest.few);
          within = omega (arith, rest.within);
          one_moment = ap (λ b. b && list_all (has_moment moment) (take n rows)) parts.0 ∙ rest.one_moment;
          metadata = omega (arith, bytes-more row (take n rows), rest.metadata, fits);
        }
    step false is rest = record { few = omega arith; within = omega arith; one_moment = refl; metadata = omega arith }

-- no larger number does
run_longest : (moment : Option ℕ) (most room : ℕ) (rows : List KeptRow) (len : ℕ) → Continues moment most room rows len → len ≤ run_len moment most room rows
unfolding run_len
run_longest moment most room rows zero does = omega arith
run_longest moment zero room rows (suc len) does = absurd (omega (arith, does.few))
run_longest moment (suc most) room [] (suc len) does = absurd (omega (arith, does.within))
run_longest moment (suc most) room (row ∷ rows) (suc len) does =
    let parts = both_true (has_moment moment row) (list_all (has_moment moment) (take len rows)) does.one_moment in
    let fits : length row.1.metadata ≤ room = omega (arith, bytes-more row (take len rows), does.metadata) in
    let passes : (has_moment moment row && nat_le (length row.1.metadata) room) ≡ true =
    ap (λ b. b && nat_le (length row.1.metadata) room) parts.0 ∙ le_test (length row.1.metadata) room fits in
    let rest = run_longest moment most (room - length row.1.metadata) rows len (record {
      few = omega (arith, does.few);
      within = omega (arith, does.within);
      one_moment = parts.1;
      metadata = omega (arith, bytes-more row (take len rows), does.metadata);
    }) in
    subst (λ b. suc len ≤ cond b (suc (run_len moment most (room - length row.1.metadata) rows)) 0) (sym passes) (omega (arith, rest))

-- ---- the rule of this coordinator

pub first_run : CutsRuns first_len
unfolding first_len
first_run [] some = absurd (omega (arith, some))
first_run (row ∷ rows) some =
    let rest = run_continues row.1.moment (ENTRIES_MAX - 1) (COMMIT_METADATA_BYTES_MAX - length row.1.metadata) rows in
    let n = run_len row.1.moment (ENTRIES_MAX - 1) (COMMIT_METADATA_BYTES_MAX - length row.1.metadata) rows in
    record {
      some = omega arith;
      within = omega (arith, rest.within);
      one_moment = ap (λ b. b && list_all (has_moment row.1.moment) (take n rows)) (own_moment row.1.moment) ∙ rest.one_moment;
    }

-- the first offset fits a commit
pub first_longest : (row : KeptRow) (rows : List KeptRow) → length row.1.metadata ≤ METADATA_BYTES_MAX → IsLongestRun (row ∷ rows) (first_len (row ∷ rows))
unfolding first_len
first_longest row rows short =
    let size = length row.1.metadata in
    let room = COMMIT_METADATA_BYTES_MAX - size in
    let fits : size ≤ COMMIT_METADATA_BYTES_MAX = omega (arith, short) in
    let most = ENTRIES_MAX - 1 in
    let rest = run_continues row.1.moment most room rows in
    let n = run_len row.1.moment most room rows in
    record {
      fits = record {
        run = first_run (row ∷ rows) (omega arith);
        few = omega (arith, rest.few);
        metadata = omega (arith, bytes-more row (take n rows), rest.metadata, fits);
      };
      longest = λ (other : ℕ) (does : FitsCommit (row ∷ rows) other). others other does;
    }
  where
    others : (other : ℕ) → FitsCommit (row ∷ rows) other → other ≤ suc (run_len row.1.moment (ENTRIES_MAX - 1) (COMMIT_METADATA_BYTES_MAX - length row.1.metadata) rows)
    others zero does = omega arith
    others (suc len) does =
        let parts = both_true (has_moment row.1.moment row) (list_all (has_moment row.1.moment) (take len rows)) does.run.one_moment in
        let longest = run_longest row.1.moment (ENTRIES_MAX - 1) (COMMIT_METADATA_BYTES_MAX - length row.1.metadata) rows len (record {
          few = omega (arith, does.few);
          within = omega (arith, does.run.within);
          one_moment = parts.1;
          metadata = omega (arith, bytes-more row (take len rows), does.metadata);
        }) in
        omega (arith, longest)

-- in the form of the calls: the first of the rows is read
pub longest_at : (rows : List KeptRow) (row : KeptRow) (len : ℕ) → row ≡ slice_index_or rows 0 row → length row.1.metadata ≤ METADATA_BYTES_MAX → len ≡ first_len rows → 0 < length rows
    → IsLongestRun rows len
longest_at [] row len is short value some = absurd (omega (arith, some))
longest_at (first ∷ rows) row len is short value some =
    subst (IsLongestRun (first ∷ rows)) (sym value) (first_longest first rows (subst (λ (r : KeptRow). length r.1.metadata ≤ METADATA_BYTES_MAX) is short))

pub first_at : (rows : List KeptRow) (row : KeptRow) (bytes_of : List ℕ) (more : ℕ) → row ≡ slice_index_or rows 0 row → 1 ≤ length rows → bytes_of ≡ row.1.metadata
    → more ≡ run_len row.1.moment (ENTRIES_MAX - 1) (COMMIT_METADATA_BYTES_MAX - length bytes_of) (take (length rows - 1) (drop 1 rows)) → 1 + more ≡ first_len rows
unfolding first_len
first_at [] row bytes_of more is some read count = absurd (omega (arith, some))
first_at (first ∷ rows) row bytes_of more is some read count =
    let all : take (length (first ∷ rows) - 1) rows ≡ rows = take_all (length (first ∷ rows) - 1) rows (omega arith) in
    ap (λ n. 1 + n)
    (count ∙ ap (run_len row.1.moment (ENTRIES_MAX - 1) (COMMIT_METADATA_BYTES_MAX - length bytes_of)) all
    ∙ ap (λ (b : List ℕ). run_len row.1.moment (ENTRIES_MAX - 1) (COMMIT_METADATA_BYTES_MAX - length b) rows) read
    ∙ ap (λ (r : KeptRow). run_len r.1.moment (ENTRIES_MAX - 1) (COMMIT_METADATA_BYTES_MAX - length r.1.metadata) rows) is)
    ∙ one-more (run_len first.1.moment (ENTRIES_MAX - 1) (COMMIT_METADATA_BYTES_MAX - length first.1.metadata) rows)
