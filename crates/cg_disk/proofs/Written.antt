-- A write of a disk in memory, whether or not the allocation for its record succeeded.
use Rattle.std.proofs.Common.{◌≡◌, ℕ, Bool, refl, ◌+◌, ◌*◌, ◌/◌, ◌%◌, ◌≤◌, true, false, List, [], ◌∷◌, ◌++◌, length, take, drop, Result, Ok, Err, OnOk, OnErr, is_err, ◌∙◌, ap, arith}
use Rattle.std.specs.Prelude.{Vec}
use Rattle.std.specs.List.{list_all}
use Rattle.std.specs.declared.alloc.Global.{Global}
use Rattle.std.proofs.lemmas.List.{length-take, length-drop}
use Rattle.std.proofs.lemmas.List.Folds.{list_all-append}
use Rattle.std.proofs.lemmas.Bool.Decides.{nat_tests}
use Rattle.cg_disk.specs.Disk.{Changes, TakesCalls, Holds, IsUnsynced, present}
use Rattle.cg_disk.specs.Record.{recorded, overwritten, is_within}
use Rattle.cg_disk.specs.declared.record.Call.{Call}
use Rattle.cg_disk.specs.declared.record.Call.TheVariants.{Write, Sync}
use Rattle.cg_disk.proofs.Recorded.{TakesCalls-noted, Changes-write, Holds-write, IsUnsynced-write}
use Rattle.cg_disk.proofs.Moments.{Changes-refl}

-- the record of calls with such a write appended
abbrev pub Notes : List ℕ → List ℕ → ℕ → List Call → List Call → Type 0
Notes bytes new at calls later = (replaced : Vec ℕ Global) × (replaced.items ≡ take (length new) (drop (512 * at) bytes)) × (later ≡ calls ++ Write at replaced ∷ [])

module _ {T E : Type 0} (bytes new now : List ℕ) (at : ℕ) (calls later : List Call) (fits : 512 * at + length new ≤ length bytes) (whole : length new % 512 ≡ 0) where
  pub Changes-noted : (r : Result T E) → OnOk r (now ≡ overwritten bytes (512 * at) new) → OnOk r (Notes bytes new at calls later) → OnErr r (now ≡ bytes) → OnErr r (later ≡ calls) → Changes at (length new / 512) (recorded bytes calls) (recorded now later)
  Changes-noted (Ok x) written noted same same_calls = rw written (Changes-write bytes new at noted.0 fits whole noted.1 calls later noted.2)
  Changes-noted (Err e) written noted same same_calls = rw (same, same_calls) (Changes-refl at (length new / 512) (recorded bytes calls))

  pub TakesCalls-written : (r : Result T E) (failed : Bool) → OnOk r (Notes bytes new at calls later) → OnErr r (later ≡ calls) → (failed ≡ false → is_err r ≡ false) → TakesCalls 1 (recorded bytes calls) (recorded now later) failed
  TakesCalls-written (Ok x) failed noted same_calls ok = TakesCalls-noted true failed bytes now calls later (Write at noted.0) noted.2 (λ _. refl)
  TakesCalls-written (Err e) failed noted same_calls ok = TakesCalls-noted false failed bytes now calls later Sync same_calls (λ f. let e = ok f in cc)

  pub Holds-noted : (r : Result T E) → OnOk r (now ≡ overwritten bytes (512 * at) new) → is_err r ≡ false → Holds (present (recorded now later)).content at (length new / 512) new
  Holds-noted (Ok x) written ok = rw written (λ i lt. Holds-write bytes new at fits whole later i lt)
  Holds-noted (Err e) written ok = cc

  pub IsUnsynced-noted : (r : Result T E) → OnOk r (now ≡ overwritten bytes (512 * at) new) → OnOk r (Notes bytes new at calls later) → is_err r ≡ false → IsUnsynced (present (recorded now later)) at (length new / 512)
  IsUnsynced-noted (Ok x) written noted ok = rw noted.2 (IsUnsynced-write bytes new at noted.0 fits whole noted.1 calls)
  IsUnsynced-noted (Err e) written noted ok = cc

  pub within-noted : (r : Result T E) → length now ≡ length bytes → list_all (is_within (length bytes)) calls ≡ true → OnOk r (Notes bytes new at calls later) → OnErr r (later ≡ calls) → list_all (is_within (length now)) later ≡ true
  within-noted (Ok x) same within noted same_calls =
      let long : length noted.0.items ≡ length new = ap length noted.1 ∙ simp (length-take, length-drop) (omega arith) in
      rw (same, noted.2, list_all-append, within) (grind (arith, nat_tests))
  within-noted (Err e) same within noted same_calls = rw (same, same_calls) within
