-- The moments of a record of calls.
use Rattle.std.proofs.Common.{◌≡◌, ℕ, ◌+◌, ◌*◌, ◌/◌, ◌%◌, ◌<◌, ◌≤◌, Bool, true, false, cond, List, [], ◌∷◌, ◌++◌, length, take, drop, refl, sym, ◌∙◌, ap, subst, arith}
use Rattle.std.proofs.lemmas.List.{drop_all, take_all, length_push, take-append-le, drop-append-le}
use Rattle.std.proofs.lemmas.List.{length-append, length-take, length-drop}
use Rattle.std.proofs.lemmas.Bool.Decides.{nat_tests}
use Rattle.std.specs.Prelude.{Vec}
use Rattle.std.specs.declared.alloc.Global.{Global}
use Rattle.cg_disk.proofs.Bytes.{overwritten-overwritten, sector-overwritten_below, sector-overwritten_above, sector-overwritten_within}
use Rattle.cg_disk.specs.Disk.{Changes, Holds, IsUnsynced, IsDisturbed, IsKept, IsSynced, Stays, TakesCalls, present, sector}
use Rattle.cg_disk.specs.Record.{before_call, undone, is_marked, is_unsynced, moment_after, recorded, overwritten}
use Rattle.cg_disk.specs.declared.record.Call.{Call}
use Rattle.cg_disk.specs.declared.record.Call.TheVariants.{Write, Sync}
use Rattle.cg_disk.proofs.Moments.{Changes-refl}

pub undone-append : (xs ys : List Call) (bytes : List ℕ) → undone (xs ++ ys) bytes ≡ undone xs (undone ys bytes)
undone-append [] ys bytes = refl
undone-append (x ∷ xs) ys bytes = ap (before_call x) (undone-append xs ys bytes)

pub is_unsynced-append : (xs ys : List Call) (s : ℕ) (u : Bool) → is_unsynced (xs ++ ys) s u ≡ is_unsynced ys s (is_unsynced xs s u)
is_unsynced-append [] ys s u = refl
is_unsynced-append (x ∷ xs) ys s u = is_unsynced-append xs ys s (is_marked x s u)

-- the last of these moments is the present
pub content-present : (bytes : List ℕ) (calls : List Call) (s : ℕ) → (present (recorded bytes calls)).content s ≡ sector bytes s
content-present bytes calls s = ap (λ (l : List Call). sector (undone l bytes) s) (drop_all (length calls) calls (omega arith))

pub unsynced-present : (bytes : List ℕ) (calls : List Call) (s : ℕ) → (present (recorded bytes calls)).unsynced s ≡ is_unsynced calls s false
unsynced-present bytes calls s = ap (λ (l : List Call). is_unsynced l s false) (take_all (length calls) calls (omega arith))

-- one more call keeps each earlier moment
moment_after-push : (bytes new : List ℕ) (calls : List Call) (call : Call) (k : ℕ) → before_call call new ≡ bytes → k ≤ length calls → moment_after new (calls ++ call ∷ []) k ≡ moment_after bytes calls k
moment_after-push bytes new calls call k before le =
    let content : undone (drop k (calls ++ call ∷ [])) new ≡ undone (drop k calls) bytes =
    ap (λ (l : List Call). undone l new) (drop-append-le k calls (call ∷ []) le) ∙ undone-append (drop k calls) (call ∷ []) new ∙ ap (undone (drop k calls)) before in
    let marks : take k (calls ++ call ∷ []) ≡ take k calls = take-append-le k calls (call ∷ []) le in
    ap (λ (l : List ℕ). record { content = sector l; unsynced = λ s. is_unsynced (take k (calls ++ call ∷ [])) s false }) content
    ∙ ap (λ (l : List Call). record { content = sector (undone (drop k calls) bytes); unsynced = λ s. is_unsynced l s false }) marks

-- the effect of a call that changes n sectors from position `at`
pub Changes-push : (bytes new : List ℕ) (calls later : List Call) (call : Call) (at n : ℕ) → later ≡ calls ++ call ∷ [] → before_call call new ≡ bytes
    → ((s : ℕ) → s < at → sector new s ≡ sector bytes s) → ((s : ℕ) → at + n ≤ s → sector new s ≡ sector bytes s)
    → ((s : ℕ) → s < at → is_marked call s false ≡ false) → ((s : ℕ) → at + n ≤ s → is_marked call s false ≡ false)
    → Changes at n (recorded bytes calls) (recorded new later)
Changes-push bytes new calls later call at n is before below above safe_below safe_above = rw is record {
  later = omega (arith, length_push calls call);
  keeps = λ k le. moment_after-push bytes new calls call k before le;
  each = λ k lt le.
      let last : k ≡ length (calls ++ call ∷ []) = omega (arith, length_push calls call) in
      subst (λ (j : ℕ). IsDisturbed at n (present (recorded bytes calls)) (moment_after new (calls ++ call ∷ []) j)) (sym last) record {
        below = λ s b. kept s (below s b) (safe_below s b);
        above = λ s b. kept s (above s b) (safe_above s b);
      };
}
  where
    kept : (s : ℕ) → sector new s ≡ sector bytes s → is_marked call s false ≡ false → IsKept (present (recorded bytes calls)) (present (recorded new (calls ++ call ∷ []))) s
    kept s same safe = record {
      content = content-present new (calls ++ call ∷ []) s ∙ same ∙ sym (content-present bytes calls s);
      synced = λ was. unsynced-present new (calls ++ call ∷ []) s ∙ is_unsynced-append calls (call ∷ []) s false ∙ ap (is_marked call s) (sym (unsynced-present bytes calls s) ∙ was) ∙ safe;
    }

-- a call that writes nothing
pub Stays-push : (bytes : List ℕ) (calls later : List Call) (call : Call) → later ≡ calls ++ call ∷ [] → before_call call bytes ≡ bytes → ((s : ℕ) → is_marked call s false ≡ false) → Stays (recorded bytes calls) (recorded bytes later)
Stays-push bytes calls later call is before safe = Changes-push bytes bytes calls later call 0 0 is before (λ s lt. refl) (λ s le. refl) (λ s lt. safe s) (λ s le. safe s)

-- after a sync the whole disk is synced
pub unsynced-sync : (bytes : List ℕ) (calls : List Call) (s : ℕ) → (present (recorded bytes (calls ++ Sync ∷ []))).unsynced s ≡ false
unsynced-sync bytes calls s = unsynced-present bytes (calls ++ Sync ∷ []) s ∙ is_unsynced-append calls (Sync ∷ []) s false

-- a call that writes nothing, recorded if the allocation succeeded
pub Stays-noted : (b : Bool) (bytes : List ℕ) (calls later : List Call) (call : Call) → later ≡ cond b (calls ++ call ∷ []) calls → before_call call bytes ≡ bytes → ((s : ℕ) → is_marked call s false ≡ false) → Stays (recorded bytes calls) (recorded bytes later)
Stays-noted true bytes calls later call is before safe = Stays-push bytes calls later call is before safe
Stays-noted false bytes calls later call is before safe = rw is (Changes-refl 0 0 (recorded bytes calls))

pub IsSynced-noted : (bytes : List ℕ) (calls later : List Call) (b : Bool) → later ≡ cond b (calls ++ Sync ∷ []) calls → b ≡ true → IsSynced (present (recorded bytes later))
IsSynced-noted bytes calls later b is ok s = rw (is, ok) (unsynced-sync bytes calls s)

-- the content after such a write
pub Holds-write : (bytes new : List ℕ) (at : ℕ) → 512 * at + length new ≤ length bytes → length new % 512 ≡ 0 → (later : List Call) → Holds (present (recorded (overwritten bytes (512 * at) new) later)).content at (length new / 512) new
Holds-write bytes new at fits whole later i lt = content-present (overwritten bytes (512 * at) new) later (at + i) ∙ sector-overwritten_within bytes at new i fits (omega arith)

module _ (bytes new : List ℕ) (at : ℕ) (replaced : Vec ℕ Global) (fits : 512 * at + length new ≤ length bytes) (whole : length new % 512 ≡ 0) (was : replaced.items ≡ take (length new) (drop (512 * at) bytes)) where
  long : length replaced.items ≡ length new
  long = ap length was ∙ simp (length-take, length-drop) (omega arith)

  -- a write that was recorded
  pub Changes-write : (calls later : List Call) → later ≡ calls ++ Write at replaced ∷ [] → Changes at (length new / 512) (recorded bytes calls) (recorded (overwritten bytes (512 * at) new) later)
  Changes-write calls later is =
      Changes-push bytes (overwritten bytes (512 * at) new) calls later (Write at replaced) at (length new / 512) is
      (ap (λ (l : List ℕ). overwritten (overwritten bytes (512 * at) new) (512 * at) l) was ∙ overwritten-overwritten bytes (512 * at) new fits)
      (λ s lt. sector-overwritten_below bytes at new s fits lt)
      (λ s le. sector-overwritten_above bytes at new s fits (omega arith))
      (λ s lt. grind (arith, nat_tests))
      (λ s le. let l = long in grind (arith, nat_tests))

  pub IsUnsynced-write : (calls : List Call) → IsUnsynced (present (recorded (overwritten bytes (512 * at) new) (calls ++ Write at replaced ∷ []))) at (length new / 512)
  IsUnsynced-write calls i lt =
      let l = long in
      unsynced-present (overwritten bytes (512 * at) new) (calls ++ Write at replaced ∷ []) (at + i) ∙ is_unsynced-append calls (Write at replaced ∷ []) (at + i) false ∙ within (is_unsynced calls (at + i) false)
    where
      within : (u : Bool) → is_marked (Write at replaced) (at + i) u ≡ true
      within u = let l = long in grind (arith, nat_tests)

-- one more call moves the clock by one
pub TakesCalls-noted : (b failed : Bool) (bytes now : List ℕ) (calls later : List Call) (call : Call) → later ≡ cond b (calls ++ call ∷ []) calls → (failed ≡ false → b ≡ true) → TakesCalls 1 (recorded bytes calls) (recorded now later) failed
TakesCalls-noted true failed bytes now calls later call is ok = record {
  most = omega (arith, ap length is, length-append calls (call ∷ []));
  all = λ _. omega (arith, ap length is, length-append calls (call ∷ []));
}
TakesCalls-noted false failed bytes now calls later call is ok = record { most = omega (arith, ap length is); all = λ f. let e = ok f in cc }
