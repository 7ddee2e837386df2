-- The content that a crash loses.
use Rattle.std.proofs.Common.{◌≡◌, ◌⊎◌, ℕ, ◌+◌, ◌-◌, ◌*◌, ◌/◌, ◌%◌, ◌<◌, ◌≤◌, Bool, true, false, ◌&&◌, ◌||◌, leb, ltb, eqb, List, [], ◌∷◌, ◌++◌, length, take, drop, refl, sym, ◌∙◌, ap, subst, inl, inr, arith}
use Rattle.std.specs.List.{list_all}
use Rattle.std.proofs.Math.Seq.{take-append-add}
use Rattle.std.proofs.lemmas.List.{length-append, take-append-drop, take_at, drop_at, drop-drop}
use Rattle.std.proofs.lemmas.List.Folds.{list_all-append}
use Rattle.std.proofs.lemmas.Bool.Decides.{nat_tests}
use Rattle.std.proofs.lemmas.Bool.{cases_lt, and_parts}
use Rattle.cg_disk.specs.Disk.{sector}
use Rattle.cg_disk.specs.Record.{GoesBackToSync, undone, is_unsynced, is_marked, is_unsynced_call, is_within, recorded, overwritten}
use Rattle.cg_disk.specs.Crash.{IsLastSynced}
use Rattle.cg_disk.specs.declared.record.Call.{Call}
use Rattle.cg_disk.specs.declared.record.Call.TheVariants.{Read, Write, Sync}
use Rattle.cg_disk.proofs.Bytes.{length-overwritten, sector-overwritten_below, sector-overwritten_above}
use Rattle.cg_disk.proofs.Recorded.{undone-append, is_unsynced-append}

-- the condition of `is_within` for a write
fits : (n at : ℕ) (r : List ℕ) → (leb (512 * at + length r) n && eqb (length r % 512) 0) ≡ true → (512 * at + length r ≤ n) × (length r % 512 ≡ 0)
fits n at r e = (grind (arith, nat_tests), grind (arith, nat_tests))

pub length-undone : (u : List Call) (bytes : List ℕ) → list_all (is_within (length bytes)) u ≡ true → length (undone u bytes) ≡ length bytes
length-undone [] bytes w = refl
length-undone (Read ∷ u) bytes w = length-undone u bytes w
length-undone (Sync ∷ u) bytes w = length-undone u bytes w
length-undone (Write at r ∷ u) bytes w =
    let parts = and_parts (is_within (length bytes) (Write at r)) (list_all (is_within (length bytes)) u) w in
    let rest = length-undone u bytes parts.1 in
    let f = fits (length bytes) at r.items parts.0 in
    length-overwritten (undone u bytes) (512 * at) r.items (omega arith) ∙ rest

-- a sector that these calls did not mark is as it was
unmarked : (u : List Call) (bytes : List ℕ) (s : ℕ) (b : Bool) → list_all (is_within (length bytes)) u ≡ true → list_all is_unsynced_call u ≡ true → is_unsynced u s b ≡ false → (b ≡ false) × (sector (undone u bytes) s ≡ sector bytes s)
unmarked [] bytes s b w n e = (e, refl)
unmarked (Read ∷ u) bytes s b w n e = unmarked u bytes s b w n e
unmarked (Sync ∷ u) bytes s b w n e = cc
unmarked (Write at r ∷ u) bytes s b w n e =
    let parts = and_parts (is_within (length bytes) (Write at r)) (list_all (is_within (length bytes)) u) w in
    let rest = unmarked u bytes s (is_marked (Write at r) s b) parts.1 n e in
    let f = fits (length bytes) at r.items parts.0 in
    let long = length-undone u bytes parts.1 in
    let out = outside b at (length r.items / 512) s rest.0 in
    (out.0, kept at r.items s (undone u bytes) (omega arith) f.1 out.1 ∙ rest.1)
  where
    outside : (b : Bool) (at n s : ℕ) → (b || (leb at s && ltb s (at + n))) ≡ false → (b ≡ false) × ((s < at) ⊎ (at + n ≤ s))
    outside true at n s e = cc
    outside false at n s e = (refl, elim (cases_lt s at) [ inl lt ↦ inl lt | inr le ↦ inr (grind (arith, nat_tests)) ])

    kept : (at : ℕ) (r : List ℕ) (s : ℕ) (bs : List ℕ) → 512 * at + length r ≤ length bs → length r % 512 ≡ 0 → (s < at) ⊎ (at + length r / 512 ≤ s) → sector (overwritten bs (512 * at) r) s ≡ sector bs s
    kept at r s bs le whole (inl lt) = sector-overwritten_below bs at r s le lt
    kept at r s bs le whole (inr ge) = sector-overwritten_above bs at r s le (omega arith)

module _ (bytes b : List ℕ) (calls : List Call) (within : list_all (is_within (length bytes)) calls ≡ true) (to : GoesBackToSync bytes calls b) where
  abbrev lost : List Call
  lost = to.back.undone_calls

  abbrev kept : List Call
  kept = to.now_calls

  lost_within : list_all (is_within (length bytes)) lost ≡ true
  lost_within = (and_parts _ _ (sym (list_all-append (is_within (length bytes)) kept lost) ∙ ap (list_all (is_within (length bytes))) (sym to.back.split) ∙ within)).1

  -- the remaining content is an image
  pub IsImage-lost : (s : ℕ) → is_unsynced calls s false ≡ false → sector b s ≡ sector bytes s
  IsImage-lost s e =
      let marks : is_unsynced lost s (is_unsynced kept s false) ≡ false = sym (is_unsynced-append kept lost s false) ∙ ap (λ (l : List Call). is_unsynced l s false) (sym to.back.split) ∙ e in
      ap (λ (l : List ℕ). sector l s) to.back.undoes ∙ (unmarked lost bytes s (is_unsynced kept s false) lost_within to.back.no_sync marks).1

  -- the moment that the disk goes back to, and those after it
  at_sync : take (length kept) calls ≡ kept
  at_sync = ap (λ (l : List Call). take (length kept) l) to.back.split ∙ take_at kept lost (length kept) refl

  since_sync : drop (length kept) calls ≡ lost
  since_sync = ap (λ (l : List Call). drop (length kept) l) to.back.split ∙ drop_at kept lost (length kept) refl

  take_since : (j : ℕ) → take (length kept + j) calls ≡ kept ++ take j lost
  take_since j = ap (λ (l : List Call). take (length kept + j) l) to.back.split ∙ take-append-add kept lost j

  drop_since : (j : ℕ) → drop (length kept + j) calls ≡ drop j lost
  drop_since j = sym (drop-drop j (length kept) calls) ∙ ap (λ (l : List Call). drop j l) since_sync

  parts_hold : (p : Call → Bool) (j : ℕ) → list_all p lost ≡ true → (list_all p (take j lost) ≡ true) × (list_all p (drop j lost) ≡ true)
  parts_hold p j all = and_parts _ _ (sym (list_all-append p (take j lost) (drop j lost)) ∙ ap (list_all p) (take-append-drop j lost) ∙ all)

  -- if the disk was synced again since, the content was the same
  same_since : (j : ℕ) (s : ℕ) → is_unsynced (take (length kept + j) calls) s false ≡ false → sector b s ≡ sector (undone (drop (length kept + j) calls) bytes) s
  same_since j s e =
      let early = undone (drop j lost) bytes in
      let long : length early ≡ length bytes = length-undone (drop j lost) bytes (parts_hold (is_within (length bytes)) j lost_within).1 in
      let within_early : list_all (is_within (length early)) (take j lost) ≡ true = rw long (parts_hold (is_within (length bytes)) j lost_within).0 in
      let marks : is_unsynced (take j lost) s (is_unsynced kept s false) ≡ false = sym (is_unsynced-append kept (take j lost) s false) ∙ ap (λ (l : List Call). is_unsynced l s false) (sym (take_since j)) ∙ e in
      let whole : b ≡ undone (take j lost) early = to.back.undoes ∙ ap (λ (l : List Call). undone l bytes) (sym (take-append-drop j lost)) ∙ undone-append (take j lost) (drop j lost) bytes in
      ap (λ (l : List ℕ). sector l s) whole ∙ (unmarked (take j lost) early s (is_unsynced kept s false) within_early (parts_hold is_unsynced_call j to.back.no_sync).0 marks).1
      ∙ ap (λ (l : List Call). sector (undone l bytes) s) (sym (drop_since j))

  pub IsLastSynced-lost : (image : ℕ → List ℕ) → ((s : ℕ) → image s ≡ sector b s) → IsLastSynced (recorded bytes calls) image
  IsLastSynced-lost image is = record {
    moment = length kept;
    past = omega (arith, ap length to.back.split, length-append kept lost);
    synced = λ s. ap (λ (l : List Call). is_unsynced l s false) at_sync ∙ to.synced s;
    held = λ s. is s ∙ ap (λ (l : List ℕ). sector l s) to.back.undoes ∙ ap (λ (l : List Call). sector (undone l bytes) s) (sym since_sync);
    last = λ k lt le synced s.
        let j = k - length kept in
        let from : k ≡ length kept + j = omega arith in
        is s ∙ subst (λ (n : ℕ). sector b s ≡ sector (undone (drop n calls) bytes) s) (sym from) (same_since j s (subst (λ (n : ℕ). is_unsynced (take n calls) s false ≡ false) from (synced s)));
  }
