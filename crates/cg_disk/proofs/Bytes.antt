-- Bytes that are overwritten in part, and their sectors.
use Rattle.std.proofs.Common.{◌≡◌, ℕ, zero, suc, ◌+◌, ◌-◌, ◌*◌, ◌<◌, ◌≤◌, List, ◌++◌, length, take, drop, get_or, replicate, inl, inr, refl, sym, ◌∙◌, ap, arith, append_assoc}
use Rattle.std.proofs.lemmas.List.{places, same_lists, length-append, length-take, length-drop, drop-drop, drop_all, take_all, append-nil, take-take, drop-take, get_or-take, get_or-drop, get_or_past}
use Rattle.std.proofs.lemmas.Bool.{cases_lt}
use borrow.Rule.Slice.PartMut.{put_mid}
use Rattle.cg_disk.specs.Disk.{sector}
use Rattle.cg_disk.specs.Record.{overwritten}

pub length-overwritten : (xs : List ℕ) (a : ℕ) (new : List ℕ) → a + length new ≤ length xs → length (overwritten xs a new) ≡ length xs
unfolding overwritten
length-overwritten xs a new le = simp (length-append, length-take, length-drop) (omega arith)

-- the result of a write to a part of a slice
pub put_mid-overwritten : (xs new : List ℕ) (a : ℕ) → put_mid a (length new) xs new ≡ overwritten xs a new
unfolding overwritten
put_mid-overwritten xs new a = simp (append_assoc, drop-drop)

-- overwriting and writing the old bytes back changes nothing
pub overwritten-overwritten : (xs : List ℕ) (a : ℕ) (new : List ℕ) → a + length new ≤ length xs → overwritten (overwritten xs a new) a (take (length new) (drop a xs)) ≡ xs
unfolding overwritten
overwritten-overwritten xs a new le = same_lists _ _ (simp (length-append, length-take, length-drop) (omega arith)) (λ k d h. grind (arith, places))

-- the w bytes from x, below, above and within those that were written
module _ (xs : List ℕ) (a : ℕ) (new : List ℕ) (x w : ℕ) (le : a + length new ≤ length xs) where
  part-overwritten_below : x + w ≤ a → take w (drop x (overwritten xs a new)) ≡ take w (drop x xs)
  unfolding overwritten
  part-overwritten_below lt = same_lists _ _ (simp (length-append, length-take, length-drop) (omega arith)) (λ k d h. let kw : k < w = omega (arith, simp (length-append, length-take, length-drop) at h) in grind (arith, places))

  part-overwritten_above : a + length new ≤ x → take w (drop x (overwritten xs a new)) ≡ take w (drop x xs)
  unfolding overwritten
  part-overwritten_above lt = same_lists _ _ (simp (length-append, length-take, length-drop) (omega arith)) (λ k d h. let kw : k < w = omega (arith, simp (length-append, length-take, length-drop) at h) in grind (arith, places))

  part-overwritten_within : (y : ℕ) → x ≡ a + y → y + w ≤ length new → take w (drop x (overwritten xs a new)) ≡ take w (drop y new)
  unfolding overwritten
  part-overwritten_within y at lt = same_lists _ _ (simp (length-append, length-take, length-drop) (omega arith)) (λ k d h. let kw : k < w = omega (arith, simp (length-append, length-take, length-drop) at h) in grind (arith, places))

pub sector-overwritten_below : (xs : List ℕ) (at : ℕ) (new : List ℕ) (s : ℕ) → 512 * at + length new ≤ length xs → s < at → sector (overwritten xs (512 * at) new) s ≡ sector xs s
unfolding sector
sector-overwritten_below xs at new s le lt = part-overwritten_below xs (512 * at) new (512 * s) 512 le (omega arith)

pub sector-overwritten_above : (xs : List ℕ) (at : ℕ) (new : List ℕ) (s : ℕ) → 512 * at + length new ≤ length xs → 512 * at + length new ≤ 512 * s → sector (overwritten xs (512 * at) new) s ≡ sector xs s
unfolding sector
sector-overwritten_above xs at new s le lt = part-overwritten_above xs (512 * at) new (512 * s) 512 le lt

pub sector-overwritten_within : (xs : List ℕ) (at : ℕ) (new : List ℕ) (i : ℕ) → 512 * at + length new ≤ length xs → 512 * i + 512 ≤ length new → sector (overwritten xs (512 * at) new) (at + i) ≡ sector new i
unfolding sector
sector-overwritten_within xs at new i le lt = part-overwritten_within xs (512 * at) new (512 * (at + i)) 512 le (512 * i) (omega arith) lt

-- the result of such a write in the vector of the slice
pub written-overwritten : (items new old ys : List ℕ) (a b k n : ℕ) → old ≡ items → ys ≡ new → a ≡ b → k ≡ length new → n ≡ length items → b + length new ≤ length items → take n (put_mid a k old ys ++ drop (length (put_mid a k old ys)) items) ≡ overwritten items b new
written-overwritten items new old ys a b k n o y ab kl nl le =
    let whole : put_mid a k old ys ≡ overwritten items b new = rw (o, y, ab, kl) (put_mid-overwritten items new b) in
    let long : length (put_mid a k old ys) ≡ length items = ap length whole ∙ length-overwritten items b new le in
    rw (long, nl) (ap (λ (l : List ℕ). take (length items) (put_mid a k old ys ++ l)) (drop_all (length items) items (omega arith)) ∙ ap (take (length items)) (append-nil (put_mid a k old ys)) ∙ take_all (length items) (put_mid a k old ys) (omega arith) ∙ whole)

-- the sectors of a part
pub sector-part : (xs ys : List ℕ) (a at n i : ℕ) → ys ≡ take n (drop a xs) → a ≡ 512 * at → 512 * i + 512 ≤ n → sector xs (at + i) ≡ sector ys i
unfolding sector
sector-part xs ys a at n i is same lt =
    let from : 512 * (at + i) ≡ a + 512 * i = omega arith in
    let n_is : n ≡ 512 * i + (n - 512 * i) = omega arith in
    rw is (ap (λ (k : ℕ). take 512 (drop k xs)) from ∙ ap (take 512) (sym (drop-drop (512 * i) a xs)) ∙ sym (take-take 512 (n - 512 * i) (drop (512 * i) (drop a xs)) (omega arith)) ∙ ap (take 512) (sym (drop-take (512 * i) (n - 512 * i) (drop a xs)) ∙ ap (λ (k : ℕ). drop (512 * i) (take k (drop a xs))) (sym n_is)))

-- zeros everywhere
pub get_or-zeros : (n i : ℕ) → ◌≡◌ {A = ℕ} (get_or (replicate n 0) i 0) 0
get_or-zeros zero i = refl
get_or-zeros (suc n) zero = refl
get_or-zeros (suc n) (suc i) = get_or-zeros n i

pub sector-zeros : (bytes : List ℕ) (n s i : ℕ) → bytes ≡ replicate n 0 → get_or (sector bytes s) i 0 ≡ 0
unfolding sector
sector-zeros bytes n s i is = elim (cases_lt i 512) [
  | inl lt ↦ get_or-take 512 (drop (512 * s) bytes) i 0 lt ∙ get_or-drop (512 * s) bytes i 0 ∙ ap (λ (l : List ℕ). get_or l (512 * s + i) 0) is ∙ get_or-zeros n (512 * s + i)
  | inr le ↦ get_or_past (take 512 (drop (512 * s) bytes)) i 0 (simp (length-take, length-drop) (omega arith))
]
