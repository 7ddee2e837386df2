-- The payload in the sectors of a frame that is sealed.
use Rattle.std.proofs.Common.{◌≡◌, ℕ, ◌+◌, ◌*◌, ◌^◌, ◌<◌, ◌≤◌, List, ◌++◌, length, take, drop, get_or, sym, subst, ◌∙◌, ap, arith}
use Rattle.std.proofs.lemmas.List.{length-take, length-drop}
use Rattle.cg_frame.specs.Frames.{body_sectors, word}
use Rattle.cg_frame.specs.Staged.{IsFrameBuffer, IsStagedFrame}
use Rattle.cg_frame.proofs.Laid.{IsStaged}

length-payload : (sectors : List ℕ) (count n : ℕ) → IsStagedFrame sectors count n → length (take n (drop 16 sectors)) ≡ n
length-payload sectors count n is = simp (length-take, length-drop) (omega (arith, is.long))

-- the same of a slice of them, by the payload
IsStaged-frame : (shown sectors : List ℕ) (count n : ℕ) → shown ≡ sectors → IsStagedFrame sectors count n → IsStaged shown count (take n (drop 16 sectors))
IsStaged-frame shown sectors count n same is =
    let long : length (take n (drop 16 sectors)) ≡ n = length-payload sectors count n is in
    record {
      long = ap length same ∙ is.long ∙ ap (λ (k : ℕ). 512 * (body_sectors k + 1)) (sym long);
      body_is = ap (take (16 + length (take n (drop 16 sectors)))) same ∙ ap (λ (k : ℕ). take (16 + k) sectors) long ∙ is.body_is ∙ ap (λ (k : ℕ). word count ++ word k ++ take n (drop 16 sectors)) (sym long);
      padded = λ i later. ap (λ (l : List ℕ). get_or l i 0) same ∙ is.padded i (subst (λ (k : ℕ). 16 + k ≤ i) long later);
    }

-- the sectors of a frame with a count
pub staged-frame : (shown sectors : List ℕ) (count n : ℕ) (frame : ℕ × List ℕ) → shown ≡ sectors → IsFrameBuffer sectors count n → (count, take n (drop 16 sectors)) ≡ frame → 1 ≤ frame.0 → IsStaged shown frame.0 frame.1 × (frame.0 < 2 ^ 64)
staged-frame shown sectors count n frame same is view counted =
    let sealed = is.sealed (subst (λ (v : ℕ × List ℕ). 1 ≤ v.0) (sym view) counted) in
    subst (λ (v : ℕ × List ℕ). IsStaged shown v.0 v.1 × (v.0 < 2 ^ 64)) view (IsStaged-frame shown sectors count n same sealed, sealed.fits_word)
