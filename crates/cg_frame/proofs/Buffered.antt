-- Sectors of a segment in a buffer, and the frames that they are.
use Rattle.std.proofs.Common.{◌≡◌, ◌≢◌, ℕ, ◌+◌, ◌-◌, ◌*◌, ◌<◌, ◌≤◌, List, ◌++◌, length, take, drop, get_or, refl, sym, ◌∙◌, ap, subst, inl, inr, arith, zero-add}
use Rattle.std.proofs.lemmas.Bool.{cases_lt}
use Rattle.std.proofs.lemmas.List.{length-take, length-drop, take-take, drop-take, drop-drop, take-append-drop, drop_all, append-nil, take_all}
use borrow.Rule.Slice.PartMut.{put_mid}
use Rattle.cg_disk.specs.Disk.{Image, Holds, sector, span}
use Rattle.cg_disk.specs.Record.{overwritten}
use Rattle.cg_disk.proofs.Bytes.{put_mid-overwritten, sector-overwritten_below, sector-overwritten_within, sector-part}
use Rattle.cg_disk.proofs.Moments.{span-holds}
use Rattle.cg_frame.specs.Frames.{IsClosed, FrameAt, HeadAt, body_sectors, next_gate, word}
use Rattle.cg_frame.specs.Heads.{IsBadFrame}
use Rattle.cg_frame.specs.declared.segment.Segment.{Segment}
use Rattle.cg_frame.proofs.Laid.{sector_first}

-- What a buffer holds

-- a part of a buffer
pub Holds-part : (image : Image) (at n k m a len : ℕ) (xs ys : List ℕ) → Holds image at n xs → ys ≡ take len (drop a xs) → a ≡ 512 * k → 512 * m ≤ len → k + m ≤ n → Holds image (at + k) m ys
Holds-part image at n k m a len xs ys holds is same le inside i lt =
    ap image (let e : at + k + i ≡ at + (k + i) = omega arith in e) ∙ holds (k + i) (omega arith) ∙ sector-part xs ys a k len i is same (omega arith)

-- a buffer that begins with the same bytes
pub Holds-kept : (image : Image) (at n : ℕ) (xs ys : List ℕ) → take (512 * n) ys ≡ take (512 * n) xs → Holds image at n xs → Holds image at n ys
Holds-kept image at n xs ys same holds i lt = holds i lt ∙ front xs ∙ ap (λ (l : List ℕ). sector l i) (sym same) ∙ sym (front ys)
  where
    front : (l : List ℕ) → sector l i ≡ sector (take (512 * n) l) i
    front l = ap (sector l) (sym (zero-add i)) ∙ sector-part l (take (512 * n) l) 0 0 (512 * n) i refl refl (omega arith)

-- more sectors that were read behind those that it holds
pub Holds-read : (image content : Image) (first filled end a k : ℕ) (xs ys : List ℕ) → ((s : ℕ) → content s ≡ image s) → Holds image first filled xs → Holds content (first + filled) (end - filled) ys → a ≡ 512 * filled → k ≡ length ys → length ys ≡ 512 * (end - filled) → 512 * end ≤ length xs → filled ≤ end → Holds image first end (put_mid a k xs ys)
Holds-read image content first filled end a k xs ys same holds part a_is k_is long room le i lt =
    let whole : put_mid a k xs ys ≡ overwritten xs (512 * filled) ys = rw (a_is, k_is) (put_mid-overwritten xs ys (512 * filled)) in
    elim (cases_lt i filled) [
      | inl below ↦ holds i below ∙ sym (ap (λ (l : List ℕ). sector l i) whole ∙ sector-overwritten_below xs filled ys i (omega arith) below)
      | inr ge ↦
          let e : i ≡ filled + (i - filled) = omega arith in
          let f : first + i ≡ first + filled + (i - filled) = omega arith in
          sym (same (first + i)) ∙ ap content f ∙ part (i - filled) (omega arith)
          ∙ sym (ap (λ (l : List ℕ). sector l i) whole ∙ ap (sector (overwritten xs (512 * filled) ys)) e ∙ sector-overwritten_within xs filled ys (i - filled) (omega arith) (omega arith))
    ]

-- the vector of a slice that was written
pub take-written : (items slice : List ℕ) (n : ℕ) → n ≡ length items → length slice ≡ length items → take n (slice ++ drop (length slice) items) ≡ slice
take-written items slice n n_is long =
    ap (λ (l : List ℕ). take n (slice ++ l)) (drop_all (length slice) items (omega arith)) ∙ ap (take n) (append-nil slice) ∙ take_all n slice (omega arith)

-- the first bytes of a sector
head_bytes : (bytes : List ℕ) (i : ℕ) → take 16 (sector bytes i) ≡ take 16 (drop (512 * i) bytes)
unfolding sector
head_bytes bytes i = take-take 16 512 (drop (512 * i) bytes) (omega arith)

-- Frames in a buffer

module _ (image : Image) (segment : Segment) (pos m : ℕ) (buffer : List ℕ) (holds : Holds image segment.first m buffer) where
  -- the byte that opens a gate
  gate_byte : pos < m → get_or (image (segment.first + pos)) 0 0 ≡ get_or buffer (512 * pos) 0
  gate_byte lt = ap (λ (l : List ℕ). get_or l 0 0) (holds pos lt) ∙ sector_first buffer pos

  pub IsClosed-buffered : pos < m → get_or buffer (512 * pos) 0 ≢ 1 → IsClosed image (segment.first + pos)
  IsClosed-buffered lt shut opened = shut (sym (gate_byte lt) ∙ opened)

  -- an open gate at the last sector has no frame
  pub IsBadFrame-last : pos < m → pos + 1 ≡ segment.sectors → get_or buffer (512 * pos) 0 ≡ 1 → IsBadFrame image segment pos
  IsBadFrame-last lt last opened = (gate_byte lt ∙ opened, λ count payload frame. absurd (omega (arith, frame.fits, last)))

  -- a head with the sectors that it asks for is a frame
  pub FrameAt-buffered : (count n : ℕ) (payload : List ℕ) → HeadAt image segment pos count n → next_gate pos n ≤ m → 512 * m ≤ length buffer → payload ≡ take n (drop (512 * (pos + 1) + 16) buffer) → FrameAt image segment pos count payload
  FrameAt-buffered count n payload head enough room is =
      let at = 512 * (pos + 1) in
      let b = body_sectors n in
      let gate = segment.first + pos in
      let size : length payload ≡ n = ap length is ∙ simp (length-take, length-drop) (omega arith) in
      let rest = take (512 * b) (drop at buffer) in
      let part : Holds image (segment.first + (pos + 1)) b rest = Holds-part image segment.first m (pos + 1) b at (512 * b) buffer rest holds refl refl (omega arith) (omega arith) in
      let whole : span image (gate + 1) b ≡ rest =
      ap (λ (k : ℕ). span image k b) (let e : gate + 1 ≡ segment.first + (pos + 1) = omega arith in e) ∙ span-holds image (segment.first + (pos + 1)) b rest (simp (length-take, length-drop) (omega arith)) part in
      let cut : take (16 + n) rest ≡ take (16 + n) (drop at buffer) = take-take (16 + n) (512 * b) (drop at buffer) (omega arith) in
      let first : image (gate + 1) ≡ sector buffer (pos + 1) = ap image (let e : gate + 1 ≡ segment.first + (pos + 1) = omega arith in e) ∙ holds (pos + 1) (omega arith) in
      let words : take 16 (drop at buffer) ≡ word count ++ word n = sym (head_bytes buffer (pos + 1)) ∙ ap (take 16) (sym first) ∙ head.head_is in
      let parts : take (16 + n) (drop at buffer) ≡ word count ++ word n ++ payload =
      sym (take-append-drop 16 (take (16 + n) (drop at buffer)))
      ∙ ap (λ (l : List ℕ). l ++ drop 16 (take (16 + n) (drop at buffer))) (take-take 16 (16 + n) (drop at buffer) (omega arith) ∙ words)
      ∙ ap (λ (l : List ℕ). word count ++ word n ++ l) (drop-take 16 n (drop at buffer) ∙ ap (take n) (drop-drop 16 at buffer) ∙ sym is) in
      record {
        is_open = head.is_open;
        body_is = subst (λ (k : ℕ). take (16 + k) (span image (gate + 1) (body_sectors k)) ≡ word count ++ word k ++ payload) (sym size) (ap (take (16 + n)) whole ∙ cut ∙ parts);
        counted = head.counted;
        fits_word = head.fits_word;
        fits = subst (λ (k : ℕ). next_gate pos k < segment.sectors) (sym size) head.fits;
      }
