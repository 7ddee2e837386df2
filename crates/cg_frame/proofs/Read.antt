-- What was read of a segment, seen as a frame.
use Rattle.std.proofs.Common.{◌≡◌, ◌≢◌, ℕ, zero, suc, ◌+◌, ◌-◌, ◌<◌, List, [], ◌∷◌, ◌++◌, length, take, drop, get_or, sym, ◌∙◌, ap, subst, arith, append_assoc}
use Rattle.std.proofs.lemmas.List.{length-drop, length-append, take-append-drop, take-append-le, take_all, drop-drop}
use Rattle.cg_disk.specs.Disk.{Image, Holds, span, sector}
use Rattle.cg_frame.specs.Frames.{IsOpen, IsClosed, IsFront, FrameAt, HeadAt, body_sectors, next_gate, word}
use Rattle.cg_frame.specs.declared.segment.Segment.{Segment}
use Rattle.cg_gate.proofs.Gates.{first_byte}
use Rattle.cg_frame.proofs.Words.{length-word}
use Rattle.cg_frame.proofs.Standing.{head_is}

take_past : (xs ys : List ℕ) (m n : ℕ) → m ≡ length xs + n → take m (xs ++ ys) ≡ xs ++ take n ys
take_past [] ys m n is = let same : m ≡ n = omega arith in ap (λ (k : ℕ). take k ys) same
take_past (x ∷ xs) ys zero n is = absurd (omega arith)
take_past (x ∷ xs) ys (suc m) n is = ap (λ (l : List ℕ). x ∷ l) (take_past xs ys m n (omega arith))

module _ (content : Image) (segment : Segment) (pos : ℕ) (front : List ℕ) (long : length front ≡ 1024) (holds : Holds content (segment.first + pos) 2 front) where
  abbrev gate : ℕ
  gate = segment.first + pos

  -- the sector behind the gate
  behind : content (gate + 1) ≡ drop 512 front
  unfolding sector
  behind = holds 1 (omega arith) ∙ take_all 512 (drop 512 front) (simp length-drop (omega arith))

  gate_byte : get_or (content gate) 0 0 ≡ get_or front 0 0
  gate_byte = first_byte content gate 2 front holds (omega arith)

  -- a span from there on begins with it
  span_front : (k : ℕ) → span content (gate + 1) (suc k) ≡ drop 512 front ++ span content (gate + 2) k
  span_front k =
      ap (λ (l : List ℕ). l ++ span content (suc (gate + 1)) k) behind ∙ ap (λ (n : ℕ). drop 512 front ++ span content n k) (let e : suc (gate + 1) ≡ gate + 2 = omega arith in e)

  pub IsClosed-front : get_or front 0 0 ≢ 1 → IsClosed content gate
  IsClosed-front shut opened = shut (sym gate_byte ∙ opened)

  pub IsOpen-front : get_or front 0 0 ≡ 1 → IsOpen content gate
  IsOpen-front opened = gate_byte ∙ opened

  pub HeadAt-front : (count n : ℕ) → IsFront front segment pos count n → HeadAt content segment pos count n
  HeadAt-front count n is = record { is_open = gate_byte ∙ is.is_open; head_is = ap (take 16) behind ∙ is.head_is; counted = is.counted; fits_word = is.fits_word; fits = is.fits }

  -- the front shows a frame at that position
  pub IsFront-frame : (count : ℕ) (payload : List ℕ) → FrameAt content segment pos count payload → IsFront front segment pos count (length payload)
  IsFront-frame count payload frame =
      let b = body_sectors (length payload) in
      let some : b ≡ suc (b - 1) = omega arith in
      let whole : span content (gate + 1) b ≡ drop 512 front ++ span content (gate + 2) (b - 1) = ap (span content (gate + 1)) some ∙ span_front (b - 1) in
      record {
        is_open = sym gate_byte ∙ frame.is_open;
        head_is =
            sym (take-append-le 16 (drop 512 front) (span content (gate + 2) (b - 1)) (simp length-drop (omega arith))) ∙ ap (take 16) (sym whole)
            ∙ head_is content (gate + 1) b count payload frame.body_is;
        counted = frame.counted;
        fits_word = frame.fits_word;
        fits = frame.fits;
      }

  -- what the front shows, with the payload after it, makes a frame
  pub FrameAt-front : (count n : ℕ) (payload : List ℕ) → IsFront front segment pos count n → length payload ≡ n → payload ≡ take n (drop 528 front ++ span content (gate + 2) (body_sectors n - 1)) → FrameAt content segment pos count payload
  FrameAt-front count n payload is size cut =
      let b = body_sectors n in
      let rest = span content (gate + 2) (b - 1) in
      let some : b ≡ suc (b - 1) = omega arith in
      let head = word count ++ word n in
      let first : drop 512 front ≡ head ++ drop 528 front = sym (take-append-drop 16 (drop 512 front)) ∙ ap (λ (l : List ℕ). l ++ drop 16 (drop 512 front)) is.head_is ∙ ap (λ (l : List ℕ). head ++ l) (drop-drop 16 512 front) in
      let whole : span content (gate + 1) b ≡ head ++ (drop 528 front ++ rest) =
      ap (span content (gate + 1)) some ∙ span_front (b - 1) ∙ ap (λ (l : List ℕ). l ++ rest) first ∙ append_assoc head (drop 528 front) rest in
      let taken : take (16 + n) (span content (gate + 1) b) ≡ head ++ payload =
      ap (take (16 + n)) whole ∙ take_past head (drop 528 front ++ rest) (16 + n) n (omega (arith, length-append (word count) (word n), length-word count, length-word n)) ∙ ap (λ (l : List ℕ). head ++ l) (sym cut) in
      record {
        is_open = gate_byte ∙ is.is_open;
        body_is = subst (λ (m : ℕ). take (16 + m) (span content (gate + 1) (body_sectors m)) ≡ word count ++ word m ++ payload) (sym size) taken;
        counted = is.counted;
        fits_word = is.fits_word;
        fits = subst (λ (m : ℕ). next_gate pos m < segment.sectors) (sym size) is.fits;
      }
