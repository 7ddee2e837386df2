-- A buffer that is cut, and one to which the head, zeros and a gate are added.
use Rattle.std.proofs.Common.{◌≡◌, ℕ, ◌+◌, ◌-◌, ◌*◌, ◌^◌, ◌<◌, ◌≤◌, List, ◌++◌, length, take, drop, get_or, replicate, refl, sym, ◌∙◌, ap, inl, inr, arith, append_assoc}
use Rattle.std.proofs.lemmas.Bool.{cases_lt}
use Rattle.std.proofs.lemmas.List.{append-nil, length-append, length-drop, length-replicate, length-take, drop_all, drop_at, drop-append-le, drop-drop, drop-take, take_all, take_at, get_or-drop, get_or-replicate, get_or_past}
use Rattle.std.proofs.Math.Seq.{take-append-add}
use borrow.Rule.Slice.PartMut.{put_mid, post_of}
use Rattle.cg_frame.specs.Frames.{body_sectors, word}
use Rattle.cg_frame.specs.Staged.{IsStagedFrame}
use Rattle.cg_frame.proofs.Words.{length-word}

-- a buffer that is cut after n bytes of its payload
pub resized-payload : (s : List ℕ) (n : ℕ) → n ≤ length s - 16 → drop 16 (take (16 + n) s ++ replicate (16 + n - length s) 0) ≡ take n (drop 16 s)
resized-payload s n inside = elim (cases_lt (length s) 16) [
  | inl short ↦
      let none : n ≡ 0 = omega arith in
      let long : length (take (16 + n) s ++ replicate (16 + n - length s) 0) ≤ 16 = simp (length-append, length-take, length-replicate) (omega arith) in
      drop_all 16 (take (16 + n) s ++ replicate (16 + n - length s) 0) long
      ∙ ap (λ (k : ℕ). take k (drop 16 s)) (sym none) ∙ refl
  | inr long ↦
      let zero_more : 16 + n - length s ≡ 0 = omega arith in
      ap (λ (k : ℕ). drop 16 (take (16 + n) s ++ replicate k 0)) zero_more
      ∙ ap (drop 16) (append-nil (take (16 + n) s)) ∙ drop-take 16 n s
]

-- a buffer of a payload of n bytes that is filled up with zeros
abbrev pub resized : List ℕ → ℕ → List ℕ
resized s n = take (512 * (body_sectors n + 1)) s ++ replicate (512 * (body_sectors n + 1) - length s) 0

-- two words in place of the first 16 bytes
pub head-put : (s a b : List ℕ) → length a ≡ 8 → length b ≡ 8 → put_mid 8 8 (a ++ post_of 0 8 s) b ≡ a ++ b ++ drop 16 s
head-put s a b eight eight' =
    ap (λ (l : List ℕ). l ++ (b ++ drop 8 (drop 8 (a ++ drop 8 s)))) (take_at a (drop 8 s) 8 eight)
    ∙ ap (λ (l : List ℕ). a ++ (b ++ drop 8 l)) (drop_at a (drop 8 s) 8 eight)
    ∙ ap (λ (l : List ℕ). a ++ (b ++ l)) (drop-drop 8 8 s)
    ∙ sym (append_assoc a b (drop 16 s))

-- what a slice that is all of a buffer leaves in it
pub take-written : (items new : List ℕ) (len : ℕ) → length items ≡ len → length new ≡ len → take len (new ++ drop (length new) items) ≡ new
take-written items new len long same = take_at new (drop (length new) items) len same

module _ (s : List ℕ) (count n : ℕ) (head : 16 ≤ length s) (is : n ≡ length s - 16) (fits : count < 2 ^ 64) where
  abbrev rest : List ℕ
  rest = drop 16 (resized s n)

  abbrev zeros : List ℕ
  zeros = replicate (512 * (body_sectors n + 1) - length s) 0

  rest-is : rest ≡ drop 16 s ++ zeros
  rest-is =
      let all : length s ≤ 512 * (body_sectors n + 1) = omega arith in
      ap (λ (l : List ℕ). drop 16 (l ++ zeros)) (take_all (512 * (body_sectors n + 1)) s all) ∙ drop-append-le 16 s zeros head

  behind-is : drop 16 (word count ++ word n ++ rest) ≡ rest
  behind-is = drop_at (word count ++ word n) rest 16 (simp (length-append, length-word) refl)

  rest-payload : take n rest ≡ drop 16 s
  rest-payload =
      let long : length (drop 16 s) ≡ n = simp length-drop (omega arith) in
      ap (take n) rest-is ∙ take_at (drop 16 s) zeros n long

  pub completed-payload : take n (drop 16 (word count ++ word n ++ rest)) ≡ drop 16 s
  completed-payload = ap (take n) behind-is ∙ rest-payload

  rest-zero : (i : ℕ) → n ≤ i → get_or rest i 0 ≡ 0
  rest-zero i later =
      let long : length (drop 16 s) ≡ n = simp length-drop (omega arith) in
      let at : n + (i - n) ≡ i = omega arith in
      let behind : drop n rest ≡ zeros = ap (drop n) rest-is ∙ drop_at (drop 16 s) zeros n long in
      ap (λ (k : ℕ). get_or rest k 0) (sym at) ∙ sym (get_or-drop n rest (i - n) 0) ∙ ap (λ (l : List ℕ). get_or l (i - n) 0) behind
      ∙ elim (cases_lt (i - n) (512 * (body_sectors n + 1) - length s)) [
        | inl lt ↦ get_or-replicate (512 * (body_sectors n + 1) - length s) (i - n) 0 0 lt
        | inr ge ↦ get_or_past zeros (i - n) 0 (simp length-replicate (omega arith))
      ]

  pub completed-frame : IsStagedFrame (word count ++ word n ++ rest) count n
  completed-frame = record {
    long = simp (length-append, length-word) (
        let all : length s ≤ 512 * (body_sectors n + 1) = omega arith in
        let it : length rest ≡ length s - 16 + (512 * (body_sectors n + 1) - length s) = ap length rest-is ∙ simp (length-append, length-drop, length-replicate) refl in
        omega (arith, it, all));
    body_is =
        ap (λ (k : ℕ). take (k + n) (word count ++ word n ++ rest)) (sym (let l : length (word count ++ word n) ≡ 16 = simp (length-append, length-word) refl in l))
        ∙ take-append-add (word count ++ word n) rest n
        ∙ ap (λ (l : List ℕ). word count ++ word n ++ take n l) (sym behind-is);
    fits_word = fits;
    padded = λ i later.
        let at : 16 + (i - 16) ≡ i = omega arith in
        ap (λ (k : ℕ). get_or (word count ++ word n ++ rest) k 0) (sym at) ∙ sym (get_or-drop 16 (word count ++ word n ++ rest) (i - 16) 0)
        ∙ ap (λ (l : List ℕ). get_or l (i - 16) 0) behind-is ∙ rest-zero (i - 16) (omega arith);
  }
