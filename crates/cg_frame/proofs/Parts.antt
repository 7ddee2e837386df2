-- Parts of buffers that were read.
use Rattle.std.proofs.Common.{◌≡◌, ℕ, ◌+◌, ◌-◌, ◌^◌, ◌<◌, ◌≤◌, List, ◌++◌, length, take, drop, sym, ◌∙◌, ap, arith}
use Rattle.std.proofs.lemmas.List.{length-take, length-drop, take-take, drop-take, drop-drop, take-append-drop, drop_all, drop_at, append-nil, take_all}
use borrow.Rule.Slice.PartMut.{put_mid}
use Rattle.cg_frame.specs.Frames.{word, IsFront}
use Rattle.cg_frame.specs.declared.segment.Segment.{Segment}
use Rattle.cg_frame.proofs.Words.{word_injective}
use Rattle.cg_frame.proofs.Standing.{words_equal}

-- two words are the 16 bytes that they fill
pub two_words : (xs : List ℕ) (a : ℕ) → take 16 (drop a xs) ≡ take 8 (drop a xs) ++ take 8 (drop (a + 8) xs)
two_words xs a =
    sym (take-append-drop 8 (take 16 (drop a xs)))
    ∙ ap (λ (l : List ℕ). l ++ drop 8 (take 16 (drop a xs))) (take-take 8 16 (drop a xs) (omega arith))
    ∙ ap (λ (l : List ℕ). take 8 (drop a xs) ++ l) (drop-take 8 8 (drop a xs) ∙ ap (take 8) (drop-drop 8 a xs))

-- what a write to the end of a slice leaves behind
pub drop-put_mid_end : (xs ys : List ℕ) (a : ℕ) → a ≤ length xs → length ys ≡ length xs - a → drop a (put_mid a (length xs - a) xs ys) ≡ ys
drop-put_mid_end xs ys a le long =
    drop_at (take a xs) (ys ++ drop (length xs - a) (drop a xs)) a (simp length-take (omega arith))
    ∙ ap (λ (l : List ℕ). ys ++ l) (drop_all (length xs - a) (drop a xs) (simp length-drop (omega arith)))
    ∙ append-nil ys

-- a front tells one count and one length
pub IsFront-words : (front : List ℕ) (segment : Segment) (pos count n a b : ℕ) → n < 2 ^ 64 → a < 2 ^ 64 → b < 2 ^ 64 → take 16 (drop 512 front) ≡ word a ++ word b → IsFront front segment pos count n → (count ≡ a) × (n ≡ b)
IsFront-words front segment pos count n a b n_fits a_fits b_fits told is =
    let words = words_equal count n a b (sym is.head_is ∙ told) in
    (word_injective count a is.fits_word a_fits words.0, word_injective n b n_fits b_fits words.1)

-- the buffer that a payload is cut from
pub take-buffer : (items read start rest : List ℕ) (len n : ℕ) → len ≡ length items → length read ≡ length items → 496 ≤ length items → take 496 read ≡ start → drop 496 read ≡ rest → take n (take len (read ++ drop (length read) items)) ≡ take n (start ++ rest)
take-buffer items read start rest len n l same le front behind =
    ap (take n) (
    ap (λ (k : List ℕ). take len (read ++ k)) (drop_all (length read) items (omega arith))
    ∙ ap (take len) (append-nil read) ∙ take_all len read (omega arith)
    ∙ sym (take-append-drop 496 read) ∙ ap (λ (k : List ℕ). k ++ drop 496 read) front ∙ ap (λ (k : List ℕ). start ++ k) behind
    )
