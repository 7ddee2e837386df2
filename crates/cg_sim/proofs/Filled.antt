-- The sector of a poke: its bytes, and zeros after them.
use Rattle.std.proofs.Common.{◌≡◌, ℕ, ◌-◌, ◌/◌, ◌≤◌, List, [], ◌++◌, length, take, drop, replicate, refl, ◌∙◌, Ok, Err, arith, take_all}
use Rattle.std.specs.Prelude.{IsTrue, Result, nat_le}
use Rattle.std.specs.Result.{result_unwrap_or}
use Rattle.std.proofs.lemmas.Bool.{leb-true}
use Rattle.hex.specs.Hex.{decode_of}
use Rattle.hex.specs.declared.error.FromHexError.{FromHexError}
use Rattle.hex.proofs.HexLemmas.{decode_of-ok}
use Rattle.cg_line.specs.Fields.{bytes_in, decoded, is_bytes, is_opaque}
use Rattle.cg_line.proofs.Value.{both_of}
use Rattle.cg_sim.specs.Poking.{filled}

-- the bytes of a word, whatever their number, are bytes
pub opaque-bytes : (max : ℕ) (word : List ℕ) → IsTrue (is_opaque max word) → IsTrue (is_bytes word)
unfolding is_opaque
opaque-bytes max word is = (both_of (is_bytes word) (nat_le (length (drop 1 word) / 2) max) is).0

-- two digits make one byte
decoded-length : (digits : List ℕ) → length (decoded digits) ≤ length digits / 2
decoded-length digits = go (decode_of digits) refl
  where
    go : (r : Result (List ℕ) FromHexError) → decode_of digits ≡ r → length (result_unwrap_or r []) ≤ length digits / 2
    go (Ok bytes) is = let long = (decode_of-ok digits bytes is).2 in omega (arith, long)
    go (Err e) is = omega arith

opaque-length : (max : ℕ) (word : List ℕ) → IsTrue (is_opaque max word) → length (bytes_in word) ≤ max
unfolding is_opaque bytes_in
opaque-length max word is =
    let within = leb-true (length (drop 1 word) / 2) max (both_of (is_bytes word) (nat_le (length (drop 1 word) / 2) max) is).1 in
    omega (arith, within, decoded-length (drop 1 word))

-- bytes that are filled up to a sector
pub filled-resized : (word before after : List ℕ) (n : ℕ) → IsTrue (is_opaque 512 word) → n ≡ length before → before ≡ bytes_in word
    → after ≡ take 512 before ++ replicate (512 - n) 0 → after ≡ filled (bytes_in word)
unfolding filled
filled-resized word before after n is counts read resized =
    let whole = take_all 512 (bytes_in word) (opaque-length 512 word is) in
    resized ∙ rw (counts, read, whole) refl
