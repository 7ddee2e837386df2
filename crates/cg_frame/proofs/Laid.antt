-- Sectors that were laid, seen as a frame.
use Rattle.std.proofs.Common.{◌≡◌, ℕ, zero, suc, refl, [], ◌∷◌, ◌+◌, ◌*◌, ◌^◌, ◌<◌, ◌≤◌, List, length, take, drop, get_or, ◌∙◌, ap, inl, inr, arith, add-zero}
use Rattle.std.proofs.Math.Seq.{take-nil}
use Rattle.std.proofs.lemmas.List.{get_or-take, get_or-drop, take-take}
use Rattle.cg_disk.specs.Disk.{Image, Moment, History, LeavesOnly, IsImage, present, sector, sector_count, span}
use Rattle.cg_disk.proofs.Moments.{AllBut-wider, AllBut-image, span-holds_front, LeavesOnly-starts, LeavesOnly-weaker}
use Rattle.cg_frame.specs.Frames.{IsClosed, body, body_sectors, next_gate}
use Rattle.cg_gate.specs.Gates.{IsGuarded, GuardedWrite}
use Rattle.cg_frame.specs.Outcomes.{StandsLast, Appended, KeepsFramesTo, IsBeforeOrAfter}
use Rattle.cg_frame.specs.declared.segment.Segment.{Segment}

-- the first byte of a later sector
pub sector_first : (bytes : List ℕ) (i : ℕ) → get_or (sector bytes i) 0 0 ≡ get_or bytes (512 * i) 0
unfolding sector
sector_first bytes i = get_or-take 512 (drop (512 * i) bytes) 0 0 (omega arith) ∙ get_or-drop (512 * i) bytes 0 0 ∙ ap (λ (k : ℕ). get_or bytes k 0) (add-zero (512 * i))

-- an element of a prefix is 0 if it is 0 in the list
get_or-zero_take : (xs : List ℕ) (n i : ℕ) → get_or xs i 0 ≡ 0 → get_or (take n xs) i 0 ≡ 0
get_or-zero_take [] n i is = ap (λ (l : List ℕ). get_or l i 0) (take-nil n) ∙ is
get_or-zero_take (x ∷ xs) zero i is = refl
get_or-zero_take (x ∷ xs) (suc n) zero is = is
get_or-zero_take (x ∷ xs) (suc n) (suc i) is = get_or-zero_take xs n i is

-- the sectors of a frame: its body, zeros, and so a closed gate
pub record IsStaged (sectors : List ℕ) (count : ℕ) (payload : List ℕ) : Type 0 where
  pub long : length sectors ≡ 512 * (body_sectors (length payload) + 1)
  pub body_is : take (16 + length payload) sectors ≡ body count payload
  pub padded : (i : ℕ) → 16 + length payload ≤ i → get_or sectors i 0 ≡ 0

module _ (segment : Segment) (pos count : ℕ) (payload sectors : List ℕ) (staged : IsStaged sectors count payload) (counted : 1 ≤ count) (fits_word : count < 2 ^ 64) (fits : next_gate pos (length payload) < segment.sectors) where
  abbrev b : ℕ
  b = body_sectors (length payload)

  counts : sector_count sectors ≡ b + 1
  counts = omega (arith, staged.long)

  pub StandsLast-laid : (image : Image) → IsGuarded image (segment.first + pos) (sector_count sectors) sectors → StandsLast image segment pos count payload
  StandsLast-laid image laid =
      let gate = segment.first + pos in
      let front : span image (gate + 1) b ≡ take (512 * b) sectors = span-holds_front image (gate + 1) (sector_count sectors) b sectors (omega (arith, staged.long)) (omega (arith, counts)) laid.holds in
      let next : segment.first + next_gate pos (length payload) ≡ gate + 1 + b = omega arith in
      let byte : get_or (image (segment.first + next_gate pos (length payload))) 0 0 ≡ 0 =
      ap (λ (s : ℕ). get_or (image s) 0 0) next ∙ ap (λ (l : List ℕ). get_or l 0 0) (laid.holds b (omega (arith, counts))) ∙ sector_first sectors b ∙ staged.padded (512 * b) (omega arith) in
      record {
        frame = record {
          is_open = laid.is_open;
          body_is = ap (take (16 + length payload)) front ∙ take-take (16 + length payload) (512 * b) sectors (omega arith) ∙ staged.body_is;
          counted = counted;
          fits_word = fits_word;
          fits = fits;
        };
        padded = λ i later. ap (λ (l : List ℕ). get_or l i 0) front ∙ get_or-zero_take sectors (512 * b) i (staged.padded i later);
        closed = λ opened. absurd (omega (arith, byte, opened));
      }

  pub Appended-lays : (m : Moment) (image : Image) → GuardedWrite m (segment.first + pos) (sector_count sectors) sectors image → Appended m segment pos count payload image
  Appended-lays m image lays = record {
    elsewhere = AllBut-wider (segment.first + pos) (sector_count sectors + 1) (segment.first + pos) (b + 2) m image (omega arith) (omega (arith, counts)) lays.elsewhere;
    outcome = elim lays.outcome [ inl closed ↦ inl closed | inr laid ↦ inr (StandsLast-laid image laid) ];
  }

  module _ (old new : History) (run : LeavesOnly old new (GuardedWrite (present old) (segment.first + pos) (sector_count sectors) sectors)) where
    pub Appended-run : LeavesOnly old new (Appended (present old) segment pos count payload)
    Appended-run = LeavesOnly-weaker old new _ _ (Appended-lays (present old)) run

-- before the disk is called
pub Appended-starts : (h : History) (segment : Segment) (pos count : ℕ) (payload : List ℕ) → ((image : Image) → IsImage (present h) image → IsClosed image (segment.first + pos)) → LeavesOnly h h (Appended (present h) segment pos count payload)
Appended-starts h segment pos count payload closed =
    LeavesOnly-starts h (Appended (present h) segment pos count payload) (λ image is. record { elsewhere = AllBut-image (segment.first + pos) (body_sectors (length payload) + 2) (present h) image is; outcome = inl (closed image is) })

pub frames-starts : (h : History) (segment : Segment) (pos count : ℕ) (payload : List ℕ) (frames : List (ℕ × List ℕ)) → KeepsFramesTo (present h) segment frames pos → LeavesOnly h h (IsBeforeOrAfter segment frames count payload)
frames-starts h segment pos count payload frames keeps = LeavesOnly-starts h _ (λ image is. inl (pos, keeps image is))
