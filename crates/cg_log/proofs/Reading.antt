-- Reading the frames of segments one by one.
use Rattle.std.proofs.Common.{◌≡◌, Bool, ℕ, zero, suc, ◌+◌, ◌<◌, ◌≤◌, List, [], ◌∷◌, ◌++◌, length, take, get_or, sym, ap, ◌∙◌, subst, refl, arith, append_assoc, Err, Option, Some, None}
use Rattle.std.proofs.lemmas.List.{append-nil, map-append, take_all, length-append}
use Rattle.cg_disk.specs.Disk.{Image, Moment, History, IsImage, Stays, present}
use Rattle.cg_disk.proofs.Moments.{IsImage-content, LeavesOnly-present, LeavesOnly-starts, LeavesOnly-stays}
use Rattle.cg_frame.specs.Frames.{Chain, FrameAt, IsOpen, IsClosed, HasFrames, next_gate}
use Rattle.cg_frame.specs.declared.segment.Frame.{Frame}
use Rattle.cg_frame.specs.declared.segment.Segment.{Segment}
use Rattle.cg_frame.proofs.Standing.{Chain-ends, Chain-goes_on, Chain-open}
use Rattle.cg_gate.specs.Layout.{first_sector}
use Rattle.cg_log.specs.Carried.{Content, HoldsContent, KeepsLog, LogAt, segments_of, tails}
use Rattle.cg_log.specs.Ready.{IsReady, last_id}
use Rattle.cg_root.specs.Roots.{CountingRoot}
use Rattle.cg_root.specs.Slots.{gate_of, other_slot}
use Rattle.cg_root.specs.declared.root.Root.{Root}
use Rattle.cg_log.proofs.Filled.{AreStored-append, length-ids}
use Rattle.cg_log.specs.Cursors.{IsAfter, IsNext, frames_at, index_of, read_limit, segments_before}
use Rattle.cg_log.specs.Scanned.{Finds}
use Rattle.cg_log.specs.Segments.{Frames, Filled, segment_of, ids_of, frames_of, end_of_frames, AreStored}
use Rattle.cg_log.specs.declared.cursor.Cursor.{Cursor}
use Rattle.cg_log.specs.declared.fault.LogFault.{LogFault}
use Rattle.cg_log.specs.declared.fault.LogFault.TheVariants as log_fault
use Rattle.cg_log.proofs.Moves.{end_of_frames-push}

-- Lists of segments

frames_of-take : (segments : List Filled) (i : ℕ) → frames_of (take (suc i) segments) ≡ frames_of (take i segments) ++ frames_at segments i
frames_of-take [] zero = refl
frames_of-take [] (suc i) = refl
frames_of-take (s ∷ segments) zero = append-nil s.1
frames_of-take (s ∷ segments) (suc i) = ap (λ (l : Frames). s.1 ++ l) (frames_of-take segments i) ∙ sym (append_assoc s.1 (frames_of (take i segments)) (frames_at segments i))

-- the frames of the first segments begin with those of fewer
frames_of-front : (segments : List Filled) (i n : ℕ) → i ≤ n → (more : Frames) × (frames_of (take n segments) ≡ frames_of (take i segments) ++ more)
frames_of-front segments zero n le = (frames_of (take n segments), refl)
frames_of-front [] (suc i) n le = ([], take_nil n)
  where
    take_nil : (n : ℕ) → frames_of (take n []) ≡ [] ++ []
    take_nil zero = refl
    take_nil (suc n) = refl
frames_of-front (s ∷ segments) (suc i) zero le = absurd (omega arith)
frames_of-front (s ∷ segments) (suc i) (suc n) le =
    let rest = frames_of-front segments i n (omega arith) in
    (rest.0, ap (λ (l : Frames). s.1 ++ l) rest.1 ∙ sym (append_assoc s.1 (frames_of (take i segments)) rest.0))

take_past : (xs ys : List Filled) (k : ℕ) → take (length xs + k) (xs ++ ys) ≡ xs ++ take k ys
take_past [] ys k = ap (λ (n : ℕ). take n ys) (let e : 0 + k ≡ k = omega arith in e)
take_past (x ∷ xs) ys k = ap (λ (n : ℕ). take n (x ∷ xs ++ ys)) (let e : suc (length xs) + k ≡ suc (length xs + k) = omega arith in e) ∙ ap (λ (l : List Filled). x ∷ l) (take_past xs ys k)

AreStored-frames_at : (image : Image) (segments : List Filled) (i d : ℕ) → i < length (ids_of segments) → AreStored image segments → HasFrames image (segment_of (get_or (ids_of segments) i d)) (frames_at segments i)
AreStored-frames_at image [] i d lt are = absurd (omega arith)
AreStored-frames_at image (s ∷ segments) zero d lt are = are.0
AreStored-frames_at image (s ∷ segments) (suc i) d lt are = AreStored-frames_at image segments i d (omega arith) are.1

-- the limit of a reading
pub segments_before-all : (has : Content) → take (length has.base + length (tails has)) (segments_of has) ≡ segments_of has
segments_before-all has = take_past has.base (tails has) (length (tails has)) ∙ ap (λ (l : List Filled). has.base ++ l) (take_all (length (tails has)) (tails has) (omega arith))

pub segments_before-id : (has : Content) (id : ℕ) → take (length has.base + index_of id (ids_of (tails has))) (segments_of has) ≡ segments_before (Some id) has
segments_before-id has id = take_past has.base (tails has) (index_of id (ids_of (tails has)))

-- One step

Chain-split : (image : Image) (segment : Segment) (pos : ℕ) (seen rest : Frames) (end : ℕ) → Chain image segment pos (seen ++ rest) end → Chain image segment (end_of_frames pos seen) rest end
Chain-split image segment pos [] rest end chain = chain
Chain-split image segment pos (f ∷ seen) rest end chain = Chain-split image segment (next_gate pos (length f.1)) seen rest end chain.1

module _ (image : Image) (segments : List Filled) (index pos d : ℕ) (read : Frames) (inside : index < length (ids_of segments)) (stored : AreStored image segments) (after : IsAfter segments index pos read) where
  abbrev id : ℕ
  id = get_or (ids_of segments) index d

  has : HasFrames image (segment_of id) (after.seen ++ after.rest)
  has = subst (HasFrames image (segment_of id)) after.here (AreStored-frames_at image segments index d inside stored)

  chain : Chain image (segment_of id) pos after.rest has.0
  chain = subst (λ (p : ℕ). Chain image (segment_of id) p after.rest has.0) (sym after.pos_is) (Chain-split image (segment_of id) 0 after.seen after.rest has.0 has.1.chain)

  -- the gate is closed: the next segment begins
  pub IsAfter-closed : IsClosed image (first_sector id + pos) → IsAfter segments (index + 1) 0 read
  IsAfter-closed closed =
      let none : after.rest ≡ [] = (Chain-ends image (segment_of id) pos after.rest has.0 chain closed).0 in
      record {
        seen = [];
        rest = frames_at segments (index + 1);
        here = refl;
        pos_is = refl;
        read_is =
            after.read_is ∙ ap (λ (l : Frames). frames_of (take index segments) ++ l) (sym (append-nil after.seen) ∙ ap (λ (l : Frames). after.seen ++ l) (sym none) ∙ sym after.here)
            ∙ sym (frames_of-take segments index) ∙ ap (λ (n : ℕ). frames_of (take n segments)) (let e : suc index ≡ index + 1 = omega arith in e) ∙ sym (append-nil (frames_of (take (index + 1) segments)));
      }

  -- a frame is there
  pub IsNext-found : (end : ℕ) (frame : Frame) (next : Cursor) → index < end → FrameAt image (segment_of id) pos frame.count frame.payload.items → next.segment ≡ index → next.pos ≡ next_gate pos (length frame.payload.items) → IsNext segments (take end segments) read frame next
  IsNext-found end frame next lt found at pos_is =
      let f : ℕ × List ℕ = (frame.count, frame.payload.items) in
      let on = Chain-goes_on image (segment_of id) pos after.rest has.0 frame.count frame.payload.items (omega arith) chain has.1.closed found in
      let more = frames_of-front segments (suc index) end (omega arith) in
      let here : frames_at segments index ≡ after.seen ++ f ∷ on.0 = after.here ∙ ap (λ (l : Frames). after.seen ++ l) on.1 in
      record {
        more = on.0 ++ more.0;
        limit_is =
            more.1 ∙ ap (λ (l : Frames). l ++ more.0) (frames_of-take segments index ∙ ap (λ (l : Frames). frames_of (take index segments) ++ l) here ∙ sym (append_assoc (frames_of (take index segments)) after.seen (f ∷ on.0)) ∙ ap (λ (l : Frames). l ++ f ∷ on.0) (sym after.read_is))
            ∙ append_assoc read (f ∷ on.0) more.0;
        after = record {
          seen = after.seen ++ f ∷ [];
          rest = on.0;
          here = ap (frames_at segments) at ∙ here ∙ sym (append_assoc after.seen (f ∷ []) on.0);
          pos_is = pos_is ∙ ap (λ (p : ℕ). next_gate p (length frame.payload.items)) after.pos_is ∙ sym (end_of_frames-push 0 frame.count frame.payload.items after.seen);
          read_is = ap (λ (l : Frames). l ++ f ∷ []) after.read_is ∙ append_assoc (frames_of (take index segments)) after.seen (f ∷ []) ∙ ap (λ (n : ℕ). frames_of (take n segments) ++ (after.seen ++ f ∷ [])) (sym at);
        };
      }

  -- behind an open gate a frame is there
  pub not_bad : (fault : LogFault) → Finds image id pos (Err fault) → fault ≡ log_fault.BadFrame → ⊥
  not_bad fault found is =
      let bad = subst (λ (f : LogFault). Finds image id pos (Err f)) is found in
      let there = Chain-open image (segment_of id) pos after.rest has.0 chain has.1.closed bad.0 in
      bad.1 there.0.0 there.0.1 there.1

-- all segments of the limit were read
pub read-all : (segments : List Filled) (index pos end : ℕ) (read : Frames) → end ≤ index → IsAfter segments index pos read → length (frames_of (take end segments)) ≤ length read
read-all segments index pos end read le after =
    let front = frames_of-front segments end index le in
    omega (arith, ap length after.read_is, length-append (frames_of (take index segments)) after.seen, ap length front.1, length-append (frames_of (take end segments)) front.0)

-- Disks that stay as they are

pub stays-images : (old new : History) (P : Image → Type 0) → Stays old new → ((image : Image) → IsImage (present old) image → P image) → (image : Image) → IsImage (present new) image → P image
stays-images old new P stays here = LeavesOnly-present old new P (LeavesOnly-stays old old new P (LeavesOnly-starts old P here) stays)

pub IsReady-stays : (old new : History) (sectors : ℕ) (root : Root) (end : ℕ) (is_other_open : Bool) → Stays old new → IsReady (present old) sectors root end is_other_open → IsReady (present new) sectors root end is_other_open
IsReady-stays old new sectors root end is_other_open stays ready = record {
  root_counts = stays-images old new (λ image. CountingRoot image sectors root) stays ready.root_counts;
  closed = stays-images old new (λ image. IsClosed image (first_sector (last_id root.tail) + end)) stays ready.closed;
  other_open = λ opened. stays-images old new (λ image. IsOpen image (gate_of (other_slot root.slot))) stays (ready.other_open opened);
  other_closed = λ shut. stays-images old new (λ image. IsClosed image (gate_of (other_slot root.slot))) stays (ready.other_closed shut);
}

pub HoldsContent-stays : (old new : History) (sectors : ℕ) (root : Root) (end number : ℕ) (has : Content) → Stays old new → HoldsContent (present old) sectors root end number has → HoldsContent (present new) sectors root end number has
HoldsContent-stays old new sectors root end number has stays holds = record {
  keeps = stays-images old new (λ image. LogAt image sectors root has) stays holds.keeps;
  end_is = holds.end_is;
  number_is = holds.number_is;
}

-- The segments of a log

module _ (m : Moment) (sectors : ℕ) (root : Root) (has : Content) (keeps : KeepsLog m sectors root has) where
  at : LogAt m.content sectors root has
  at = keeps m.content (IsImage-content m)

  pub all-ids : root.base ++ root.tail ≡ ids_of (segments_of has)
  all-ids = (λ i. at.base_ids i ++ at.tail_ids i) ∙ sym (map-append (λ (s : Filled). s.0) has.base (tails has))

  pub all-stored : AreStored m.content (segments_of has)
  all-stored = AreStored-append m.content has.base (tails has) at.base at.tail

  lengths : length root.base ≡ length has.base
  lengths = ap length at.base_ids ∙ length-ids has.base

  pub limit-is : (until : Option ℕ) → take (read_limit root until) (segments_of has) ≡ segments_before until has
  limit-is None =
      ap (λ (n : ℕ). take n (segments_of has)) (λ i. lengths i + (ap length at.tail_ids ∙ length-ids (tails has)) i) ∙ segments_before-all has
  limit-is (Some k) =
      ap (λ (n : ℕ). take n (segments_of has)) (λ i. lengths i + index_of k (at.tail_ids i)) ∙ segments_before-id has k
