-- What an append and a new tail leave of a log.
use Rattle.std.proofs.Common.{◌≡◌, ◌⊎◌, inl, inr, ℕ, ◌+◌, ◌^◌, ◌<◌, ◌≤◌, Bool, true, false, List, [], ◌∷◌, ◌++◌, length, get_or, sym, ap, ◌∙◌, subst, refl, arith, add-zero, append_assoc}
use Rattle.std.proofs.lemmas.List.{append-nil, length-append}
use Rattle.cg_disk.specs.Disk.{Image, Moment, History, Changes, AllBut, IsImage, LeavesOnly, present}
use Rattle.cg_disk.proofs.Moments.{AllBut-disturbed, Changes-present, LeavesOnly-weaker, LeavesOnly-both, LeavesOnly-changes, LeavesOnly-present, LeavesOnly-then, LeavesOnly-starts, IsImage-content}
use Rattle.cg_frame.specs.Frames.{IsClosed, HasFrames, HasFramesTo, body_sectors, next_gate}
use Rattle.cg_frame.specs.Outcomes.{Appended, StandsLast, KeepsFramesTo}
use Rattle.cg_frame.proofs.Standing.{IsBeforeOrAfter-appended, HasFramesTo-appended}
use Rattle.cg_gate.specs.Layout.{first_sector, segment_count}
use Rattle.cg_root.specs.Roots.{AreSegments, CountingRoot, IsLawful, IsOldOrNew, KeepsRoot, root_ids}
use Rattle.cg_root.specs.Slots.{gate_of, other_slot}
use Rattle.cg_root.specs.declared.root.Root.{Root}
use Rattle.cg_root.specs.declared.slot.Slot.{Slot}
use Rattle.cg_root.specs.declared.slot.Slot.TheVariants.{Zero, One}
use Rattle.cg_root.proofs.Segments.{AreSegments-nil}
use Rattle.cg_root.proofs.Stored.{CountingRoot-same, gate_of-small, other_other}
use Rattle.cg_log.specs.Carried.{AllCarry, Content, Carries, CarriesBeforeOrAfter, LogAt, KeepsLog, HoldsContent, tails, appended, rolled}
use Rattle.cg_log.specs.Formatted.{first_root, nothing}
use Rattle.cg_log.specs.Free.{is_among, IsLeastFree}
use Rattle.cg_log.specs.Ready.{AllClosed, AllOpen, IsReady, last_id}
use Rattle.cg_log.specs.Rolled.{HasOneMoreTail, HasOrRolled, IsAppended}
use Rattle.cg_log.specs.Segments.{Frames, segment_of, ids_of, frames_of, counted, end_of_frames, AreStored}
use Rattle.cg_log.proofs.Filled.{AreApart, AreApart-slots, AreStored-apart, AreStored-append, AreStored-back, AreStored-front, HasFramesTo-end, frames_of-push, ids_of-push, last_id-push}
use Rattle.cg_log.specs.declared.numbers.TheConstants.{COMMAND_NUMBER_MAX}
use Rattle.cg_log.proofs.Images.{AllCarry-holds, Carries-at}
use Rattle.cg_log.proofs.Found.{counted-append}
use Rattle.cg_log.proofs.Ids.{AreApart-segment, AreSegments-push, is_among-back, is_among-front, is_among-last}

-- Gates that a change does not reach

module _ (at n : ℕ) (old new : History) (change : Changes at n old new) (s : ℕ) (outside : (s < at) ⊎ (at + n ≤ s)) where
  same_there : (image : Image) → IsImage (present new) image → (base : Image) × (IsImage (present old) base × (image s ≡ base s))
  same_there image is =
      let but = AllBut-disturbed at n (present old) (present new) image (Changes-present at n old new change) is in
      (but.base, (but.was, elim outside [ inl lt ↦ but.below s lt | inr le ↦ but.above s le ]))

  pub AllClosed-kept : AllClosed (present old) s → AllClosed (present new) s
  AllClosed-kept closed image is opened =
      let there = same_there image is in
      closed there.0 there.1.0 (ap (λ (l : List ℕ). get_or l 0 0) (sym there.1.1) ∙ opened)

  pub AllOpen-kept : AllOpen (present old) s → AllOpen (present new) s
  AllOpen-kept opened image is =
      let there = same_there image is in
      ap (λ (l : List ℕ). get_or l 0 0) there.1.1 ∙ opened there.0 there.1.0

-- a change after the slots keeps the root
CountingRoot-but : (m : Moment) (sectors : ℕ) (root : Root) (at n : ℕ) (image : Image) → 4 ≤ at → (but : AllBut at n m image) → CountingRoot but.base sectors root → CountingRoot image sectors root
CountingRoot-but m sectors root at n image le but counting =
    CountingRoot-same but.base image sectors root (λ slot. record { gate = but.below (gate_of slot) (omega (arith, gate_of-small slot)); body = but.below (gate_of slot + 1) (omega (arith, gate_of-small slot)) }) counting

-- a change elsewhere keeps the segments
module _ (m : Moment) (sectors : ℕ) (root : Root) (has : Content) (at n : ℕ) (image : Image) (keeps : KeepsLog m sectors root has) (but : AllBut at n m image) (base_apart : AreApart at n has.base) (tail_apart : AreApart at n (tails has)) where
  pub LogAt-counting : CountingRoot image sectors root → LogAt image sectors root has
  LogAt-counting counting =
      let was = keeps but.base but.was in
      record {
        counting = counting;
        base_ids = was.base_ids;
        tail_ids = was.tail_ids;
        base = AreStored-apart but.base image at n has.base but.below but.above base_apart was.base;
        tail = AreStored-apart but.base image at n (tails has) but.below but.above tail_apart was.tail;
      }

  pub LogAt-elsewhere : 4 ≤ at → LogAt image sectors root has
  LogAt-elsewhere le = LogAt-counting (CountingRoot-but m sectors root at n image le but (keeps but.base but.was).counting)

-- the ids of a content
ids_of-tails : (has : Content) → ids_of (tails has) ≡ ids_of has.sealed ++ has.last.0 ∷ []
ids_of-tails has = ids_of-push has.sealed has.last.0 has.last.1

-- An append

pub end_of_frames-push : (pos count : ℕ) (payload : List ℕ) (frames : Frames) → end_of_frames pos (frames ++ (count, payload) ∷ []) ≡ next_gate (end_of_frames pos frames) (length payload)
end_of_frames-push pos count payload [] = refl
end_of_frames-push pos count payload (f ∷ frames) = end_of_frames-push (next_gate pos (length f.1)) count payload frames

module _ (sectors : ℕ) (root : Root) (has : Content) (lawful : IsLawful sectors root) (base_ids : root.base ≡ ids_of has.base) (tail_ids : root.tail ≡ ids_of (tails has)) where
  -- the last tail is none of the segments before it
  last_apart : is_among has.last.0 (ids_of has.base ++ ids_of has.sealed) ≡ false
  last_apart =
      let all : root_ids root ≡ (ids_of has.base ++ ids_of has.sealed) ++ has.last.0 ∷ [] =
      (λ i. base_ids i ++ (tail_ids ∙ ids_of-tails has) i) ∙ sym (append_assoc (ids_of has.base) (ids_of has.sealed) (has.last.0 ∷ [])) in
      is_among-last has.last.0 (ids_of has.base ++ ids_of has.sealed) (rw all at lawful.ids.distinct)

  module _ (at n : ℕ) (low : first_sector has.last.0 ≤ at) (high : at + n ≤ first_sector has.last.0 + 2048) where
    pub base_apart : AreApart at n has.base
    base_apart = AreApart-segment has.last.0 at n has.base low high (is_among-front has.last.0 (ids_of has.base) (ids_of has.sealed) last_apart)

    pub sealed_apart : AreApart at n has.sealed
    sealed_apart = AreApart-segment has.last.0 at n has.sealed low high (is_among-back has.last.0 (ids_of has.base) (ids_of has.sealed) last_apart)

module _ (m : Moment) (sectors : ℕ) (root : Root) (has : Content) (end count : ℕ) (payload : List ℕ) (lawful : IsLawful sectors root) (keeps : KeepsLog m sectors root has) (end_is : end ≡ end_of_frames 0 has.last.1) (fits : next_gate end (length payload) < 2048) (image : Image) (left : Appended m (segment_of has.last.0) end count payload image) where
  abbrev at : ℕ
  at = first_sector has.last.0 + end

  abbrev n : ℕ
  n = body_sectors (length payload) + 2

  was : LogAt left.elsewhere.base sectors root has
  was = keeps left.elsewhere.base left.elsewhere.was

  last_kept : KeepsFramesTo m (segment_of has.last.0) has.last.1 end
  last_kept image is = subst (HasFramesTo image (segment_of has.last.0) has.last.1) (sym end_is) (HasFramesTo-end image (segment_of has.last.0) has.last.1 (AreStored-back image has.sealed (has.last ∷ []) (keeps image is).tail).0)

  -- the same segments, of which the last has these frames
  with_last : (frames : Frames) → HasFrames image (segment_of has.last.0) frames → LogAt image sectors root record { base = has.base; sealed = has.sealed; last = (has.last.0, frames) }
  with_last frames last = record {
    counting = CountingRoot-but m sectors root at n image (omega arith) left.elsewhere was.counting;
    base_ids = was.base_ids;
    tail_ids = was.tail_ids ∙ ids_of-tails has ∙ sym (ids_of-push has.sealed has.last.0 frames);
    base = AreStored-apart left.elsewhere.base image at n has.base left.elsewhere.below left.elsewhere.above (base_apart sectors root has lawful was.base_ids was.tail_ids at n (omega arith) (omega arith)) was.base;
    tail =
        AreStored-append image has.sealed ((has.last.0, frames) ∷ [])
        (AreStored-apart left.elsewhere.base image at n has.sealed left.elsewhere.below left.elsewhere.above (sealed_apart sectors root has lawful was.base_ids was.tail_ids at n (omega arith) (omega arith)) (AreStored-front left.elsewhere.base has.sealed (has.last ∷ []) was.tail))
        (last, tt);
  }

  pub LogAt-left : LogAt image sectors root has ⊎ LogAt image sectors root (appended has count payload)
  LogAt-left = elim (IsBeforeOrAfter-appended m (segment_of has.last.0) end count payload has.last.1 image last_kept left) [
    | inl before ↦ inl (with_last has.last.1 before)
    | inr after ↦ inr (with_last (has.last.1 ++ (count, payload) ∷ []) after)
  ]

  pub LogAt-stands : StandsLast image (segment_of has.last.0) end count payload → LogAt image sectors root (appended has count payload)
  LogAt-stands stands = with_last (has.last.1 ++ (count, payload) ∷ []) (next_gate end (length payload), HasFramesTo-appended m (segment_of has.last.0) end count payload has.last.1 image last_kept left stands)

pub frames_of-appended : (has : Content) (count : ℕ) (payload : List ℕ) → frames_of (tails (appended has count payload)) ≡ frames_of (tails has) ++ (count, payload) ∷ []
frames_of-appended has count payload =
    frames_of-push has.sealed has.last.0 (has.last.1 ++ (count, payload) ∷ []) ∙ sym (append_assoc (frames_of has.sealed) has.last.1 ((count, payload) ∷ []))
    ∙ ap (λ (l : Frames). l ++ (count, payload) ∷ []) (sym (frames_of-push has.sealed has.last.0 has.last.1))

pub frames_of-rolled : (has : Content) (id : ℕ) → frames_of (tails (rolled has id)) ≡ frames_of (tails has)
frames_of-rolled has id = frames_of-push (tails has) id [] ∙ append-nil (frames_of (tails has))

-- A new tail

module _ (sectors : ℕ) (current next : Root) (has : Content) (id : ℕ) (more : HasOneMoreTail current next id) (free : is_among id (root_ids current) ≡ false) where
  -- a change in the new segment reaches no other
  module _ (at n : ℕ) (low : first_sector id ≤ at) (high : at + n ≤ first_sector id + 2048) (base_ids : current.base ≡ ids_of has.base) (tail_ids : current.tail ≡ ids_of (tails has)) where
    none : is_among id (ids_of has.base ++ ids_of (tails has)) ≡ false
    none = ap (is_among id) (λ i. sym base_ids i ++ sym tail_ids i) ∙ free

    pub new_base_apart : AreApart at n has.base
    new_base_apart = AreApart-segment id at n has.base low high (is_among-front id (ids_of has.base) (ids_of (tails has)) none)

    pub new_tail_apart : AreApart at n (tails has)
    new_tail_apart = AreApart-segment id at n (tails has) low high (is_among-back id (ids_of has.base) (ids_of (tails has)) none)

  pub LogAt-rolled : (image : Image) → CountingRoot image sectors next → current.base ≡ ids_of has.base → current.tail ≡ ids_of (tails has) → AreStored image has.base → AreStored image (tails has) → IsClosed image (first_sector id) → LogAt image sectors next (rolled has id)
  LogAt-rolled image counting base_ids tail_ids base tail closed = record {
    counting = counting;
    base_ids = more.base ∙ base_ids;
    tail_ids = more.tail ∙ ap (λ (l : List ℕ). l ++ id ∷ []) tail_ids ∙ sym (ids_of-push (tails has) id []);
    base = base;
    tail = AreStored-append image (tails has) ((id, []) ∷ []) tail ((0, record { chain = refl; closed = subst (IsClosed image) (sym (add-zero (first_sector id))) closed }), tt);
  }

pub IsLawful-rolled : (sectors : ℕ) (fresh : List ℕ) (current next : Root) (id : ℕ) → HasOneMoreTail current next id → IsLeastFree sectors (root_ids current ++ fresh) id → IsLawful sectors current → next.epoch < 2 ^ 63 → IsLawful sectors next
IsLawful-rolled sectors fresh current next id more free lawful small = record {
  epoch_from = omega (arith, more.epoch);
  epoch_to = small;
  base_number = omega (arith, more.base_number, lawful.base_number);
  tail = omega (arith, ap length more.tail, length-append current.tail (id ∷ []));
  ids =
      let all : root_ids next ≡ root_ids current ++ id ∷ [] = (λ i. more.base i ++ more.tail i) ∙ sym (append_assoc current.base current.tail (id ∷ [])) in
      subst (AreSegments (segment_count sectors)) (sym all) (AreSegments-push id (segment_count sectors) (root_ids current) lawful.ids free.below (is_among-front id (root_ids current) fresh free.free));
}

-- the gates of the two slots lie apart
pub gates_apart : (slot : Slot) → (gate_of slot < gate_of (other_slot slot)) ⊎ (gate_of (other_slot slot) + 2 ≤ gate_of slot)
gates_apart Zero = inl (omega arith)
gates_apart One = inr (omega arith)

pub KeepsRoot-kept : (at n : ℕ) (old new : History) (sectors : ℕ) (root : Root) → 4 ≤ at → Changes at n old new → KeepsRoot (present old) sectors root → KeepsRoot (present new) sectors root
KeepsRoot-kept at n old new sectors root le change keeps image is =
    let but = AllBut-disturbed at n (present old) (present new) image (Changes-present at n old new change) is in
    CountingRoot-but (present old) sectors root at n image le but (keeps but.base but.was)

-- the three steps of a new tail: its first gate is closed, the other root's gate is closed, the next root is published
module _ (sectors : ℕ) (current next : Root) (has : Content) (id : ℕ) (more : HasOneMoreTail current next id) (free : is_among id (root_ids current) ≡ false) (h0 h1 h2 h3 : History) (keeps : KeepsLog (present h0) sectors current has) where
  first_ids : LogAt (present h0).content sectors current has
  first_ids = keeps (present h0).content (IsImage-content (present h0))

  pub tail-first : LeavesOnly h0 h1 (AllBut (first_sector id) 1 (present h0)) → LeavesOnly h0 h1 (λ image. LogAt image sectors current has)
  tail-first run = LeavesOnly-weaker h0 h1 _ _ (λ image but.
      LogAt-elsewhere (present h0) sectors current has (first_sector id) 1 image keeps but
      (new_base_apart sectors current next has id more free (first_sector id) 1 (omega arith) (omega arith) first_ids.base_ids first_ids.tail_ids)
      (new_tail_apart sectors current next has id more free (first_sector id) 1 (omega arith) (omega arith) first_ids.base_ids first_ids.tail_ids) (omega arith)) run

  module _ (first : LeavesOnly h0 h1 (λ image. LogAt image sectors current has)) (second_time : Changes (gate_of (other_slot current.slot)) 1 h1 h2) (second_root : LeavesOnly h1 h2 (λ image. CountingRoot image sectors current)) where
    keeps1 : KeepsLog (present h1) sectors current has
    keeps1 = LeavesOnly-present h0 h1 _ first

    pub tail-second : LeavesOnly h1 h2 (λ image. LogAt image sectors current has)
    tail-second = LeavesOnly-weaker h1 h2 _ _ (λ image both.
        LogAt-counting (present h1) sectors current has (gate_of (other_slot current.slot)) 1 image keeps1 both.0
        (AreApart-slots (gate_of (other_slot current.slot)) 1 has.base (omega (arith, gate_of-small (other_slot current.slot))))
        (AreApart-slots (gate_of (other_slot current.slot)) 1 (tails has) (omega (arith, gate_of-small (other_slot current.slot)))) both.1)
        (LeavesOnly-both h1 h2 _ _ (LeavesOnly-changes (gate_of (other_slot current.slot)) 1 h1 h2 second_time) second_root)

    keeps2 : KeepsLog (present h2) sectors current has
    keeps2 = LeavesOnly-present h1 h2 _ tail-second

    pub tail-two : LeavesOnly h0 h2 (λ image. LogAt image sectors current has)
    tail-two = LeavesOnly-then h0 h1 h2 _ first tail-second

    module _ (closed : AllClosed (present h2) (first_sector id)) (third_time : Changes (gate_of next.slot) 2 h2 h3) where
      -- the segments of an image of the third step, whichever root counts
      third_rolled : (image : Image) → AllBut (gate_of next.slot) 2 (present h2) image → CountingRoot image sectors next → LogAt image sectors next (rolled has id)
      third_rolled image but counting =
          let was = keeps2 but.base but.was in
          LogAt-rolled sectors current next has id more free image counting was.base_ids was.tail_ids
          (AreStored-apart but.base image (gate_of next.slot) 2 has.base but.below but.above (AreApart-slots (gate_of next.slot) 2 has.base (omega (arith, gate_of-small next.slot))) was.base)
          (AreStored-apart but.base image (gate_of next.slot) 2 (tails has) but.below but.above (AreApart-slots (gate_of next.slot) 2 (tails has) (omega (arith, gate_of-small next.slot))) was.tail)
          (λ opened. closed but.base but.was (ap (λ (l : List ℕ). get_or l 0 0) (sym (but.above (first_sector id) (omega (arith, gate_of-small next.slot)))) ∙ opened))

      pub tail-third : LeavesOnly h2 h3 (IsOldOrNew sectors current next) → LeavesOnly h2 h3 (HasOrRolled sectors current next has id)
      tail-third run = LeavesOnly-weaker h2 h3 _ _ (λ image both. elim both.1 [
        | inl old ↦ inl (LogAt-counting (present h2) sectors current has (gate_of next.slot) 2 image keeps2 both.0
            (AreApart-slots (gate_of next.slot) 2 has.base (omega (arith, gate_of-small next.slot)))
            (AreApart-slots (gate_of next.slot) 2 (tails has) (omega (arith, gate_of-small next.slot))) old)
        | inr new ↦ inr (third_rolled image both.0 new)
      ]) (LeavesOnly-both h2 h3 _ _ (LeavesOnly-changes (gate_of next.slot) 2 h2 h3 third_time) run)

      pub tail-all : LeavesOnly h2 h3 (IsOldOrNew sectors current next) → LeavesOnly h0 h3 (HasOrRolled sectors current next has id)
      tail-all run = LeavesOnly-then h0 h2 h3 _ (LeavesOnly-weaker h0 h2 _ _ (λ image at. inl at) tail-two) (tail-third run)

      pub KeepsLog-rolled : KeepsRoot (present h3) sectors next → KeepsLog (present h3) sectors next (rolled has id)
      KeepsLog-rolled published image is = third_rolled image (AllBut-disturbed (gate_of next.slot) 2 (present h2) (present h3) image (Changes-present (gate_of next.slot) 2 h2 h3 third_time) is) (published image is)

-- the log is ready for the next append after it
pub IsReady-rolled : (sectors : ℕ) (current next : Root) (id : ℕ) → HasOneMoreTail current next id → (h2 h3 : History) → AllClosed (present h2) (first_sector id) → Changes (gate_of next.slot) 2 h2 h3 → KeepsRoot (present h2) sectors current → KeepsRoot (present h3) sectors next → IsReady (present h3) sectors next 0 true
IsReady-rolled sectors current next id more h2 h3 closed time keeps published =
    let last : last_id next.tail ≡ id = ap last_id more.tail ∙ last_id-push current.tail id in
    let other : other_slot next.slot ≡ current.slot = ap other_slot more.slot ∙ other_other current.slot in
    let apart : (gate_of current.slot < gate_of next.slot) ⊎ (gate_of next.slot + 2 ≤ gate_of current.slot) = subst (λ (s : Slot). (gate_of current.slot < gate_of s) ⊎ (gate_of s + 2 ≤ gate_of current.slot)) (sym more.slot) (gates_apart current.slot) in
    record {
      root_counts = published;
      closed =
          subst (AllClosed (present h3)) (let e : first_sector id ≡ first_sector (last_id next.tail) + 0 = omega (arith, last) in e)
          (AllClosed-kept (gate_of next.slot) 2 h2 h3 time (first_sector id) (inr (omega (arith, gate_of-small next.slot))) closed);
      other_open = λ _. subst (λ (s : Slot). AllOpen (present h3) (gate_of s)) (sym other) (AllOpen-kept (gate_of next.slot) 2 h2 h3 time (gate_of current.slot) apart (λ image is. (keeps image is).stored.is_open));
      other_closed = λ shut. absurd cc;
    }

-- The last tail of a log

pub last_id-content : (m : Moment) (sectors : ℕ) (root : Root) (has : Content) → KeepsLog m sectors root has → last_id root.tail ≡ has.last.0
last_id-content m sectors root has keeps =
    ap last_id ((keeps m.content (IsImage-content m)).tail_ids ∙ ids_of-tails has) ∙ last_id-push (ids_of has.sealed) has.last.0

-- the log is ready for the next append after one
pub IsReady-appended : (old new : History) (sectors : ℕ) (root : Root) (end next n : ℕ) (is_other_open : Bool) → Changes (first_sector (last_id root.tail) + end) n old new → AllClosed (present new) (first_sector (last_id root.tail) + next) → IsReady (present old) sectors root end is_other_open → IsReady (present new) sectors root next is_other_open
IsReady-appended old new sectors root end next n is_other_open change closed ready =
    let before : gate_of (other_slot root.slot) < first_sector (last_id root.tail) + end = omega (arith, gate_of-small (other_slot root.slot)) in
    record {
      root_counts = KeepsRoot-kept (first_sector (last_id root.tail) + end) n old new sectors root (omega arith) change ready.root_counts;
      closed = closed;
      other_open = λ opened. AllOpen-kept (first_sector (last_id root.tail) + end) n old new change (gate_of (other_slot root.slot)) (inl before) (ready.other_open opened);
      other_closed = λ shut. AllClosed-kept (first_sector (last_id root.tail) + end) n old new change (gate_of (other_slot root.slot)) (inl before) (ready.other_closed shut);
    }

module _ (old new : History) (sectors : ℕ) (root : Root) (end number count : ℕ) (payload : List ℕ) (has : Content) (lawful : IsLawful sectors root) (fits : next_gate end (length payload) < 2048) (holds : HoldsContent (present old) sectors root end number has) (run : LeavesOnly old new (Appended (present old) (segment_of (last_id root.tail)) end count payload)) where
  run_last : LeavesOnly old new (Appended (present old) (segment_of has.last.0) end count payload)
  run_last = subst (λ (id : ℕ). LeavesOnly old new (Appended (present old) (segment_of id) end count payload)) (last_id-content (present old) sectors root has holds.keeps) run

  pub append-images : LeavesOnly old new (λ image. LogAt image sectors root has ⊎ LogAt image sectors root (appended has count payload))
  append-images = LeavesOnly-weaker old new _ _ (LogAt-left (present old) sectors root has end count payload lawful holds.keeps holds.end_is fits) run_last

  pub append-stored : ((image : Image) → IsImage (present new) image → StandsLast image (segment_of (last_id root.tail)) end count payload) → HoldsContent (present new) sectors root (next_gate end (length payload)) (number + count) (appended has count payload)
  append-stored stands = record {
    keeps = λ image is. LogAt-stands (present old) sectors root has end count payload lawful holds.keeps holds.end_is fits image (LeavesOnly-present old new _ run_last image is)
        (subst (λ (id : ℕ). StandsLast image (segment_of id) end count payload) (last_id-content (present old) sectors root has holds.keeps) (stands image is));
    end_is = ap (λ (e : ℕ). next_gate e (length payload)) holds.end_is ∙ sym (end_of_frames-push 0 count payload has.last.1);
    number_is =
        omega (arith, holds.number_is, ap counted (frames_of-appended has count payload), counted-append (frames_of (tails has)) ((count, payload) ∷ []));
  }

-- Calls of an open log

-- no call of the device
pub still-images : (h : History) (sectors : ℕ) (root : Root) (end number : ℕ) (has : Content) → number ≤ COMMAND_NUMBER_MAX → HoldsContent (present h) sectors root end number has → LeavesOnly h h (λ image. Carries image sectors number (frames_of has.base) (frames_of (tails has)))
still-images h sectors root end number has small holds = LeavesOnly-starts h _ (AllCarry-holds (present h) sectors root end number has small holds)

pub HoldsContent-rolled : (m m' : Moment) (sectors : ℕ) (current next : Root) (end number : ℕ) (has : Content) (id : ℕ) → HasOneMoreTail current next id → HoldsContent m sectors current end number has → KeepsLog m' sectors next (rolled has id) → HoldsContent m' sectors next 0 number (rolled has id)
HoldsContent-rolled m m' sectors current next end number has id more holds keeps = record {
  keeps = keeps;
  end_is = refl;
  number_is = omega (arith, holds.number_is, more.base_number, ap counted (frames_of-rolled has id));
}

module _ (old new : History) (sectors : ℕ) (current : Root) (end number : ℕ) (has : Content) (small : number ≤ COMMAND_NUMBER_MAX) (holds : HoldsContent (present old) sectors current end number has) where
  pub roll-images : (next : Root) (id : ℕ) → HasOneMoreTail current next id → LeavesOnly old new (HasOrRolled sectors current next has id) → LeavesOnly old new (λ image. Carries image sectors number (frames_of has.base) (frames_of (tails has)))
  roll-images next id more run = LeavesOnly-weaker old new _ _ (λ image either. elim either [
    | inl at ↦ Carries-at image sectors number current has at holds.number_is small
    | inr at ↦ subst (Carries image sectors number (frames_of has.base)) (frames_of-rolled has id)
        (Carries-at image sectors number next (rolled has id) at (omega (arith, holds.number_is, more.base_number, ap counted (frames_of-rolled has id))) small)
  ]) run

  pub put-images : (count : ℕ) (payload : List ℕ) → number + count ≤ COMMAND_NUMBER_MAX → LeavesOnly old new (λ image. LogAt image sectors current has ⊎ LogAt image sectors current (appended has count payload)) → LeavesOnly old new (CarriesBeforeOrAfter sectors number (frames_of has.base) (frames_of (tails has)) count payload)
  put-images count payload few run = LeavesOnly-weaker old new _ _ (λ image either. elim either [
    | inl at ↦ inl (Carries-at image sectors number current has at holds.number_is small)
    | inr at ↦ inr (subst (Carries image sectors (number + count) (frames_of has.base)) (frames_of-appended has count payload)
        (Carries-at image sectors (number + count) current (appended has count payload) at (omega (arith, holds.number_is, ap counted (frames_of-appended has count payload), counted-append (frames_of (tails has)) ((count, payload) ∷ []))) few))
  ]) run

-- a tail whose frames end at its first gate has none
pub no_frames : (frames : Frames) → end_of_frames 0 frames ≡ 0 → frames ≡ []
no_frames [] is = refl
no_frames (f ∷ frames) is = absurd (omega (arith, is, end_past (next_gate 0 (length f.1)) frames))
  where
    end_past : (pos : ℕ) (frames : Frames) → pos ≤ end_of_frames pos frames
    end_past pos [] = omega arith
    end_past pos (f ∷ frames) = omega (arith, end_past (next_gate pos (length f.1)) frames)

-- a new tail, then a frame in it
pub then-images : (h0 h1 h2 : History) (sectors sectors' number number' count : ℕ) (payload : List ℕ) (has : Content) (id : ℕ) → sectors' ≡ sectors → number' ≡ number → LeavesOnly h0 h1 (λ image. Carries image sectors number (frames_of has.base) (frames_of (tails has))) → LeavesOnly h1 h2 (CarriesBeforeOrAfter sectors' number' (frames_of has.base) (frames_of (tails (rolled has id))) count payload) → LeavesOnly h0 h2 (CarriesBeforeOrAfter sectors number (frames_of has.base) (frames_of (tails has)) count payload)
then-images h0 h1 h2 sectors sectors' number number' count payload has id size same first second =
    let after = subst (λ (n : ℕ). LeavesOnly h1 h2 (CarriesBeforeOrAfter sectors n (frames_of has.base) (frames_of (tails has)) count payload)) same
    (subst (λ (n : ℕ). LeavesOnly h1 h2 (CarriesBeforeOrAfter n number' (frames_of has.base) (frames_of (tails has)) count payload)) size
    (subst (λ (l : Frames). LeavesOnly h1 h2 (CarriesBeforeOrAfter sectors' number' (frames_of has.base) l count payload)) (frames_of-rolled has id) second)) in
    LeavesOnly-then h0 h1 h2 _ (LeavesOnly-weaker h0 h1 _ _ (λ image c. inl c) first) after

pub before-images : (old new : History) (sectors number count : ℕ) (base tail : Frames) (payload : List ℕ) → LeavesOnly old new (λ image. Carries image sectors number base tail) → LeavesOnly old new (CarriesBeforeOrAfter sectors number base tail count payload)
before-images old new sectors number count base tail payload run = LeavesOnly-weaker old new _ _ (λ image c. inl c) run

-- no call of the device before an append
pub still-append-images : (h : History) (sectors : ℕ) (root : Root) (end number : ℕ) (has : Content) (count : ℕ) (payload : List ℕ) → number ≤ COMMAND_NUMBER_MAX → HoldsContent (present h) sectors root end number has → LeavesOnly h h (CarriesBeforeOrAfter sectors number (frames_of has.base) (frames_of (tails has)) count payload)
still-append-images h sectors root end number has count payload small holds = before-images h h sectors number count (frames_of has.base) (frames_of (tails has)) payload (still-images h sectors root end number has small holds)

-- after an append
pub AllCarry-appended : (m : Moment) (sectors sectors' : ℕ) (root : Root) (end number n count : ℕ) (payload : List ℕ) (has new : Content) → IsAppended has count payload new → HoldsContent m sectors' root end number new → number ≤ COMMAND_NUMBER_MAX → sectors' ≡ sectors → number ≡ n + count → AllCarry m sectors (n + count) (frames_of has.base) (frames_of (tails has) ++ (count, payload) ∷ [])
AllCarry-appended m sectors sectors' root end number n count payload has new is holds small size sum image left =
    let carries = AllCarry-holds m sectors' root end number new small holds image left in
    let base : frames_of new.base ≡ frames_of has.base = elim is [ inl same ↦ ap (λ (c : Content). frames_of c.base) same | inr at ↦ ap (λ (c : Content). frames_of c.base) at.1 ] in
    let tail : frames_of (tails new) ≡ frames_of (tails has) ++ (count, payload) ∷ [] = elim is [
      | inl same ↦ ap (λ (c : Content). frames_of (tails c)) same ∙ frames_of-appended has count payload
      | inr at ↦ ap (λ (c : Content). frames_of (tails c)) at.1 ∙ frames_of-appended (rolled has at.0) count payload ∙ ap (λ (l : Frames). l ++ (count, payload) ∷ []) (frames_of-rolled has at.0)
    ] in
    coe 0 1 (i. Carries image (size i) (sum i) (base i) (tail i)) carries

-- Formatting

pub IsLawful-first : (sectors : ℕ) → 0 < segment_count sectors → IsLawful sectors first_root
IsLawful-first sectors some = record {
  epoch_from = omega arith;
  epoch_to = omega arith;
  base_number = omega arith;
  tail = omega arith;
  ids = AreSegments-push 0 (segment_count sectors) [] (AreSegments-nil (segment_count sectors)) some refl;
}

pub LogAt-formatted : (image : Image) (sectors : ℕ) → CountingRoot image sectors first_root → IsClosed image (first_sector 0) → LogAt image sectors first_root nothing
LogAt-formatted image sectors counting closed = record {
  counting = counting;
  base_ids = refl;
  tail_ids = refl;
  base = tt;
  tail = ((0, record { chain = refl; closed = closed }), tt);
}

pub KeepsLog-formatted : (old new : History) (sectors : ℕ) → Changes 0 2 old new → KeepsRoot (present new) sectors first_root → AllClosed (present old) (first_sector 0) → KeepsLog (present new) sectors first_root nothing
KeepsLog-formatted old new sectors change keeps closed image is = LogAt-formatted image sectors (keeps image is) (AllClosed-kept 0 2 old new change (first_sector 0) (inr (omega arith)) closed image is)

pub AllCarry-formatted : (m : Moment) (sectors : ℕ) → KeepsLog m sectors first_root nothing → AllCarry m sectors 0 [] []
AllCarry-formatted m sectors keeps image is = Carries-at image sectors 0 first_root nothing (keeps image is) refl (omega arith)
