-- A compaction that begins, and that reads one frame more.
use Rattle.std.proofs.Common.{◌≡◌, inl, inr, ℕ, zero, suc, ◌<◌, ◌≤◌, Bool, true, false, List, [], ◌∷◌, ◌++◌, length, take, drop, sym, ap, ◌∙◌, subst, refl, arith, append_assoc, append-nil, Some}
use Rattle.std.proofs.lemmas.List.{append_cancel_left, length-append, take-append-drop}
use Rattle.std.proofs.Math.Seq.{drop-append_seam}
use Rattle.std.specs.Prelude.{Vec, nat_eq}
use Rattle.std.specs.declared.alloc.Global.{Global}
use Rattle.std.specs.List.{IsDistinct}
use Rattle.cg_disk.specs.Disk.{History, Image, present}
use Rattle.cg_disk.proofs.Moments.{IsImage-content}
use Rattle.cg_fold.specs.Durable.{State, empty}
use Rattle.cg_frame.specs.declared.segment.Frame.{Frame}
use Rattle.cg_log.specs.Carried.{Content, LogAt, segments_of, tails}
use Rattle.cg_log.specs.Cursors.{IsAfter, IsAt, IsNext, index_of, read_limit, segment_index, segments_before, tails_from}
use Rattle.cg_log.specs.Free.{is_among}
use Rattle.cg_log.specs.Log.{LogHas, disk_of, root_of}
use Rattle.cg_log.specs.Rolled.{IsRolled}
use Rattle.cg_log.specs.Segments.{Filled, Frames, counted, frames_of, ids_of}
use Rattle.cg_log.specs.declared.cursor.Cursor.{Cursor}
use Rattle.cg_log.specs.declared.log.Log.{Log}
use Rattle.cg_log.proofs.Filled.{frames_of-append, ids_of-push, length-ids}
use Rattle.cg_log.proofs.Ids.{is_among-back, is_among-last}
use Rattle.cg_log.proofs.Moves.{frames_of-rolled}
use Rattle.cg_log.proofs.Taken.{index_of-below}
use Rattle.cg_log.proofs.Room.{among-last}
use Rattle.cg_root.specs.declared.root.Root.{Root}
use Rattle.cg_store.specs.Carried.{Spell}
use Rattle.cg_store.specs.Compacting.{HaveSameFrames, IsFolding, IsFrameRead}
use Rattle.cg_store.specs.Loading.{Adds, IsNoText}
use Rattle.cg_store.specs.declared.compaction.Cut.{Cut}
use Rattle.cg_store.specs.declared.phase.Progress.TheVariants.{More}
use Rattle.cg_store.proofs.Growing.{index_of-last}
use Rattle.cg_store.proofs.Spelled.{Spell-next, Spell-nil, Spell-push}

-- ---- the frames before a cut and from it on

module _ (id : ℕ) (has : Content) (is : is_among id (ids_of (tails has)) ≡ true) where
  pub frames-at-cut : frames_of (segments_before (Some id) has) ++ frames_of (tails_from id has) ≡ frames_of has.base ++ frames_of (tails has)
  frames-at-cut =
      let at = index_of id (ids_of (tails has)) in
      ap (λ (l : Frames). l ++ frames_of (tails_from id has)) (frames_of-append has.base (take at (tails has)))
      ∙ append_assoc (frames_of has.base) (frames_of (take at (tails has))) (frames_of (drop at (tails has)))
      ∙ ap (λ (l : Frames). frames_of has.base ++ l) (sym (frames_of-append (take at (tails has)) (drop at (tails has))) ∙ ap frames_of (take-append-drop at (tails has)))

-- ---- one frame more

-- what an image says of a log's content
pub LogAt-now : {D : Type 0} {g : _} (honest : D → Bool) (history : D → History) (size : D → ℕ) (log : Log D g) (has : Content) → LogHas honest history size log has
    → LogAt (present (history (disk_of log))).content (size (disk_of log)) (root_of log) has
LogAt-now honest history size log has holds = holds.holds.keeps (present (history (disk_of log))).content (IsImage-content (present (history (disk_of log))))

-- a cursor before a tail is inside
inside-limit : (image : Image) (sectors : ℕ) (root : Root) (has : Content) (id index : ℕ) → LogAt image sectors root has → is_among id (ids_of (tails has)) ≡ true → index < read_limit root (Some id) → index < length (segments_of has)
inside-limit image sectors root has id index at is below =
    let base : length root.base ≡ length has.base = ap length at.base_ids ∙ length-ids has.base in
    let tail : index_of id root.tail ≡ index_of id (ids_of (tails has)) = ap (index_of id) at.tail_ids in
    omega (arith, below, base, tail, index_of-below id (ids_of (tails has)) is, length-ids (tails has), length-append has.base (tails has))

module _ (has : Content) (number : ℕ) (left : Frames) (cut : Cut) (cursor : Cursor) (before : State) (room : Vec ℕ Global) (spent : Vec (List ℕ) Global) (folding : IsFolding has number left (record { cut = cut; cursor = cursor; durable = before; room = room; spent = spent })) where
  -- a frame was found, and folded
  pub folded-one : (image : Image) (sectors : ℕ) (root : Root) → LogAt image sectors root has → (frame : Frame) (next : Cursor) (now : State) (free : Vec ℕ Global) (kept : Vec (List ℕ) Global) → IsNext (segments_of has) (segments_before (Some cut.id) has) folding.read frame next
      → segment_index next < read_limit root (Some cut.id) → Adds true frame.count frame.payload.items before now
      → (later : Frames) × (IsFrameRead More left later × IsFolding has number later (record { cut = cut; cursor = next; durable = now; room = free; spent = kept }))
  folded-one image sectors root at frame next now free kept found below adds =
      let one : Frames = (frame.count, frame.payload.items) ∷ [] in
      let left_is : left ≡ (frame.count, frame.payload.items) ∷ found.more = append_cancel_left folding.read left ((frame.count, frame.payload.items) ∷ found.more) (sym folding.before ∙ found.limit_is) in (
        found.more,
        (
          ((frame.count, frame.payload.items), left_is),
          record {
            cut = folding.cut;
            read = folding.read ++ one;
            before = found.limit_is ∙ sym (append_assoc folding.read one found.more);
            at = found.after;
            inside = inside-limit image sectors root has cut.id (segment_index next) at folding.cut.is_tail below;
            spelled = subst (Spell (folding.read ++ one)) (sym adds.2) (Spell-push folding.read before (frame.count, frame.payload.items) adds.0 folding.spelled adds.1);
          },
        ),
      )

  -- other memory for the next payload
  pub folded-same : (free : Vec ℕ Global) → IsFolding has number left (record { cut = cut; cursor = cursor; durable = before; room = free; spent = spent })
  folded-same free = record {
    cut = folding.cut;
    read = folding.read;
    before = folding.before;
    at = folding.at;
    inside = folding.inside;
    spelled = folding.spelled;
  }

  -- no frame was left
  pub folded-all : length (frames_of (segments_before (Some cut.id) has)) ≤ length folding.read → left ≡ []
  folded-all few = none left (omega (arith, few, ap length folding.before, length-append folding.read left))
    where
      none : (frames : Frames) → length frames ≤ 0 → frames ≡ []
      none [] few = refl
      none (f ∷ frames) few = absurd (omega arith)

  -- a frame of a content that spells is no bad one
  pub folded-good : (state : State) → Spell (frames_of has.base ++ frames_of (tails has)) state → (frame : Frame) (next : Cursor) → IsNext (segments_of has) (segments_before (Some cut.id) has) folding.read frame next
      → IsNoText frame.count frame.payload.items → ⊥
  folded-good state spelled frame next found no_text =
      let one : ℕ × List ℕ = (frame.count, frame.payload.items) in
      let all : frames_of has.base ++ frames_of (tails has) ≡ folding.read ++ one ∷ (found.more ++ frames_of (tails_from cut.id has)) =
      sym (frames-at-cut cut.id has folding.cut.is_tail) ∙ ap (λ (l : Frames). l ++ frames_of (tails_from cut.id has)) found.limit_is ∙ append_assoc folding.read (one ∷ found.more) (frames_of (tails_from cut.id has)) in
      let known = Spell-next folding.read (found.more ++ frames_of (tails_from cut.id has)) one state (subst (λ (l : Frames). Spell l state) all spelled) in
      no_text known.0 known.1

-- ---- the beginning

-- after a roll the last tail has this id and no frame, and the frames are the same
pub record IsBegun (has : Content) (id : ℕ) (new : Content) : Type 0 where
  pub last_id : new.last.0 ≡ id
  pub last_frames : new.last.1 ≡ []
  pub same : HaveSameFrames has new

pub IsBegun-rolled : (has : Content) (id : ℕ) (new : Content) → IsRolled has id new → IsBegun has id new
IsBegun-rolled has id new (inl stays) = record {
  last_id = ap (λ (c : Content). c.last.0) stays.1 ∙ sym stays.2;
  last_frames = ap (λ (c : Content). c.last.1) stays.1 ∙ stays.0;
  same = record { base = ap (λ (c : Content). frames_of c.base) stays.1; tail = ap (λ (c : Content). frames_of (tails c)) stays.1 };
}
IsBegun-rolled has id new (inr rolls) = record {
  last_id = ap (λ (c : Content). c.last.0) rolls.1;
  last_frames = ap (λ (c : Content). c.last.1) rolls.1;
  same = record { base = ap (λ (c : Content). frames_of c.base) rolls.1; tail = ap (λ (c : Content). frames_of (tails c)) rolls.1 ∙ frames_of-rolled has id };
}

-- a position after no frame, whatever the segments are, is in the first
first-segment : (index pos : ℕ) → ((segments : List Filled) → IsAfter segments index pos []) → index ≡ 0
first-segment zero pos at = refl
first-segment (suc index) pos at =
    let one = at ((0, (1, []) ∷ []) ∷ []) in
    let len = ap length one.read_is in
    absurd (nothing (take index []) one.seen len)
  where
    nothing : (rest : List Filled) (seen : Frames) → 0 ≡ length ((((1, []) ∷ []) ++ frames_of rest) ++ seen) → ⊥
    nothing rest seen is = omega arith

module _ (image : Image) (sectors : ℕ) (root : Root) (has new : Content) (id : ℕ) (at : LogAt image sectors root new) (begun : IsBegun has id new) where
  last-ids : ids_of (tails new) ≡ ids_of new.sealed ++ id ∷ []
  last-ids = ids_of-push new.sealed new.last.0 new.last.1 ∙ ap (λ (k : ℕ). ids_of new.sealed ++ k ∷ []) begun.last_id

  is-apart : is_among id (ids_of new.sealed) ≡ false
  is-apart =
      let distinct : IsDistinct nat_eq (root.base ++ root.tail) = at.counting.stored.body.lawful.ids.distinct in
      let all : root.base ++ root.tail ≡ (ids_of new.base ++ ids_of new.sealed) ++ id ∷ [] =
      (λ i. at.base_ids i ++ (at.tail_ids ∙ last-ids) i) ∙ sym (append_assoc (ids_of new.base) (ids_of new.sealed) (id ∷ [])) in
      is_among-back id (ids_of new.base) (ids_of new.sealed) (is_among-last id (ids_of new.base ++ ids_of new.sealed) (subst (IsDistinct nat_eq) all distinct))

  at-last : index_of id (ids_of (tails new)) ≡ length new.sealed
  at-last = ap (index_of id) last-ids ∙ index_of-last id (ids_of new.sealed) is-apart ∙ length-ids new.sealed

  is-tail : is_among id (ids_of (tails new)) ≡ true
  is-tail = ap (is_among id) last-ids ∙ among-last id (ids_of new.sealed)

  from-last : frames_of (tails_from id new) ≡ []
  from-last =
      ap (λ (n : ℕ). frames_of (drop n (tails new))) at-last ∙ ap frames_of (drop-append_seam new.sealed (new.last ∷ [])) ∙ append-nil new.last.1 ∙ begun.last_frames

  before-last : frames_of (segments_before (Some id) new) ≡ frames_of new.base ++ frames_of (tails new)
  before-last =
      sym (append-nil (frames_of (segments_before (Some id) new))) ∙ ap (λ (l : Frames). frames_of (segments_before (Some id) new) ++ l) (sym from-last) ∙ frames-at-cut id new is-tail

  pub IsFolding-begun : (number cut_number : ℕ) (cursor : Cursor) (durable : State) (room : Vec ℕ Global) (spent : Vec (List ℕ) Global) → cut_number ≡ number → ((segments : List Filled) → IsAt segments cursor []) → durable ≡ empty
      → IsFolding new number (frames_of new.base ++ frames_of (tails new)) (record { cut = record { id = id; number = cut_number }; cursor = cursor; durable = durable; room = room; spent = spent })
  IsFolding-begun number cut_number cursor durable room spent number_is start nothing = record {
    cut = record { is_tail = is-tail; number_is = omega (arith, number_is, ap counted from-last) };
    read = [];
    before = before-last;
    at = start (segments_of new);
    inside = omega (arith, first-segment cursor.segment cursor.pos start, length-append new.base (tails new), length-append new.sealed (new.last ∷ []));
    spelled = subst (Spell []) (sym nothing) Spell-nil;
  }
