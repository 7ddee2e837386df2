-- Fresh segments: what stays when others are written, and what a frame more leaves.
use Rattle.std.proofs.Common.{◌≡◌, ◌⊎◌, inl, inr, ℕ, ◌+◌, ◌<◌, ◌≤◌, Bool, true, false, List, [], ◌∷◌, ◌++◌, length, refl, sym, ap, ◌∙◌, subst, arith, add-zero, append_assoc}
use Rattle.std.specs.Prelude.{IsTrue, ◌↔◌, nat_lt}
use Rattle.std.proofs.lemmas.Bool.Decides.{nat_tests}
use Rattle.cg_disk.specs.Disk.{Image, Moment, History, AllBut, Changes, IsImage, LeavesOnly, Stays, present}
use Rattle.cg_disk.proofs.Moments.{AllBut-disturbed, Changes-present, LeavesOnly-changes, LeavesOnly-then, LeavesOnly-weaker}
use Rattle.cg_frame.specs.Frames.{HasFrames, IsClosed, next_gate}
use Rattle.cg_gate.specs.Layout.{first_sector}
use Rattle.cg_gate.specs.declared.layout.TheConstants.{SEGMENT_SECTORS}
use Rattle.cg_root.specs.Roots.{AreSegments, root_ids}
use Rattle.cg_root.specs.Slots.{gate_of, other_slot}
use Rattle.cg_root.specs.declared.root.Root.{Root}
use Rattle.cg_root.proofs.Stored.{gate_of-small}
use Rattle.cg_log.specs.Carried.{Carries, Content, HoldsContent, KeepsLog, LogAt, tails}
use Rattle.cg_log.specs.Free.{is_among}
use Rattle.cg_log.specs.Fresh.{HoldsFresh, KeepsFresh, fits_fresh, last_end}
use Rattle.cg_log.specs.Ready.{AllClosed, IsReady, last_id}
use Rattle.cg_log.specs.Segments.{Filled, Frames, end_of_frames, frames_of, ids_of, segment_of}
use Rattle.cg_log.specs.declared.numbers.TheConstants.{COMMAND_NUMBER_MAX}
use Rattle.cg_log.proofs.Filled.{AreApart, AreApart-slots, AreStored-apart, AreStored-append, AreStored-back, AreStored-front, frames_of-push, ids_of-push, last_id-push}
use Rattle.cg_log.proofs.Ids.{AreApart-segment, is_among-back, is_among-front, is_among-last}
use Rattle.cg_log.proofs.Images.{Carries-at}
use Rattle.cg_log.proofs.Moves.{AllClosed-kept, AllOpen-kept, KeepsRoot-kept, LogAt-elsewhere, end_of_frames-push}
use Rattle.cg_log.proofs.Taken.{other-last}

-- ---- what stays

pub KeepsFresh-then : (a b c : Moment) (ids : List ℕ) → KeepsFresh a b ids → KeepsFresh b c ids → KeepsFresh a c ids
KeepsFresh-then a b c ids first second = record {
  holds = λ end fresh h. second.holds end fresh (first.holds end fresh h);
  ready = λ end lt h. second.ready end lt (first.ready end lt h);
}

module _ (at n : ℕ) (old new : History) (change : Changes at n old new) where
  kept-holds : (ids : List ℕ) (end : ℕ) (fresh : List Filled) → AreApart at n fresh → HoldsFresh (present old) ids end fresh → HoldsFresh (present new) ids end fresh
  kept-holds ids end fresh apart h = record {
    ids_are = h.ids_are;
    stored = λ image is.
        let but = AllBut-disturbed at n (present old) (present new) image (Changes-present at n old new change) is in
        AreStored-apart but.base image at n fresh but.below but.above apart (h.stored but.base but.was);
    end_is = h.end_is;
  }

  -- the root slots were written
  pub KeepsFresh-slots : (ids : List ℕ) → at + n ≤ 4 → KeepsFresh (present old) (present new) ids
  KeepsFresh-slots ids le = record {
    holds = λ end fresh h. kept-holds ids end fresh (AreApart-slots at n fresh le) h;
    ready = λ end lt h some. AllClosed-kept at n old new change (first_sector (last_id ids) + end) (inr (omega arith)) (h some);
  }

  -- a segment was written that is none of them
  pub KeepsFresh-segment : (id : ℕ) (ids : List ℕ) → first_sector id ≤ at → at + n ≤ first_sector id + 2048 → is_among id ids ≡ false → KeepsFresh (present old) (present new) ids
  KeepsFresh-segment id ids low high none = record {
    holds = λ end fresh h. kept-holds ids end fresh (AreApart-segment id at n fresh low high (ap (is_among id) (sym h.ids_are) ∙ none)) h;
    ready = λ end lt h some. AllClosed-kept at n old new change (first_sector (last_id ids) + end)
        (outside end lt (other-last id ids none some)) (h some);
  }
    where
      outside : (end : ℕ) → end < SEGMENT_SECTORS → (id < last_id ids) ⊎ (last_id ids < id) → (first_sector (last_id ids) + end < at) ⊎ (at + n ≤ first_sector (last_id ids) + end)
      outside end lt (inl less) = inr (omega arith)
      outside end lt (inr more) = inl (omega arith)

pub KeepsFresh-stays : (old new : History) (ids : List ℕ) → Stays old new → KeepsFresh (present old) (present new) ids
KeepsFresh-stays old new ids stays = KeepsFresh-slots 0 0 old new stays ids (omega arith)

-- ---- a write in a segment that the root does not name

module _ (id : ℕ) (old new : History) (change : Changes (first_sector id) 2048 old new) (sectors : ℕ) (root : Root) (none : is_among id (root_ids root) ≡ false) where
  LogAt-fresh : (has : Content) → KeepsLog (present old) sectors root has → (image : Image) → AllBut (first_sector id) 2048 (present old) image → LogAt image sectors root has
  LogAt-fresh has keeps image but =
      let at = keeps but.base but.was in
      LogAt-elsewhere (present old) sectors root has (first_sector id) 2048 image keeps but
      (AreApart-segment id (first_sector id) 2048 has.base (omega arith) (omega arith) (ap (is_among id) (sym at.base_ids) ∙ is_among-front id root.base root.tail none))
      (AreApart-segment id (first_sector id) 2048 (tails has) (omega arith) (omega arith) (ap (is_among id) (sym at.tail_ids) ∙ is_among-back id root.base root.tail none)) (omega arith)

  pub content-fresh : (end number : ℕ) (has : Content) → HoldsContent (present old) sectors root end number has → HoldsContent (present new) sectors root end number has
  content-fresh end number has holds = record {
    keeps = λ image is. LogAt-fresh has holds.keeps image (AllBut-disturbed (first_sector id) 2048 (present old) (present new) image (Changes-present (first_sector id) 2048 old new change) is);
    end_is = holds.end_is;
    number_is = holds.number_is;
  }

  pub images-fresh : (end number : ℕ) (has : Content) → number ≤ COMMAND_NUMBER_MAX → HoldsContent (present old) sectors root end number has → LeavesOnly old new (λ image. Carries image sectors number (frames_of has.base) (frames_of (tails has)))
  images-fresh end number has small holds = LeavesOnly-weaker old new _ _ (λ image but.
      Carries-at image sectors number root has (LogAt-fresh has holds.keeps image but) holds.number_is small)
      (LeavesOnly-changes (first_sector id) 2048 old new change)

  pub ready-fresh : (end : ℕ) (is_other_open : Bool) → end < SEGMENT_SECTORS → 1 ≤ length root.tail → IsReady (present old) sectors root end is_other_open → IsReady (present new) sectors root end is_other_open
  ready-fresh end is_other_open inside some ready =
      let before : gate_of (other_slot root.slot) < first_sector id = omega (arith, gate_of-small (other_slot root.slot)) in
      record {
        root_counts = KeepsRoot-kept (first_sector id) 2048 old new sectors root (omega arith) change ready.root_counts;
        closed = AllClosed-kept (first_sector id) 2048 old new change (first_sector (last_id root.tail) + end)
            (outside (other-last id root.tail (is_among-back id root.base root.tail none) some)) ready.closed;
        other_open = λ opened. AllOpen-kept (first_sector id) 2048 old new change (gate_of (other_slot root.slot)) (inl before) (ready.other_open opened);
        other_closed = λ shut. AllClosed-kept (first_sector id) 2048 old new change (gate_of (other_slot root.slot)) (inl before) (ready.other_closed shut);
      }
    where
      outside : (id < last_id root.tail) ⊎ (last_id root.tail < id) → (first_sector (last_id root.tail) + end < first_sector id) ⊎ (first_sector id + 2048 ≤ first_sector (last_id root.tail) + end)
      outside (inl less) = inr (omega arith)
      outside (inr more) = inl (omega arith)

-- ---- one segment or one frame more

last_end-push : (none id : ℕ) (xs : List Filled) (frames : Frames) → last_end none (xs ++ (id, frames) ∷ []) ≡ end_of_frames 0 frames
last_end-push none id [] frames = refl
last_end-push none id (x ∷ xs) frames = last_end-push (end_of_frames 0 x.1) id xs frames

pub HoldsFresh-new : (old new : Moment) (ids : List ℕ) (end id : ℕ) (fresh : List Filled) → KeepsFresh old new ids → AllClosed new (first_sector id) → HoldsFresh old ids end fresh → HoldsFresh new (ids ++ id ∷ []) 0 (fresh ++ (id, []) ∷ [])
HoldsFresh-new old new ids end id fresh keeps closed h =
    let kept = keeps.holds end fresh h in
    record {
      ids_are = ap (λ (l : List ℕ). l ++ id ∷ []) kept.ids_are ∙ sym (ids_of-push fresh id []);
      stored = λ image is. AreStored-append image fresh ((id, []) ∷ []) (kept.stored image is)
          ((0, record { chain = refl; closed = subst (IsClosed image) (sym (add-zero (first_sector id))) (closed image is) }), tt);
      end_is = sym (last_end-push 0 id fresh []);
    }

pub HoldsFresh-last : (m : Moment) (ids : List ℕ) (end id : ℕ) (sealed : List Filled) (frames : Frames) → HoldsFresh m ids end (sealed ++ (id, frames) ∷ []) → last_id ids ≡ id
HoldsFresh-last m ids end id sealed frames h = ap last_id (h.ids_are ∙ ids_of-push sealed id frames) ∙ last_id-push (ids_of sealed) id

pub HoldsFresh-more : (old new : History) (n : ℕ) (ids : List ℕ) (end id count : ℕ) (payload : List ℕ) (sealed : List Filled) (frames : Frames) → AreSegments n ids
    → Changes (first_sector (last_id ids)) 2048 old new
    → ((frames : Frames) → ((image : Image) → IsImage (present old) image → HasFrames image (segment_of (last_id ids)) frames) → end ≡ end_of_frames 0 frames → (image : Image) → IsImage (present new) image → HasFrames image (segment_of (last_id ids)) (frames ++ (count, payload) ∷ []))
    → HoldsFresh (present old) ids end (sealed ++ (id, frames) ∷ [])
    → HoldsFresh (present new) ids (next_gate end (length payload)) (sealed ++ (id, frames ++ (count, payload) ∷ []) ∷ [])
HoldsFresh-more old new n ids end id count payload sealed frames are change more h =
    let last = HoldsFresh-last (present old) ids end id sealed frames h in
    let split = h.ids_are ∙ ids_of-push sealed id frames in
    let apart = is_among-last id (ids_of sealed) (rw split at are.distinct) in
    let end_is = h.end_is ∙ last_end-push 0 id sealed frames in
    let changed = subst (λ (k : ℕ). Changes (first_sector k) 2048 old new) last change in
    record {
      ids_are = split ∙ sym (ids_of-push sealed id (frames ++ (count, payload) ∷ []));
      stored = λ image is.
          let but = AllBut-disturbed (first_sector id) 2048 (present old) (present new) image (Changes-present (first_sector id) 2048 old new changed) is in
          AreStored-append image sealed ((id, frames ++ (count, payload) ∷ []) ∷ [])
          (AreStored-apart but.base image (first_sector id) 2048 sealed but.below but.above (AreApart-segment id (first_sector id) 2048 sealed (omega arith) (omega arith) apart)
          (AreStored-front but.base sealed ((id, frames) ∷ []) (h.stored but.base but.was))) (
            subst (λ (k : ℕ). HasFrames image (segment_of k) (frames ++ (count, payload) ∷ [])) last
                (more frames (λ base was. subst (λ (k : ℕ). HasFrames base (segment_of k) frames) (sym last) (AreStored-back base sealed ((id, frames) ∷ []) (h.stored base was)).0) end_is image is),
            tt,
          );
      end_is = ap (λ (e : ℕ). next_gate e (length payload)) end_is ∙ sym (end_of_frames-push 0 count payload frames) ∙ sym (last_end-push 0 id sealed (frames ++ (count, payload) ∷ []));
    }

-- ---- the last of them

-- the last segment of some, and those before it
pub record IsSplit (fresh : List Filled) : Type 0 where
  pub sealed : List Filled
  pub id : ℕ
  pub frames : Frames
  pub is : fresh ≡ sealed ++ (id, frames) ∷ []

pub split-last : (fresh : List Filled) → 1 ≤ length (ids_of fresh) → IsSplit fresh
split-last [] some = absurd (omega arith)
split-last (s ∷ []) some = record { sealed = []; id = s.0; frames = s.1; is = refl }
split-last (s ∷ t ∷ fresh) some =
    let rest = split-last (t ∷ fresh) (omega arith) in
    record { sealed = s ∷ rest.sealed; id = rest.id; frames = rest.frames; is = ap (λ (l : List Filled). s ∷ l) rest.is }

pub frames_of-more : (fresh sealed : List Filled) (id count : ℕ) (payload : List ℕ) (frames : Frames) → fresh ≡ sealed ++ (id, frames) ∷ [] → frames_of (sealed ++ (id, frames ++ (count, payload) ∷ []) ∷ []) ≡ frames_of fresh ++ (count, payload) ∷ []
frames_of-more fresh sealed id count payload frames was =
    frames_of-push sealed id (frames ++ (count, payload) ∷ []) ∙ sym (append_assoc (frames_of sealed) frames ((count, payload) ∷ []))
    ∙ ap (λ (l : Frames). l ++ (count, payload) ∷ []) (sym (frames_of-push sealed id frames) ∙ ap frames_of (sym was))

-- ---- whether a frame fits

pub fits_fresh-some : (ids : List ℕ) (end bytes : ℕ) → fits_fresh ids end bytes ≡ true → 1 ≤ length ids
unfolding fits_fresh
fits_fresh-some [] end bytes fits = absurd cc
fits_fresh-some (id ∷ ids) end bytes fits = omega arith

pub fits_fresh-fits : (ids : List ℕ) (end bytes : ℕ) → fits_fresh ids end bytes ≡ true → next_gate end bytes < SEGMENT_SECTORS
unfolding fits_fresh
fits_fresh-fits [] end bytes fits = absurd cc
fits_fresh-fits (id ∷ ids) end bytes fits = grind (arith, nat_tests)

pub fits_fresh-none : (ids : List ℕ) (end bytes : ℕ) → length ids ≡ 0 → false ≡ fits_fresh ids end bytes
unfolding fits_fresh
fits_fresh-none [] end bytes none = refl
fits_fresh-none (id ∷ ids) end bytes none = absurd (omega arith)

pub fits_fresh-test : (ids : List ℕ) (end bytes : ℕ) (b : Bool) → 1 ≤ length ids → (IsTrue b ↔ (next_gate end bytes < SEGMENT_SECTORS)) → b ≡ fits_fresh ids end bytes
unfolding fits_fresh
fits_fresh-test [] end bytes b some test = absurd (omega arith)
fits_fresh-test (id ∷ ids) end bytes true some test =
    let lt : next_gate end bytes < SEGMENT_SECTORS = test.0 refl in
    grind (arith, nat_tests)
fits_fresh-test (id ∷ ids) end bytes false some test = no (nat_lt (next_gate end bytes) SEGMENT_SECTORS) refl
  where
    no : (t : Bool) → nat_lt (next_gate end bytes) SEGMENT_SECTORS ≡ t → false ≡ nat_lt (next_gate end bytes) SEGMENT_SECTORS
    no true is =
        let lt : next_gate end bytes < SEGMENT_SECTORS = grind (arith, nat_tests) in
        absurd (let e = test.1 lt in cc)
    no false is = sym is

-- one write after another, of segments that the root does not name
pub then-kept : (h0 h1 h2 : History) (sectors sectors' number number' : ℕ) (base tail : Frames) → sectors' ≡ sectors → number' ≡ number → LeavesOnly h0 h1 (λ image. Carries image sectors number base tail) → LeavesOnly h1 h2 (λ image. Carries image sectors' number' base tail) → LeavesOnly h0 h2 (λ image. Carries image sectors number base tail)
then-kept h0 h1 h2 sectors sectors' number number' base tail size same first second =
    LeavesOnly-then h0 h1 h2 _ first
    (subst (λ (n : ℕ). LeavesOnly h1 h2 (λ image. Carries image sectors n base tail)) same
    (subst (λ (s : ℕ). LeavesOnly h1 h2 (λ image. Carries image s number' base tail)) size second))
