-- Frames that are read one by one, from the first segment of a root to its last.
use Rattle.std.proofs.Common.{◌≡◌, inl, inr, ℕ, zero, suc, ◌+◌, ◌^◌, ◌<◌, ◌≤◌, List, [], ◌∷◌, ◌++◌, length, get_or, take, drop, sym, ap, ◌∙◌, subst, refl, arith, append_assoc}
use Rattle.std.proofs.lemmas.Bool.{cases_lt}
use Rattle.std.proofs.lemmas.Bool.Decides.{nat_tests}
use Rattle.std.proofs.lemmas.List.{append-nil, drop_all, drop_at, drop-append-le, length-append, length-map, length-take, map-append, take_all, take_at, take_more, take-append-drop}
use Rattle.cg_disk.specs.Disk.{Image}
use Rattle.cg_frame.specs.Frames.{Chain, FrameAt, HasFrames, IsClosed, next_gate}
use Rattle.cg_frame.specs.Heads.{IsBadFrame}
use Rattle.cg_frame.specs.declared.segment.Segment.{Segment}
use Rattle.cg_frame.proofs.Loading.{HasFrames-bad}
use Rattle.cg_frame.proofs.Standing.{Chain-goes_on, Chain-push, HasFrames-unique}
use Rattle.cg_gate.specs.Layout.{first_sector}
use Rattle.cg_root.specs.Roots.{CountingRoot, root_ids}
use Rattle.cg_root.specs.declared.root.Root.{Root}
use Rattle.cg_root.proofs.Unique.{CountingRoot-unique}
use Rattle.cg_log.specs.Carried.{Carries, Content, LogAt, segments_of, tails}
use Rattle.cg_log.specs.Faults.{HasBadFrame}
use Rattle.cg_log.specs.ReadTo.{HasBadSegment, IsReadTo, id_at, number_with}
use Rattle.cg_log.specs.Segments.{Frames, Filled, segment_of, ids_of, frames_of, counted, end_of_frames, AreStored}
use Rattle.cg_log.specs.declared.numbers.TheConstants.{COMMAND_NUMBER_MAX}
use Rattle.cg_log.proofs.Filled.{AreStored-append, AreStored-at, AreStored-back, AreStored-front, Chain-end, frames_of-append, frames_of-push, ids_of-push}
use Rattle.cg_log.proofs.Found.{counted-append}

-- Counts of the segments from an index on

-- the commands of the segments after the first k
abbrev pub counted_after : ℕ → List Filled → ℕ
counted_after k segments = counted (frames_of (drop k segments))

counted_after-past : (k : ℕ) (segments : List Filled) → length segments ≤ k → counted_after k segments ≡ 0
counted_after-past k segments le = ap (λ (l : List Filled). counted (frames_of l)) (drop_all k segments le)

-- one more frame in the last segment counts where that is one of them
counted_after-frame : (k : ℕ) (done : List Filled) (id : ℕ) (seen : Frames) (f : ℕ × List ℕ) → k ≤ length done → counted_after k (done ++ (id, seen ++ f ∷ []) ∷ []) ≡ counted_after k (done ++ (id, seen) ∷ []) + f.0
counted_after-frame zero done id seen f le =
    let old : counted (frames_of (done ++ (id, seen) ∷ [])) ≡ counted (frames_of done) + counted seen = ap counted (frames_of-push done id seen) ∙ counted-append (frames_of done) seen in
    let new : counted (frames_of (done ++ (id, seen ++ f ∷ []) ∷ [])) ≡ counted (frames_of done) + counted (seen ++ f ∷ []) = ap counted (frames_of-push done id (seen ++ f ∷ [])) ∙ counted-append (frames_of done) (seen ++ f ∷ []) in
    omega (arith, old, new, counted-append seen (f ∷ []))
counted_after-frame (suc k) [] id seen f le = absurd (omega arith)
counted_after-frame (suc k) (d ∷ done) id seen f le = counted_after-frame k done id seen f (omega arith)

-- a segment without frames counts nothing
counted_after-empty : (k : ℕ) (segments : List Filled) (id : ℕ) → counted_after k (segments ++ (id, []) ∷ []) ≡ counted_after k segments
counted_after-empty zero segments id = ap counted (frames_of-push segments id [] ∙ append-nil (frames_of segments))
counted_after-empty (suc k) [] id = counted_after-past (suc k) ((id, []) ∷ []) (omega arith) ∙ sym (counted_after-past (suc k) [] (omega arith))
counted_after-empty (suc k) (s ∷ segments) id = counted_after-empty k segments id

-- fewer frames count no more
counted_after-le : (k : ℕ) (done later : List Filled) (id : ℕ) (seen rest : Frames) → counted_after k (done ++ (id, seen) ∷ []) ≤ counted_after k (done ++ (id, seen ++ rest) ∷ later)
counted_after-le zero done later id seen rest =
    let old : counted (frames_of (done ++ (id, seen) ∷ [])) ≡ counted (frames_of done) + counted seen = ap counted (frames_of-push done id seen) ∙ counted-append (frames_of done) seen in
    let new : counted (frames_of (done ++ (id, seen ++ rest) ∷ later)) ≡ counted (frames_of done) + counted ((seen ++ rest) ++ frames_of later) =
    ap counted (frames_of-append done ((id, seen ++ rest) ∷ later)) ∙ counted-append (frames_of done) ((seen ++ rest) ++ frames_of later) in
    omega (arith, old, new, counted-append (seen ++ rest) (frames_of later), counted-append seen rest)
counted_after-le (suc k) [] later id seen rest = omega (arith, counted_after-past (suc k) ((id, seen) ∷ []) (omega arith))
counted_after-le (suc k) (d ∷ done) later id seen rest = counted_after-le k done later id seen rest

-- Steps of a reading

length-done : (root : Root) (index : ℕ) (done : List Filled) → index ≤ length (root_ids root) → take index (root_ids root) ≡ ids_of done → length done ≡ index
length-done root index done le ids_are = omega (arith, le, ap length ids_are, length-take index (root_ids root), length-map done (λ (s : Filled). s.0))

pub IsReadTo-starts : (image : Image) (root : Root) → IsReadTo image root 0 0 root.base_number []
IsReadTo-starts image root = record {
  done = [];
  seen = [];
  ids_are = refl;
  stored = tt;
  chain = refl;
  read_is = refl;
  number_is = omega (arith, counted_after-empty (length root.base) [] (id_at root 0), counted_after-past (length root.base) [] (omega arith));
}

module _ (image : Image) (root : Root) (index pos number : ℕ) (read : Frames) (inside : index < length (root_ids root)) (so_far : IsReadTo image root index pos number read) where
  abbrev k : ℕ
  k = length root.base

  abbrev id : ℕ
  id = id_at root index

  done_is : length so_far.done ≡ index
  done_is = length-done root index so_far.done (omega arith) so_far.ids_are

  -- a frame is there
  pub IsReadTo-frame : (pos' number' count : ℕ) (payload : List ℕ) → FrameAt image (segment_of id) pos count payload → pos' ≡ next_gate pos (length payload) → number' ≡ number_with root index number count → IsReadTo image root index pos' number' (read ++ (count, payload) ∷ [])
  IsReadTo-frame pos' number' count payload frame pos_is number_is = record {
    done = so_far.done;
    seen = so_far.seen ++ (count, payload) ∷ [];
    ids_are = so_far.ids_are;
    stored = so_far.stored;
    chain = subst (λ (p : ℕ). Chain image (segment_of id) 0 (so_far.seen ++ (count, payload) ∷ []) p) (sym pos_is) (Chain-push image (segment_of id) 0 so_far.seen pos count payload so_far.chain frame);
    read_is = ap (λ (l : Frames). l ++ (count, payload) ∷ []) so_far.read_is ∙ append_assoc (frames_of so_far.done) so_far.seen ((count, payload) ∷ []);
    number_is = number_is ∙ (elim (cases_lt index k) [ inl lt ↦ in_base lt | inr ge ↦ in_tail ge ]);
  }
    where
      in_base : index < k → number_with root index number count ≡ root.base_number + counted_after k (so_far.done ++ (id, so_far.seen ++ (count, payload) ∷ []) ∷ [])
      in_base lt =
          let same : number_with root index number count ≡ number = grind (arith, nat_tests) in
          let few : length (so_far.done ++ (id, so_far.seen) ∷ []) ≤ k = omega (arith, lt, done_is, length-append so_far.done ((id, so_far.seen) ∷ [])) in
          let few' : length (so_far.done ++ (id, so_far.seen ++ (count, payload) ∷ []) ∷ []) ≤ k = omega (arith, lt, done_is, length-append so_far.done ((id, so_far.seen ++ (count, payload) ∷ []) ∷ [])) in
          omega (arith, same, so_far.number_is, counted_after-past k (so_far.done ++ (id, so_far.seen) ∷ []) few, counted_after-past k (so_far.done ++ (id, so_far.seen ++ (count, payload) ∷ []) ∷ []) few')

      in_tail : k ≤ index → number_with root index number count ≡ root.base_number + counted_after k (so_far.done ++ (id, so_far.seen ++ (count, payload) ∷ []) ∷ [])
      in_tail ge =
          let more : number_with root index number count ≡ number + count = grind (arith, nat_tests) in
          omega (arith, more, so_far.number_is, counted_after-frame k so_far.done id so_far.seen (count, payload) (omega (arith, done_is)))

  -- the segments up to the closed gate
  abbrev all : List Filled
  all = so_far.done ++ (id, so_far.seen) ∷ []

  ids-all : take (index + 1) (root_ids root) ≡ ids_of all
  ids-all = take_more (root_ids root) index 0 inside ∙ ap (λ (l : List ℕ). l ++ id ∷ []) so_far.ids_are ∙ sym (ids_of-push so_far.done id so_far.seen)

  read-all : read ≡ frames_of all
  read-all = so_far.read_is ∙ sym (frames_of-push so_far.done id so_far.seen)

  stored-all : IsClosed image (first_sector id + pos) → AreStored image all
  stored-all closed = AreStored-append image so_far.done ((id, so_far.seen) ∷ []) so_far.stored ((pos, record { chain = so_far.chain; closed = closed }), tt)

  -- the gate is closed, and the next segment begins
  pub IsReadTo-closed : (index' : ℕ) → index' ≡ index + 1 → IsClosed image (first_sector id + pos) → IsReadTo image root index' 0 number read
  IsReadTo-closed index' next closed = record {
    done = all;
    seen = [];
    ids_are = ap (λ (i : ℕ). take i (root_ids root)) next ∙ ids-all;
    stored = stored-all closed;
    chain = refl;
    read_is = read-all ∙ sym (append-nil (frames_of all));
    number_is = so_far.number_is ∙ ap (λ (n : ℕ). root.base_number + n) (sym (counted_after-empty k all (id_at root index')));
  }

  -- an open gate is there without a frame
  pub IsReadTo-bad : IsBadFrame image (segment_of id) pos → HasBadSegment image root
  IsReadTo-bad bad segments ids_are are =
      let at = AreStored-at image segments index 0 (omega (arith, inside, ap length ids_are)) are in
      let here : get_or (ids_of segments) index 0 ≡ id = ap (λ (l : List ℕ). get_or l index 0) (sym ids_are) in
      HasFrames-bad image (segment_of id) at.0 so_far.seen pos (omega arith) so_far.chain bad.0 bad.1 (subst (λ (j : ℕ). HasFrames image (segment_of j) at.0) here at.1)

-- What an image carries, beside what was read of it

-- frames that were read come first
Chain-front : (image : Image) (segment : Segment) (at pos : ℕ) (seen frames : Frames) (end : ℕ) → segment.sectors < 2 ^ 54 → Chain image segment at seen pos → Chain image segment at frames end → IsClosed image (segment.first + end) → (rest : Frames) × (frames ≡ seen ++ rest)
Chain-front image segment at pos [] frames end small going there closed = (frames, refl)
Chain-front image segment at pos (f ∷ seen) frames end small going there closed =
    let next = Chain-goes_on image segment at frames end f.0 f.1 (omega arith) there closed going.0 in
    let rest = Chain-front image segment (next_gate at (length f.1)) pos seen next.0 end small going.1 next.2 closed in
    (rest.0, next.1 ∙ ap (λ (l : Frames). f ∷ l) rest.1)

-- segments that an image has begin with those that were read
split-segments : (image : Image) (index : ℕ) (segments done : List Filled) → take index (ids_of segments) ≡ ids_of done → index < length (ids_of segments) → AreStored image segments → AreStored image done → (frames : Frames) × ((later : List Filled) × ((segments ≡ done ++ (get_or (ids_of segments) index 0, frames) ∷ later) × HasFrames image (segment_of (get_or (ids_of segments) index 0)) frames))
split-segments image index [] done same lt are read = absurd (omega arith)
split-segments image zero (s ∷ segments) [] same lt are read = (s.1, (segments, (refl, are.0)))
split-segments image zero (s ∷ segments) (d ∷ done) same lt are read = absurd cc
split-segments image (suc index) (s ∷ segments) [] same lt are read = absurd cc
split-segments image (suc index) (s ∷ segments) (d ∷ done) same lt are read =
    let id : s.0 ≡ d.0 = cc in
    let ids : take index (ids_of segments) ≡ ids_of done = cc in
    let frames : s.1 ≡ d.1 = HasFrames-unique image (segment_of d.0) s.1 d.1 (omega arith) (subst (λ (j : ℕ). HasFrames image (segment_of j) s.1) id are.0) read.0 in
    let rest = split-segments image index segments done ids (omega arith) are.1 read.1 in
    (rest.0, (rest.1.0, ((λ i. (id i, frames i) ∷ rest.1.1.0 i), rest.1.1.1)))

-- the segments that an image carries
pub ids-carried : (image : Image) (sectors : ℕ) (root : Root) (has : Content) → LogAt image sectors root has → root_ids root ≡ ids_of (segments_of has)
ids-carried image sectors root has at = (λ i. at.base_ids i ++ at.tail_ids i) ∙ sym (map-append (λ (s : Filled). s.0) has.base (tails has))

pub stored-carried : (image : Image) (sectors : ℕ) (root : Root) (has : Content) → LogAt image sectors root has → AreStored image (segments_of has)
stored-carried image sectors root has at = AreStored-append image has.base (tails has) at.base at.tail

module _ (image : Image) (sectors : ℕ) (root : Root) (counting : CountingRoot image sectors root) where
  pub HasBadFrame-segment : HasBadSegment image root → HasBadFrame image sectors
  HasBadFrame-segment bad = record {
    root = root;
    counting = counting;
    none = λ n base tail c.
        let same : root ≡ c.root = CountingRoot-unique image sectors root c.root counting c.stored.counting in
        bad (segments_of c.has) (ap root_ids same ∙ ids-carried image sectors c.root c.has c.stored) (stored-carried image sectors c.root c.has c.stored);
  }

  module _ (index pos number : ℕ) (read : Frames) (inside : index < length (root_ids root)) (so_far : IsReadTo image root index pos number read) (n : ℕ) (base tail : Frames) (c : Carries image sectors n base tail) where
    same : root ≡ c.root
    same = CountingRoot-unique image sectors root c.root counting c.stored.counting

    ids : root_ids root ≡ ids_of (segments_of c.has)
    ids = ap root_ids same ∙ ids-carried image sectors c.root c.has c.stored

    abbrev id_there : ℕ
    id_there = get_or (ids_of (segments_of c.has)) index 0

    split-of : (frames : Frames) (later : List Filled) → segments_of c.has ≡ so_far.done ++ (id_there, frames) ∷ later → HasFrames image (segment_of id_there) frames → (rest : Frames) × ((later : List Filled) × (segments_of c.has ≡ so_far.done ++ (id_at root index, so_far.seen ++ rest) ∷ later))
    split-of frames later parts are =
        let here : id_there ≡ id_at root index = ap (λ (l : List ℕ). get_or l index 0) (sym ids) in
        let has : HasFrames image (segment_of (id_at root index)) frames = subst (λ (j : ℕ). HasFrames image (segment_of j) frames) here are in
        let front = Chain-front image (segment_of (id_at root index)) 0 pos so_far.seen frames has.0 (omega arith) so_far.chain has.1.chain has.1.closed in
        (front.0, (later, parts ∙ (λ i. so_far.done ++ (here i, front.1 i) ∷ later)))

    split : (rest : Frames) × ((later : List Filled) × (segments_of c.has ≡ so_far.done ++ (id_at root index, so_far.seen ++ rest) ∷ later))
    split =
        let cut = split-segments image index (segments_of c.has) so_far.done (ap (take index) (sym ids) ∙ so_far.ids_are) (omega (arith, inside, ap length ids)) (stored-carried image sectors c.root c.has c.stored) so_far.stored in
        split-of cut.0 cut.1.0 cut.1.1.0 cut.1.1.1

    -- the frames that were read are the first ones that it carries
    pub read-first : (rest : Frames) × (base ++ tail ≡ read ++ rest)
    read-first =
        let all : base ++ tail ≡ frames_of (segments_of c.has) = (λ i. c.base_frames i ++ c.tail_frames i) ∙ sym (frames_of-append c.has.base (tails c.has)) in
        let later = frames_of split.1.0 in (
          split.0 ++ later,
          all ∙ ap frames_of split.1.1 ∙ frames_of-append so_far.done ((id_at root index, so_far.seen ++ split.0) ∷ split.1.0) ∙ ap (λ (l : Frames). frames_of so_far.done ++ l) (append_assoc so_far.seen split.0 later)
              ∙ sym (append_assoc (frames_of so_far.done) so_far.seen (split.0 ++ later)) ∙ ap (λ (l : Frames). l ++ (split.0 ++ later)) (sym so_far.read_is),
        )

    -- and no more commands than it carries
    pub read-few : number ≤ n
    read-few =
        let tails_are : drop (length root.base) (segments_of c.has) ≡ tails c.has =
        drop_at c.has.base (tails c.has) (length root.base) (sym (ap (λ (r : Root). length r.base) same ∙ ap length c.stored.base_ids ∙ length-map c.has.base (λ (s : Filled). s.0))) in
        let there : counted_after (length root.base) (so_far.done ++ (id_at root index, so_far.seen ++ split.0) ∷ split.1.0) ≡ counted tail =
        ap (counted_after (length root.base)) (sym split.1.1) ∙ ap (λ (l : List Filled). counted (frames_of l)) tails_are ∙ ap counted (sym c.tail_frames) in
        omega (arith, so_far.number_is, counted_after-le (length root.base) so_far.done split.1.0 (id_at root index) so_far.seen split.0, there, c.number, ap (λ (r : Root). r.base_number) same)

  -- a number that is too great is carried by no image
  pub HasBadFrame-number : (index pos number : ℕ) (read : Frames) → index < length (root_ids root) → IsReadTo image root index pos number read → COMMAND_NUMBER_MAX < number → HasBadFrame image sectors
  HasBadFrame-number index pos number read inside so_far great = record {
    root = root;
    counting = counting;
    none = λ n base tail c. absurd (omega (arith, great, read-few index pos number read inside so_far n base tail c, c.in_range));
  }

-- The end of a reading

-- the content of an image of which everything was read
pub record IsWhole (image : Image) (sectors : ℕ) (root : Root) (pos number : ℕ) (read : Frames) (has : Content) : Type 0 where
  pub stored : LogAt image sectors root has
  pub end_is : pos ≡ end_of_frames 0 has.last.1
  pub number_is : number ≡ root.base_number + counted (frames_of (tails has))
  pub read_is : read ≡ frames_of has.base ++ frames_of (tails has)

pub IsWhole-read : (image : Image) (sectors : ℕ) (root : Root) (index pos number : ℕ) (read : Frames) → CountingRoot image sectors root → 1 ≤ length root.tail → index + 1 ≡ length (root_ids root) → IsReadTo image root index pos number read → IsClosed image (first_sector (id_at root index) + pos) → (has : Content) × IsWhole image sectors root pos number read has
IsWhole-read image sectors root index pos number read counting some last so_far closed = (
  has,
  record {
    stored = record {
      counting = counting;
      base_ids = sym (take_at root.base root.tail k refl) ∙ ap (take k) ids ∙ ap (λ (l : List Filled). take k (ids_of l)) parts ∙ ap (take k) (map-append (λ (s : Filled). s.0) has.base (tails has)) ∙ take_at (ids_of has.base) (ids_of (tails has)) k base_long;
      tail_ids = sym (drop_at root.base root.tail k refl) ∙ ap (drop k) ids ∙ ap (λ (l : List Filled). drop k (ids_of l)) parts ∙ ap (drop k) (map-append (λ (s : Filled). s.0) has.base (tails has)) ∙ drop_at (ids_of has.base) (ids_of (tails has)) k base_long;
      base = AreStored-front image has.base (tails has) (subst (AreStored image) parts stored);
      tail = AreStored-back image has.base (tails has) (subst (AreStored image) parts stored);
    };
    end_is = Chain-end image (segment_of (id_at root index)) 0 so_far.seen pos so_far.chain;
    number_is = so_far.number_is ∙ ap (λ (l : List Filled). root.base_number + counted (frames_of l)) (drop-append-le k so_far.done ((id_at root index, so_far.seen) ∷ []) few);
    read_is = read-all image root index pos number read inside so_far ∙ ap frames_of parts ∙ frames_of-append has.base (tails has);
  },
)
  where
    k : ℕ
    k = length root.base

    inside : index < length (root_ids root)
    inside = omega (arith, last)

    long : length so_far.done ≡ index
    long = done_is image root index pos number read inside so_far

    few : k ≤ length so_far.done
    few = omega (arith, long, last, some, length-append root.base root.tail)

    has : Content
    has = record { base = take k so_far.done; sealed = drop k so_far.done; last = (id_at root index, so_far.seen) }

    segments : List Filled
    segments = so_far.done ++ (id_at root index, so_far.seen) ∷ []

    stored : AreStored image segments
    stored = stored-all image root index pos number read inside so_far closed

    ids : root_ids root ≡ ids_of segments
    ids = sym (take_all (index + 1) (root_ids root) (omega (arith, last))) ∙ ids-all image root index pos number read inside so_far

    parts : segments ≡ has.base ++ tails has
    parts = ap (λ (l : List Filled). l ++ (id_at root index, so_far.seen) ∷ []) (sym (take-append-drop k so_far.done)) ∙ append_assoc (take k so_far.done) (drop k so_far.done) ((id_at root index, so_far.seen) ∷ [])

    base_long : length (ids_of has.base) ≡ k
    base_long = length-map (take k so_far.done) (λ (s : Filled). s.0) ∙ length-take k so_far.done ∙ (omega (arith, few))
