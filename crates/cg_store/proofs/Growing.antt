-- A content that grows after its last frame: what is before a cut stays, and so does a position.
use Rattle.std.proofs.Common.{◌≡◌, inl, inr, ℕ, zero, suc, ◌+◌, ◌<◌, ◌≤◌, Bool, true, false, cond, List, [], ◌∷◌, ◌++◌, length, take, drop, sym, ap, ◌∙◌, subst, refl, arith, append_assoc, append-nil, Result, Ok, Err, Some}
use Rattle.std.specs.Prelude.{nat_eq, ◌||◌, OnOk, OnErr}
use Rattle.std.proofs.lemmas.List.{drop-append-le, length-append, map-append, take-append-le}
use Rattle.std.proofs.lemmas.Bool.Decides.{nat_tests}
use Rattle.std.proofs.lemmas.List.Folds.{list_any-append}
use Rattle.cg_log.specs.Carried.{Content, segments_of, tails}
use Rattle.cg_log.specs.Cursors.{IsAfter, frames_at, index_of, segment_index, segments_before, tails_before, tails_from}
use Rattle.cg_log.specs.Free.{is_among}
use Rattle.cg_log.specs.Rolled.{IsAppended}
use Rattle.cg_log.specs.Segments.{Filled, Frames, counted, frames_of, ids_of}
use Rattle.cg_log.proofs.Filled.{frames_of-append, frames_of-push, ids_of-push, length-ids}
use Rattle.cg_log.proofs.Found.{counted-append}
use Rattle.cg_log.proofs.Taken.{index_of-below}
use Rattle.cg_store.specs.Compacting.{IsCut, IsFolding}
use Rattle.cg_store.specs.declared.compaction.Cut.{Cut}
use Rattle.cg_store.specs.declared.compaction.Reading.{Reading}

-- ---- a number that grows, or stays

pub not-fewer : {T E : Type 0} (r : Result T E) (old new count : ℕ) → OnOk r (new ≡ old + count) → OnErr r (new ≡ old) → old ≤ new
not-fewer (Ok x) old new count more same = omega (arith, more)
not-fewer (Err e) old new count more same = omega (arith, same)

-- ---- the index of an id

more-step : (b c : Bool) (n m : ℕ) → (b || c) ≡ true → (c ≡ true → n ≡ m) → cond b 0 (1 + n) ≡ cond b 0 (1 + m)
more-step true c n m is rest = refl
more-step false c n m is rest = ap (λ (k : ℕ). 1 + k) (rest is)

pub index_of-more : (id : ℕ) (ids more : List ℕ) → is_among id ids ≡ true → index_of id (ids ++ more) ≡ index_of id ids
index_of-more id [] more is = absurd (cc)
index_of-more id (x ∷ ids) more is = more-step (nat_eq id x) (is_among id ids) (index_of id (ids ++ more)) (index_of id ids) is (λ there. index_of-more id ids more there)

last-step : (b c : Bool) (n m : ℕ) → (b || c) ≡ false → (c ≡ false → n ≡ m) → cond b 0 (1 + n) ≡ suc m
last-step true c n m none rest = absurd (cc)
last-step false c n m none rest = omega (arith, rest none)

pub index_of-last : (id : ℕ) (ids : List ℕ) → is_among id ids ≡ false → index_of id (ids ++ id ∷ []) ≡ length ids
index_of-last id [] none =
    let same : nat_eq id id ≡ true = grind (arith, nat_tests) in
    ap (λ (b : Bool). cond b 0 1) same
index_of-last id (x ∷ ids) none = last-step (nat_eq id x) (is_among id ids) (index_of id (ids ++ id ∷ [])) (length ids) none (λ other. index_of-last id ids other)

pub is_among-more : (id : ℕ) (ids more : List ℕ) → is_among id ids ≡ true → is_among id (ids ++ more) ≡ true
is_among-more id ids more is = list_any-append (nat_eq id) ids more ∙ ap (λ (b : Bool). b || is_among id more) is

-- ---- positions

-- the segment at an index begins with the frames that it had, and those before it are the same
record GrownAt (old new : List Filled) (index : ℕ) : Type 0 where
  pub extra : Frames
  pub frames : frames_at new index ≡ frames_at old index ++ extra
  pub front : take index new ≡ take index old

grown-at : (A : List Filled) (id : ℕ) (fs more : Frames) (others : List Filled) (index : ℕ) → index < length (A ++ (id, fs) ∷ []) → GrownAt (A ++ (id, fs) ∷ []) (A ++ (id, fs ++ more) ∷ others) index
grown-at [] id fs more others zero lt = record { extra = more; frames = refl; front = refl }
grown-at [] id fs more others (suc i) lt = absurd (omega arith)
grown-at (s ∷ A) id fs more others zero lt = record { extra = []; frames = sym (append-nil s.1); front = refl }
grown-at (s ∷ A) id fs more others (suc i) lt =
    let rest = grown-at A id fs more others i (omega arith) in
    record { extra = rest.extra; frames = rest.frames; front = ap (λ (l : List Filled). s ∷ l) rest.front }

IsAfter-grown : (old new : List Filled) (index pos : ℕ) (read : Frames) → GrownAt old new index → IsAfter old index pos read → IsAfter new index pos read
IsAfter-grown old new index pos read grown at = record {
  seen = at.seen;
  rest = at.rest ++ grown.extra;
  here = grown.frames ∙ ap (λ (l : Frames). l ++ grown.extra) at.here ∙ append_assoc at.seen at.rest grown.extra;
  pos_is = at.pos_is;
  read_is = at.read_is ∙ ap (λ (l : List Filled). frames_of l ++ at.seen) (sym grown.front);
}

-- ---- contents

-- the last tail has more frames, and others may follow it: these are added
pub record Grown (has new : Content) (added : Frames) : Type 0 where
  pub base : new.base ≡ has.base
  pub more : Frames
  pub others : List Filled
  pub tails_are : tails new ≡ has.sealed ++ (has.last.0, has.last.1 ++ more) ∷ others
  pub added_is : more ++ frames_of others ≡ added

pub Grown-same : (has : Content) → Grown has has []
Grown-same has = record {
  base = refl;
  more = [];
  others = [];
  tails_are = ap (λ (l : Frames). has.sealed ++ (has.last.0, l) ∷ []) (sym (append-nil has.last.1));
  added_is = refl;
}

pub Grown-appended : (has : Content) (count : ℕ) (payload : List ℕ) (new : Content) → IsAppended has count payload new → Grown has new ((count, payload) ∷ [])
Grown-appended has count payload new (inl same) = record {
  base = ap (λ (c : Content). c.base) same;
  more = (count, payload) ∷ [];
  others = [];
  tails_are = ap tails same;
  added_is = refl;
}
Grown-appended has count payload new (inr at) = record {
  base = ap (λ (c : Content). c.base) at.1;
  more = [];
  others = (at.0, (count, payload) ∷ []) ∷ [];
  tails_are = ap tails at.1 ∙ append_assoc has.sealed (has.last ∷ []) ((at.0, (count, payload) ∷ []) ∷ [])
      ∙ ap (λ (l : Frames). has.sealed ++ (has.last.0, l) ∷ (at.0, (count, payload) ∷ []) ∷ []) (sym (append-nil has.last.1));
  added_is = refl;
}

-- what a tail's id says: its index is at most that of the last
module _ (id : ℕ) (has : Content) (is : is_among id (ids_of (tails has)) ≡ true) where
  pub index-inside : index_of id (ids_of (tails has)) ≤ length has.sealed
  index-inside = omega (arith, index_of-below id (ids_of (tails has)) is, length-ids (tails has), length-append has.sealed (has.last ∷ []))

  pub tails_from-split : tails_from id has ≡ drop (index_of id (ids_of (tails has))) has.sealed ++ has.last ∷ []
  tails_from-split = drop-append-le (index_of id (ids_of (tails has))) has.sealed (has.last ∷ []) index-inside

module _ (id : ℕ) (has new : Content) (added : Frames) (is : is_among id (ids_of (tails has)) ≡ true) (grown : Grown has new added) where
  abbrev at : ℕ
  at = index_of id (ids_of (tails has))

  abbrev last : Filled
  last = (has.last.0, has.last.1 ++ grown.more)

  new_ids : ids_of (tails new) ≡ ids_of (tails has) ++ ids_of grown.others
  new_ids =
      ap ids_of grown.tails_are ∙ map-append (λ (s : Filled). s.0) has.sealed (last ∷ grown.others)
      ∙ sym (append_assoc (ids_of has.sealed) (has.last.0 ∷ []) (ids_of grown.others))
      ∙ ap (λ (l : List ℕ). l ++ ids_of grown.others) (sym (ids_of-push has.sealed has.last.0 has.last.1))

  pub is_among-grown : is_among id (ids_of (tails new)) ≡ true
  is_among-grown = ap (is_among id) new_ids ∙ is_among-more id (ids_of (tails has)) (ids_of grown.others) is

  same_index : index_of id (ids_of (tails new)) ≡ at
  same_index = ap (index_of id) new_ids ∙ index_of-more id (ids_of (tails has)) (ids_of grown.others) is

  before_same : tails_before id new ≡ tails_before id has
  before_same =
      (λ i. take (same_index i) (grown.tails_are i))
      ∙ take-append-le at has.sealed (last ∷ grown.others) (index-inside id has is)
      ∙ sym (take-append-le at has.sealed (has.last ∷ []) (index-inside id has is))

  pub before-grown : frames_of (segments_before (Some id) new) ≡ frames_of (segments_before (Some id) has)
  before-grown = λ i. frames_of (grown.base i ++ before_same i)

  from_is : tails_from id new ≡ drop at has.sealed ++ last ∷ grown.others
  from_is = (λ i. drop (same_index i) (grown.tails_are i)) ∙ drop-append-le at has.sealed (last ∷ grown.others) (index-inside id has is)

  pub counted-grown : counted (frames_of (tails_from id new)) ≡ counted (frames_of (tails_from id has)) + counted added
  counted-grown =
      let front = frames_of (drop at has.sealed) in
      let new_frames : frames_of (tails_from id new) ≡ front ++ ((has.last.1 ++ grown.more) ++ frames_of grown.others) =
      ap frames_of from_is ∙ frames_of-append (drop at has.sealed) (last ∷ grown.others) ∙ ap (λ (l : Frames). front ++ l) (frames_of-append (last ∷ []) grown.others ∙ ap (λ (l : Frames). l ++ frames_of grown.others) (append-nil last.1)) in
      let old_frames : frames_of (tails_from id has) ≡ front ++ has.last.1 = ap frames_of (tails_from-split id has is) ∙ frames_of-push (drop at has.sealed) has.last.0 has.last.1 in
      omega (
        arith,
        ap counted new_frames,
        ap counted old_frames,
        counted-append front ((has.last.1 ++ grown.more) ++ frames_of grown.others),
        counted-append (has.last.1 ++ grown.more) (frames_of grown.others),
        counted-append has.last.1 grown.more,
        counted-append front has.last.1,
        counted-append grown.more (frames_of grown.others),
        ap counted grown.added_is,
      )

-- ---- a cut, and a compaction that reads

pub IsCut-grown : (cut : Cut) (has new : Content) (added : Frames) (number : ℕ) → Grown has new added → IsCut cut has number → IsCut cut new (number + counted added)
IsCut-grown cut has new added number grown is = record {
  is_tail = is_among-grown cut.id has new added is.is_tail grown;
  number_is = omega (arith, is.number_is, counted-grown cut.id has new added is.is_tail grown);
}

-- the segments of a content, with the last apart
segments-apart : (base sealed : List Filled) (last : Filled) (others : List Filled) → base ++ (sealed ++ last ∷ others) ≡ (base ++ sealed) ++ last ∷ others
segments-apart base sealed last others = sym (append_assoc base sealed (last ∷ others))

module _ (has new : Content) (added : Frames) (grown : Grown has new added) where
  segments-grown : segments_of new ≡ (has.base ++ has.sealed) ++ (has.last.0, has.last.1 ++ grown.more) ∷ grown.others
  segments-grown = (λ i. grown.base i ++ grown.tails_are i) ∙ segments-apart has.base has.sealed (has.last.0, has.last.1 ++ grown.more) grown.others

  segments-had : segments_of has ≡ (has.base ++ has.sealed) ++ has.last ∷ []
  segments-had = segments-apart has.base has.sealed has.last []

  index-grown : (index : ℕ) → index < length (segments_of has) → index < length (segments_of new)
  index-grown index inside =
      let front = has.base ++ has.sealed in
      omega (arith, inside, ap length segments-grown, ap length segments-had, length-append front (has.last ∷ []), length-append front ((has.last.0, has.last.1 ++ grown.more) ∷ grown.others))

  at-grown : (index pos : ℕ) (read : Frames) → index < length (segments_of has) → IsAfter (segments_of has) index pos read → IsAfter (segments_of new) index pos read
  at-grown index pos read inside after =
      let front = has.base ++ has.sealed in
      let lt : index < length (front ++ has.last ∷ []) = subst (λ (l : List Filled). index < length l) segments-had inside in
      let old : IsAfter (front ++ has.last ∷ []) index pos read = subst (λ (l : List Filled). IsAfter l index pos read) segments-had after in
      let now = IsAfter-grown (front ++ has.last ∷ []) (front ++ (has.last.0, has.last.1 ++ grown.more) ∷ grown.others) index pos read (grown-at front has.last.0 has.last.1 grown.more grown.others index lt) old in
      subst (λ (l : List Filled). IsAfter l index pos read) (sym segments-grown) now

  pub IsFolding-grown : (number : ℕ) (left : Frames) (reading : Reading) → IsFolding has number left reading → IsFolding new (number + counted added) left reading
  IsFolding-grown number left reading is = record {
    cut = IsCut-grown reading.cut has new added number grown is.cut;
    read = is.read;
    before = before-grown reading.cut.id has new added is.cut.is_tail grown ∙ is.before;
    at = at-grown reading.cursor.segment reading.cursor.pos is.read is.inside is.at;
    inside = index-grown (segment_index reading.cursor) is.inside;
    spelled = is.spelled;
  }
