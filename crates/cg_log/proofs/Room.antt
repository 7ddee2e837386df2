-- The room of a log: one free segment fewer after a new tail, and when there is room.
use Rattle.std.proofs.Common.{◌≡◌, inl, inr, ℕ, zero, suc, ◌<◌, ◌≤◌, ◌+◌, ◌-◌, Bool, true, false, List, [], ◌∷◌, ◌++◌, refl, ap, sym, ◌∙◌, arith, Result, Ok, Err, MatchResult, ◌≢◌}
use Rattle.std.specs.Prelude.{◌&&◌, ◌||◌, nat_lt, nat_eq, if◌then◌else◌}
use Rattle.std.proofs.lemmas.Bool.{cases_lt}
use Rattle.std.proofs.lemmas.Bool.Decides.{nat_tests}
use Rattle.std.proofs.lemmas.List.Folds.{list_any-append}
use Rattle.std.proofs.Math.Bool.{or-true}
use Rattle.cg_frame.specs.Frames.{next_gate}
use Rattle.cg_gate.specs.Layout.{segment_count}
use Rattle.cg_gate.specs.declared.layout.TheConstants.{SEGMENT_SECTORS}
use Rattle.cg_root.specs.Roots.{root_ids}
use Rattle.cg_root.specs.declared.root_layout.TheConstants.{EPOCH_MAX}
use Rattle.cg_root.specs.declared.root.Root.{Root}
use Rattle.cg_log.specs.Free.{free_below, free_count_of, is_among}
use Rattle.cg_log.specs.Rolled.{IsFullFor, IsNextTail}
use Rattle.cg_log.specs.Room.{HasNext, Room, calls_for, can_roll, fits_tail, has_room, rolled_room, room_after, room_at, room_less}
use Rattle.cg_log.specs.declared.fault.LogFault.{LogFault}
use Rattle.cg_log.specs.declared.fault.LogFault.TheVariants as log_fault

-- ---- free ids

among-other : (k id : ℕ) (ids : List ℕ) → nat_eq k id ≡ false → is_among k (ids ++ id ∷ []) ≡ is_among k ids
among-other k id [] differs = ap (λ (b : Bool). b || false) differs
among-other k id (x ∷ ids) differs = ap (λ (b : Bool). nat_eq k x || b) (among-other k id ids differs)

pub among-last : (id : ℕ) (ids : List ℕ) → is_among id (ids ++ id ∷ []) ≡ true
among-last id [] =
    let same : nat_eq id id ≡ true = grind (arith, nat_tests) in
    ap (λ (b : Bool). b || false) same
among-last id (x ∷ ids) = ap (λ (b : Bool). nat_eq id x || b) (among-last id ids) ∙ or-true (nat_eq id x)

free-step : (a b : Bool) (x y : ℕ) → a ≡ b → x ≡ y → (if a then x else x + 1) ≡ (if b then y else y + 1)
free-step a b x y test same = ap (λ (t : Bool). if t then x else x + 1) test ∙ ap (λ (n : ℕ). if b then n else n + 1) same

less-step : (b : Bool) (x y : ℕ) → x ≡ y + 1 → (if b then x else x + 1) ≡ (if b then y else y + 1) + 1
less-step true x y same = same
less-step false x y same = ap (λ (n : ℕ). n + 1) same

pub free-none : (ids : List ℕ) (n : ℕ) → ((k : ℕ) → k < n → is_among k ids ≡ true) → free_below n ids ≡ 0
unfolding free_below
free-none ids zero all = refl
free-none ids (suc n) all = rw (all n (omega arith)) (free-none ids n (λ k lt. all k (omega arith)))

module _ (ids : List ℕ) (id : ℕ) where
  free-below-same : (n : ℕ) → n ≤ id → free_below n (ids ++ id ∷ []) ≡ free_below n ids
  unfolding free_below
  free-below-same zero le = refl
  free-below-same (suc n) le =
      let differs : nat_eq n id ≡ false = grind (arith, nat_tests) in
      free-step (is_among n (ids ++ id ∷ [])) (is_among n ids) _ _ (among-other n id ids differs) (free-below-same n (omega arith))

  pub free-less : (n : ℕ) → id < n → is_among id ids ≡ false → free_below n ids ≡ free_below n (ids ++ id ∷ []) + 1
  unfolding free_below
  free-less zero lt free = absurd (omega arith)
  free-less (suc n) lt free = elim (cases_lt id n) [
    | inl below ↦
        let differs : nat_eq n id ≡ false = grind (arith, nat_tests) in
        less-step (is_among n ids) _ _ (free-less n below free)
        ∙ ap (λ (b : Bool). (if b then free_below n (ids ++ id ∷ []) else free_below n (ids ++ id ∷ []) + 1) + 1) (sym (among-other n id ids differs))
    | inr le ↦
        let here : n ≡ id = omega arith in
        let named : is_among n (ids ++ id ∷ []) ≡ true = ap (λ k. is_among k (ids ++ id ∷ [])) here ∙ among-last id ids in
        let unnamed : is_among n ids ≡ false = ap (λ k. is_among k ids) here ∙ free in
        ap (λ (b : Bool). if b then free_below n ids else free_below n ids + 1) unnamed
        ∙ ap (λ m. m + 1) (sym (free-below-same n (omega arith)))
        ∙ ap (λ (b : Bool). (if b then free_below n (ids ++ id ∷ []) else free_below n (ids ++ id ∷ []) + 1) + 1) (sym named)
  ]

append-once : (a b : List ℕ) (id : ℕ) → a ++ (b ++ id ∷ []) ≡ (a ++ b) ++ id ∷ []
append-once [] b id = refl
append-once (x ∷ a) b id = ap (λ (l : List ℕ). x ∷ l) (append-once a b id)

or-swap : (a b c : Bool) → ((a || (b || false)) || c) ≡ ((a || c) || (b || false))
or-swap true b c = refl
or-swap false true c = sym (or-true c)
or-swap false false true = refl
or-swap false false false = refl

-- an id may stand before others or after them
among-moved : (k id : ℕ) (xs ys : List ℕ) → is_among k ((xs ++ id ∷ []) ++ ys) ≡ is_among k ((xs ++ ys) ++ id ∷ [])
among-moved k id xs ys =
    list_any-append (nat_eq k) (xs ++ id ∷ []) ys ∙ ap (λ (b : Bool). b || is_among k ys) (list_any-append (nat_eq k) xs (id ∷ []))
    ∙ or-swap (is_among k xs) (nat_eq k id) (is_among k ys)
    ∙ ap (λ (b : Bool). b || (nat_eq k id || false)) (sym (list_any-append (nat_eq k) xs ys)) ∙ sym (list_any-append (nat_eq k) (xs ++ ys) (id ∷ []))

pub free-as : (xs ys : List ℕ) → ((k : ℕ) → is_among k xs ≡ is_among k ys) → (n : ℕ) → free_below n xs ≡ free_below n ys
unfolding free_below
free-as xs ys same zero = refl
free-as xs ys same (suc n) = free-step (is_among n xs) (is_among n ys) _ _ (same n) (free-as xs ys same n)

-- ---- a new tail

-- a new tail takes one free segment and one root
pub next-segments : (sectors : ℕ) (fresh : List ℕ) (current next : Root) (id : ℕ) → IsNextTail sectors (root_ids current ++ fresh) current id next
    → free_count_of sectors (root_ids current ++ fresh) ≡ free_count_of sectors (root_ids next ++ fresh) + 1
next-segments sectors fresh current next id is =
    let ids : root_ids next ≡ root_ids current ++ id ∷ [] =
    ap (λ b. b ++ next.tail) is.more.base ∙ ap (λ t. current.base ++ t) is.more.tail ∙ append-once current.base current.tail id in
    free-less (root_ids current ++ fresh) id (segment_count sectors) is.free.below is.free.free
    ∙ ap (λ (n : ℕ). n + 1) (sym (free-as ((root_ids current ++ id ∷ []) ++ fresh) ((root_ids current ++ fresh) ++ id ∷ []) (λ k. among-moved k id (root_ids current) fresh) (segment_count sectors)))
    ∙ ap (λ (l : List ℕ). free_count_of sectors (l ++ fresh) + 1) (sym ids)

module _ (sectors : ℕ) (taken : List ℕ) (current : Root) where
  pub can-next : (end : ℕ) → HasNext sectors taken current → can_roll (room_at sectors taken current end) ≡ true
  unfolding can_roll
  can-next end has =
      let some = free-less taken has.id (segment_count sectors) has.free.below has.free.free in
      let segment : nat_lt 0 (free_count_of sectors taken) ≡ true = grind (arith, nat_tests) in
      let epoch : nat_lt 0 (EPOCH_MAX - current.epoch) ≡ true = grind (arith, nat_tests, has.epoch) in
      rw (segment, epoch) refl

  pub cannot-full : (end : ℕ) → IsFullFor sectors taken current → can_roll (room_at sectors taken current end) ≡ false
  unfolding can_roll
  cannot-full end (inl none) =
      let no_segment = free-none taken (segment_count sectors) none in
      rw no_segment refl
  cannot-full end (inr last) =
      let no_root : EPOCH_MAX - current.epoch ≡ 0 = omega (arith, last) in
      no_more (nat_lt 0 (free_count_of sectors taken)) (EPOCH_MAX - current.epoch) no_root
    where
      no_more : (b : Bool) (n : ℕ) → n ≡ 0 → (b && nat_lt 0 n) ≡ false
      no_more true n none = ap (λ m. nat_lt 0 m) none
      no_more false n none = refl

pub room-rolled : (sectors : ℕ) (fresh : List ℕ) (current next : Root) (id end : ℕ) → IsNextTail sectors (root_ids current ++ fresh) current id next → room_at sectors (root_ids next ++ fresh) next 0 ≡ rolled_room (room_at sectors (root_ids current ++ fresh) current end)
room-rolled sectors fresh current next id end is =
    let segments : free_count_of sectors (root_ids next ++ fresh) ≡ free_count_of sectors (root_ids current ++ fresh) - 1 = omega (arith, next-segments sectors fresh current next id is) in
    let roots : EPOCH_MAX - next.epoch ≡ EPOCH_MAX - current.epoch - 1 = omega (arith, is.more.epoch) in
    let same : Room → Room = λ r. r in
    ap (λ (s : ℕ). same (record { sectors = SEGMENT_SECTORS; segments = s; roots = EPOCH_MAX - next.epoch })) segments
    ∙ ap (λ (r : ℕ). same (record { sectors = SEGMENT_SECTORS; segments = free_count_of sectors (root_ids current ++ fresh) - 1; roots = r })) roots

-- ---- an append

module _ (sectors : ℕ) (taken : List ℕ) (root : Root) (end bytes : ℕ) where
  pub fits-tail : next_gate end bytes < SEGMENT_SECTORS → fits_tail (room_at sectors taken root end) bytes ≡ true
  unfolding fits_tail
  fits-tail fits = grind (arith, nat_tests, fits)

  pub fits-none : SEGMENT_SECTORS ≤ next_gate end bytes → fits_tail (room_at sectors taken root end) bytes ≡ false
  unfolding fits_tail
  fits-none past = grind (arith, nat_tests, past)

  pub has-room-tail : next_gate end bytes < SEGMENT_SECTORS → has_room (room_at sectors taken root end) bytes ≡ true
  unfolding has_room
  has-room-tail fits = rw (fits-tail fits) refl

  pub has-room-next : SEGMENT_SECTORS ≤ next_gate end bytes → HasNext sectors taken root → has_room (room_at sectors taken root end) bytes ≡ true
  unfolding has_room
  has-room-next past has = rw (fits-none past, can-next sectors taken root end has) refl

  pub has-no-room : SEGMENT_SECTORS ≤ next_gate end bytes → IsFullFor sectors taken root → has_room (room_at sectors taken root end) bytes ≡ false
  unfolding has_room
  has-no-room past full = rw (fits-none past, cannot-full sectors taken root end full) refl

  pub calls-tail : next_gate end bytes < SEGMENT_SECTORS → calls_for (room_at sectors taken root end) bytes ≡ 4
  unfolding calls_for
  calls-tail fits = rw (fits-tail fits) refl

  pub calls-next : SEGMENT_SECTORS ≤ next_gate end bytes → calls_for (room_at sectors taken root end) bytes ≡ 12
  unfolding calls_for
  calls-next past = rw (fits-none past) refl

  pub room-tail : next_gate end bytes < SEGMENT_SECTORS → room_at sectors taken root (next_gate end bytes) ≡ room_after (room_at sectors taken root end) bytes
  unfolding room_after
  room-tail fits =
      let left : SEGMENT_SECTORS - next_gate end bytes ≡ SEGMENT_SECTORS - end - next_gate 0 bytes = omega arith in
      let same : Room → Room = λ r. r in
      rw (fits-tail fits)
      (ap (λ (s : ℕ). same (record { sectors = s; segments = free_count_of sectors taken; roots = EPOCH_MAX - root.epoch })) left)

pub room-next : (sectors : ℕ) (fresh : List ℕ) (root : Root) (end bytes : ℕ) (next : Root) (id : ℕ) → SEGMENT_SECTORS ≤ next_gate end bytes → IsNextTail sectors (root_ids root ++ fresh) root id next
    → room_at sectors (root_ids next ++ fresh) next (next_gate 0 bytes) ≡ room_after (room_at sectors (root_ids root ++ fresh) root end) bytes
unfolding room_after
room-next sectors fresh root end bytes next id past is = rw (fits-none sectors (root_ids root ++ fresh) root end bytes past) (ap (λ (r : Room). room_less r bytes) (room-rolled sectors fresh root next id end is))

-- of every result
pub always : {T : Type 0} (X : Type 0) (result : Result T LogFault) → X
    → MatchResult result (λ x. X) (λ fault. fault ≢ log_fault.Failed → fault ≢ log_fault.Full → X)
always X (Ok x) is = is
always X (Err fault) is = λ failed full. is
