-- The room of a store whose compaction begins, writes and ends, and the refusals of its calls.
use Rattle.std.proofs.Common.{◌≡◌, ◌≢◌, ◌⊎◌, inl, inr, ℕ, zero, suc, ◌+◌, ◌-◌, Bool, true, false, List, [], ◌∷◌, ◌++◌, ap, sym, ◌∙◌, subst, refl, arith, Ok, Err, append_assoc}
use Rattle.std.specs.Prelude.{nat_lt}
use Rattle.std.proofs.lemmas.Bool.Decides.{nat_tests}
use Rattle.cg_gate.specs.Layout.{segment_count}
use Rattle.cg_gate.specs.declared.layout.TheConstants.{SEGMENT_SECTORS}
use Rattle.cg_root.specs.declared.root.Root.{Root}
use Rattle.cg_log.specs.Free.{NoneIsFree, free_count_of}
use Rattle.cg_log.specs.Rolled.{IsFullFor}
use Rattle.cg_log.specs.Room.{HasNext, Room, rolled_room, room_at}
use Rattle.cg_log.proofs.Room.{can-next, cannot-full, free-less, free-none}
use Rattle.cg_store.specs.Compacting.{IsTakenFrom}
use Rattle.cg_store.specs.Phases.{abort_result, begun_room, can_begin}
use Rattle.cg_store.specs.declared.fault.CompactFault.TheVariants as compact_fault
use Rattle.cg_store.specs.declared.phase.Phase.{Phase}
use Rattle.cg_store.specs.declared.phase.Phase.TheVariants.{Idle, Reading, Writing, Ready}
use Rattle.cg_store.specs.declared.phase.Progress.TheVariants.{Done}

-- ---- a beginning

module _ (sectors : ℕ) (taken : List ℕ) (root : Root) where
  pub can-begin : (end : ℕ) → (end ≢ 0 → HasNext sectors taken root) → can_begin (room_at sectors taken root end) ≡ true
  unfolding can_begin
  can-begin zero has = refl
  can-begin (suc end) has =
      let yes : nat_lt (SEGMENT_SECTORS - suc end) SEGMENT_SECTORS ≡ true = grind (arith, nat_tests) in
      rw yes (can-next sectors taken root (suc end) (has (omega arith)))

  pub cannot-begin : (end : ℕ) → end ≢ 0 → IsFullFor sectors taken root → can_begin (room_at sectors taken root end) ≡ false
  unfolding can_begin
  cannot-begin end some full =
      let yes : nat_lt (SEGMENT_SECTORS - end) SEGMENT_SECTORS ≡ true = grind (arith, nat_tests) in
      rw yes (cannot-full sectors taken root end full)

  pub begun-room : (end : ℕ) (new : Room) → (end ≡ 0 → new ≡ room_at sectors taken root end) → (end ≢ 0 → new ≡ rolled_room (room_at sectors taken root end)) → new ≡ begun_room (room_at sectors taken root end)
  unfolding begun_room
  begun-room zero new same rolled = same refl
  begun-room (suc end) new same rolled =
      let yes : nat_lt (SEGMENT_SECTORS - suc end) SEGMENT_SECTORS ≡ true = grind (arith, nat_tests) in
      rw yes (rolled (omega arith))

module _ (sectors size : ℕ) (size_is : sectors ≡ size) (taken : List ℕ) (root : Root) (end : ℕ) where
  pub clear-begin : (end ≢ 0 → HasNext size taken root) → can_begin (room_at sectors taken root end) ≡ true
  clear-begin has = can-begin sectors taken root end (subst (λ (s : ℕ). end ≢ 0 → HasNext s taken root) (sym size_is) has)

  pub full-begin : end ≢ 0 → IsFullFor size taken root → can_begin (room_at sectors taken root end) ≡ false
  full-begin some full = cannot-begin sectors taken root end some (subst (λ (s : ℕ). IsFullFor s taken root) (sym size_is) full)

  pub room-begun : (size' : ℕ) (taken' : List ℕ) (root' : Root) (end' : ℕ) → size' ≡ size → (end ≡ 0 → (taken' ≡ taken) × (root' ≡ root) × (end' ≡ end))
      → (end ≢ 0 → room_at size' taken' root' end' ≡ rolled_room (room_at size taken root end)) → room_at sectors taken' root' end' ≡ begun_room (room_at sectors taken root end)
  room-begun size' taken' root' end' same stays rolled =
      let all : end ≢ 0 → room_at sectors taken' root' end' ≡ rolled_room (room_at sectors taken root end) =
      λ some. (λ i. room_at ((size_is ∙ sym same) i) taken' root' end') ∙ rolled some ∙ (λ i. rolled_room (room_at (sym size_is i) taken root end)) in
      begun-room sectors taken root end (room_at sectors taken' root' end') (λ none. let was = stays none in λ i. room_at sectors (was.0 i) (was.1 i) (was.2 i)) all

-- ---- a frame that is written

pub none-free : (sectors size : ℕ) (taken : List ℕ) → sectors ≡ size → NoneIsFree size taken → free_count_of sectors taken ≡ 0
none-free sectors size taken size_is none = ap (λ (s : ℕ). free_count_of s taken) size_is ∙ free-none taken (segment_count size) none

-- at most one segment is taken
pub free-taken : (sectors : ℕ) (named old new : List ℕ) → IsTakenFrom sectors (named ++ old) old new
    → (free_count_of sectors (named ++ new) ≡ free_count_of sectors (named ++ old)) ⊎ (free_count_of sectors (named ++ new) + 1 ≡ free_count_of sectors (named ++ old))
free-taken sectors named old new (inl same) = inl (ap (λ (l : List ℕ). free_count_of sectors (named ++ l)) same)
free-taken sectors named old new (inr more) =
    let ids : named ++ new ≡ (named ++ old) ++ more.0 ∷ [] = ap (λ (l : List ℕ). named ++ l) more.1.1 ∙ sym (append_assoc named old (more.0 ∷ [])) in
    inr (ap (λ (l : List ℕ). free_count_of sectors l + 1) ids ∙ sym (free-less (named ++ old) more.0 (segment_count sectors) more.1.0.below more.1.0.free))

-- ---- an abort

done-so : (p : Phase) → p ≢ Idle → Ok Done ≡ abort_result false p
unfolding abort_result
done-so Idle other = absurd (other refl)
done-so Reading other = refl
done-so Writing other = refl
done-so Ready other = refl

module _ (failed : Bool) (phase : Phase) where
  pub abort-failed : failed ≡ true → Err compact_fault.Failed ≡ abort_result failed phase
  unfolding abort_result
  abort-failed is = rw is

  pub abort-idle : failed ≡ false → phase ≡ Idle → Err compact_fault.WrongPhase ≡ abort_result failed phase
  unfolding abort_result
  abort-idle is idle = rw (is, idle)

  pub abort-done : failed ≡ false → phase ≢ Idle → Ok Done ≡ abort_result failed phase
  abort-done is other = rw is (done-so phase other)
