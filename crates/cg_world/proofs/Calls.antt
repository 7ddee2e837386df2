-- A call of a compaction, by its result.
use Rattle.std.proofs.Common.{◌≡◌, ◌≢◌, inl, inr, ◌⊎◌, ℕ, ◌+◌, ◌-◌, ◌<◌, Bool, true, false, List, [], Option, None, Some, IfErr, IfOk, Ok, Err, Result, refl, sym, ap, ◌∙◌, subst, arith}
use Rattle.std.specs.Prelude.{if◌then◌else◌, not, nat_lt, IfSome, IsErrOf, MatchResult, OnOk}
use Rattle.std.proofs.lemmas.Bool.{false≢true, lt-ltb}
use Rattle.cg_disk.specs.Disk.{History, LeavesOnly}
use Rattle.cg_fold.specs.Durable.{State as Durable}
use Rattle.cg_log.specs.Room.{Room}
use Rattle.cg_log.specs.Switched.{IsSwitchedRoot}
use Rattle.cg_store.specs.Carried.{Carries}
use Rattle.cg_store.specs.Compacting.{cut_in, phase_in}
use Rattle.cg_store.specs.Phases.{IsCompactFaultOf, IsEnd, begun_room, can_begin, is_phase, phase_after, phase_refusal}
use Rattle.cg_store.specs.Store.{IsUnchanged, StandsAt, cut_of, disk_of, fresh_of, front_of, has_failed, phase_of, room_of, root_of, sectors_of}
use Rattle.cg_store.specs.declared.compaction.Compaction.{Compaction}
use Rattle.cg_store.specs.declared.compaction.Compaction.TheVariants as compaction
use Rattle.cg_store.specs.declared.compaction.Cut.{Cut}
use Rattle.cg_store.specs.declared.fault.CompactFault.{CompactFault}
use Rattle.cg_store.specs.declared.fault.CompactFault.TheVariants as fault
use Rattle.cg_store.specs.declared.phase.Phase.{Phase}
use Rattle.cg_store.specs.declared.phase.Phase.TheVariants.{Idle, Reading, Writing, Ready}
use Rattle.cg_store.specs.declared.phase.Progress.{Progress}
use Rattle.cg_store.specs.declared.phase.Progress.TheVariants as progress
use Rattle.cg_store.specs.declared.store.Store.{Store}
use Rattle.cg_desk.specs.Desks.{State, numbered_of, settled_of, failing_on}
use Rattle.cg_desk.specs.Desks as desk
use Rattle.cg_desk.specs.declared.outgoing.Outgoing.{Outgoing}
use Rattle.cg_world.specs.Agreeing.{Agree, is_serving}
use Rattle.cg_world.specs.Faults.{is_failure}
use Rattle.cg_world.specs.Orderly.{IsOrderlyAt}
use Rattle.cg_world.specs.Sights.{Sight, no_room, room_left, sight, store_of}
use Rattle.cg_world.specs.Steps.{IsTaken}
use Rattle.cg_world.specs.StoreTurns.{HasOneLess, HasSameTail, IsPhaseNote, IsReadRoom, IsRoomNote, IsRoomThen, IsStartedRoom, IsStoreNote, IsSwitchedRoom, IsWriteNote, IsWrittenRoom, is_read_without_room, note_of_call, phase_then, phase_with, refusal_in}
use Rattle.cg_world.specs.Transits.{is_appended}
use Rattle.cg_world.specs.Turns.{IsCompactNote, IsNoteOf, compacted, turn}
use Rattle.cg_world.specs.declared.step.Step.TheVariants.{CompactStart, CompactRead, CompactWrite, CompactSwitch}
use Rattle.cg_world.specs.declared.step.StepNote.{StepNote}
use Rattle.cg_world.specs.declared.step.StepNote.TheVariants.{Done, More, NoRoom, WrongPhase, Failed, Device}
use Rattle.cg_world.specs.declared.transit.Transit.{Transit}
use Rattle.cg_world.specs.declared.transit.Transit.TheVariants.{Empty}
use Rattle.cg_world.specs.declared.world.World.{World}
use Rattle.cg_world.proofs.Leaving.{failed-orderly}
use Rattle.cg_world.proofs.Moving.{failed-agrees, failed-is, failed-turn}
use Rattle.cg_world.proofs.Steps.{compact-step}

some-is : (a b : StepNote) → Some a ≡ Some b → a ≡ b
some-is a b is = cc

-- what holds of each result holds of each note
by-note : (P : StepNote → Type 0) (R : Result Progress CompactFault → Type 0) (r : Result Progress CompactFault) (note : StepNote) → note_of_call r ≡ Some note → R r
    → (R (Ok progress.More) → P More) → (R (Ok progress.Done) → P Done) → (R (Err fault.Device) → P Device) → (R (Err fault.NoRoom) → P NoRoom) → (R (Err fault.WrongPhase) → P WrongPhase)
    → (R (Err fault.Failed) → P Failed) → P note
by-note P R (Ok progress.More) note is h more done device no_room wrong failed = subst P (some-is More note is) (more h)
by-note P R (Ok progress.Done) note is h more done device no_room wrong failed = subst P (some-is Done note is) (done h)
by-note P R (Err fault.Memory) note is h more done device no_room wrong failed = absurd (cc (is))
by-note P R (Err fault.Device) note is h more done device no_room wrong failed = subst P (some-is Device note is) (device h)
by-note P R (Err fault.NoRoom) note is h more done device no_room wrong failed = subst P (some-is NoRoom note is) (no_room h)
by-note P R (Err fault.WrongPhase) note is h more done device no_room wrong failed = subst P (some-is WrongPhase note is) (wrong h)
by-note P R (Err fault.Failed) note is h more done device no_room wrong failed = subst P (some-is Failed note is) (failed h)

-- the refusal of a call: Failed, WrongPhase, or none
refused : Bool → Bool → Option CompactFault
refused failed same = if failed then Some fault.Failed else (if same then None else Some fault.WrongPhase)

end-none : (failed same : Bool) (f : CompactFault) → f ≢ fault.Failed → f ≢ fault.WrongPhase → IsCompactFaultOf (refused failed same) f → refused failed same ≡ None
unfolding refused
end-none true same f a b h = absurd (a h)
end-none false true f a b h = refl
end-none false false f a b h = absurd (b h)

wrong-is : (failed same : Bool) → IsCompactFaultOf (refused failed same) fault.WrongPhase → refused failed same ≡ Some fault.WrongPhase
unfolding refused
wrong-is true same h = absurd (cc (h))
wrong-is false true (inl h) = absurd (cc (h))
wrong-is false true (inr (inl h)) = absurd (cc (h))
wrong-is false true (inr (inr h)) = absurd (cc (h))
wrong-is false false h = refl

failed-is-told : (failed same : Bool) → IsCompactFaultOf (refused failed same) fault.Failed → refused failed same ≡ Some fault.Failed
unfolding refused
failed-is-told true same h = refl
failed-is-told false true (inl h) = absurd (cc (h))
failed-is-told false true (inr (inl h)) = absurd (cc (h))
failed-is-told false true (inr (inr h)) = absurd (cc (h))
failed-is-told false false h = absurd (cc (h))

none-serves : (failed same : Bool) → refused failed same ≡ None → failed ≡ false
unfolding refused
none-serves true same h = absurd (cc (h))
none-serves false same h = refl

wrong-serves : (failed same : Bool) → refused failed same ≡ Some fault.WrongPhase → failed ≡ false
unfolding refused
wrong-serves true same h = absurd (cc (h))
wrong-serves false same h = refl

failed-fails : (failed same : Bool) → refused failed same ≡ Some fault.Failed → failed ≡ true
unfolding refused
failed-fails true same h = refl
failed-fails false true h = absurd (cc (h))
failed-fails false false h = absurd (cc (h))

-- what the contract of the store says of each call
pub record Call (failed failed_now : Bool) (wanted next phase phase_now : Phase) (r : Result Progress CompactFault) : Type 0 where
  pub phase_is : phase_now ≡ phase_after next phase r
  pub told : MatchResult r (λ _. phase_refusal failed wanted phase ≡ None) (λ f. IsCompactFaultOf (phase_refusal failed wanted phase) f)
  pub serves : MatchResult r (λ _. failed_now ≡ false) (λ f. f ≢ fault.Device → failed_now ≡ failed)
  pub broken : r ≡ Err fault.Device → failed_now ≡ true

module _ (failed failed_now : Bool) (wanted next phase phase_now : Phase) where
  R : Result Progress CompactFault → Type 0
  R r = Call failed failed_now wanted next phase phase_now r

  abbrev refusal : Option CompactFault
  refusal = phase_refusal failed wanted phase

  free : refusal ≡ None → failed ≡ false
  unfolding refused
  free none = none-serves failed (is_phase wanted phase) none

  done-free : (p : Progress) → Call failed failed_now wanted next phase phase_now (Ok p) → (failed ≡ false) × (failed_now ≡ false)
  done-free p h = (free h.told, h.serves)

  -- a fault that ends the compaction
  end-told : (f : CompactFault) → f ≢ fault.Failed → f ≢ fault.WrongPhase → Call failed failed_now wanted next phase phase_now (Err f) → refusal ≡ None
  unfolding refused
  end-told f a b h = end-none failed (is_phase wanted phase) f a b h.told

  end-free : (f : CompactFault) → f ≢ fault.Failed → f ≢ fault.WrongPhase → f ≢ fault.Device → Call failed failed_now wanted next phase phase_now (Err f) → (failed ≡ false) × (failed_now ≡ false)
  end-free f a b d h = let none = free (end-told f a b h) in (none, h.serves d ∙ none)

  module _ (r : Result Progress CompactFault) (note : StepNote) (is : note_of_call r ≡ Some note) (call : Call failed failed_now wanted next phase phase_now r) where
    pub phase-noted : IsPhaseNote refusal note
    unfolding refused
    phase-noted = by-note (λ n. IsPhaseNote refusal n) (Call failed failed_now wanted next phase phase_now) r note is call
        (λ h. h.told) (λ h. h.told)
        (λ h. end-told fault.Device (λ e. cc) (λ e. cc) h)
        (λ h. end-told fault.NoRoom (λ e. cc) (λ e. cc) h)
        (λ h. wrong-is failed (is_phase wanted phase) h.told)
        (λ h. failed-is-told failed (is_phase wanted phase) h.told)

    pub phase-then : phase_now ≡ phase_with next phase note
    phase-then = by-note (λ n. phase_now ≡ phase_with next phase n) (Call failed failed_now wanted next phase phase_now) r note is call
        (λ h. h.phase_is) (λ h. h.phase_is) (λ h. h.phase_is) (λ h. h.phase_is) (λ h. h.phase_is) (λ h. h.phase_is)

    -- the desk serves, unless the call was refused Failed
    pub compact-noted : (w : Sight) → not (is_serving w.desk) ≡ failed → IsCompactNote w note
    unfolding refused
    compact-noted w same = by-note (λ n. IsCompactNote w n) (Call failed failed_now wanted next phase phase_now) r note is call
        (λ h. serving (is_serving w.desk) (same ∙ free h.told))
        (λ h. serving (is_serving w.desk) (same ∙ free h.told))
        (λ h. serving (is_serving w.desk) (same ∙ free (end-told fault.Device (λ e. cc) (λ e. cc) h)))
        (λ h. serving (is_serving w.desk) (same ∙ free (end-told fault.NoRoom (λ e. cc) (λ e. cc) h)))
        (λ h. serving (is_serving w.desk) (same ∙ wrong-serves failed (is_phase wanted phase) (wrong-is failed (is_phase wanted phase) h.told)))
        (λ h. resting (is_serving w.desk) (same ∙ failed-fails failed (is_phase wanted phase) (failed-is-told failed (is_phase wanted phase) h.told)))
      where
        serving : (b : Bool) → not b ≡ false → b ≡ true
        serving true e = refl
        serving false e = absurd (false≢true (sym e))

        resting : (b : Bool) → not b ≡ true → b ≡ false
        resting true e = absurd (false≢true e)
        resting false e = refl

    -- whether the store has failed
    pub store-serves : is_failure note ≡ false → failed_now ≡ failed
    store-serves = by-note (λ n. is_failure n ≡ false → failed_now ≡ failed) (Call failed failed_now wanted next phase phase_now) r note is call
        (λ h _. h.serves ∙ sym (free h.told))
        (λ h _. h.serves ∙ sym (free h.told))
        (λ h e. absurd (false≢true (sym e)))
        (λ h _. h.serves (λ e. cc))
        (λ h _. h.serves (λ e. cc))
        (λ h _. h.serves (λ e. cc))

    pub store-broken : is_failure note ≡ true → failed_now ≡ true
    store-broken = by-note (λ n. is_failure n ≡ true → failed_now ≡ true) (Call failed failed_now wanted next phase phase_now) r note is call
        (λ h e. absurd (false≢true e))
        (λ h e. absurd (false≢true e))
        (λ h _. h.broken refl)
        (λ h e. absurd (false≢true e))
        (λ h e. absurd (false≢true e))
        (λ h e. absurd (false≢true e))

  -- Rooms.

  left-on : (S : Room → Room → Type 0) (room room_now : Room) → (failed ≡ false) × (failed_now ≡ false) → S room room_now → S (room_left failed room) (room_left failed_now room_now)
  left-on S room room_now on s =
      subst (λ (b : Bool). S (room_left b room) (room_left failed_now room_now)) (sym on.0) (subst (λ (b : Bool). S room (room_left b room_now)) (sym on.1) s)

  first-on : (P : Room → Type 0) (room : Room) → failed ≡ false → P room → P (room_left failed room)
  first-on P room on p = subst (λ (b : Bool). P (room_left b room)) (sym on) p

  none-left : (room_now : Room) → failed_now ≡ true → room_left failed_now room_now ≡ no_room
  none-left room_now off = ap (λ (b : Bool). room_left b room_now) off

  same-left : (room room_now : Room) → failed_now ≡ failed → room_now ≡ room → room_left failed_now room_now ≡ room_left failed room
  same-left room room_now same is = ap (λ (b : Bool). room_left b room_now) same ∙ ap (room_left failed) is

  -- the start of a compaction
  pub record StartRoom (room room_now : Room) (r : Result Progress CompactFault) : Type 0 where
    pub done : IfOk r (λ p. p ≡ progress.Done)
    pub clear : MatchResult r (λ _. can_begin room ≡ true) (λ f. IsEnd f → f ≢ fault.NoRoom → can_begin room ≡ true)
    pub no_room : r ≡ Err fault.NoRoom → can_begin room ≡ false
    pub room_is : OnOk r (room_now ≡ begun_room room)
    pub left : IfErr r (λ f. f ≢ fault.Device → room_now ≡ room)

  module _ (room room_now : Room) (r : Result Progress CompactFault) (note : StepNote) (is : note_of_call r ≡ Some note) (call : Call failed failed_now wanted next phase phase_now r) where
    pub start-note : StartRoom room room_now r → IsRoomNote (can_begin (room_left failed room)) note
    start-note start = by-note (λ n. IsRoomNote (can_begin (room_left failed room)) n) (λ q. Call failed failed_now wanted next phase phase_now q × StartRoom room room_now q) r note is (call, start)
        (λ h. absurd (cc (h.1.done)))
        (λ h. first-on (λ (x : Room). can_begin x ≡ true) room (free h.0.told) h.1.clear)
        (λ h. first-on (λ (x : Room). can_begin x ≡ true) room (free (end-told fault.Device (λ e. cc) (λ e. cc) h.0)) (h.1.clear (inr (inl refl)) (λ e. cc)))
        (λ h. first-on (λ (x : Room). can_begin x ≡ false) room (free (end-told fault.NoRoom (λ e. cc) (λ e. cc) h.0)) (h.1.no_room refl))
        (λ h. tt)
        (λ h. tt)

    pub start-room : StartRoom room room_now r → IsStartedRoom note (room_left failed room) (room_left failed_now room_now)
    start-room start = by-note (λ n. IsStartedRoom n (room_left failed room) (room_left failed_now room_now)) (λ q. Call failed failed_now wanted next phase phase_now q × StartRoom room room_now q) r note is (call, start)
        (λ h. absurd (cc (h.1.done)))
        (λ h. left-on (λ (x y : Room). y ≡ begun_room x) room room_now (done-free progress.Done h.0) h.1.room_is)
        (λ h. none-left room_now (h.0.broken refl))
        (λ h. same-left room room_now (h.0.serves (λ e. cc)) (h.1.left (λ e. cc)))
        (λ h. same-left room room_now (h.0.serves (λ e. cc)) (h.1.left (λ e. cc)))
        (λ h. same-left room room_now (h.0.serves (λ e. cc)) (h.1.left (λ e. cc)))

  -- a frame that is read
  pub record ReadRoom (room room_now : Room) (r : Result Progress CompactFault) : Type 0 where
    pub room_is : OnOk r (room_now ≡ room)
    pub left : IfErr r (λ f. f ≢ fault.Device → room_now ≡ room)

  module _ (room room_now : Room) (r : Result Progress CompactFault) (note : StepNote) (is : note_of_call r ≡ Some note) (call : Call failed failed_now wanted next phase phase_now r) where
    pub read-room : ReadRoom room room_now r → IsReadRoom note (room_left failed room) (room_left failed_now room_now)
    read-room start = by-note (λ n. IsReadRoom n (room_left failed room) (room_left failed_now room_now)) (λ q. Call failed failed_now wanted next phase phase_now q × ReadRoom room room_now q) r note is (call, start)
        (λ h. left-on (λ (x y : Room). y ≡ x) room room_now (done-free progress.More h.0) h.1.room_is)
        (λ h. left-on (λ (x y : Room). y ≡ x) room room_now (done-free progress.Done h.0) h.1.room_is)
        (λ h. none-left room_now (h.0.broken refl))
        (λ h. same-left room room_now (h.0.serves (λ e. cc)) (h.1.left (λ e. cc)))
        (λ h. same-left room room_now (h.0.serves (λ e. cc)) (h.1.left (λ e. cc)))
        (λ h. same-left room room_now (h.0.serves (λ e. cc)) (h.1.left (λ e. cc)))

  -- a frame that is written
  pub record WriteRoom (room room_now : Room) (r : Result Progress CompactFault) : Type 0 where
    pub no_room : r ≡ Err fault.NoRoom → room.segments ≡ 0
    pub same_tail : MatchResult r (λ _. (room_now.sectors ≡ room.sectors) × (room_now.roots ≡ room.roots)) (λ f. f ≢ fault.Device → (room_now.sectors ≡ room.sectors) × (room_now.roots ≡ room.roots))
    pub segments : OnOk r ((room_now.segments ≡ room.segments) ⊎ (room_now.segments + 1 ≡ room.segments))
    pub kept : IfErr r (λ f. ¬ IsEnd f → room_left failed_now room_now ≡ room_left failed room)

  not-end : (f : CompactFault) → f ≢ fault.Memory → f ≢ fault.Device → f ≢ fault.NoRoom → ¬ IsEnd f
  not-end f a b c (inl e) = a e
  not-end f a b c (inr (inl e)) = b e
  not-end f a b c (inr (inr e)) = c e

  module _ (room room_now : Room) (r : Result Progress CompactFault) (note : StepNote) (is : note_of_call r ≡ Some note) (call : Call failed failed_now wanted next phase phase_now r) where
    pub write-note : WriteRoom room room_now r → IsWriteNote (room_left failed room) note
    write-note start = by-note (λ n. IsWriteNote (room_left failed room) n) (λ q. Call failed failed_now wanted next phase phase_now q × WriteRoom room room_now q) r note is (call, start)
        (λ h. tt)
        (λ h. tt)
        (λ h. tt)
        (λ h. first-on (λ (x : Room). x.segments ≡ 0) room (free (end-told fault.NoRoom (λ e. cc) (λ e. cc) h.0)) (h.1.no_room refl))
        (λ h. tt)
        (λ h. tt)

    pub write-room : WriteRoom room room_now r → IsWrittenRoom note (room_left failed room) (room_left failed_now room_now)
    write-room start = by-note (λ n. IsWrittenRoom n (room_left failed room) (room_left failed_now room_now)) (λ q. Call failed failed_now wanted next phase phase_now q × WriteRoom room room_now q) r note is (call, start)
        (λ h. left-on (λ (x y : Room). HasOneLess x y) room room_now (done-free progress.More h.0) (record { same = record { sectors = h.1.same_tail.0; roots = h.1.same_tail.1 }; segments = h.1.segments }))
        (λ h. left-on (λ (x y : Room). HasOneLess x y) room room_now (done-free progress.Done h.0) (record { same = record { sectors = h.1.same_tail.0; roots = h.1.same_tail.1 }; segments = h.1.segments }))
        (λ h. none-left room_now (h.0.broken refl))
        (λ h. left-on (λ (x y : Room). HasSameTail x y) room room_now (end-free fault.NoRoom (λ e. cc) (λ e. cc) (λ e. cc) h.0)
        (let t = h.1.same_tail (λ e. cc) in record { sectors = t.0; roots = t.1 }))
        (λ h. h.1.kept (not-end fault.WrongPhase (λ e. cc) (λ e. cc) (λ e. cc)))
        (λ h. h.1.kept (not-end fault.Failed (λ e. cc) (λ e. cc) (λ e. cc)))

  -- the switch
  pub record SwitchRoom (room room_now : Room) (r : Result Progress CompactFault) : Type 0 where
    pub done : IfOk r (λ p. p ≡ progress.Done)
    pub clear : MatchResult r (λ _. nat_lt 0 room.roots ≡ true) (λ f. IsEnd f → f ≢ fault.NoRoom → nat_lt 0 room.roots ≡ true)
    pub no_room : r ≡ Err fault.NoRoom → nat_lt 0 room.roots ≡ false
    pub root : OnOk r (room_now.roots + 1 ≡ room.roots)
    pub same_root : IfErr r (λ _. room_now.roots ≡ room.roots)
    pub kept : IfErr r (λ f. ¬ IsEnd f → room_left failed_now room_now ≡ room_left failed room)

  module _ (room room_now : Room) (r : Result Progress CompactFault) (note : StepNote) (is : note_of_call r ≡ Some note) (call : Call failed failed_now wanted next phase phase_now r) where
    pub switch-note : SwitchRoom room room_now r → IsRoomNote (nat_lt 0 (room_left failed room).roots) note
    switch-note start = by-note (λ n. IsRoomNote (nat_lt 0 (room_left failed room).roots) n) (λ q. Call failed failed_now wanted next phase phase_now q × SwitchRoom room room_now q) r note is (call, start)
        (λ h. absurd (cc (h.1.done)))
        (λ h. first-on (λ (x : Room). nat_lt 0 x.roots ≡ true) room (free h.0.told) h.1.clear)
        (λ h. first-on (λ (x : Room). nat_lt 0 x.roots ≡ true) room (free (end-told fault.Device (λ e. cc) (λ e. cc) h.0)) (h.1.clear (inr (inl refl)) (λ e. cc)))
        (λ h. first-on (λ (x : Room). nat_lt 0 x.roots ≡ false) room (free (end-told fault.NoRoom (λ e. cc) (λ e. cc) h.0)) (h.1.no_room refl))
        (λ h. tt)
        (λ h. tt)

    pub switch-room : SwitchRoom room room_now r → IsSwitchedRoom note (room_left failed room) (room_left failed_now room_now)
    switch-room start = by-note (λ n. IsSwitchedRoom n (room_left failed room) (room_left failed_now room_now)) (λ q. Call failed failed_now wanted next phase phase_now q × SwitchRoom room room_now q) r note is (call, start)
        (λ h. absurd (cc (h.1.done)))
        (λ h. left-on (λ (x y : Room). y.roots + 1 ≡ x.roots) room room_now (done-free progress.Done h.0) h.1.root)
        (λ h. none-left room_now (h.0.broken refl))
        (λ h. left-on (λ (x y : Room). y.roots ≡ x.roots) room room_now (end-free fault.NoRoom (λ e. cc) (λ e. cc) (λ e. cc) h.0) h.1.same_root)
        (λ h. h.1.kept (not-end fault.WrongPhase (λ e. cc) (λ e. cc) (λ e. cc)))
        (λ h. h.1.kept (not-end fault.Failed (λ e. cc) (λ e. cc) (λ e. cc)))

-- a fact about an unchanged store, where a fault left it unchanged
pub kept-of : (U V : Type 0) (r : Result Progress CompactFault) → (U → V) → IfErr r (λ f. ¬ IsEnd f → U) → IfErr r (λ f. ¬ IsEnd f → V)
kept-of U V (Ok p) u h = tt
kept-of U V (Err f) u h = λ off. u (h off)

module _ {D : Type 0} {g : _} (old new : Store D g) where
  -- the room of an unchanged store
  pub same-room : IsUnchanged old new → room_left (has_failed new) (room_of new) ≡ room_left (has_failed old) (room_of old)
  same-room same =
      let failed = same.log.failed in
      let sectors = same.sectors in
      let root = same.log.root in
      let fresh = same.log.fresh in
      let end = same.log.end in
      cc

  -- the cut of a compaction whose switch is made
  ready-cut : (failed : Bool) (c : Compaction) (P : Cut → Type 0) → phase_refusal failed Ready (phase_in c) ≡ None → IfSome (cut_in c) P → (cut : Cut) × P cut
  ready-cut true c P none h = absurd (cc (none))
  ready-cut false compaction.Idle P none h = absurd (cc (none))
  ready-cut false (compaction.Reading reading) P none h = absurd (cc (none))
  ready-cut false (compaction.Writing writing) P none h = absurd (cc (none))
  ready-cut false (compaction.Ready cut) P none h = (cut, h)

  one-less : (most before after : ℕ) → after ≡ before + 1 → 0 < most - before → (most - after) + 1 ≡ most - before
  one-less most before after is some = omega (arith, is, some)

  -- a switch takes one root
  pub switched-roots : (r : Result Progress CompactFault)
      → MatchResult r (λ _. phase_refusal (has_failed old) Ready (phase_of old) ≡ None) (λ f. IsCompactFaultOf (phase_refusal (has_failed old) Ready (phase_of old)) f)
      → OnOk r (IfSome (cut_of old) (λ cut. IsSwitchedRoot (root_of old) (fresh_of old) cut.id cut.number (root_of new)))
      → MatchResult r (λ _. 0 < (room_of old).roots) (λ f. IsEnd f → f ≢ fault.NoRoom → 0 < (room_of old).roots)
      → OnOk r ((room_of new).roots + 1 ≡ (room_of old).roots)
  switched-roots (Err f) told root clear = tt
  switched-roots (Ok p) told root clear =
      let found = ready-cut (has_failed old) old.compaction (λ (cut : Cut). IsSwitchedRoot (root_of old) (fresh_of old) cut.id cut.number (root_of new)) told root in
      one-less _ (root_of old).epoch (root_of new).epoch found.1.epoch clear

  pub kept-roots : (r : Result Progress CompactFault) → IfErr r (λ _. root_of new ≡ root_of old) → IfErr r (λ _. (room_of new).roots ≡ (room_of old).roots)
  kept-roots (Ok p) h = tt
  kept-roots (Err f) h = cc

pub has-roots : (room : Room) (r : Result Progress CompactFault) → MatchResult r (λ _. 0 < room.roots) (λ f. IsEnd f → f ≢ fault.NoRoom → 0 < room.roots)
    → MatchResult r (λ _. nat_lt 0 room.roots ≡ true) (λ f. IsEnd f → f ≢ fault.NoRoom → nat_lt 0 room.roots ≡ true)
has-roots room (Ok p) h = lt-ltb 0 room.roots h
has-roots room (Err f) h = λ a b. lt-ltb 0 room.roots (h a b)

pub no-roots : (room : Room) → room.roots ≡ 0 → nat_lt 0 room.roots ≡ false
no-roots room none = ap (nat_lt 0) none

-- The world after such a call.

-- the desk and the batch in flight, given the replies that left
pub record Replied (note : StepNote) (s s_now : State) (t t_now : Transit) (out : List Outgoing) : Type 0 where
  pub same : is_failure note ≡ false → (s_now ≡ s) × (t_now ≡ t) × (out ≡ [])
  pub failed : is_failure note ≡ true → (s_now ≡ desk.Failed (numbered_of s) (settled_of s)) × (t_now ≡ Empty)
  pub order : is_failure note ≡ true → out ≡ failing_on s

pub compacted-is : (note : StepNote) (s s_now : State) (t t_now : Transit) (out : List Outgoing) → Replied note s s_now t t_now out
    → compacted note (record { desk = s; appended = is_appended t }) ≡ record { after = record { desk = s_now; appended = is_appended t_now }; at_once = out; left = [] }
compacted-is Device s s_now t t_now out h = failed-turn s s_now (is_appended t) t_now out (h.failed refl).1 (h.failed refl).0 (h.order refl)
compacted-is other s s_now t t_now out h =
    let e = h.same refl in
    let desk_is : s_now ≡ s = e.0 in
    let transit_is : t_now ≡ t = e.1 in
    let none : out ≡ [] = e.2 in
    cc

pub compact-agrees : (note : StepNote) (s s_now : State) (t t_now : Transit) (front later : ℕ) (failed failed_now : Bool)
    → (is_failure note ≡ false → (s_now ≡ s) × (t_now ≡ t)) → (is_failure note ≡ true → (s_now ≡ desk.Failed (numbered_of s) (settled_of s)) × (t_now ≡ Empty))
    → (is_failure note ≡ false → failed_now ≡ failed) → (is_failure note ≡ true → failed_now ≡ true) → later ≡ front → Agree s t front failed → Agree s_now t_now later failed_now
compact-agrees note s s_now t t_now front later failed failed_now same broke serves off front_is h = by-case (is_failure note) refl
  where
    by-case : (b : Bool) → is_failure note ≡ b → Agree s_now t_now later failed_now
    by-case true is = failed-agrees s s_now t t_now front later failed failed_now h (broke is).0 (broke is).1 front_is (off is)
    by-case false is =
        subst (λ (x : State). Agree x t_now later failed_now) (sym (same is).0)
        (subst (λ (x : Transit). Agree s x later failed_now) (sym (same is).1)
        (subst (λ (k : ℕ). Agree s t k failed_now) (sym front_is)
        (subst (λ (b : Bool). Agree s t front b) (sym (serves is)) h)))

pub compact-orderly : (note : StepNote) (s s_now : State) → (is_failure note ≡ false → s_now ≡ s) → (is_failure note ≡ true → s_now ≡ desk.Failed (numbered_of s) (settled_of s)) → IsOrderlyAt s → IsOrderlyAt s_now
compact-orderly note s s_now same broke h = by-case (is_failure note) refl
  where
    by-case : (b : Bool) → is_failure note ≡ b → IsOrderlyAt s_now
    by-case true is = failed-orderly s_now (numbered_of s) (settled_of s) (broke is)
    by-case false is = subst IsOrderlyAt (sym (same is)) h

-- Each step of a compaction.
module _ {D : Type 0} {g : _} (honest : D → Bool) (history : D → History) (old new : World D g) (r : Result Progress CompactFault) (note : StepNote) (out : List Outgoing) (is : note_of_call r ≡ Some note)
    (stands : (n : ℕ) (state : Durable) → StandsAt honest history (store_of old) n state → MatchResult r
    (λ _. StandsAt honest history (store_of new) n state)
    (λ f. f ≢ fault.Device → StandsAt honest history (store_of new) n state))
    (images : (n : ℕ) (state : Durable) → StandsAt honest history (store_of old) n state
    → LeavesOnly (history (disk_of (store_of old))) (history (disk_of (store_of new))) (λ image. Carries image (sectors_of (store_of old)) n state))
    (size : sectors_of (store_of new) ≡ sectors_of (store_of old))
    (replied : Replied note (sight old).desk (sight new).desk old.transit new.transit out) where
  stands-then : (n : ℕ) (state : Durable) → StandsAt honest history (store_of old) n state → note ≢ Device → StandsAt honest history (store_of new) n state
  stands-then n state was = by-note (λ k. k ≢ Device → StandsAt honest history (store_of new) n state)
      (λ q. MatchResult q (λ _. StandsAt honest history (store_of new) n state) (λ f. f ≢ fault.Device → StandsAt honest history (store_of new) n state)) r note is (stands n state was)
      (λ h _. h) (λ h _. h) (λ h e. absurd (e refl)) (λ h _. h (λ e. cc)) (λ h _. h (λ e. cc)) (λ h _. h (λ e. cc))

  serving : not (is_serving (sight old).desk) ≡ has_failed (store_of old)
  serving = failed-is (sight old).desk old.transit (front_of (store_of old)) (has_failed (store_of old)) old.agree

  now : compacted note (sight old) ≡ record { after = sight new; at_once = out; left = [] }
  now = compacted-is note (sight old).desk (sight new).desk old.transit new.transit out replied

  abbrev Made : Phase → Phase → Type 0
  Made wanted next = Call (has_failed (store_of old)) (has_failed (store_of new)) wanted next (phase_of (store_of old)) (phase_of (store_of new)) r

  noted-in : (wanted next : Phase) → Made wanted next → IsPhaseNote (refusal_in (sight old) wanted (phase_of (store_of old))) note
  noted-in wanted next call =
      subst (λ (b : Bool). IsPhaseNote (phase_refusal b wanted (phase_of (store_of old))) note) (sym serving)
      (phase-noted (has_failed (store_of old)) (has_failed (store_of new)) wanted next (phase_of (store_of old)) (phase_of (store_of new)) r note is call)

  noted-at : (wanted next : Phase) → Made wanted next → IsCompactNote (sight old) note
  noted-at wanted next call = compact-noted (has_failed (store_of old)) (has_failed (store_of new)) wanted next (phase_of (store_of old)) (phase_of (store_of new)) r note is call (sight old) serving

  then-in : (wanted next : Phase) → Made wanted next → phase_of (store_of new) ≡ phase_with next (phase_of (store_of old)) note
  then-in wanted next call = phase-then (has_failed (store_of old)) (has_failed (store_of new)) wanted next (phase_of (store_of old)) (phase_of (store_of new)) r note is call

  pub start-step : Made Idle Reading → StartRoom (has_failed (store_of old)) (has_failed (store_of new)) Idle Reading (phase_of (store_of old)) (phase_of (store_of new)) (room_of (store_of old)) (room_of (store_of new)) r
      → IsTaken honest history CompactStart note out old new
  unfolding IsNoteOf turn IsStoreNote phase_then IsRoomThen
  start-step call rooms = compact-step honest history old new CompactStart note out (λ e. cc) (noted-at Idle Reading call) refl now images stands-then size
      (record {
        noted = (noted-in Idle Reading call, start-note (has_failed (store_of old)) (has_failed (store_of new)) Idle Reading (phase_of (store_of old)) (phase_of (store_of new)) (room_of (store_of old)) (room_of (store_of new)) r note is call rooms);
        phase = then-in Idle Reading call;
        room = start-room (has_failed (store_of old)) (has_failed (store_of new)) Idle Reading (phase_of (store_of old)) (phase_of (store_of new)) (room_of (store_of old)) (room_of (store_of new)) r note is call rooms;
      }) tt (λ n state was. refl)

  pub read-step : Made Reading Writing → ReadRoom (has_failed (store_of old)) (has_failed (store_of new)) Reading Writing (phase_of (store_of old)) (phase_of (store_of new)) (room_of (store_of old)) (room_of (store_of new)) r
      → ((n : ℕ) (state : Durable) → StandsAt honest history (store_of old) n state → ¬ IsErrOf r fault.NoRoom) → IsTaken honest history CompactRead note out old new
  unfolding IsNoteOf turn IsStoreNote phase_then IsRoomThen
  read-step call rooms fair = compact-step honest history old new CompactRead note out (λ e. cc) (noted-at Reading Writing call) refl now images stands-then size
      (record {
        noted = noted-in Reading Writing call;
        phase = then-in Reading Writing call;
        room = read-room (has_failed (store_of old)) (has_failed (store_of new)) Reading Writing (phase_of (store_of old)) (phase_of (store_of new)) (room_of (store_of old)) (room_of (store_of new)) r note is call rooms;
      }) tt
      (λ n state was. by-note (λ k. is_read_without_room (CompactRead, k) ≡ false) (λ q. ¬ IsErrOf q fault.NoRoom) r note is (fair n state was)
      (λ h. refl) (λ h. refl) (λ h. refl) (λ h. absurd (h refl)) (λ h. refl) (λ h. refl))

  pub write-step : Made Writing Ready → WriteRoom (has_failed (store_of old)) (has_failed (store_of new)) Writing Ready (phase_of (store_of old)) (phase_of (store_of new)) (room_of (store_of old)) (room_of (store_of new)) r
      → IsTaken honest history CompactWrite note out old new
  unfolding IsNoteOf turn IsStoreNote phase_then IsRoomThen
  write-step call rooms = compact-step honest history old new CompactWrite note out (λ e. cc) (noted-at Writing Ready call) refl now images stands-then size
      (record {
        noted = (noted-in Writing Ready call, write-note (has_failed (store_of old)) (has_failed (store_of new)) Writing Ready (phase_of (store_of old)) (phase_of (store_of new)) (room_of (store_of old)) (room_of (store_of new)) r note is call rooms);
        phase = then-in Writing Ready call;
        room = write-room (has_failed (store_of old)) (has_failed (store_of new)) Writing Ready (phase_of (store_of old)) (phase_of (store_of new)) (room_of (store_of old)) (room_of (store_of new)) r note is call rooms;
      }) tt (λ n state was. refl)

  pub switch-step : Made Ready Idle → SwitchRoom (has_failed (store_of old)) (has_failed (store_of new)) Ready Idle (phase_of (store_of old)) (phase_of (store_of new)) (room_of (store_of old)) (room_of (store_of new)) r
      → IsTaken honest history CompactSwitch note out old new
  unfolding IsNoteOf turn IsStoreNote phase_then IsRoomThen
  switch-step call rooms = compact-step honest history old new CompactSwitch note out (λ e. cc) (noted-at Ready Idle call) refl now images stands-then size
      (record {
        noted = (noted-in Ready Idle call, switch-note (has_failed (store_of old)) (has_failed (store_of new)) Ready Idle (phase_of (store_of old)) (phase_of (store_of new)) (room_of (store_of old)) (room_of (store_of new)) r note is call rooms);
        phase = then-in Ready Idle call;
        room = switch-room (has_failed (store_of old)) (has_failed (store_of new)) Ready Idle (phase_of (store_of old)) (phase_of (store_of new)) (room_of (store_of old)) (room_of (store_of new)) r note is call rooms;
      }) tt (λ n state was. refl)
