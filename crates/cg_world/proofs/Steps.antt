-- Each step of a world, by its kind.
use Rattle.std.proofs.Common.{◌≡◌, ◌≢◌, inl, inr, ℕ, ◌+◌, ◌≤◌, Bool, true, false, List, [], ◌∷◌, ◌++◌, append-nil, length, Option, None, Some, refl, sym, ap, ◌∙◌, subst, arith}
use Rattle.std.specs.Prelude.{is_some, IfSome, OnErr, Result, Ok, Err}
use Rattle.std.proofs.lemmas.Bool.{false≢true}
use Rattle.cg_disk.specs.Disk.{History, Image, LeavesOnly}
use Rattle.cg_disk.proofs.Moments.{LeavesOnly-present, LeavesOnly-weaker}
use Rattle.cg_fold.specs.Durable.{State as Durable, after}
use Rattle.cg_request.specs.declared.request.Request.{Request as Asked}
use Rattle.cg_request.specs.declared.ticket.Ticket.{Ticket}
use Rattle.cg_request.specs.Request.{asked}
use Rattle.cg_record.specs.declared.command.Command.{Command}
use Rattle.cg_log.specs.Log as log_model
use Rattle.cg_store.specs.Carried.{Carries, CarriesBeforeOrAfter}
use Rattle.cg_store.specs.Batches.{calls_for}
use Rattle.cg_store.specs.Store.{IsUnchanged, StandsAt, disk_of, front_of, has_failed, phase_of, sectors_of}
use Rattle.cg_store.proofs.Standing.{StandsAt-unchanged}
use Rattle.cg_store.specs.declared.phase.Phase.{Phase}
use Rattle.cg_desk.specs.Desks.{Answer, State, gone_on, request_on, settled_of, tick_on}
use Rattle.cg_desk.specs.declared.outgoing.Outgoing.{Outgoing}
use Rattle.cg_world.specs.Carrying.{CarriesAtLeast, CarriesFront}
use Rattle.cg_world.specs.Runs.{to_store, unstored, unstored_at}
use Rattle.cg_world.specs.Sights.{Sight, StoreSight, sight, store_of, store_sight}
use Rattle.cg_world.specs.StoreTurns.{IsAppendedRoom, IsFitNote, IsRoomThen, IsStopIn, IsStoreNote, IsStoreTurn, calls_in, fits, is_read_without_room, phase_then, wanted_phase}
use Rattle.cg_world.specs.Steps.{IsOutOfMemory, IsTaken}
use Rattle.cg_world.specs.Turns.{IsAppendNote, IsNoteOf, IsSettleNote, IsTakeNote, Turn, answered, appended, compacted, event_at, in_flight, is_taken, out_of, quiet, settled, taken, turn}
use Rattle.cg_world.specs.declared.step.Step.{Step}
use Rattle.cg_world.specs.declared.step.Step.TheVariants.{Request, Gone, Tick, Take, Append, Settle}
use Rattle.cg_world.specs.declared.step.StepNote.{StepNote}
use Rattle.cg_world.specs.declared.step.StepNote.TheVariants.{Done, Nothing, Full, Device}
use Rattle.cg_world.specs.declared.world.World.{World}
use Rattle.cg_world.proofs.Carrying.{carries-either, carries-least, carries-none, holds-at, images-stay, pair-stays, stored-none}
use Rattle.cg_world.proofs.Unstored.{after-full, after-gone, after-nothing, after-request, after-settle, after-take, after-tick, flight-first, to-append, to-compact}
use Rattle.cg_world.proofs.Moving.{sound-world}

-- a fact holds at every error
pub on-err : {T E : Type 0} (r : Result T E) (P : Type 0) → P → OnErr r P
on-err (Ok x) P p = tt
on-err (Err e) P p = p

module _ {D : Type 0} {g : _} (honest : D → Bool) (history : D → History) (old new : World D g) where
  -- an unchanged store looks the same
  pub same-store : IsUnchanged (store_of old) (store_of new) → store_sight history new ≡ store_sight history old
  same-store same =
      let phase = same.compaction in
      let failed = same.log.failed in
      let sectors = same.sectors in
      let root = same.log.root in
      let fresh = same.log.fresh in
      let end = same.log.end in
      let disk = same.log.disk in
      cc

  within : (o : Option ℕ) (before after : ℕ) → after ≡ before → IfSome o (λ (calls : ℕ). after ≤ before + calls)
  within None before after is = tt
  within (Some calls) before after is = omega (arith, is)

  -- a step that leaves the store unchanged
  at-rest : (step : Step) (note : StepNote) (out : List Outgoing) → IsNoteOf step (sight old) note → (turn step note (sight old)).after ≡ sight new → out_of (turn step note (sight old)) ≡ out
      → IsUnchanged (store_of old) (store_of new) → to_store ((step, note) ∷ []) (sight old) ≡ unstored (turn step note (sight old)).after
      → IsStoreTurn step note (sight old) (store_sight history old) (store_sight history old) → is_read_without_room (step, note) ≡ false → IsTaken honest history step note out old new
  at-rest step note out noted now left same rest still fair = record {
    noted = noted;
    after = now;
    left = left;
    images = images-stay honest history (store_of old) (store_of new) (to_store ((step, note) ∷ []) (sight old)) same.log.disk;
    stored = λ n state stands _. stored-none honest history (store_of new) (to_store ((step, note) ∷ []) (sight old)) (unstored (sight new)) (rest ∙ ap unstored now) n state
        (StandsAt-unchanged honest history (store_of old) (store_of new) n state same stands);
    holds = λ n state stands. holds-at honest history (store_of new) (sectors_of (store_of old)) (settled_of (sight new).desk) n state same.sectors new.agree.enough (StandsAt-unchanged honest history (store_of old) (store_of new) n state same stands);
    same_sectors = same.sectors;
    still = λ _ n state stands. (pair-stays honest history (store_of old) (store_of new) same.log.disk n state stands, λ _. StandsAt-unchanged honest history (store_of old) (store_of new) n state same stands);
    store = subst (λ (t : StoreSight). IsStoreTurn step note (sight old) (store_sight history old) t) (sym (same-store same)) still;
    clock = λ _. within (calls_in step (sight old) (store_sight history old).room) (history (disk_of (store_of old))).now (history (disk_of (store_of new))).now (ap (λ (d : D). (history d).now) same.log.disk);
    reads = λ n state stands. fair;
  }

  pub unchanged : store_of new ≡ store_of old → IsUnchanged (store_of old) (store_of new)
  unchanged same = record {
    log = record {
      disk = ap disk_of same;
      root = ap (λ s. log_model.root_of s.log) same;
      end = ap (λ s. log_model.end_of s.log) same;
      number = ap front_of same;
      failed = ap has_failed same;
      fresh = ap (λ s. log_model.fresh_of s.log) same;
      fresh_end = ap (λ s. log_model.fresh_end_of s.log) same;
    };
    sectors = ap sectors_of same;
    compaction = ap (λ s. s.compaction) same;
  }

  -- an allocation failed for a step that is none of a compaction
  pub out-of-memory : (step : Step) → wanted_phase step ≡ None → sight new ≡ sight old → IsUnchanged (store_of old) (store_of new) → IsOutOfMemory honest history step old new
  out-of-memory step none same kept = record {
    same = same;
    stop = subst (λ (o : Option Phase). IsStopIn o step (sight old) (store_sight history old) (store_sight history new)) (sym none) (same-store kept);
    unchanged = λ _. kept;
    images = pair-stays honest history (store_of old) (store_of new) kept.log.disk;
    stored = λ n state stands. StandsAt-unchanged honest history (store_of old) (store_of new) n state kept stands;
    same_sectors = kept.sectors;
    same_front = kept.log.number;
  }

  same-sight : (desk : State) → desk ≡ (sight new).desk → (sight new).appended ≡ (sight old).appended
      → (let w : Sight = record { desk = desk; appended = (sight old).appended } in w) ≡ sight new
  same-sight desk a b =
      ap (λ (d : State). let w : Sight = record { desk = d; appended = (sight old).appended } in w) a
      ∙ ap (λ (f : Bool). let w : Sight = record { desk = (sight new).desk; appended = f } in w) (sym b)

  -- a call of the desk changes nothing else of its world
  answered-after : (met : Bool) (a : Answer) (out : List Outgoing) → a ≡ record { after = (sight new).desk; out = out } → (sight new).appended ≡ (sight old).appended
      → ((answered met (sight old) a).after ≡ sight new) × (out_of (answered met (sight old) a) ≡ out)
  answered-after true a out is same = (same-sight a.after (ap (λ (x : Answer). x.after) is) same, ap (λ (x : Answer). x.out) is)
  answered-after false a out is same = (same-sight a.after (ap (λ (x : Answer). x.after) is) same, append-nil a.out ∙ ap (λ (x : Answer). x.out) is)

  -- the steps of the desk do nothing to the store
  request-still : (ticket : Ticket) (r : Asked) (now : ℕ) (fresh : List ℕ) (note : StepNote) (w : Sight) (s : StoreSight) → IsStoreTurn (Request ticket r now fresh) note w s s
  unfolding IsStoreNote phase_then IsRoomThen
  request-still ticket r now fresh note w s = record { noted = tt; phase = refl; room = refl }

  gone-still : (session now : ℕ) (note : StepNote) (w : Sight) (s : StoreSight) → IsStoreTurn (Gone session now) note w s s
  unfolding IsStoreNote phase_then IsRoomThen
  gone-still session now note w s = record { noted = tt; phase = refl; room = refl }

  tick-still : (now : ℕ) (note : StepNote) (w : Sight) (s : StoreSight) → IsStoreTurn (Tick now) note w s s
  unfolding IsStoreNote phase_then IsRoomThen
  tick-still now note w s = record { noted = tt; phase = refl; room = refl }

  take-still : (note : StepNote) (w : Sight) (s : StoreSight) → IsStoreTurn Take note w s s
  unfolding IsStoreNote phase_then IsRoomThen
  take-still note w s = record { noted = tt; phase = refl; room = refl }

  settle-still : (note : StepNote) (w : Sight) (s : StoreSight) → IsStoreTurn Settle note w s s
  unfolding IsStoreNote phase_then IsRoomThen
  settle-still note w s = record { noted = tt; phase = refl; room = refl }

  pub request-step : (step : Step) (ticket : Ticket) (r : Asked) (now : ℕ) (fresh : List ℕ) (out : List Outgoing) → step ≡ Request ticket r now fresh
      → request_on (sight old).desk (record { ticket = ticket }) (asked r ticket fresh) now ≡ record { after = (sight new).desk; out = out }
      → (sight new).appended ≡ (sight old).appended → store_of new ≡ store_of old → IsTaken honest history step Done out old new
  unfolding IsNoteOf turn
  request-step step ticket r now fresh out is answers same store =
      let told = answered-after (is_some (event_at (Request ticket r now fresh) (sight old).desk)) (request_on (sight old).desk (record { ticket = ticket }) (asked r ticket fresh) now) out answers same in
      subst (λ (s : Step). IsTaken honest history s Done out old new) (sym is)
      (at-rest (Request ticket r now fresh) Done out refl told.0 told.1 (unchanged store) (after-request (sight old) Done ticket r now fresh) (request-still ticket r now fresh Done (sight old) (store_sight history old)) refl)

  pub gone-step : (step : Step) (session now : ℕ) (out : List Outgoing) → step ≡ Gone session now → gone_on (sight old).desk session now ≡ record { after = (sight new).desk; out = out }
      → (sight new).appended ≡ (sight old).appended → store_of new ≡ store_of old → IsTaken honest history step Done out old new
  unfolding IsNoteOf turn
  gone-step step session now out is answers same store =
      let told = answered-after true (gone_on (sight old).desk session now) out answers same in
      subst (λ (s : Step). IsTaken honest history s Done out old new) (sym is)
      (at-rest (Gone session now) Done out refl told.0 told.1 (unchanged store) (after-gone (sight old) Done session now) (gone-still session now Done (sight old) (store_sight history old)) refl)

  pub tick-step : (step : Step) (now : ℕ) (out : List Outgoing) → step ≡ Tick now → tick_on (sight old).desk now ≡ record { after = (sight new).desk; out = out }
      → (sight new).appended ≡ (sight old).appended → store_of new ≡ store_of old → IsTaken honest history step Done out old new
  unfolding IsNoteOf turn
  tick-step step now out is answers same store =
      let told = answered-after true (tick_on (sight old).desk now) out answers same in
      subst (λ (s : Step). IsTaken honest history s Done out old new) (sym is)
      (at-rest (Tick now) Done out refl told.0 told.1 (unchanged store) (after-tick (sight old) Done now) (tick-still now Done (sight old) (store_sight history old)) refl)

  pub take-step : (step : Step) (note : StepNote) (out : List Outgoing) → step ≡ Take → IsTakeNote (sight old) note → taken note (sight old) ≡ quiet (sight new) → out ≡ []
      → store_of new ≡ store_of old → IsTaken honest history step note out old new
  unfolding IsNoteOf turn
  take-step step note out is noted now none store =
      subst (λ (s : Step). IsTaken honest history s note out old new) (sym is)
      (at-rest Take note out noted (ap (λ (t : Turn). t.after) now) (ap out_of now ∙ sym none) (unchanged store) (after-take (sight old) note (sound-world old) noted) (take-still note (sight old) (store_sight history old)) refl)

  pub settle-step : (step : Step) (note : StepNote) (out : List Outgoing) → step ≡ Settle → IsSettleNote (sight old) note → settled note (sight old) ≡ record { after = sight new; at_once = []; left = out }
      → store_of new ≡ store_of old → IsTaken honest history step note out old new
  unfolding IsNoteOf turn
  settle-step step note out is noted now store =
      subst (λ (s : Step). IsTaken honest history s note out old new) (sym is)
      (at-rest Settle note out noted (ap (λ (t : Turn). t.after) now) (ap out_of now) (unchanged store) (after-settle (sight old) note noted) (settle-still note (sight old) (store_sight history old)) refl)

  -- the batch that was taken goes to the disk
  module _ (images : (n : ℕ) (state : Durable) → StandsAt honest history (store_of old) n state → LeavesOnly (history (disk_of (store_of old))) (history (disk_of (store_of new))) (CarriesBeforeOrAfter (sectors_of (store_of old)) n state (in_flight (sight old).desk)))
      (clock : honest (disk_of (store_of old)) ≡ true → (history (disk_of (store_of new))).now ≤ (history (disk_of (store_of old))).now + calls_for (store_sight history old).room (in_flight (sight old).desk))
      (size : sectors_of (store_of new) ≡ sectors_of (store_of old)) (phase : phase_of (store_of new) ≡ phase_of (store_of old)) where
    append-turn : (note : StepNote) → IsFitNote (fits (sight old) (store_sight history old).room) note → IsAppendedRoom note (sight old) (store_sight history old).room (store_sight history new).room
        → IsStoreTurn Append note (sight old) (store_sight history old) (store_sight history new)
    unfolding IsStoreNote phase_then IsRoomThen
    append-turn note fit room = record { noted = fit; phase = phase; room = room }

    goes-to : (note : StepNote) → is_taken (sight old) ≡ true → (n : ℕ) (state : Durable) → StandsAt honest history (store_of old) n state
        → LeavesOnly (history (disk_of (store_of old))) (history (disk_of (store_of new))) (CarriesFront (sectors_of (store_of old)) n state (to_store ((Append, note) ∷ []) (sight old)))
    goes-to note taken n state stands =
        LeavesOnly-weaker (history (disk_of (store_of old))) (history (disk_of (store_of new))) (CarriesBeforeOrAfter (sectors_of (store_of old)) n state (in_flight (sight old).desk)) (CarriesFront (sectors_of (store_of old)) n state (to_store ((Append, note) ∷ []) (sight old)))
        (carries-either (sectors_of (store_of old)) n state (in_flight (sight old).desk) (unstored_at true (sight old).desk) (to_store ((Append, note) ∷ []) (sight old)) (to-append (sight old) note ∙ flight-first (sight old) taken))
        (images n state stands)

    appended-step : (out : List Outgoing) → IsAppendNote (sight old) Done → IsStoreTurn Append Done (sight old) (store_sight history old) (store_sight history new) → appended Done (sight old) ≡ record { after = sight new; at_once = out; left = [] }
        → ((n : ℕ) (state : Durable) → StandsAt honest history (store_of old) n state → StandsAt honest history (store_of new) (n + length (in_flight (sight old).desk)) (after state (in_flight (sight old).desk)))
        → IsTaken honest history Append Done out old new
    unfolding IsNoteOf turn
    appended-step out noted store now stands-now = record {
      noted = noted;
      after = ap (λ (t : Turn). t.after) now;
      left = ap out_of now ∙ append-nil out;
      images = goes-to Done noted;
      stored = λ n state stands _. record {
        front = in_flight (sight old).desk;
        whole = to-append (sight old) Done ∙ flight-first (sight old) noted ∙ ap (λ (l : List Command). in_flight (sight old).desk ++ l) (ap (λ (t : Turn). unstored t.after) now);
        stands = stands-now n state stands;
      };
      holds = λ n state stands. holds-at honest history (store_of new) (sectors_of (store_of old)) (settled_of (sight new).desk) (n + length (in_flight (sight old).desk)) (after state (in_flight (sight old).desk)) size new.agree.enough (stands-now n state stands);
      same_sectors = size;
      still = λ is. absurd (false≢true (sym is));
      store = store;
      clock = clock;
      reads = λ n state stands. refl;
    }

    failed-step : (out : List Outgoing) → IsAppendNote (sight old) Device → IsStoreTurn Append Device (sight old) (store_sight history old) (store_sight history new) → appended Device (sight old) ≡ record { after = sight new; at_once = out; left = [] } → IsTaken honest history Append Device out old new
    unfolding IsNoteOf turn
    failed-step out noted store now = record {
      noted = noted;
      after = ap (λ (t : Turn). t.after) now;
      left = ap out_of now ∙ append-nil out;
      images = goes-to Device noted;
      stored = λ n state stands serves. absurd (serves refl);
      holds = λ n state stands image left. at-least n state (settled_of (sight new).desk) image
          (subst (λ (k : ℕ). k ≤ n) (ap (λ (t : Turn). settled_of t.after.desk) now) (omega (arith, old.agree.enough, stands.front_is)))
          (LeavesOnly-present (history (disk_of (store_of old))) (history (disk_of (store_of new))) (CarriesBeforeOrAfter (sectors_of (store_of old)) n state (in_flight (sight old).desk)) (images n state stands) image left);
      same_sectors = size;
      still = λ is. absurd (false≢true (sym is));
      store = store;
      clock = clock;
      reads = λ n state stands. refl;
    }
      where
        at-least : (n : ℕ) (state : Durable) (count : ℕ) (image : Image) → count ≤ n → CarriesBeforeOrAfter (sectors_of (store_of old)) n state (in_flight (sight old).desk) image → CarriesAtLeast (sectors_of (store_of old)) count image
        at-least n state count image enough (inl carries) = record { number = n; state = state; enough = enough; carried = carries }
        at-least n state count image enough (inr carries) = record { number = n + length (in_flight (sight old).desk); state = after state (in_flight (sight old).desk); enough = omega (arith, enough); carried = carries }

    pub append-step : (step : Step) (note : StepNote) (out : List Outgoing) → step ≡ Append → IsAppendNote (sight old) note → appended note (sight old) ≡ record { after = sight new; at_once = out; left = [] }
        → IsFitNote (fits (sight old) (store_sight history old).room) note → IsAppendedRoom note (sight old) (store_sight history old).room (store_sight history new).room
        → ((n : ℕ) (state : Durable) → StandsAt honest history (store_of old) n state → note ≡ Done → StandsAt honest history (store_of new) (n + length (in_flight (sight old).desk)) (after state (in_flight (sight old).desk)))
        → (note ≢ Done → note ≢ Device → IsUnchanged (store_of old) (store_of new)) → IsTaken honest history step note out old new
    unfolding IsNoteOf turn IsStoreNote phase_then IsRoomThen
    append-step step note out is noted now fit room stands-now same = subst (λ (s : Step). IsTaken honest history s note out old new) (sym is) (by-note note noted now (append-turn note fit room) fit stands-now same)
      where
        still : (note : StepNote) → IsFitNote (fits (sight old) (store_sight history old).room) note → IsAppendedRoom note (sight old) (store_sight history old).room (store_sight history old).room
            → IsStoreTurn Append note (sight old) (store_sight history old) (store_sight history old)
        still note fit room = record { noted = fit; phase = refl; room = room }

        by-note : (note : StepNote) → IsAppendNote (sight old) note → appended note (sight old) ≡ record { after = sight new; at_once = out; left = [] }
            → IsStoreTurn Append note (sight old) (store_sight history old) (store_sight history new) → IsFitNote (fits (sight old) (store_sight history old).room) note
            → ((n : ℕ) (state : Durable) → StandsAt honest history (store_of old) n state → note ≡ Done → StandsAt honest history (store_of new) (n + length (in_flight (sight old).desk)) (after state (in_flight (sight old).desk)))
            → (note ≢ Done → note ≢ Device → IsUnchanged (store_of old) (store_of new)) → IsTaken honest history Append note out old new
        by-note Done noted now store fit stands-now same = appended-step out noted store now (λ n state stands. stands-now n state stands refl)
        by-note Nothing noted now store fit stands-now same =
            at-rest Append Nothing out noted (ap (λ (t : Turn). t.after) now) (ap out_of now ∙ append-nil out) (same (λ is. absurd (cc is)) (λ is. absurd (cc is))) (after-nothing (sight old)) (still Nothing fit refl) refl
        by-note Full noted now store fit stands-now same =
            at-rest Append Full out noted (ap (λ (t : Turn). t.after) now) (ap out_of now ∙ append-nil out) (same (λ is. absurd (cc is)) (λ is. absurd (cc is))) (after-full (sight old)) (still Full fit refl) refl
        by-note Device noted now store fit stands-now same = failed-step out noted store now
        by-note other noted now store fit stands-now same = absurd noted

  -- a step of a compaction keeps the pair in every image, whether or not the disk fails
  compact-quiet : (note : StepNote) (w : Sight) → note ≢ Device → (compacted note w).after ≡ w
  compact-quiet Device w serves = absurd (serves refl)
  compact-quiet other w serves = refl

  compact-settled : (note : StepNote) (w : Sight) → settled_of (compacted note w).after.desk ≡ settled_of w.desk
  compact-settled Device w = refl
  compact-settled other w = refl

  pub compact-step : (step : Step) (note : StepNote) (out : List Outgoing) → wanted_phase step ≢ None → IsNoteOf step (sight old) note → turn step note (sight old) ≡ compacted note (sight old)
      → compacted note (sight old) ≡ record { after = sight new; at_once = out; left = [] }
      → ((n : ℕ) (state : Durable) → StandsAt honest history (store_of old) n state → LeavesOnly (history (disk_of (store_of old))) (history (disk_of (store_of new))) (λ image. Carries image (sectors_of (store_of old)) n state))
      → ((n : ℕ) (state : Durable) → StandsAt honest history (store_of old) n state → note ≢ Device → StandsAt honest history (store_of new) n state)
      → sectors_of (store_of new) ≡ sectors_of (store_of old) → IsStoreTurn step note (sight old) (store_sight history old) (store_sight history new)
      → IfSome (calls_in step (sight old) (store_sight history old).room) (λ (calls : ℕ). (history (disk_of (store_of new))).now ≤ (history (disk_of (store_of old))).now + calls)
      → ((n : ℕ) (state : Durable) → StandsAt honest history (store_of old) n state → is_read_without_room (step, note) ≡ false)
      → IsTaken honest history step note out old new
  compact-step step note out some noted turn-is now images stands size store calls reads = record {
    noted = noted;
    after = ap (λ (t : Turn). t.after) (turn-is ∙ now);
    left = ap out_of (turn-is ∙ now) ∙ append-nil out;
    images = λ n state was. LeavesOnly-weaker (history (disk_of (store_of old))) (history (disk_of (store_of new))) (λ image. Carries image (sectors_of (store_of old)) n state)
        (CarriesFront (sectors_of (store_of old)) n state (to_store ((step, note) ∷ []) (sight old))) (carries-none (sectors_of (store_of old)) n state (to_store ((step, note) ∷ []) (sight old))) (images n state was);
    stored = λ n state was serves. stored-none honest history (store_of new) (to_store ((step, note) ∷ []) (sight old)) (unstored (sight new))
        (to-compact (sight old) step note some ∙ ap unstored (sym (compact-quiet note (sight old) serves) ∙ ap (λ (t : Turn). t.after) now)) n state (stands n state was serves);
    holds = λ n state was image left. carries-least (sectors_of (store_of old)) n state (settled_of (sight new).desk) image
        (omega (arith, old.agree.enough, was.front_is, sym (compact-settled note (sight old)) ∙ ap (λ (t : Turn). settled_of t.after.desk) now))
        (LeavesOnly-present (history (disk_of (store_of old))) (history (disk_of (store_of new))) (λ image. Carries image (sectors_of (store_of old)) n state) (images n state was) image left);
    same_sectors = size;
    still = λ _ n state was. (images n state was, stands n state was);
    store = store;
    clock = λ _. calls;
    reads = reads;
  }
