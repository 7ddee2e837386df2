-- A run before its end, and how it ends.
use Rattle.std.proofs.Common.{◌≡◌, ◌≢◌, inl, inr, ℕ, ◌+◌, ◌≤◌, Bool, true, false, List, [], ◌∷◌, ◌++◌, append_assoc, length, length-append, drop, Option, None, Some, refl, sym, ap, ◌∙◌, subst, arith}
use Rattle.std.specs.List.{list_any, zip}
use Rattle.std.specs.Prelude.{IfSome}
use Rattle.std.proofs.lemmas.Bool.{false≢true}
use Rattle.cg_disk.specs.Disk.{History, Image, LeavesOnly}
use Rattle.cg_disk.proofs.Moments.{LeavesOnly-then, LeavesOnly-weaker}
use Rattle.cg_fold.specs.Durable.{State as Durable, after}
use Rattle.cg_record.specs.declared.command.Command.{Command}
use Rattle.cg_store.specs.Carried.{Carries}
use Rattle.cg_store.specs.Store.{StandsAt, disk_of, sectors_of}
use Rattle.cg_desk.specs.Desks.{settled_of}
use Rattle.cg_desk.specs.declared.outgoing.Outgoing.{Outgoing}
use Rattle.cg_world.specs.Agreeing.{is_serving}
use Rattle.cg_world.specs.Carrying.{CarriesAtLeast, CarriesFront, HasStored, HoldsAtLeast}
use Rattle.cg_world.specs.Faults.{is_failure}
use Rattle.cg_world.specs.Replying.{IsOrderly}
use Rattle.cg_world.specs.Running.{IsLastStore, IsRun, IsStopBefore, KeepsSettled, refusal_of_first}
use Rattle.cg_world.specs.Runs.{AreNotes, after_run, made_in, outs_of, to_store, unstored}
use Rattle.cg_world.specs.Sights.{Sight, StoreSight, sight, store_of, store_sight}
use Rattle.cg_world.specs.Steps.{IsOutOfMemory, IsTaken}
use Rattle.cg_world.specs.StoreTurns.{AreStoreTurns, IsStoreStop, IsStoreTurn, calls_in, is_append, is_read_without_room, last_store}
use Rattle.cg_world.specs.Turns.{IsNoteOf, out_of, turn}
use Rattle.cg_world.specs.declared.step.Step.{Step}
use Rattle.cg_world.specs.declared.step.StepNote.{StepNote}
use Rattle.cg_world.specs.declared.step.StepNote.TheVariants.{Done, Device}
use Rattle.cg_world.specs.declared.step.StopCause.TheVariants as cause
use Rattle.cg_world.specs.declared.trace.Trace.{Trace}
use Rattle.cg_world.specs.declared.world.World.{World}
use Rattle.cg_world.proofs.Carrying.{carries-least, holds-at, images-stay, pair-stays}
use Rattle.cg_world.proofs.Going.{after-snoc, all-taken, carries-behind, carries-more, drop-snoc, few-snoc, last-none, last-snoc, no-append, no-turns, notes-snoc, nothing-yet, outs-snoc, pair-moves, reads-snoc, sound-snoc, stored-grows, stored-parts, stores-snoc, zip-none, zip-snoc}
use Rattle.cg_world.proofs.Leaving.{leaves, stays}
use Rattle.cg_world.proofs.Resting.{device-fails, turn-stays-failed}
use Rattle.cg_world.proofs.Settling.{run-grows, settled-later, settled-snoc, settled-start}

module _ {D : Type 0} {g : _} (honest : D → Bool) (history : D → History) where
  -- what holds after some steps, while the disk has not failed
  pub record Going (steps rest : List Step) (notes : List StepNote) (outs : List (List Outgoing)) (old now : World D g) : Type 0 where
    pub rest_is : rest ≡ drop (length notes) steps
    pub few : length notes ≤ length steps
    pub noted : AreNotes (zip steps notes) (sight old)
    pub out : outs ≡ outs_of (zip steps notes) (sight old)
    pub after : sight now ≡ after_run (zip steps notes) (sight old)
    pub sound : list_any is_failure notes ≡ false
    pub images : (n : ℕ) (state : Durable) → StandsAt honest history (store_of old) n state → LeavesOnly (history (disk_of (store_of old))) (history (disk_of (store_of now))) (CarriesFront (sectors_of (store_of old)) n state (to_store (zip steps notes) (sight old)))
    pub stored : (n : ℕ) (state : Durable) → StandsAt honest history (store_of old) n state → HasStored honest history (store_of now) n state (to_store (zip steps notes) (sight old)) (unstored (sight now))
    pub stores : List StoreSight
    pub turned : AreStoreTurns (zip steps notes) (sight old) (store_sight history old) stores
    pub last_is : last_store (store_sight history old) stores ≡ store_sight history now
    pub still : list_any is_append (zip steps notes) ≡ false → (n : ℕ) (state : Durable) → StandsAt honest history (store_of old) n state
        → LeavesOnly (history (disk_of (store_of old))) (history (disk_of (store_of now))) (λ image. Carries image (sectors_of (store_of old)) n state) × StandsAt honest history (store_of now) n state
    pub reads : (n : ℕ) (state : Durable) → StandsAt honest history (store_of old) n state → list_any is_read_without_room (zip steps notes) ≡ false
    pub steps_keep : (n : ℕ) (state : Durable) → StandsAt honest history (store_of old) n state → KeepsSettled (sectors_of (store_of old)) (history (disk_of (store_of now))) (zip steps notes) (sight old) (store_sight history old) stores
    pub same_sectors : sectors_of (store_of now) ≡ sectors_of (store_of old)
    pub failed : is_serving (sight old).desk ≡ false → (disk_of (store_of now) ≡ disk_of (store_of old)) × (is_serving (sight now).desk ≡ false)

  pub going-start : (steps : List Step) (old : World D g) → Going steps steps [] [] old old
  unfolding AreNotes outs_of after_run
  going-start steps old = record {
    rest_is = refl;
    few = omega (arith);
    noted = subst (λ ps. AreNotes ps (sight old)) (sym (zip-none steps)) tt;
    out = ap (λ ps. outs_of ps (sight old)) (sym (zip-none steps));
    after = ap (λ ps. after_run ps (sight old)) (sym (zip-none steps));
    sound = refl;
    images = images-stay honest history (store_of old) (store_of old) (to_store (zip steps []) (sight old)) refl;
    stored = λ n state stands. record {
      front = [];
      whole = ap (λ ps. to_store ps (sight old)) (zip-none steps) ∙ nothing-yet (sight old);
      stands = subst (λ (k : ℕ). StandsAt honest history (store_of old) k state) (sym (omega arith)) stands;
    };
    stores = [];
    turned = subst (λ ps. AreStoreTurns ps (sight old) (store_sight history old) []) (sym (zip-none steps)) (no-turns (sight old) (store_sight history old));
    last_is = last-none (store_sight history old);
    still = λ _ n state stands. (pair-stays honest history (store_of old) (store_of old) refl n state stands, stands);
    reads = λ n state stands. ap (list_any is_read_without_room) (zip-none steps);
    steps_keep = λ n state stands. subst (λ ps. KeepsSettled (sectors_of (store_of old)) (history (disk_of (store_of old))) ps (sight old) (store_sight history old) []) (sym (zip-none steps))
        (settled-start (sectors_of (store_of old)) (history (disk_of (store_of old))) (sight old) (store_sight history old) refl (holds-at honest history (store_of old) (sectors_of (store_of old)) (settled_of (sight old).desk) n state refl old.agree.enough stands));
    same_sectors = refl;
    failed = λ is. (refl, is);
  }

  -- what the store has, is settled and more
  at-entry : (sectors : ℕ) (old : World D g) (n : ℕ) (state : Durable) (commands : List Command) → StandsAt honest history (store_of old) n state → (image : Image) → CarriesFront sectors n state commands image → CarriesAtLeast sectors (settled_of (sight old).desk) image
  at-entry sectors old n state commands stands image carries = record { number = n + length carries.front; state = after state carries.front; enough = omega (arith, old.agree.enough, stands.front_is); carried = carries.carried }

  -- one more step
  module _ (steps rest : List Step) (s : Step) (notes : List StepNote) (outs : List (List Outgoing)) (old now new : World D g) (note : StepNote) (out : List Outgoing)
      (so_far : Going steps (s ∷ rest) notes outs old now) (step : IsTaken honest history s note out now new)
      (rests : is_serving (sight now).desk ≡ false → disk_of (store_of new) ≡ disk_of (store_of now)) where
    ps : List (Step × StepNote)
    ps = zip steps notes

    longer : zip steps (notes ++ note ∷ []) ≡ ps ++ (s, note) ∷ []
    unfolding ps
    longer = zip-snoc steps rest s notes note so_far.rest_is

    pub more-noted : AreNotes (zip steps (notes ++ note ∷ [])) (sight old)
    unfolding ps
    more-noted =
        subst (λ qs. AreNotes qs (sight old)) (sym longer)
        (notes-snoc ps (s, note) (sight old) so_far.noted (subst (λ (w : Sight). IsNoteOf s w note) so_far.after step.noted))

    pub more-out : outs ++ out ∷ [] ≡ outs_of (zip steps (notes ++ note ∷ [])) (sight old)
    unfolding ps
    more-out =
        ap (λ (l : List (List Outgoing)). l ++ out ∷ []) so_far.out
        ∙ ap (λ (o : List Outgoing). outs_of ps (sight old) ++ o ∷ []) (sym step.left ∙ ap (λ (w : Sight). out_of (turn s note w)) so_far.after)
        ∙ sym (outs-snoc ps (s, note) (sight old))
        ∙ ap (λ qs. outs_of qs (sight old)) (sym longer)

    step-images : (k : ℕ) (st : Durable) → StandsAt honest history (store_of now) k st
        → LeavesOnly (history (disk_of (store_of now))) (history (disk_of (store_of new))) (CarriesFront (sectors_of (store_of old)) k st (to_store ((s, note) ∷ []) (sight now)))
    step-images k st stands =
        subst (λ (z : ℕ). LeavesOnly (history (disk_of (store_of now))) (history (disk_of (store_of new))) (CarriesFront z k st (to_store ((s, note) ∷ []) (sight now)))) so_far.same_sectors (step.images k st stands)

    step-holds : (k : ℕ) (st : Durable) → StandsAt honest history (store_of now) k st → HoldsAtLeast (sectors_of (store_of old)) (settled_of (sight new).desk) (history (disk_of (store_of new)))
    step-holds k st stands = subst (λ (z : ℕ). HoldsAtLeast z (settled_of (sight new).desk) (history (disk_of (store_of new)))) so_far.same_sectors (step.holds k st stands)

    pub more-after : sight new ≡ after_run (zip steps (notes ++ note ∷ [])) (sight old)
    unfolding ps
    more-after =
        sym step.after ∙ ap (λ (w : Sight). (turn s note w).after) so_far.after ∙ sym (after-snoc ps (s, note) (sight old)) ∙ ap (λ qs. after_run qs (sight old)) (sym longer)

    pub more-stores : List StoreSight
    more-stores = so_far.stores ++ store_sight history new ∷ []

    pub more-turned : AreStoreTurns (zip steps (notes ++ note ∷ [])) (sight old) (store_sight history old) more-stores
    unfolding ps more-stores
    more-turned =
        subst (λ qs. AreStoreTurns qs (sight old) (store_sight history old) (so_far.stores ++ store_sight history new ∷ [])) (sym longer)
        (stores-snoc ps (s, note) (sight old) (store_sight history old) so_far.stores (store_sight history new) so_far.turned
        (subst (λ (t : StoreSight). IsStoreTurn s note (after_run ps (sight old)) t (store_sight history new)) (sym so_far.last_is)
        (subst (λ (w : Sight). IsStoreTurn s note w (store_sight history now) (store_sight history new)) so_far.after step.store)))

    pub more-last : last_store (store_sight history old) more-stores ≡ store_sight history new
    unfolding more-stores
    more-last = last-snoc (store_sight history old) so_far.stores (store_sight history new)

    -- the pair, if there was no append
    pub more-still : list_any is_append (zip steps (notes ++ note ∷ [])) ≡ false → (n : ℕ) (state : Durable) → StandsAt honest history (store_of old) n state
        → LeavesOnly (history (disk_of (store_of old))) (history (disk_of (store_of new))) (λ image. Carries image (sectors_of (store_of old)) n state) × (note ≢ Device → StandsAt honest history (store_of new) n state)
    unfolding ps
    more-still none n state stands =
        let parts = no-append ps (s, note) (ap (list_any is_append) (sym longer) ∙ none) in
        let was = so_far.still parts.0 n state stands in
        let now_is = step.still parts.1 n state was.1 in (
          LeavesOnly-then (history (disk_of (store_of old))) (history (disk_of (store_of now))) (history (disk_of (store_of new))) (λ image. Carries image (sectors_of (store_of old)) n state) was.0
              (subst (λ (z : ℕ). LeavesOnly (history (disk_of (store_of now))) (history (disk_of (store_of new))) (λ image. Carries image z n state)) so_far.same_sectors now_is.0),
          now_is.1,
        )

    module _ (n : ℕ) (state : Durable) (stands : StandsAt honest history (store_of old) n state) where
      before : HasStored honest history (store_of now) n state (to_store ps (sight old)) (unstored (sight now))
      unfolding ps
      before = so_far.stored n state stands

      parts : to_store (ps ++ (s, note) ∷ []) (sight old) ≡ before.front ++ to_store ((s, note) ∷ []) (sight now)
      unfolding ps
      parts =
          stored-parts ps (s, note) (sight old) before.front (before.whole ∙ ap (λ (w : Sight). before.front ++ unstored w) (after-now))
          ∙ ap (λ (w : Sight). before.front ++ to_store ((s, note) ∷ []) w) (sym after-now)
        where
          after-now : sight now ≡ after_run ps (sight old)
          after-now = so_far.after

      pub more-images : LeavesOnly (history (disk_of (store_of old))) (history (disk_of (store_of new))) (CarriesFront (sectors_of (store_of old)) n state (to_store (zip steps (notes ++ note ∷ [])) (sight old)))
      unfolding ps
      more-images =
          subst (λ qs. LeavesOnly (history (disk_of (store_of old))) (history (disk_of (store_of new))) (CarriesFront (sectors_of (store_of old)) n state (to_store qs (sight old)))) (sym longer)
          (LeavesOnly-then (history (disk_of (store_of old))) (history (disk_of (store_of now))) (history (disk_of (store_of new))) (CarriesFront (sectors_of (store_of old)) n state (to_store (ps ++ (s, note) ∷ []) (sight old)))
          (LeavesOnly-weaker (history (disk_of (store_of old))) (history (disk_of (store_of now))) (CarriesFront (sectors_of (store_of old)) n state (to_store ps (sight old))) (CarriesFront (sectors_of (store_of old)) n state (to_store (ps ++ (s, note) ∷ []) (sight old)))
          (carries-more (sectors_of (store_of old)) n state (to_store ps (sight old)) (made_in s (after_run ps (sight old)).desk) (to_store (ps ++ (s, note) ∷ []) (sight old)) (stored-grows ps (s, note) (sight old)))
          (so_far.images n state stands))
          (LeavesOnly-weaker (history (disk_of (store_of now))) (history (disk_of (store_of new)))
          (CarriesFront (sectors_of (store_of old)) (n + length before.front) (after state before.front) (to_store ((s, note) ∷ []) (sight now))) (CarriesFront (sectors_of (store_of old)) n state (to_store (ps ++ (s, note) ∷ []) (sight old)))
          (carries-behind (sectors_of (store_of old)) n state before.front (to_store ((s, note) ∷ []) (sight now)) (to_store (ps ++ (s, note) ∷ []) (sight old)) parts)
          (step-images (n + length before.front) (after state before.front) before.stands)))

      pub more-stored : note ≢ Device → HasStored honest history (store_of new) n state (to_store (zip steps (notes ++ note ∷ [])) (sight old)) (unstored (sight new))
      unfolding ps
      more-stored serves =
          let then = step.stored (n + length before.front) (after state before.front) before.stands serves in
          record {
            front = before.front ++ then.front;
            whole = ap (λ qs. to_store qs (sight old)) longer ∙ parts ∙ ap (λ (l : List Command). before.front ++ l) then.whole ∙ sym (append_assoc before.front then.front (unstored (sight new)));
            stands = pair-moves (λ k st. StandsAt honest history (store_of new) k st) n state before.front then.front then.stands;
          }

      pub more-reads : list_any is_read_without_room (zip steps (notes ++ note ∷ [])) ≡ false
      unfolding ps
      more-reads =
          ap (list_any is_read_without_room) longer ∙ reads-snoc ps (s, note) (so_far.reads n state stands) (step.reads (n + length before.front) (after state before.front) before.stands)

      run-on : LeavesOnly (history (disk_of (store_of now))) (history (disk_of (store_of new))) (CarriesAtLeast (sectors_of (store_of old)) (settled_of (after_run ps (sight old)).desk))
      unfolding ps
      run-on =
          subst (λ (w : Sight). LeavesOnly (history (disk_of (store_of now))) (history (disk_of (store_of new))) (CarriesAtLeast (sectors_of (store_of old)) (settled_of w.desk))) so_far.after
          (LeavesOnly-weaker (history (disk_of (store_of now))) (history (disk_of (store_of new))) (CarriesFront (sectors_of (store_of old)) (n + length before.front) (after state before.front) (to_store ((s, note) ∷ []) (sight now))) (CarriesAtLeast (sectors_of (store_of old)) (settled_of (sight now).desk))
          (at-entry (sectors_of (store_of old)) now (n + length before.front) (after state before.front) (to_store ((s, note) ∷ []) (sight now)) before.stands)
          (step-images (n + length before.front) (after state before.front) before.stands))

      pub more-steps : KeepsSettled (sectors_of (store_of old)) (history (disk_of (store_of new))) (zip steps (notes ++ note ∷ [])) (sight old) (store_sight history old) more-stores
      unfolding ps more-stores
      more-steps =
          subst (λ qs. KeepsSettled (sectors_of (store_of old)) (history (disk_of (store_of new))) qs (sight old) (store_sight history old) (so_far.stores ++ store_sight history new ∷ [])) (sym longer)
          (settled-snoc (sectors_of (store_of old)) (history (disk_of (store_of now))) (history (disk_of (store_of new))) ps (s, note) (sight old) (store_sight history old) so_far.stores (store_sight history new)
          run-on
          (subst (λ (t : StoreSight). t.clock ≤ (history (disk_of (store_of new))).now) (sym so_far.last_is) run-on.later)
          (subst (λ (t : StoreSight). IfSome (calls_in s (after_run ps (sight old)) t.room) (λ (calls : ℕ). (history (disk_of (store_of new))).now ≤ t.clock + calls)) (sym so_far.last_is)
          (subst (λ (w : Sight). IfSome (calls_in s w (store_sight history now).room) (λ (calls : ℕ). (history (disk_of (store_of new))).now ≤ (history (disk_of (store_of now))).now + calls)) so_far.after (step.clock before.stands.is_honest)))
          refl
          (subst (λ (w : Sight). HoldsAtLeast (sectors_of (store_of old)) (settled_of w.desk) (history (disk_of (store_of new)))) (sym step.after ∙ ap (λ (w : Sight). (turn s note w).after) so_far.after) (step-holds (n + length before.front) (after state before.front) before.stands))
          (so_far.steps_keep n state stands))

      pub more-left : HoldsAtLeast (sectors_of (store_of old)) (settled_of (sight new).desk) (history (disk_of (store_of new)))
      more-left = step-holds (n + length before.front) (after state before.front) before.stands

    pub more-failed : is_serving (sight old).desk ≡ false → (disk_of (store_of new) ≡ disk_of (store_of old)) × (is_serving (sight new).desk ≡ false)
    more-failed is =
        let was = so_far.failed is in (
          rests was.1 ∙ was.0,
          ap (λ (w : Sight). is_serving w.desk) (sym step.after) ∙ turn-stays-failed s note (sight now) was.1,
        )

  pub going-on : (steps rest : List Step) (s : Step) (notes : List StepNote) (outs : List (List Outgoing)) (old now new : World D g) (note : StepNote) (out : List Outgoing)
      → Going steps (s ∷ rest) notes outs old now → IsTaken honest history s note out now new → (is_serving (sight now).desk ≡ false → disk_of (store_of new) ≡ disk_of (store_of now)) → is_failure note ≡ false
      → Going steps rest (notes ++ note ∷ []) (outs ++ out ∷ []) old new
  going-on steps rest s notes outs old now new note out so_far step idle sound = record {
    rest_is = drop-snoc steps rest s notes note so_far.rest_is;
    few = few-snoc steps rest s notes note so_far.rest_is;
    noted = more-noted steps rest s notes outs old now new note out so_far step idle;
    out = more-out steps rest s notes outs old now new note out so_far step idle;
    after = more-after steps rest s notes outs old now new note out so_far step idle;
    sound = sound-snoc notes note so_far.sound sound;
    images = more-images steps rest s notes outs old now new note out so_far step idle;
    stored = λ n state stands. more-stored steps rest s notes outs old now new note out so_far step idle n state stands (λ is. false≢true (sym sound ∙ ap is_failure is));
    stores = more-stores steps rest s notes outs old now new note out so_far step idle;
    turned = more-turned steps rest s notes outs old now new note out so_far step idle;
    last_is = more-last steps rest s notes outs old now new note out so_far step idle;
    still = λ none n state stands.
        let kept = more-still steps rest s notes outs old now new note out so_far step idle none n state stands in
        (kept.0, kept.1 (λ is. false≢true (sym sound ∙ ap is_failure is)));
    reads = more-reads steps rest s notes outs old now new note out so_far step idle;
    steps_keep = more-steps steps rest s notes outs old now new note out so_far step idle;
    failed = more-failed steps rest s notes outs old now new note out so_far step idle;
    same_sectors = step.same_sectors ∙ so_far.same_sectors;
  }

  -- What images carry since the beginning has all that was settled then.
  entered : (old now : World D g) (commands : List Command) → ((n : ℕ) (state : Durable) → StandsAt honest history (store_of old) n state → LeavesOnly (history (disk_of (store_of old))) (history (disk_of (store_of now))) (CarriesFront (sectors_of (store_of old)) n state commands))
      → (n : ℕ) (state : Durable) → StandsAt honest history (store_of old) n state → LeavesOnly (history (disk_of (store_of old))) (history (disk_of (store_of now))) (CarriesAtLeast (sectors_of (store_of old)) (settled_of (sight old).desk))
  entered old now commands images n state stands =
      LeavesOnly-weaker (history (disk_of (store_of old))) (history (disk_of (store_of now))) (CarriesFront (sectors_of (store_of old)) n state commands) (CarriesAtLeast (sectors_of (store_of old)) (settled_of (sight old).desk)) (at-entry (sectors_of (store_of old)) old n state commands stands) (images n state stands)

  held-now : (old now : World D g) (commands rest : List Command) → sectors_of (store_of now) ≡ sectors_of (store_of old) → ((n : ℕ) (state : Durable) → StandsAt honest history (store_of old) n state → HasStored honest history (store_of now) n state commands rest)
      → (n : ℕ) (state : Durable) → StandsAt honest history (store_of old) n state → HoldsAtLeast (sectors_of (store_of old)) (settled_of (sight now).desk) (history (disk_of (store_of now)))
  held-now old now commands rest size stored n state stands =
      let there = stored n state stands in
      holds-at honest history (store_of now) (sectors_of (store_of old)) (settled_of (sight now).desk) (n + length there.front) (after state there.front) size now.agree.enough there.stands

  -- all steps were taken
  pub run-done : (steps : List Step) (notes : List StepNote) (outs : List (List Outgoing)) (old now : World D g) (trace : Trace) → Going steps [] notes outs old now
      → trace ≡ record { out = outs; notes = notes; last = None; stopped = None } → IsRun honest history steps old now trace
  run-done steps notes outs old now trace going is = subst (λ (t : Trace). IsRun honest history steps old now t) (sym is) (record {
    traced = record {
      notes = going.noted;
      out = going.out;
      world = going.after;
      ends = (going.sound, all-taken steps notes going.rest_is going.few);
      last = refl;
      released = λ h. leaves (zip steps notes) (sight old) h going.noted;
      orderly = λ h. subst IsOrderly (sym going.after) (stays (zip steps notes) (sight old) h going.noted);
      fails = λ broken. absurd (false≢true broken);
    };
    stores = going.stores;
    turns = going.turned;
    last_is = sym going.last_is;
    freed = now.store.idle;
    kept = λ n state stands. record {
      disk = record {
        prefix = going.images n state stands;
        at_entry = entered old now (to_store (zip steps notes) (sight old)) going.images n state stands;
        at_exit = subst (λ (w : Sight). HoldsAtLeast (sectors_of (store_of old)) (settled_of w.desk) (history (disk_of (store_of now)))) going.after (held-now old now (to_store (zip steps notes) (sight old)) (unstored (sight now)) going.same_sectors going.stored n state stands);
        at_steps = going.steps_keep n state stands;
      };
      store = λ _. going.stored n state stands;
      still = λ none. (going.still none n state stands).0;
      reads = going.reads n state stands;
    };
    settled = now.agree.enough;
    sectors = going.same_sectors;
    grows = subst (λ (w : Sight). settled_of (sight old).desk ≤ settled_of w.desk) (sym going.after) (run-grows (zip steps notes) (sight old));
    rests = λ f. (going.failed f).0;
  })

  -- an allocation failed
  module _ (steps rest : List Step) (s : Step) (notes : List StepNote) (outs : List (List Outgoing)) (old now new : World D g) (last : Option Outgoing) (trace : Trace) (going : Going steps (s ∷ rest) notes outs old now)
      (same : sight new ≡ sight now) (sectors : sectors_of (store_of new) ≡ sectors_of (store_of now))
      (images : (n : ℕ) (state : Durable) → StandsAt honest history (store_of now) n state → LeavesOnly (history (disk_of (store_of now))) (history (disk_of (store_of new))) (λ image. Carries image (sectors_of (store_of now)) n state))
      (stored : (n : ℕ) (state : Durable) → StandsAt honest history (store_of now) n state → StandsAt honest history (store_of new) n state) where
    stopped-stored : (n : ℕ) (state : Durable) → StandsAt honest history (store_of old) n state → HasStored honest history (store_of new) n state (to_store (zip steps notes) (sight old)) (unstored (sight new))
    stopped-stored n state stands =
        let there = going.stored n state stands in
        record {
          front = there.front;
          whole = there.whole ∙ ap (λ (w : Sight). there.front ++ unstored w) (sym same);
          stands = stored (n + length there.front) (after state there.front) there.stands;
        }

    last-images : (n : ℕ) (state : Durable) → StandsAt honest history (store_of old) n state → LeavesOnly (history (disk_of (store_of now))) (history (disk_of (store_of new))) (CarriesFront (sectors_of (store_of old)) n state (to_store (zip steps notes) (sight old)))
    last-images n state stands =
        let there = going.stored n state stands in
        LeavesOnly-weaker (history (disk_of (store_of now))) (history (disk_of (store_of new))) (λ image. Carries image (sectors_of (store_of now)) (n + length there.front) (after state there.front)) (CarriesFront (sectors_of (store_of old)) n state (to_store (zip steps notes) (sight old)))
        (λ image carries. record {
          front = there.front;
          rest = unstored (sight now);
          whole = there.whole;
          carried = subst (λ (z : ℕ). Carries image z (n + length there.front) (after state there.front)) going.same_sectors carries;
        })
        (images (n + length there.front) (after state there.front) there.stands)

    stopped-images : (n : ℕ) (state : Durable) → StandsAt honest history (store_of old) n state → LeavesOnly (history (disk_of (store_of old))) (history (disk_of (store_of new))) (CarriesFront (sectors_of (store_of old)) n state (to_store (zip steps notes) (sight old)))
    stopped-images n state stands =
        LeavesOnly-then (history (disk_of (store_of old))) (history (disk_of (store_of now))) (history (disk_of (store_of new))) (CarriesFront (sectors_of (store_of old)) n state (to_store (zip steps notes) (sight old))) (going.images n state stands) (last-images n state stands)

    -- what was settled when the run stopped
    settled-images : (n : ℕ) (state : Durable) → StandsAt honest history (store_of old) n state → LeavesOnly (history (disk_of (store_of now))) (history (disk_of (store_of new))) (CarriesAtLeast (sectors_of (store_of old)) (settled_of (after_run (zip steps notes) (sight old)).desk))
    settled-images n state stands =
        let there = going.stored n state stands in
        subst (λ (w : Sight). LeavesOnly (history (disk_of (store_of now))) (history (disk_of (store_of new))) (CarriesAtLeast (sectors_of (store_of old)) (settled_of w.desk))) going.after
        (LeavesOnly-weaker (history (disk_of (store_of now))) (history (disk_of (store_of new))) (λ image. Carries image (sectors_of (store_of now)) (n + length there.front) (after state there.front)) (CarriesAtLeast (sectors_of (store_of old)) (settled_of (sight now).desk))
        (λ image carries. carries-least (sectors_of (store_of old)) (n + length there.front) (after state there.front) (settled_of (sight now).desk) image (omega (arith, now.agree.enough, there.stands.front_is))
        (subst (λ (z : ℕ). Carries image z (n + length there.front) (after state there.front)) going.same_sectors carries))
        (images (n + length there.front) (after state there.front) there.stands))

    run-stopped : IsLastStore steps notes (Some cause.Memory) (sight new) (last_store (store_sight history old) going.stores) (store_sight history new)
        → (is_serving (sight now).desk ≡ false → disk_of (store_of new) ≡ disk_of (store_of now)) → last ≡ refusal_of_first (s ∷ rest)
        → trace ≡ record { out = outs; notes = notes; last = last; stopped = Some cause.Memory } → IsRun honest history steps old new trace
    run-stopped last_is rests told is =
        subst (λ (t : Trace). IsRun honest history steps old new t) (sym is) (record {
          traced = record {
            notes = going.noted;
            out = going.out;
            world = same ∙ going.after;
            ends = (going.sound, omega (arith, length-append notes (Done ∷ []), few-snoc steps rest s notes Done going.rest_is));
            last = told ∙ ap refusal_of_first going.rest_is;
            released = λ h. leaves (zip steps notes) (sight old) h going.noted;
            orderly = λ h. subst IsOrderly (sym (same ∙ going.after)) (stays (zip steps notes) (sight old) h going.noted);
            fails = λ broken. absurd (false≢true broken);
          };
          stores = going.stores;
          turns = going.turned;
          last_is = last_is;
          freed = new.store.idle;
          kept = λ n state stands. record {
            disk = record {
              prefix = stopped-images n state stands;
              at_entry = entered old new (to_store (zip steps notes) (sight old)) stopped-images n state stands;
              at_exit = subst (λ (w : Sight). HoldsAtLeast (sectors_of (store_of old)) (settled_of w.desk) (history (disk_of (store_of new)))) (same ∙ going.after) (held-now old new (to_store (zip steps notes) (sight old)) (unstored (sight new)) (sectors ∙ going.same_sectors) stopped-stored n state stands);
              at_steps = settled-later (sectors_of (store_of old)) (history (disk_of (store_of now))) (history (disk_of (store_of new))) (zip steps notes) (sight old) (store_sight history old) going.stores (settled-images n state stands) (going.steps_keep n state stands);
            };
            store = λ _. stopped-stored n state stands;
            still = λ none.
                let was = going.still none n state stands in
                LeavesOnly-then (history (disk_of (store_of old))) (history (disk_of (store_of now))) (history (disk_of (store_of new))) (λ image. Carries image (sectors_of (store_of old)) n state) was.0
                (subst (λ (z : ℕ). LeavesOnly (history (disk_of (store_of now))) (history (disk_of (store_of new))) (λ image. Carries image z n state)) going.same_sectors (images n state was.1));
            reads = going.reads n state stands;
          };
          settled = new.agree.enough;
          sectors = sectors ∙ going.same_sectors;
          grows = subst (λ (w : Sight). settled_of (sight old).desk ≤ settled_of w.desk) (sym (same ∙ going.after)) (run-grows (zip steps notes) (sight old));
          rests = λ f. rests (going.failed f).1 ∙ (going.failed f).0;
        })

  -- it failed for the next step
  pub run-wanting : (steps rest : List Step) (s : Step) (notes : List StepNote) (outs : List (List Outgoing)) (old now new : World D g) (last : Option Outgoing) (trace : Trace) → Going steps (s ∷ rest) notes outs old now
      → IsOutOfMemory honest history s now new → (is_serving (sight now).desk ≡ false → disk_of (store_of new) ≡ disk_of (store_of now)) → last ≡ refusal_of_first (s ∷ rest)
      → trace ≡ record { out = outs; notes = notes; last = last; stopped = Some cause.Memory } → IsRun honest history steps old new trace
  run-wanting steps rest s notes outs old now new last trace going short rests told is =
      run-stopped steps rest s notes outs old now new last trace going short.same short.same_sectors short.images short.stored
      (inr (subst (λ (l : List Step). IsStopBefore l (sight new) (last_store (store_sight history old) going.stores) (store_sight history new)) going.rest_is
      (subst (λ (t : StoreSight). IsStoreStop s (sight new) t (store_sight history new)) (sym going.last_is)
      (subst (λ (w : Sight). IsStoreStop s w (store_sight history now) (store_sight history new)) (sym short.same) short.stop))))
      rests told is

  -- the disk failed in a step
  pub run-broken : (steps rest : List Step) (s : Step) (notes : List StepNote) (outs : List (List Outgoing)) (old now new : World D g) (note : StepNote) (out : List Outgoing) (trace : Trace)
      → Going steps (s ∷ rest) notes outs old now → IsTaken honest history s note out now new → (is_serving (sight now).desk ≡ false → disk_of (store_of new) ≡ disk_of (store_of now)) → is_failure note ≡ true
      → trace ≡ record { out = outs ++ out ∷ []; notes = notes ++ note ∷ []; last = None; stopped = Some cause.Device } → IsRun honest history steps old new trace
  run-broken steps rest s notes outs old now new note out trace going step idle broken is = subst (λ (t : Trace). IsRun honest history steps old new t) (sym is) (record {
    traced = record {
      notes = noted-now;
      out = more-out steps rest s notes outs old now new note out going step idle;
      world = after-now;
      ends = (record { front = notes; sound = going.sound; is = ap (λ (k : StepNote). notes ++ k ∷ []) (device note broken) }, few-snoc steps rest s notes note going.rest_is);
      last = refl;
      released = λ h. leaves (zip steps (notes ++ note ∷ [])) (sight old) h noted-now;
      orderly = λ h. subst IsOrderly (sym after-now) (stays (zip steps (notes ++ note ∷ [])) (sight old) h noted-now);
      fails = λ _. ap (λ (w : Sight). is_serving w.desk) (sym step.after) ∙ ap (λ (k : StepNote). is_serving (turn s k (sight now)).after.desk) (device note broken)
          ∙ device-fails s (sight now) (subst (λ (k : StepNote). IsNoteOf s (sight now) k) (device note broken) step.noted);
    };
    stores = more-stores steps rest s notes outs old now new note out going step idle;
    turns = more-turned steps rest s notes outs old now new note out going step idle;
    last_is = sym (more-last steps rest s notes outs old now new note out going step idle);
    freed = new.store.idle;
    kept = λ n state stands. record {
      disk = record {
        prefix = more-images steps rest s notes outs old now new note out going step idle n state stands;
        at_entry = entered old new (to_store (zip steps (notes ++ note ∷ [])) (sight old)) (more-images steps rest s notes outs old now new note out going step idle) n state stands;
        at_exit = subst (λ (w : Sight). HoldsAtLeast (sectors_of (store_of old)) (settled_of w.desk) (history (disk_of (store_of new)))) after-now (more-left steps rest s notes outs old now new note out going step idle n state stands);
        at_steps = more-steps steps rest s notes outs old now new note out going step idle n state stands;
      };
      store = λ serves. absurd (false≢true (sym serves));
      still = λ none. (more-still steps rest s notes outs old now new note out going step idle none n state stands).0;
      reads = more-reads steps rest s notes outs old now new note out going step idle n state stands;
    };
    settled = new.agree.enough;
    sectors = step.same_sectors ∙ going.same_sectors;
    grows = subst (λ (w : Sight). settled_of (sight old).desk ≤ settled_of w.desk) (sym after-now) (run-grows (zip steps (notes ++ note ∷ [])) (sight old));
    rests = λ f. (more-failed steps rest s notes outs old now new note out going step idle f).0;
  })
    where
      noted-now : AreNotes (zip steps (notes ++ note ∷ [])) (sight old)
      noted-now = more-noted steps rest s notes outs old now new note out going step idle

      after-now : sight new ≡ after_run (zip steps (notes ++ note ∷ [])) (sight old)
      after-now = more-after steps rest s notes outs old now new note out going step idle

      device : (k : StepNote) → is_failure k ≡ true → k ≡ Device
      device Device is = refl
      device other is = absurd (false≢true is)

  -- The same, in the form of the loop of a run.
  pub begins : (steps rest : List Step) (notes : List StepNote) (outs : List (List Outgoing)) (old : World D g) → rest ≡ steps → notes ≡ [] → outs ≡ [] → Going steps rest notes outs old old
  begins steps rest notes outs old same none silent =
      subst (λ (r : List Step). Going steps r notes outs old old) (sym same)
      (subst (λ (ns : List StepNote). Going steps steps ns outs old old) (sym none)
      (subst (λ (os : List (List Outgoing)). Going steps steps [] os old old) (sym silent) (going-start steps old)))

  pub goes-on : (steps before rest : List Step) (s : Step) (notes notes_now : List StepNote) (outs outs_now : List (List Outgoing)) (old now new : World D g) (note : StepNote) (out : List Outgoing)
      → before ≡ s ∷ rest → notes_now ≡ notes ++ note ∷ [] → outs_now ≡ outs ++ out ∷ []
      → Going steps before notes outs old now → IsTaken honest history s note out now new → (is_serving (sight now).desk ≡ false → disk_of (store_of new) ≡ disk_of (store_of now)) → is_failure note ≡ false
      → Going steps rest notes_now outs_now old new
  goes-on steps before rest s notes notes_now outs outs_now old now new note out next noted told so_far step idle sound =
      subst (λ (ns : List StepNote). Going steps rest ns outs_now old new) (sym noted)
      (subst (λ (os : List (List Outgoing)). Going steps rest (notes ++ note ∷ []) os old new) (sym told)
      (going-on steps rest s notes outs old now new note out (subst (λ (l : List Step). Going steps l notes outs old now) next so_far) step idle sound))

  pub breaks : (steps before rest : List Step) (s : Step) (notes notes_now : List StepNote) (outs outs_now : List (List Outgoing)) (old now new : World D g) (note : StepNote) (out : List Outgoing) (trace : Trace)
      → before ≡ s ∷ rest → notes_now ≡ notes ++ note ∷ [] → outs_now ≡ outs ++ out ∷ []
      → Going steps before notes outs old now → IsTaken honest history s note out now new → (is_serving (sight now).desk ≡ false → disk_of (store_of new) ≡ disk_of (store_of now)) → is_failure note ≡ true
      → trace ≡ record { out = outs_now; notes = notes_now; last = None; stopped = Some cause.Device } → IsRun honest history steps old new trace
  breaks steps before rest s notes notes_now outs outs_now old now new note out trace next noted told so_far step idle broken is =
      run-broken steps rest s notes outs old now new note out trace (subst (λ (l : List Step). Going steps l notes outs old now) next so_far) step idle broken
      (is
      ∙ ap (λ (ns : List StepNote). let t : Trace = record { out = outs_now; notes = ns; last = None; stopped = Some cause.Device } in t) noted
      ∙ ap (λ (os : List (List Outgoing)). let t : Trace = record { out = os; notes = notes ++ note ∷ []; last = None; stopped = Some cause.Device } in t) told)

  -- no room for the trace
  pub run-none : (steps : List Step) (old : World D g) (last : Option Outgoing) (trace : Trace) → steps ≢ [] → last ≡ refusal_of_first steps → trace ≡ record { out = []; notes = []; last = last; stopped = Some cause.Memory } → IsRun honest history steps old old trace
  unfolding going-start
  run-none [] old last trace some told is = absurd (some refl)
  run-none (s ∷ ss) old last trace some told is =
      run-stopped (s ∷ ss) ss s [] [] old old old last trace (going-start (s ∷ ss) old) refl refl
      (pair-stays honest history (store_of old) (store_of old) refl)
      (λ n state stands. stands)
      (inl (refl, sym (last-none (store_sight history old))))
      (λ _. refl) told is
