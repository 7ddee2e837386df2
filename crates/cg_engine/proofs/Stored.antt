-- The calls of a store keep what every crash image carries.
use Rattle.std.proofs.Common.{◌≡◌, ◌≢◌, ℕ, ◌+◌, Bool, true, false, List, [], length, None, Result, Ok, Err, MatchResult, IfErr, OnOk, OnErr, IsErrOf, refl, sym, ◌∙◌, subst, inl, inr, arith}
use Rattle.cg_disk.specs.Disk.{History, Image, IsImage, LeavesOnly, Stays, present}
use Rattle.cg_disk.proofs.Moments.{Stays-content}
use Rattle.cg_fold.specs.Durable.{State, after}
use Rattle.cg_record.specs.declared.command.Command.{Command}
use Rattle.cg_store.proofs.Standing.{StandsAt-unchanged}
use Rattle.cg_store.proofs.Whole.{Carries-same}
use Rattle.cg_log.specs.Room.{Room}
use Rattle.cg_store.specs.Batches.{refusal_of}
use Rattle.cg_store.specs.Carried.{AllCarry, Carries, CarriesBeforeOrAfter}
use Rattle.cg_store.specs.Faults.{IsToldOf}
use Rattle.cg_store.specs.Phases.{IsCompactFaultOf, IsEnd, phase_refusal}
use Rattle.cg_store.specs.Store.{IsUnchanged, StandsAt, disk_of, front_of, has_failed, refusal, sectors_of}
use Rattle.cg_store.specs.declared.batch.Batch.{Batch}
use Rattle.cg_store.specs.declared.fault.CompactFault.{CompactFault}
use Rattle.cg_store.specs.declared.fault.CompactFault.TheVariants as compact_fault
use Rattle.cg_store.specs.declared.fault.StoreFault.{StoreFault}
use Rattle.cg_store.specs.declared.fault.StoreFault.TheVariants as store_fault
use Rattle.cg_store.specs.declared.phase.Phase.{Phase}
use Rattle.cg_store.specs.declared.phase.Progress.{Progress}
use Rattle.cg_store.specs.declared.store.Store.{Store}
use Rattle.cg_engine.specs.Stored.{AllCarryOr, IsStored, Stores}

-- the images of the last moment
last : {old new : History} (P : Image → Type 0) → LeavesOnly old new P → (image : Image) → IsImage (present new) image → P image
last {old} {new} P leaves image is = leaves.each new.now leaves.later (omega arith) image is

-- a store that refuses nothing at once has not failed
none-refused : (failed : Bool) (room : Room) (front first : ℕ) (commands : List Command) → refusal_of failed room front first commands ≡ None → failed ≡ false
unfolding refusal_of
none-refused false room front first commands none = refl
none-refused true room front first commands none = cc

-- a store on which the disk fails has not failed before
device-told : (failed : Bool) (room : Room) (front first : ℕ) (commands : List Command) → IsToldOf (refusal_of failed room front first commands) store_fault.Device → failed ≡ false
unfolding refusal_of
device-told false room front first commands told = refl
device-told true room front first commands told = cc

-- what every crash image of a disk carries, its content carries, and did so before calls that change nothing
pub found-before : (old new : History) (sectors n : ℕ) (state : State) → Stays old new → AllCarry new sectors n state → Carries (present old).content sectors n state
found-before old new sectors n state stays all =
    let now : Carries (present new).content sectors n state = all (present new).content (λ s safe. refl) in
    Carries-same (present new).content (present old).content sectors n state (λ s. sym (Stays-content old new stays s)) now

module _ {D : Type 0} {g : _} (honest : D → Bool) (history : D → History) where
  pub IsStored-unchanged : (old new : Store D g) (state : State) → IsUnchanged old new → IsStored honest history old state → IsStored honest history new state
  IsStored-unchanged old new state same stored =
      let disk = sym same.log.disk in
      let sectors = sym same.sectors in
      let number = sym same.log.number in
      record {
        failing = stored.failing;
        images = coe 0 1 (i. AllCarryOr (history (disk i)) (sectors i) (number i) state stored.failing) stored.images;
        whole = λ serves. stored.whole (sym same.log.failed ∙ serves);
        stands = λ serves. subst (λ (n : ℕ). StandsAt honest history new n state) number
            (StandsAt-unchanged honest history old new (front_of old) state same (stored.stands (sym same.log.failed ∙ serves)));
      }

  -- ---- an opening

  pub opened-stored : (store : Store D g) (size n : ℕ) (state : State) → sectors_of store ≡ size → front_of store ≡ n → AllCarry (history (disk_of store)) size n state → StandsAt honest history store n state
      → IsStored honest history store state
  opened-stored store size n state size_is front all stands =
      let sectors = sym size_is in
      let number = sym front in
      let images : AllCarry (history (disk_of store)) (sectors_of store) (front_of store) state = coe 0 1 (i. AllCarry (history (disk_of store)) (sectors i) (number i) state) all in
      record {
        failing = [];
        images = λ image is. inl (images image is);
        whole = λ _. refl;
        stands = λ _. subst (λ (k : ℕ). StandsAt honest history store k state) number stands;
      }

  -- ---- an append

  pub record Appends {R : Type 0} (old new : Store D g) (batch : Batch) (result : Result R (StoreFault × Batch)) : Type 0 where
    pub ok : (n : ℕ) (state : State) → StandsAt honest history old n state → OnOk result (StandsAt honest history new (n + length batch.commands) (after state batch.commands))
    pub images : (n : ℕ) (state : State) → StandsAt honest history old n state → LeavesOnly (history (disk_of old)) (history (disk_of new)) (CarriesBeforeOrAfter (sectors_of old) n state batch.commands)
    pub all : (n : ℕ) (state : State) → StandsAt honest history old n state → OnOk result (AllCarry (history (disk_of new)) (sectors_of old) (n + length batch.commands) (after state batch.commands))
    pub number : OnOk result (front_of new ≡ front_of old + length batch.commands)
    pub same_number : OnErr result (front_of new ≡ front_of old)
    pub told : MatchResult result (λ _. refusal old batch ≡ None) (λ refused. IsToldOf (refusal old batch) refused.0)
    pub unchanged : IfErr result (λ refused. refused.0 ≢ store_fault.Device → IsUnchanged old new)
    pub failed : IfErr result (λ refused. refused.0 ≡ store_fault.Device → has_failed new ≡ true)
    pub sectors : sectors_of new ≡ sectors_of old

  pub appended : {R : Type 0} (old new : Store D g) (batch : Batch) (r : R) (state : State) → Appends old new batch (Ok r) → IsStored honest history old state → IsStored honest history new (after state batch.commands)
  appended old new batch r state call stored =
      let serves = none-refused _ _ _ _ _ call.told in
      let stands = stored.stands serves in
      let number = sym call.number in
      let sectors = sym call.sectors in
      let all : AllCarry (history (disk_of new)) (sectors_of new) (front_of new) (after state batch.commands) =
      coe 0 1 (i. AllCarry (history (disk_of new)) (sectors i) (number i) (after state batch.commands)) (call.all (front_of old) state stands) in
      record {
        failing = [];
        images = λ image is. inl (all image is);
        whole = λ _. refl;
        stands = λ _. subst (λ (n : ℕ). StandsAt honest history new n (after state batch.commands)) number (call.ok (front_of old) state stands);
      }

  -- the disk failed in an append
  broken : {R : Type 0} (old new : Store D g) (batch back : Batch) (state : State) → Appends {R = R} old new batch (Err (store_fault.Device, back)) → IsStored honest history old state → IsStored honest history new state
  broken old new batch back state call stored =
      let serves = device-told _ _ _ _ _ call.told in
      let stands = stored.stands serves in
      let number = sym call.same_number in
      let sectors = sym call.sectors in
      let failed = call.failed refl in
      record {
        failing = batch.commands;
        images = coe 0 1 (i. AllCarryOr (history (disk_of new)) (sectors i) (number i) state batch.commands) (last _ (call.images (front_of old) state stands));
        whole = λ not-failed. cc (failed, not-failed);
        stands = λ not-failed. absurd (cc (failed, not-failed));
      }

  pub refused : {R : Type 0} (old new : Store D g) (batch back : Batch) (fault : StoreFault) (state : State) → Appends {R = R} old new batch (Err (fault, back)) → IsStored honest history old state → IsStored honest history new state
  refused old new batch back store_fault.Memory state call stored = IsStored-unchanged old new state (call.unchanged (λ e. cc)) stored
  refused old new batch back store_fault.Device state call stored = broken old new batch back state call stored
  refused old new batch back store_fault.Full state call stored = IsStored-unchanged old new state (call.unchanged (λ e. cc)) stored
  refused old new batch back store_fault.OutOfOrder state call stored = IsStored-unchanged old new state (call.unchanged (λ e. cc)) stored
  refused old new batch back store_fault.Failed state call stored = IsStored-unchanged old new state (call.unchanged (λ e. cc)) stored

  -- the batch is in the store after an append that succeeded
  pub kept-ok : {R : Type 0} (old new : Store D g) (batch : Batch) (state : State) (r : R) (result : Result R (StoreFault × Batch)) → result ≡ Ok r → honest (disk_of new) ≡ honest (disk_of old) → Appends old new batch result
      → Stores honest history old state → Stores honest history new (after state batch.commands)
  kept-ok {R = R} old new batch state r result is same call stored = λ now.
      appended old new batch r state (subst (λ (x : Result R (StoreFault × Batch)). Appends old new batch x) is call) (stored (sym same ∙ now))

  -- and it is as it was after one that failed
  pub kept-err : {R : Type 0} (old new : Store D g) (batch : Batch) (state : State) (fault : StoreFault × Batch) (result : Result R (StoreFault × Batch)) → result ≡ Err fault → honest (disk_of new) ≡ honest (disk_of old) → Appends old new batch result
      → Stores honest history old state → Stores honest history new state
  kept-err {R = R} old new batch state fault result is same call stored = λ now.
      refused old new batch fault.1 fault.0 state (subst (λ (x : Result R (StoreFault × Batch)). Appends old new batch x) is call) (stored (sym same ∙ now))

  -- ---- a step of a compaction

  pub record Compacts (old new : Store D g) (wanted phase : Phase) (result : Result Progress CompactFault) : Type 0 where
    pub stands : (n : ℕ) (state : State) → StandsAt honest history old n state → MatchResult result
        (λ _. StandsAt honest history new n state)
        (λ fault. fault ≢ compact_fault.Device → StandsAt honest history new n state)
    pub images : (n : ℕ) (state : State) → StandsAt honest history old n state → LeavesOnly (history (disk_of old)) (history (disk_of new)) (λ image. Carries image (sectors_of old) n state)
    pub told : MatchResult result (λ _. phase_refusal (has_failed old) wanted phase ≡ None) (λ fault. IsCompactFaultOf (phase_refusal (has_failed old) wanted phase) fault)
    pub unchanged : IfErr result (λ fault. ¬ IsEnd fault → IsUnchanged old new)
    pub failed : IsErrOf result compact_fault.Device → has_failed new ≡ true
    pub front : front_of new ≡ front_of old
    pub sectors : sectors_of new ≡ sectors_of old

  -- the store after a step in which every image carries the same pair
  same-pair : (old new : Store D g) (state : State) → front_of new ≡ front_of old → sectors_of new ≡ sectors_of old
      → LeavesOnly (history (disk_of old)) (history (disk_of new)) (λ image. Carries image (sectors_of old) (front_of old) state)
      → (has_failed new ≡ false → StandsAt honest history new (front_of old) state) → IsStored honest history new state
  same-pair old new state front sectors leaves stands =
      let number = sym front in
      let size = sym sectors in
      let images : (image : Image) → IsImage (present (history (disk_of new))) image → Carries image (sectors_of new) (front_of new) state =
      coe 0 1 (i. (image : Image) → IsImage (present (history (disk_of new))) image → Carries image (size i) (number i) state) (last _ leaves) in
      record {
        failing = [];
        images = λ image is. inl (images image is);
        whole = λ _. refl;
        stands = λ serves. subst (λ (n : ℕ). StandsAt honest history new n state) number (stands serves);
      }

  serving : (old new : Store D g) (wanted phase : Phase) (state : State) (result : Result Progress CompactFault) → has_failed old ≡ false → Compacts old new wanted phase result → IsStored honest history old state
      → (has_failed new ≡ false → StandsAt honest history new (front_of old) state) → IsStored honest history new state
  serving old new wanted phase state result serves call stored =
      same-pair old new state call.front call.sectors (call.images (front_of old) state (stored.stands serves))

  -- where no disk failed earlier
  stepped : (old new : Store D g) (wanted phase : Phase) (state : State) (result : Result Progress CompactFault) → has_failed old ≡ false → Compacts old new wanted phase result → IsStored honest history old state → IsStored honest history new state
  stepped old new wanted phase state (Ok progress) serves call stored =
      serving old new wanted phase state (Ok progress) serves call stored (λ _. call.stands (front_of old) state (stored.stands serves))
  stepped old new wanted phase state (Err compact_fault.Memory) serves call stored =
      serving old new wanted phase state (Err compact_fault.Memory) serves call stored (λ _. call.stands (front_of old) state (stored.stands serves) (λ e. cc))
  stepped old new wanted phase state (Err compact_fault.Device) serves call stored =
      let failed = call.failed refl in
      serving old new wanted phase state (Err compact_fault.Device) serves call stored (λ not-failed. absurd (cc (failed, not-failed)))
  stepped old new wanted phase state (Err compact_fault.NoRoom) serves call stored =
      serving old new wanted phase state (Err compact_fault.NoRoom) serves call stored (λ _. call.stands (front_of old) state (stored.stands serves) (λ e. cc))
  stepped old new wanted phase state (Err compact_fault.WrongPhase) serves call stored =
      serving old new wanted phase state (Err compact_fault.WrongPhase) serves call stored (λ _. call.stands (front_of old) state (stored.stands serves) (λ e. cc))
  stepped old new wanted phase state (Err compact_fault.Failed) serves call stored =
      serving old new wanted phase state (Err compact_fault.Failed) serves call stored (λ _. call.stands (front_of old) state (stored.stands serves) (λ e. cc))

  -- whether or not the disk failed earlier
  by-failure : (old new : Store D g) (wanted phase : Phase) (state : State) (result : Result Progress CompactFault) (failed : Bool) → has_failed old ≡ failed → Compacts old new wanted phase result
      → MatchResult result (λ _. phase_refusal failed wanted phase ≡ None) (λ fault. IsCompactFaultOf (phase_refusal failed wanted phase) fault)
      → IsStored honest history old state → IsStored honest history new state
  by-failure old new wanted phase state result false is call told stored = stepped old new wanted phase state result is call stored
  by-failure old new wanted phase state (Ok progress) true is call told stored = absurd (cc)
  by-failure old new wanted phase state (Err fault) true is call told stored =
      IsStored-unchanged old new state (call.unchanged (subst (λ (f : CompactFault). ¬ IsEnd f) (sym told) no-end)) stored
    where
      no-end : ¬ IsEnd compact_fault.Failed
      no-end (inl e) = cc
      no-end (inr (inl e)) = cc
      no-end (inr (inr e)) = cc

  pub compacted : (old new : Store D g) (wanted phase : Phase) (state : State) (result : Result Progress CompactFault) → Compacts old new wanted phase result → IsStored honest history old state → IsStored honest history new state
  compacted old new wanted phase state result call = by-failure old new wanted phase state result (has_failed old) refl call call.told
