-- Facts about a store with n commands and a state.
use Rattle.std.proofs.Common.{◌≡◌, inl, inr, ℕ, ◌+◌, ◌≤◌, Bool, List, [], ◌∷◌, ◌++◌, length, sym, ap, ◌∙◌, subst, refl, arith, Ok}
use Rattle.cg_disk.specs.Disk.{History, Image, IsImage, LeavesOnly, Moment, Stays, present}
use Rattle.cg_disk.proofs.Moments.{IsImage-content, LeavesOnly-starts, LeavesOnly-stays, LeavesOnly-weaker}
use Rattle.cg_fold.specs.Durable.{State, after}
use Rattle.cg_log.specs.Carried.{Content, HoldsContent, tails, AllCarry as AllCarryLog, Carries as LogCarries, CarriesBeforeOrAfter as LogBeforeOrAfter}
use Rattle.cg_log.specs.Log as log_model
use Rattle.cg_log.specs.Log.{HasFresh, LogHas}
use Rattle.cg_log.specs.Rolled.{IsAppended}
use Rattle.cg_log.specs.Segments.{Filled, Frames, counted, frames_of}
use Rattle.cg_log.specs.declared.numbers.TheConstants.{COMMAND_NUMBER_MAX}
use Rattle.cg_log.proofs.Images as log
use Rattle.cg_record.specs.declared.command.Command.{Command}
use Rattle.cg_record.specs.Lawful.{AreCommands}
use Rattle.cg_record.specs.Reading.{commands_of}
use Rattle.cg_root.specs.declared.root.Root.{Root}
use Rattle.cg_store.specs.Carried.{AllCarry, Carries, CarriesBeforeOrAfter, IsFrameOf, Spell}
use Rattle.cg_store.specs.Compacting.{Compacts, HaveSameFrames, IsFrameRead}
use Rattle.cg_store.specs.Store.{IsUnchanged, StandsAt, disk_of, front_of, sectors_of}
use Rattle.cg_store.specs.declared.compaction.Compaction.{Compaction}
use Rattle.cg_store.specs.declared.compaction.Compaction.TheVariants.{Idle}
use Rattle.cg_store.specs.declared.phase.Progress.{Progress}
use Rattle.cg_store.specs.declared.store.Store.{Store}
use Rattle.cg_store.proofs.Compacted.{Compacts-grown, Compacts-kept, HasFresh-unchanged}
use Rattle.cg_store.proofs.Growing.{Grown-appended}
use Rattle.cg_store.proofs.Spelled.{Spell-tail}

-- ---- what a log holds, and what its frames spell

module _ (m : Moment) (sectors : ℕ) (root : Root) (end number : ℕ) (has : Content) (small : number ≤ COMMAND_NUMBER_MAX) (holds : HoldsContent m sectors root end number has) where
  pub held-carry : (state : State) → Spell (frames_of has.base ++ frames_of (tails has)) state → (image : Image) → IsImage m image → Carries image sectors number state
  held-carry state spelled image left = record {
    base = frames_of has.base;
    tail = frames_of (tails has);
    log = log.AllCarry-holds m sectors root end number has small holds image left;
    spelled = spelled;
  }

  -- these are the frames that the crash images carry
  pub Spell-held : (n : ℕ) (base tail : Frames) (state : State) → AllCarryLog m sectors n base tail → Spell (base ++ tail) state → Spell (frames_of has.base ++ frames_of (tails has)) state
  Spell-held n base tail state all spelled =
      let now = IsImage-content m in
      let one = log.Carries-unique m.content sectors n number base (frames_of has.base) tail (frames_of (tails has)) (all m.content now) (log.AllCarry-holds m sectors root end number has small holds m.content now) in
      let frames : base ++ tail ≡ frames_of has.base ++ frames_of (tails has) = λ i. (one.1) i ++ (one.2) i in
      subst (λ (l : Frames). Spell l state) frames spelled

-- ---- one more frame

sum-one : (count : ℕ) (payload : List ℕ) → counted ((count, payload) ∷ []) ≡ count
sum-one count payload = omega arith

Carries-appended : (sectors n : ℕ) (base tail : Frames) (state : State) (commands : List Command) (payload : List ℕ) (count : ℕ) → Spell (base ++ tail) state → IsFrameOf (count, payload) commands
    → (image : Image) → LogBeforeOrAfter sectors n base tail count payload image → CarriesBeforeOrAfter sectors n state commands image
Carries-appended sectors n base tail state commands payload count spelled is image (inl before) = inl (record { base = base; tail = tail; log = before; spelled = spelled })
Carries-appended sectors n base tail state commands payload count spelled is image (inr now) =
    inr (subst (λ (k : ℕ). Carries image sectors (n + k) (after state commands)) is.number
    (record { base = base; tail = tail ++ (count, payload) ∷ []; log = now; spelled = Spell-tail base tail state (count, payload) commands spelled is }))

-- ---- stores

module _ {D : Type 0} {g : _} (honest : D → Bool) (history : D → History) where
  -- every crash image has the commands and the state
  pub StandsAt-carry : (store : Store D g) (n : ℕ) (state : State) → StandsAt honest history store n state → AllCarry (history (disk_of store)) (sectors_of store) n state
  StandsAt-carry store n state stands =
      subst (λ (k : ℕ). AllCarry (history (disk_of store)) (sectors_of store) k state) stands.front_is
      (held-carry (present (history (disk_of store))) (sectors_of store) (log_model.root_of store.log) (log_model.end_of store.log) (front_of store) stands.has store.log.in_range stands.holds state stands.spelled)

  -- a store that did not change has the same commands and state
  pub StandsAt-unchanged : (old new : Store D g) (n : ℕ) (state : State) → IsUnchanged old new → StandsAt honest history old n state → StandsAt honest history new n state
  StandsAt-unchanged old new n state same stands =
      let disk = sym same.log.disk in
      let sectors = sym same.sectors in
      let root = sym same.log.root in
      let end = sym same.log.end in
      let number = sym same.log.number in
      record {
        is_honest = ap honest same.log.disk ∙ stands.is_honest;
        front_is = same.log.number ∙ stands.front_is;
        has = stands.has;
        holds = coe 0 1 (i. HoldsContent (present (history (disk i))) (sectors i) (root i) (end i) (number i) stands.has) stands.holds;
        spelled = stands.spelled;
        left = stands.left;
        compacts = Compacts-kept honest history old.log new.log stands.has (front_of old) (front_of new) stands.left old.compaction new.compaction same.log.number same.compaction
            (HasFresh-unchanged honest history old.log new.log same.log) stands.compacts;
      }

  -- ---- one more batch

  pub LogHas-stands : (size : D → ℕ) (old : Store D g) (n : ℕ) (state : State) → old.sectors ≡ size (disk_of old) → (stands : StandsAt honest history old n state) → LogHas honest history size old.log stands.has
  LogHas-stands size old n state size_is stands = record {
    is_honest = stands.is_honest;
    holds = subst (λ (s : ℕ). HoldsContent (present (history (disk_of old))) s (log_model.root_of old.log) (log_model.end_of old.log) (front_of old) stands.has) size_is stands.holds;
  }

  -- a store with the same frames, of which its compaction knows this
  pub StandsAt-with : (size : D → ℕ) (old new : Store D g) (n : ℕ) (state : State) → new.sectors ≡ size (disk_of new) → front_of new ≡ front_of old → (stands : StandsAt honest history old n state)
      → (has : Content) → LogHas honest history size new.log has → Spell (frames_of has.base ++ frames_of (tails has)) state
      → (left : Frames) → Compacts honest history new.log has (front_of new) left new.compaction → StandsAt honest history new n state
  StandsAt-with size old new n state size_is front stands has holds spelled left compacts = record {
    is_honest = holds.is_honest;
    front_is = front ∙ stands.front_is;
    has = has;
    holds = subst (λ (s : ℕ). HoldsContent (present (history (disk_of new))) s (log_model.root_of new.log) (log_model.end_of new.log) (front_of new) has) (sym size_is) holds.holds;
    spelled = spelled;
    left = left;
    compacts = compacts;
  }

  -- a store whose compaction is over
  pub StandsAt-over : (size : D → ℕ) (old new : Store D g) (n : ℕ) (state : State) → new.sectors ≡ size (disk_of new) → front_of new ≡ front_of old → StandsAt honest history old n state
      → (has : Content) → LogHas honest history size new.log has → Spell (frames_of has.base ++ frames_of (tails has)) state → new.compaction ≡ Idle → StandsAt honest history new n state
  StandsAt-over size old new n state size_is front stands has holds spelled over =
      StandsAt-with size old new n state size_is front stands has holds spelled []
      (subst (λ (c : Compaction). Compacts honest history new.log has (front_of new) [] c) (sym over) refl)

  -- a store whose compaction goes on, with the same content
  pub StandsAt-on : (size : D → ℕ) (old new : Store D g) (n : ℕ) (state : State) → new.sectors ≡ size (disk_of new) → front_of new ≡ front_of old → (stands : StandsAt honest history old n state)
      → LogHas honest history size new.log stands.has → (left : Frames) → Compacts honest history new.log stands.has (front_of old) left new.compaction → StandsAt honest history new n state
  StandsAt-on size old new n state size_is front stands holds left compacts =
      StandsAt-with size old new n state size_is front stands stands.has holds stands.spelled left
      (subst (λ (k : ℕ). Compacts honest history new.log stands.has k left new.compaction) (sym front) compacts)

  -- a store whose compaction begins
  pub StandsAt-begun : (size : D → ℕ) (old new : Store D g) (n : ℕ) (state : State) → new.sectors ≡ size (disk_of new) → front_of new ≡ front_of old → (stands : StandsAt honest history old n state)
      → (has : Content) → LogHas honest history size new.log has → HaveSameFrames stands.has has → Compacts honest history new.log has (front_of new) (frames_of has.base ++ frames_of (tails has)) new.compaction
      → (now : StandsAt honest history new n state) × (now.left ≡ frames_of now.has.base ++ frames_of (tails now.has))
  StandsAt-begun size old new n state size_is front stands has holds same compacts = (
    record {
      is_honest = holds.is_honest;
      front_is = front ∙ stands.front_is;
      has = has;
      holds = subst (λ (s : ℕ). HoldsContent (present (history (disk_of new))) s (log_model.root_of new.log) (log_model.end_of new.log) (front_of new) has) (sym size_is) holds.holds;
      spelled = subst (λ (l : Frames). Spell l state) (λ i. sym same.base i ++ sym same.tail i) stands.spelled;
      left = frames_of has.base ++ frames_of (tails has);
      compacts = compacts;
    },
    refl,
  )

  -- a store whose compaction read on
  pub StandsAt-read : (size : D → ℕ) (old new : Store D g) (n : ℕ) (state : State) → new.sectors ≡ size (disk_of new) → front_of new ≡ front_of old → (stands : StandsAt honest history old n state)
      → LogHas honest history size new.log stands.has → (progress : Progress) (left : Frames) → IsFrameRead progress stands.left left → Compacts honest history new.log stands.has (front_of old) left new.compaction
      → (now : StandsAt honest history new n state) × IsFrameRead progress stands.left now.left
  StandsAt-read size old new n state size_is front stands holds progress left read compacts = (
    record {
      is_honest = holds.is_honest;
      front_is = front ∙ stands.front_is;
      has = stands.has;
      holds = subst (λ (s : ℕ). HoldsContent (present (history (disk_of new))) s (log_model.root_of new.log) (log_model.end_of new.log) (front_of new) stands.has) (sym size_is) holds.holds;
      spelled = stands.spelled;
      left = left;
      compacts = subst (λ (k : ℕ). Compacts honest history new.log stands.has k left new.compaction) (sym front) compacts;
    },
    read,
  )

  -- ---- images of a call that keeps the content

  module _ (size : D → ℕ) (old : Store D g) (size_is : old.sectors ≡ size (disk_of old)) (n : ℕ) (state : State) (stands : StandsAt honest history old n state) where
    pub images-kept : (now : History)
        → ((has : Content) → LogHas honest history size old.log has
        → LeavesOnly (history (disk_of old)) now (λ image. LogCarries image (size (disk_of old)) (front_of old) (frames_of has.base) (frames_of (tails has))))
        → LeavesOnly (history (disk_of old)) now (λ image. Carries image (sectors_of old) n state)
    images-kept now leaves =
        let all = leaves stands.has (LogHas-stands size old n state size_is stands) in
        let here = coe 0 1 (i. LeavesOnly (history (disk_of old)) now (λ image. LogCarries image (sym size_is i) (stands.front_is i) (frames_of stands.has.base) (frames_of (tails stands.has)))) all in
        LeavesOnly-weaker (history (disk_of old)) now _ (λ image. Carries image (sectors_of old) n state)
        (λ image log. record { base = frames_of stands.has.base; tail = frames_of (tails stands.has); log = log; spelled = stands.spelled }) here

    -- at its own number of sectors and number
    pub images-as : (now : History) → LeavesOnly (history (disk_of old)) now (λ image. Carries image (size (disk_of old)) (front_of old) state) → LeavesOnly (history (disk_of old)) now (λ image. Carries image (sectors_of old) n state)
    images-as now all = coe 0 1 (i. LeavesOnly (history (disk_of old)) now (λ image. Carries image (sym size_is i) (stands.front_is i) state)) all

    pub images-same : LeavesOnly (history (disk_of old)) (history (disk_of old)) (λ image. Carries image (sectors_of old) n state)
    images-same = LeavesOnly-starts (history (disk_of old)) (λ image. Carries image (sectors_of old) n state) (StandsAt-carry old n state stands)

    pub images-stay : (now : History) → Stays (history (disk_of old)) now → LeavesOnly (history (disk_of old)) now (λ image. Carries image (sectors_of old) n state)
    images-stay now stays = LeavesOnly-stays (history (disk_of old)) (history (disk_of old)) now (λ image. Carries image (sectors_of old) n state) images-same stays

  module _ (size : D → ℕ) (old : Store D g) (size_is : old.sectors ≡ size (disk_of old)) (commands : List Command) (payload : List ℕ) (count : ℕ) (decoded : commands_of payload ≡ Ok commands) (lawful : AreCommands commands) (number : count ≡ length commands) (n : ℕ) (state : State) (stands : StandsAt honest history old n state) where
    is : IsFrameOf (count, payload) commands
    is = record { decoded = decoded; lawful = lawful; number = number }

    had : LogHas honest history size old.log stands.has
    had = LogHas-stands size old n state size_is stands

    pub images-appended : (now : History)
        → ((has : Content) → LogHas honest history size old.log has
        → LeavesOnly (history (disk_of old)) now (LogBeforeOrAfter (size (disk_of old)) (front_of old) (frames_of has.base) (frames_of (tails has)) count payload))
        → LeavesOnly (history (disk_of old)) now (CarriesBeforeOrAfter (sectors_of old) n state commands)
    images-appended now leaves =
        let all = leaves stands.has had in
        let here = coe 0 1 (i. LeavesOnly (history (disk_of old)) now (LogBeforeOrAfter (sym size_is i) (stands.front_is i) (frames_of stands.has.base) (frames_of (tails stands.has)) count payload)) all in
        LeavesOnly-weaker (history (disk_of old)) now _ (CarriesBeforeOrAfter (sectors_of old) n state commands)
        (Carries-appended (sectors_of old) n (frames_of stands.has.base) (frames_of (tails stands.has)) state commands payload count stands.spelled is) here

    pub StandsAt-appended : (new : Store D g) → new.sectors ≡ size (disk_of new) → front_of new ≡ front_of old + count
        → ((has : Content) → LogHas honest history size old.log has → (grown : Content) × (IsAppended has count payload grown × LogHas honest history size new.log grown))
        → ((has : Content) → LogHas honest history size old.log has
        → AllCarryLog (present (history (disk_of new))) (size (disk_of new)) (front_of old + count) (frames_of has.base) (frames_of (tails has) ++ (count, payload) ∷ []))
        → new.compaction ≡ old.compaction → ((fresh : List Filled) → HasFresh honest history old.log fresh → HasFresh honest history new.log fresh)
        → StandsAt honest history new (n + length commands) (after state commands)
    StandsAt-appended new new_size front grows all same keeps =
        let grown = grows stands.has had in
        let holds = grown.1.1.holds in
        let counted_is : front_of old + counted ((count, payload) ∷ []) ≡ front_of new = omega (arith, front, sum-one count payload) in
        let compacts = Compacts-grown honest history old.log new.log stands.has grown.0 ((count, payload) ∷ []) (front_of old) stands.left old.compaction (Grown-appended stands.has count payload grown.0 grown.1.0) keeps stands.compacts in
        let spelled = Spell-tail (frames_of stands.has.base) (frames_of (tails stands.has)) state (count, payload) commands stands.spelled is in
        record {
          is_honest = grown.1.1.is_honest;
          front_is = front ∙ (λ i. stands.front_is i + number i);
          has = grown.0;
          holds = subst (λ (s : ℕ). HoldsContent (present (history (disk_of new))) s (log_model.root_of new.log) (log_model.end_of new.log) (front_of new) grown.0) (sym new_size) holds;
          spelled = Spell-held (present (history (disk_of new))) (size (disk_of new)) (log_model.root_of new.log) (log_model.end_of new.log) (front_of new) grown.0 new.log.in_range holds
              (front_of old + count) (frames_of stands.has.base) (frames_of (tails stands.has) ++ (count, payload) ∷ []) (after state commands) (all stands.has had) spelled;
          left = stands.left;
          compacts = coe 0 1 (i. Compacts honest history new.log grown.0 (counted_is i) stands.left (sym same i)) compacts;
        }

  -- before the first write
  pub images-still : (old : Store D g) (n : ℕ) (state : State) (commands : List Command) → StandsAt honest history old n state → LeavesOnly (history (disk_of old)) (history (disk_of old)) (CarriesBeforeOrAfter (sectors_of old) n state commands)
  images-still old n state commands stands =
      LeavesOnly-starts (history (disk_of old)) (CarriesBeforeOrAfter (sectors_of old) n state commands) (λ image left. inl (StandsAt-carry old n state stands image left))
