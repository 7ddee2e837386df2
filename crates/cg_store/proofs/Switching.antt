-- A compaction that writes, and the switch to what it wrote.
use Rattle.std.proofs.Common.{◌≡◌, inl, inr, ℕ, Bool, List, [], ◌∷◌, ◌++◌, length, sym, ap, ◌∙◌, subst, append_assoc, append-nil, Ok, Some}
use Rattle.cg_disk.specs.Disk.{History, Image, LeavesOnly, present}
use Rattle.cg_disk.proofs.Moments.{LeavesOnly-starts, LeavesOnly-weaker}
use Rattle.cg_fold.specs.Durable.{State, folded}
use Rattle.cg_fold.specs.Snapshot.{snapshot_of}
use Rattle.cg_fold.proofs.Rebuilding.{folded_snapshot}
use Rattle.cg_log.specs.Carried.{Content, tails, Carries as LogCarries}
use Rattle.cg_log.specs.Cursors.{segments_before, tails_from}
use Rattle.cg_log.specs.Log.{HasFresh, LogHas, disk_of, end_of, number_of, root_of}
use Rattle.cg_log.specs.Segments.{Filled, Frames, frames_of}
use Rattle.cg_log.specs.Switched.{CarriesEither, switched}
use Rattle.cg_log.specs.declared.log.Log.{Log}
use Rattle.cg_log.proofs.Images.{AllCarry-holds}
use Rattle.cg_record.specs.Lawful.{AreCommands}
use Rattle.cg_record.specs.Reading.{commands_of}
use Rattle.cg_record.specs.declared.command.Command.{Command}
use Rattle.cg_store.specs.Carried.{AreFramesOf, Carries, Spell, joined}
use Rattle.cg_store.specs.Compacting.{HasCopied, HasWritten, IsCut, IsFolding}
use Rattle.cg_store.specs.declared.compaction.Cut.{Cut}
use Rattle.cg_store.specs.declared.compaction.Reading.{Reading}
use Rattle.cg_store.proofs.Folding.{frames-at-cut}
use Rattle.cg_store.proofs.Growing.{tails_from-split}
use Rattle.cg_store.proofs.Spelled.{Spell-instead, frames-push, joined-push}

module _ {D : Type 0} {g : _} (honest : D → Bool) (history : D → History) where
  -- all frames before the cut were folded, and nothing is written
  pub HasWritten-begun : (log : Log D g) (has : Content) (number : ℕ) (reading : Reading) (left : List Command) → IsFolding has number [] reading → HasFresh honest history log [] → left ≡ snapshot_of reading.durable → HasWritten honest history log has reading.cut left
  HasWritten-begun log has number reading left folding none left_is = record {
    state = reading.durable;
    spelled = subst (λ (l : Frames). Spell l reading.durable) (sym (folding.before ∙ append-nil folding.read)) folding.spelled;
    fresh = [];
    holds = none;
    batches = [];
    frames = tt;
    snapshot = sym left_is;
  }

  -- one frame more was written
  pub HasCopied-more : (old new : Log D g) (all before left commands : List Command) (count : ℕ) (payload : List ℕ) → commands_of payload ≡ Ok commands → AreCommands commands → count ≡ length commands → before ≡ commands ++ left
      → (copied : HasCopied honest history old all before) → (fresh : List Filled) → frames_of fresh ≡ frames_of copied.fresh ++ (count, payload) ∷ [] → HasFresh honest history new fresh → HasCopied honest history new all left
  HasCopied-more old new all before left commands count payload decoded lawful number order copied fresh frames holds = record {
    fresh = fresh;
    holds = holds;
    batches = copied.batches ++ commands ∷ [];
    frames = subst (λ (l : Frames). AreFramesOf l (copied.batches ++ commands ∷ [])) (sym frames)
        (frames-push (frames_of copied.fresh) copied.batches (count, payload) commands copied.frames (record { decoded = decoded; lawful = lawful; number = number }));
    order = copied.order ∙ ap (λ (l : List Command). joined copied.batches ++ l) order ∙ sym (append_assoc (joined copied.batches) commands left)
        ∙ ap (λ (l : List Command). l ++ left) (sym (joined-push copied.batches commands));
  }

  pub HasWritten-copied : (old new : Log D g) (has : Content) (cut : Cut) (before left : List Command) → ((all : List Command) → HasCopied honest history old all before → HasCopied honest history new all left) → HasWritten honest history old has cut before → HasWritten honest history new has cut left
  HasWritten-copied old new has cut before left copies written =
      let now = copies (snapshot_of written.state) (record { fresh = written.fresh; holds = written.holds; batches = written.batches; frames = written.frames; order = written.snapshot }) in
      record { state = written.state; spelled = written.spelled; fresh = now.fresh; holds = now.holds; batches = now.batches; frames = now.frames; snapshot = now.order }

  -- ---- the switch

  module _ (log : Log D g) (has : Content) (number : ℕ) (cut : Cut) (is_cut : IsCut cut has number) (written : HasWritten honest history log has cut []) (state : State) (spelled : Spell (frames_of has.base ++ frames_of (tails has)) state) where
    -- the frames that it wrote make the state that those before the cut made
    pub Spell-either : Spell (frames_of written.fresh ++ frames_of (tails_from cut.id has)) state
    Spell-either =
        let front = frames_of (segments_before (Some cut.id) has) in
        let back = frames_of (tails_from cut.id has) in
        let all = subst (λ (l : Frames). Spell l state) (sym (frames-at-cut cut.id has is_cut.is_tail)) spelled in
        let made : folded (joined written.batches) ≡ written.state = ap folded (sym (written.snapshot ∙ append-nil (joined written.batches))) ∙ folded_snapshot written.state in
        Spell-instead front back (frames_of written.fresh) written.state state written.batches all written.spelled written.frames made

    pub Spell-switched : Spell (frames_of (switched has written.fresh cut.id).base ++ frames_of (tails (switched has written.fresh cut.id))) state
    Spell-switched = subst (λ (l : List Filled). Spell (frames_of written.fresh ++ frames_of l) state) (tails_from-split cut.id has is_cut.is_tail) Spell-either

    pub images-either : (h now : History) (sectors : ℕ) → LeavesOnly h now (CarriesEither sectors number has written.fresh cut.id cut.number) → LeavesOnly h now (λ image. Carries image sectors number state)
    images-either h now sectors leaves = LeavesOnly-weaker h now (CarriesEither sectors number has written.fresh cut.id cut.number) (λ image. Carries image sectors number state) either leaves
      where
        either : (image : Image) → CarriesEither sectors number has written.fresh cut.id cut.number image → Carries image sectors number state
        either image (inl old) = record { base = frames_of has.base; tail = frames_of (tails has); log = old; spelled = spelled }
        either image (inr new) = record {
          base = frames_of written.fresh;
          tail = frames_of (tails_from cut.id has);
          log = subst (λ n. LogCarries image sectors n (frames_of written.fresh) (frames_of (tails_from cut.id has))) is_cut.number_is new;
          spelled = Spell-either;
        }

  -- what the images of a log carry where no call of the disk is made
  pub log-images-same : (size : D → ℕ) (log : Log D g) (has : Content) → LogHas honest history size log has → LeavesOnly (history (disk_of log)) (history (disk_of log)) (λ image. LogCarries image (size (disk_of log)) (number_of log) (frames_of has.base) (frames_of (tails has)))
  log-images-same size log has holds =
      LeavesOnly-starts (history (disk_of log)) (λ image. LogCarries image (size (disk_of log)) (number_of log) (frames_of has.base) (frames_of (tails has)))
      (AllCarry-holds (present (history (disk_of log))) (size (disk_of log)) (root_of log) (end_of log) (number_of log) has log.in_range holds.holds)
