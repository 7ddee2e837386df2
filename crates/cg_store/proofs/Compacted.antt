-- What a compaction knows stays true while its log grows.
use Rattle.std.proofs.Common.{◌≡◌, ℕ, ◌+◌, Bool, List, [], sym, ap, ◌∙◌, subst, arith}
use Rattle.cg_disk.specs.Disk.{History, present}
use Rattle.cg_log.specs.Carried.{Content}
use Rattle.cg_log.specs.Fresh.{HoldsFresh}
use Rattle.cg_log.specs.Log.{HasFresh, IsUnchanged}
use Rattle.cg_log.specs.Segments.{Filled, Frames, counted}
use Rattle.cg_log.specs.declared.log.Log.{Log}
use Rattle.cg_record.specs.declared.command.Command.{Command}
use Rattle.cg_store.specs.Carried.{Spell}
use Rattle.cg_store.specs.Compacting.{Compacts, HasWritten, IsCut}
use Rattle.cg_store.specs.declared.compaction.Compaction.{Compaction}
use Rattle.cg_store.specs.declared.compaction.Compaction.TheVariants as is
use Rattle.cg_store.specs.declared.compaction.Cut.{Cut}
use Rattle.cg_store.proofs.Growing.{Grown, Grown-same, IsCut-grown, IsFolding-grown, before-grown}

module _ {D : Type 0} {g : _} (honest : D → Bool) (history : D → History) where
  HasWritten-grown : (old new : Log D g) (has has' : Content) (added : Frames) (number : ℕ) (cut : Cut) (left : List Command) → Grown has has' added → IsCut cut has number
      → ((fresh : List Filled) → HasFresh honest history old fresh → HasFresh honest history new fresh) → HasWritten honest history old has cut left → HasWritten honest history new has' cut left
  HasWritten-grown old new has has' added number cut left grown is_cut keeps written = record {
    state = written.state;
    spelled = subst (λ (l : Frames). Spell l written.state) (sym (before-grown cut.id has has' added is_cut.is_tail grown)) written.spelled;
    fresh = written.fresh;
    holds = keeps written.fresh written.holds;
    batches = written.batches;
    frames = written.frames;
    snapshot = written.snapshot;
  }

  -- what it knows of a content is true of one that has grown
  pub Compacts-grown : (old new : Log D g) (has has' : Content) (added : Frames) (number : ℕ) (left : Frames) (compaction : Compaction) → Grown has has' added
      → ((fresh : List Filled) → HasFresh honest history old fresh → HasFresh honest history new fresh)
      → Compacts honest history old has number left compaction → Compacts honest history new has' (number + counted added) left compaction
  Compacts-grown old new has has' added number left is.Idle grown keeps knows = knows
  Compacts-grown old new has has' added number left (is.Reading reading) grown keeps knows = IsFolding-grown has has' added grown number left reading knows
  Compacts-grown old new has has' added number left (is.Writing writing) grown keeps knows =
      (knows.0, IsCut-grown writing.cut has has' added number grown knows.1, HasWritten-grown old new has has' added number writing.cut writing.frames grown knows.1 keeps knows.2)
  Compacts-grown old new has has' added number left (is.Ready cut) grown keeps knows =
      (knows.0, IsCut-grown cut has has' added number grown knows.1, HasWritten-grown old new has has' added number cut [] grown knows.1 keeps knows.2)

  -- and so where the content stays
  pub Compacts-kept : (old new : Log D g) (has : Content) (number number' : ℕ) (left : Frames) (compaction compaction' : Compaction) → number' ≡ number → compaction' ≡ compaction
      → ((fresh : List Filled) → HasFresh honest history old fresh → HasFresh honest history new fresh)
      → Compacts honest history old has number left compaction → Compacts honest history new has number' left compaction'
  Compacts-kept old new has number number' left compaction compaction' same_number same keeps knows =
      let n : number + 0 ≡ number' = omega arith in
      let now = Compacts-grown old new has has [] number left compaction (Grown-same has) keeps knows in
      coe 0 1 (i. Compacts honest history new has (n i) left (sym same i)) now

  pub HasFresh-unchanged : (old new : Log D g) → IsUnchanged old new → (fresh : List Filled) → HasFresh honest history old fresh → HasFresh honest history new fresh
  HasFresh-unchanged old new same fresh has = record {
    is_honest = ap honest same.disk ∙ has.is_honest;
    holds = coe 0 1 (i. HoldsFresh (present (history (sym same.disk i))) (sym same.fresh i) (sym same.fresh_end i) fresh) has.holds;
  }
