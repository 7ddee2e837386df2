-- The model of a store.
use Rattle.std.specs.Prelude.{◌≡◌, ◌++◌, ℕ, List, Bool, true, Option, Result, Ok, Err}
use Rattle.cg_disk.specs.Disk.{History, present}
use Rattle.cg_fold.specs.Durable.{State}
use Rattle.cg_log.specs.Carried.{Content, HoldsContent, tails}
use Rattle.cg_log.specs.Log as log_model
use Rattle.cg_log.specs.Room.{Room, room_at}
use Rattle.cg_log.specs.Segments.{Frames, frames_of}
use Rattle.cg_record.specs.declared.command.Command.{Command}
use Rattle.cg_root.specs.declared.root.Root.{Root}
use Rattle.cg_store.specs.Batches.{refusal_of}
use Rattle.cg_store.specs.Carried.{Spell}
use Rattle.cg_store.specs.Compacting.{Compacts, cut_in, phase_in, unwritten_in}
use Rattle.cg_store.specs.declared.compaction.Compaction.{Compaction}
use Rattle.cg_store.specs.declared.compaction.Cut.{Cut}
use Rattle.cg_store.specs.declared.phase.Phase.{Phase}
use Rattle.cg_store.specs.declared.batch.Batch.{Batch}
use Rattle.cg_store.specs.declared.fault.StoreFault.{StoreFault}
use Rattle.cg_store.specs.declared.fault.OpenFault.{OpenFault}
use Rattle.cg_store.specs.declared.store.Store.{Store}

-- the disk of a store
abbrev pub disk_of : {D : Type 0} {g : _} → Store D g → D
disk_of store = log_model.disk_of store.log

-- how many sectors the disk has
abbrev pub sectors_of : {D : Type 0} {g : _} → Store D g → ℕ
sectors_of store = store.sectors

-- what may still be appended
abbrev pub room_of : {D : Type 0} {g : _} → Store D g → Room
room_of store = room_at store.sectors (log_model.taken_of store.log) (log_model.root_of store.log) (log_model.end_of store.log)

-- the root of the log, and the position of the next frame in the last tail
abbrev pub root_of : {D : Type 0} {g : _} → Store D g → Root
root_of store = log_model.root_of store.log

abbrev pub end_of : {D : Type 0} {g : _} → Store D g → ℕ
end_of store = log_model.end_of store.log

-- the phase of the compaction
abbrev pub phase_of : {D : Type 0} {g : _} → Store D g → Phase
phase_of store = phase_in store.compaction

-- the compaction; Idle if none is under way
abbrev pub compaction_of : {D : Type 0} {g : _} → Store D g → Compaction
compaction_of store = store.compaction

-- the cut of the compaction, if one is under way
abbrev pub cut_of : {D : Type 0} {g : _} → Store D g → Option Cut
cut_of store = cut_in store.compaction

-- the segments that the compaction has written so far
abbrev pub fresh_of : {D : Type 0} {g : _} → Store D g → List ℕ
fresh_of store = log_model.fresh_of store.log

-- the position of the next frame in the last of these segments
abbrev pub fresh_end_of : {D : Type 0} {g : _} → Store D g → ℕ
fresh_end_of store = log_model.fresh_end_of store.log

-- the commands of the snapshot that the compaction has not written yet, in the phase Writing
abbrev pub unwritten_of : {D : Type 0} {g : _} → Store D g → List Command
unwritten_of store = unwritten_in store.compaction

-- the number of the last command
abbrev pub front_of : {D : Type 0} {g : _} → Store D g → ℕ
front_of store = log_model.number_of store.log

-- the disk has failed
abbrev pub has_failed : {D : Type 0} {g : _} → Store D g → Bool
has_failed store = log_model.has_failed store.log

-- a store on an honest disk has n commands, after which the state is this one, in every crash image
pub record StandsAt {D : Type 0} {g : _} (honest : D → Bool) (history : D → History) (store : Store D g) (n : ℕ) (state : State) : Type 0 where
  pub is_honest : honest (disk_of store) ≡ true
  pub front_is : front_of store ≡ n
  pub has : Content
  pub holds : HoldsContent (present (history (disk_of store))) (sectors_of store) (log_model.root_of store.log) (log_model.end_of store.log) (front_of store) has
  pub spelled : Spell (frames_of has.base ++ frames_of (tails has)) state
  -- its compaction speaks of the same frames; of those before its cut these are left to read
  pub left : Frames
  pub compacts : Compacts honest history store.log has (front_of store) left store.compaction

-- the store did not change
pub record IsUnchanged {D : Type 0} {g : _} (old new : Store D g) : Type 0 where
  pub log : log_model.IsUnchanged old.log new.log
  pub sectors : sectors_of new ≡ sectors_of old
  pub compaction : new.compaction ≡ old.compaction

-- the fault that needs neither memory nor the disk, if there is one
abbrev pub refusal : {D : Type 0} {g : _} → Store D g → Batch → Option StoreFault
refusal store batch = refusal_of (has_failed store) (room_of store) (front_of store) batch.first batch.commands

-- the disk after an opening
abbrev pub disk_after : {D : Type 0} {g : _} → Result (Store D g × ℕ × State) (OpenFault × D) → D
disk_after (Ok opened) = disk_of opened.0
disk_after (Err refused) = refused.1
