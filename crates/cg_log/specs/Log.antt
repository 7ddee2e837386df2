-- The model of a log.
use Rattle.std.specs.Prelude.{◌≡◌, ◌++◌, ℕ, List, Bool, true, Result, Ok, Err}
use Rattle.cg_disk.specs.Disk.{History, present}
use Rattle.cg_root.specs.Roots.{root_ids}
use Rattle.cg_root.specs.declared.root.Root.{Root}
use Rattle.cg_log.specs.Carried.{Content, HoldsContent}
use Rattle.cg_log.specs.Fresh.{HoldsFresh}
use Rattle.cg_log.specs.Room.{Room, room_at}
use Rattle.cg_log.specs.Segments.{Filled}
use Rattle.cg_log.specs.declared.fault.LogFault.{LogFault}
use Rattle.cg_log.specs.declared.log.Log.{Log}

-- its disk
abbrev pub disk_of : {D : Type 0} {g : _} → Log D g → D
disk_of log = log.disk

-- its root
abbrev pub root_of : {D : Type 0} {g : _} → Log D g → Root
root_of log = log.root

-- the position of the next frame in the last tail
abbrev pub end_of : {D : Type 0} {g : _} → Log D g → ℕ
end_of log = log.end

-- the number of the last command
abbrev pub number_of : {D : Type 0} {g : _} → Log D g → ℕ
number_of log = log.number

-- its device failed
abbrev pub has_failed : {D : Type 0} {g : _} → Log D g → Bool
has_failed log = log.has_failed

-- the ids of the fresh segments that a compaction has written so far
abbrev pub fresh_of : {D : Type 0} {g : _} → Log D g → List ℕ
fresh_of log = log.fresh.items

-- the position of the next frame in the last fresh segment; 0 if there is none
abbrev pub fresh_end_of : {D : Type 0} {g : _} → Log D g → ℕ
fresh_end_of log = log.fresh_end

-- the ids that are taken: those that the root names, and the fresh ones
abbrev pub taken_of : {D : Type 0} {g : _} → Log D g → List ℕ
taken_of log = root_ids (root_of log) ++ fresh_of log

-- what may still be appended
abbrev pub room_of : {D : Type 0} {g : _} → (D → ℕ) → Log D g → Room
room_of size log = room_at (size (disk_of log)) (taken_of log) (root_of log) (end_of log)

-- a log on an honest disk has this content in every crash image
pub record LogHas {D : Type 0} {g : _} (honest : D → Bool) (history : D → History) (size : D → ℕ) (log : Log D g) (has : Content) : Type 0 where
  pub is_honest : honest (disk_of log) ≡ true
  pub holds : HoldsContent (present (history (disk_of log))) (size (disk_of log)) (root_of log) (end_of log) (number_of log) has

-- the fresh segments of a log on an honest disk have these frames in every crash image
pub record HasFresh {D : Type 0} {g : _} (honest : D → Bool) (history : D → History) (log : Log D g) (fresh : List Filled) : Type 0 where
  pub is_honest : honest (disk_of log) ≡ true
  pub holds : HoldsFresh (present (history (disk_of log))) (fresh_of log) (fresh_end_of log) fresh

-- the log did not change
pub record IsUnchanged {D : Type 0} {g : _} (old new : Log D g) : Type 0 where
  pub disk : disk_of new ≡ disk_of old
  pub root : root_of new ≡ root_of old
  pub end : end_of new ≡ end_of old
  pub number : number_of new ≡ number_of old
  pub failed : has_failed new ≡ has_failed old
  pub fresh : fresh_of new ≡ fresh_of old
  pub fresh_end : fresh_end_of new ≡ fresh_end_of old

-- the disk after an opening
abbrev pub disk_after : {D : Type 0} {g : _} → Result (Log D g) (LogFault × D) → D
disk_after (Ok log) = disk_of log
disk_after (Err refused) = refused.1
