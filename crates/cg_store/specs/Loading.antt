-- Recovery, for the contracts of private functions alone: the commands of one frame, and the frames so far.
use Rattle.std.specs.Prelude.{◌≡◌, ℕ, ◌++◌, List, Bool, true, false, Result, Ok, Err}
use Rattle.cg_disk.specs.Disk.{History, Image}
use Rattle.cg_fold.specs.Durable.{State, after}
use Rattle.cg_log.specs.Carried.{Carries as LogCarries}
use Rattle.cg_log.specs.Openings.{HasRead as HasReadTo, disk_under, number_so_far}
use Rattle.cg_log.specs.Segments.{Frames}
use Rattle.cg_log.specs.declared.opening.Opening.{Opening}
use Rattle.cg_record.specs.declared.command.Command.{Command}
use Rattle.cg_store.specs.Carried.{AreFramesOf, IsFrameOf, Spell}
use Rattle.cg_store.specs.Faults.{is_loading_failure}
use Rattle.cg_store.specs.declared.fault.OpenFault.{OpenFault}
use Rattle.cg_store.specs.declared.recovery.Loading.{Loading}

-- a recovery failed because of the disk
abbrev pub failed_loading : {T : Type 0} → Result T OpenFault → Bool
failed_loading (Ok x) = false
failed_loading (Err fault) = is_loading_failure fault

-- a payload does not decode to as many lawful commands as its frame counts
abbrev pub IsNoText : ℕ → List ℕ → Type 0
IsNoText count payload = (commands : List Command) → ¬ IsFrameOf (count, payload) commands

-- the state after the commands of a payload, or the fact that it does not decode to as many lawful commands as its frame
-- counts
abbrev pub Adds : Bool → ℕ → List ℕ → State → State → Type 0
Adds true count payload before now = (commands : List Command) × IsFrameOf (count, payload) commands × (now ≡ after before commands)
Adds false count payload before now = IsNoText count payload

-- the state after these frames, or the fact that one of them has no such payload
abbrev pub IsRead : Bool → Frames → State → Type 0
IsRead true frames state = Spell frames state
IsRead false frames state = (batches : List (List Command)) → ¬ AreFramesOf frames batches

-- these frames were read
abbrev pub HasRead : Frames → Loading → Type 0
HasRead frames loading = IsRead loading.all_read frames loading.durable

-- an opening handed out all frames of an image, and these were read
pub record HasReadAll {D : Type 0} {g : _} (honest : D → Bool) (history : D → History) (size : D → ℕ) (opening : Opening D g) (image : Image) (loading : Loading) : Type 0 where
  pub base : Frames
  pub tail : Frames
  pub handed_out : HasReadTo honest history size opening image (base ++ tail)
  pub carried : LogCarries image (size (disk_under opening)) (number_so_far opening) base tail
  pub is_read : HasRead (base ++ tail) loading
