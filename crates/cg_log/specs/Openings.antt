-- The model of an opening.
use Rattle.std.specs.Prelude.{◌≡◌, ◌↔◌, ℕ, ◌+◌, ◌-◌, ◌*◌, Bool, true, false, IsTrue, List, length, Result, Ok, Err}
use Rattle.cg_disk.specs.Disk.{Image, History, IsSynced, present}
use Rattle.cg_frame.specs.Heads.{HasContent}
use Rattle.cg_frame.specs.Reader.{IsBuffered, payload_of, position_of}
use Rattle.cg_gate.specs.Gates.{IsOpen, IsClosed}
use Rattle.cg_gate.specs.Layout.{first_sector}
use Rattle.cg_gate.specs.declared.layout.TheConstants.{SEGMENT_SECTORS}
use Rattle.cg_root.specs.Roots.{CountingRoot, root_ids}
use Rattle.cg_root.specs.Slots.{gate_of, other_slot}
use Rattle.cg_log.specs.ReadTo.{IsReadTo, id_at}
use Rattle.cg_log.specs.Segments.{Frames}
use Rattle.cg_log.specs.declared.fault.LogFault.{LogFault}
use Rattle.cg_log.specs.declared.opening.Opening.{Opening}

-- the disk of which it reads
abbrev pub disk_under : {D : Type 0} {g : _} → Opening D g → D
disk_under opening = opening.disk

-- the number of the last command in the frames that were handed out
abbrev pub number_so_far : {D : Type 0} {g : _} → Opening D g → ℕ
number_so_far opening = opening.number

-- the payload of the frame that was handed out last
abbrev pub payload_read : {D : Type 0} {g : _} → Opening D g → List ℕ
payload_read opening = payload_of opening.reader

-- how many sectors may still be read
abbrev pub left_to_read : {D : Type 0} {g : _} → Opening D g → ℕ
left_to_read opening = SEGMENT_SECTORS * (length (root_ids opening.root) - opening.segment) - position_of opening.reader

-- all frames were handed out
abbrev pub is_at_end : {D : Type 0} {g : _} → Opening D g → Bool
is_at_end opening = opening.is_at_end

-- a call failed
abbrev pub has_fault : {D : Type 0} {g : _} → Opening D g → Bool
has_fault opening = opening.has_fault

-- an opening of an honest disk that has this image all along has handed out these frames of it, the first ones of base and tail
pub record HasRead {D : Type 0} {g : _} (honest : D → Bool) (history : D → History) (size : D → ℕ) (opening : Opening D g) (image : Image) (read : Frames) : Type 0 where
  pub is_honest : honest opening.disk ≡ true
  pub content : HasContent (present (history opening.disk)) image
  pub synced : IsSynced (present (history opening.disk))
  pub serves : opening.has_fault ≡ false
  pub counting : CountingRoot image (size opening.disk) opening.root
  pub other : IsTrue opening.is_other_open ↔ IsOpen image (gate_of (other_slot opening.root.slot))
  pub buffered : IsBuffered image opening.reader
  pub so_far : IsReadTo image opening.root opening.segment (position_of opening.reader) opening.number read
  pub closed : opening.is_at_end ≡ true → (opening.segment + 1 ≡ length (root_ids opening.root)) × IsClosed image (first_sector (id_at opening.root opening.segment) + position_of opening.reader)

-- the disk after a beginning
abbrev pub disk_begun : {D : Type 0} {g : _} → Result (Opening D g) (LogFault × D) → D
disk_begun (Ok opening) = disk_under opening
disk_begun (Err refused) = refused.1
