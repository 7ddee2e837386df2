-- The room of a log: what may still be appended to it.
use Rattle.std.specs.Prelude.{ℕ, ◌-◌, ◌<◌, List, Bool, ◌&&◌, ◌||◌, nat_lt, if◌then◌else◌}
use Rattle.cg_frame.specs.Frames.{next_gate}
use Rattle.cg_gate.specs.declared.layout.TheConstants.{SEGMENT_SECTORS}
use Rattle.cg_root.specs.declared.root_layout.TheConstants.{EPOCH_MAX}
use Rattle.cg_root.specs.declared.root.Root.{Root}
use Rattle.cg_log.specs.Free.{free_count_of, IsLeastFree}

-- how many sectors the last tail has left, how many segments are free, and how many roots may follow
pub record Room : Type 0 where
  pub sectors : ℕ
  pub segments : ℕ
  pub roots : ℕ

-- the room on a disk of that many sectors, of which these segments are taken, where the next frame of the last tail has this
-- position
abbrev pub room_at : ℕ → List ℕ → Root → ℕ → Room
room_at sectors taken root end = record { sectors = SEGMENT_SECTORS - end; segments = free_count_of sectors taken; roots = EPOCH_MAX - root.epoch }

-- the sectors of a frame whose payload has that many bytes: its gate and its body
abbrev pub frame_sectors : ℕ → ℕ
frame_sectors bytes = next_gate 0 bytes

-- the frame fits the last tail, with the gate after it
unfoldable pub fits_tail : Room → ℕ → Bool
fits_tail room bytes = nat_lt (frame_sectors bytes) room.sectors

-- a tail can be added
unfoldable pub can_roll : Room → Bool
can_roll room = nat_lt 0 room.segments && nat_lt 0 room.roots

-- there is room for the frame, in the last tail or in a new one, if its payload fits an empty segment
unfoldable pub has_room : Room → ℕ → Bool
has_room room bytes = fits_tail room bytes || can_roll room

-- the room after one more tail
abbrev pub rolled_room : Room → Room
rolled_room room = record { sectors = SEGMENT_SECTORS; segments = room.segments - 1; roots = room.roots - 1 }

-- the room after a frame in the last tail
abbrev pub room_less : Room → ℕ → Room
room_less room bytes = record room { sectors = room.sectors - frame_sectors bytes }

-- the room after an append
unfoldable pub room_after : Room → ℕ → Room
room_after room bytes = if fits_tail room bytes then room_less room bytes else room_less (rolled_room room) bytes

-- the most calls of the device that an append makes: four for the frame; a new tail takes two for its first gate, two for
-- the gate of the other root slot, and four for its root
unfoldable pub calls_for : Room → ℕ → ℕ
calls_for room bytes = if fits_tail room bytes then 4 else 12

-- a root with one more tail can follow: a segment is free, and the epoch is not the last
pub record HasNext (sectors : ℕ) (taken : List ℕ) (current : Root) : Type 0 where
  pub id : ℕ
  pub free : IsLeastFree sectors taken id
  pub epoch : current.epoch < EPOCH_MAX
