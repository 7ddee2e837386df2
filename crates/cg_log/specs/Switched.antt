-- A switch: the next root has the fresh segments as its base, and of the tails those from a cut on.
use Rattle.std.specs.Prelude.{◌≡◌, ◌⊎◌, ℕ, ◌+◌, List, drop}
use Rattle.cg_disk.specs.Disk.{Image}
use Rattle.cg_root.specs.Slots.{other_slot}
use Rattle.cg_root.specs.declared.root.Root.{Root}
use Rattle.cg_log.specs.Carried.{Content, Carries, tails}
use Rattle.cg_log.specs.Cursors.{index_of, tails_from}
use Rattle.cg_log.specs.Segments.{Filled, counted, ids_of, frames_of}

-- the fresh segments as the base, and the tails from the cut on
abbrev pub switched : Content → List Filled → ℕ → Content
switched has fresh cut = record { base = fresh; sealed = drop (index_of cut (ids_of (tails has))) has.sealed; last = has.last }

-- the next root names these
pub record IsSwitchedRoot (current : Root) (fresh : List ℕ) (cut base_number : ℕ) (next : Root) : Type 0 where
  pub slot : next.slot ≡ other_slot current.slot
  pub epoch : next.epoch ≡ current.epoch + 1
  pub number : next.base_number ≡ base_number
  pub base : next.base ≡ fresh
  pub tail : next.tail ≡ drop (index_of cut current.tail) current.tail

-- the number of the last command after the switch: the base number, and the commands of the tails from the cut on
abbrev pub number_switched : Content → ℕ → ℕ → ℕ
number_switched has cut base_number = base_number + counted (frames_of (tails_from cut has))

-- an image carries the content before the switch, of this number, or the content after it
abbrev pub CarriesEither : ℕ → ℕ → Content → List Filled → ℕ → ℕ → Image → Type 0
CarriesEither sectors number has fresh cut base_number image =
    Carries image sectors number (frames_of has.base) (frames_of (tails has))
    ⊎ Carries image sectors (number_switched has cut base_number) (frames_of fresh) (frames_of (tails_from cut has))
