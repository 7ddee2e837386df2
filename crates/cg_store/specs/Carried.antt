-- The content of an image: a number of commands, and the state that the commands of its frames make.
use Rattle.std.specs.Prelude.{◌≡◌, ◌⊎◌, ℕ, ◌+◌, ◌≤◌, List, [], ◌∷◌, ◌++◌, length, Ok}
use Rattle.std.specs.List.{flat_map}
use Rattle.cg_disk.specs.Disk.{History, Image, IsImage, present}
use Rattle.cg_fold.specs.Durable.{State, after, folded}
use Rattle.cg_log.specs.Carried.{Carries as LogCarries}
use Rattle.cg_log.specs.Segments.{Frames}
use Rattle.cg_log.specs.declared.numbers.TheConstants.{COMMAND_NUMBER_MAX}
use Rattle.cg_record.specs.declared.command.Command.{Command}
use Rattle.cg_record.specs.Lawful.{AreCommands}
use Rattle.cg_record.specs.Reading.{commands_of}

-- the payload of a frame decodes to these lawful commands, and the frame counts them
pub record IsFrameOf (frame : ℕ × List ℕ) (commands : List Command) : Type 0 where
  pub decoded : commands_of frame.1 ≡ Ok commands
  pub lawful : AreCommands commands
  pub number : frame.0 ≡ length commands

-- these are the frames of these batches, one for each
abbrev pub AreFramesOf : Frames → List (List Command) → Type 0
AreFramesOf [] [] = Unit {0}
AreFramesOf [] (batch ∷ batches) = ⊥
AreFramesOf (frame ∷ frames) [] = ⊥
AreFramesOf (frame ∷ frames) (batch ∷ batches) = IsFrameOf frame batch × AreFramesOf frames batches

-- the commands of batches, in their order
abbrev pub joined : List (List Command) → List Command
joined batches = flat_map (λ (commands : List Command). commands) batches

-- some lawful commands make this state
pub record AreMade (state : State) : Type 0 where
  pub commands : List Command
  pub lawful : AreCommands commands
  pub state_is : state ≡ folded commands

-- the frames encode batches of commands, which make this state
pub record Spell (frames : Frames) (state : State) : Type 0 where
  pub batches : List (List Command)
  pub frames_are : AreFramesOf frames batches
  pub state_is : state ≡ folded (joined batches)

-- an image has n commands, and the state after the commands of the base and those of the tail is this one
pub record Carries (image : Image) (sectors n : ℕ) (state : State) : Type 0 where
  pub base : Frames
  pub tail : Frames
  pub log : LogCarries image sectors n base tail
  pub spelled : Spell (base ++ tail) state

-- every crash image has n commands and this state
abbrev pub AllCarry : History → ℕ → ℕ → State → Type 0
AllCarry history sectors n state = (image : Image) → IsImage (present history) image → Carries image sectors n state

-- an image has n commands and this state, or these commands as well
abbrev pub CarriesBeforeOrAfter : ℕ → ℕ → State → List Command → Image → Type 0
CarriesBeforeOrAfter sectors n state commands image = Carries image sectors n state ⊎ Carries image sectors (n + length commands) (after state commands)

-- the content of an image is unique: it has one number of commands and one state
abbrev pub ImagesCarryOnePair : Type 0
ImagesCarryOnePair =
    (image : Image) (sectors n m : ℕ) (state other : State) → Carries image sectors n state → Carries image sectors m other → (n ≡ m) × (state ≡ other)

-- the state of an image is one that lawful commands make, and its number is at most the last that a command can have
abbrev pub ImagesCarryCommands : Type 0
ImagesCarryCommands = (image : Image) (sectors n : ℕ) (state : State) → Carries image sectors n state → AreMade state × (n ≤ COMMAND_NUMBER_MAX)
