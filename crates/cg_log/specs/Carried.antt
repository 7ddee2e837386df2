-- What an image carries: the frames of the base and of the tail that its counting root names.
use Rattle.std.specs.Prelude.{◌≡◌, ◌⊎◌, ℕ, ◌+◌, ◌≤◌, List, [], ◌∷◌, ◌++◌}
use Rattle.cg_disk.specs.Disk.{Image, Moment, IsImage}
use Rattle.cg_root.specs.Roots.{CountingRoot}
use Rattle.cg_root.specs.declared.root.Root.{Root}
use Rattle.cg_log.specs.Segments.{Frames, Filled, ids_of, frames_of, counted, end_of_frames, AreStored}
use Rattle.cg_log.specs.declared.numbers.TheConstants.{COMMAND_NUMBER_MAX}

-- the segments of a log: those of the base, the tails before the last, and the last tail
pub record Content : Type 0 where
  pub base : List Filled
  pub sealed : List Filled
  pub last : Filled

-- all tails, in order
abbrev pub tails : Content → List Filled
tails has = has.sealed ++ has.last ∷ []

-- all segments, in order
abbrev pub segments_of : Content → List Filled
segments_of has = has.base ++ tails has

-- one more frame in the last tail
abbrev pub appended : Content → ℕ → List ℕ → Content
appended has count payload = record has { last = (has.last.0, has.last.1 ++ (count, payload) ∷ []) }

-- one more tail, without frames
abbrev pub rolled : Content → ℕ → Content
rolled has id = record { base = has.base; sealed = tails has; last = (id, []) }

-- an image has this counting root, and the segments that it names have these frames
pub record LogAt (image : Image) (sectors : ℕ) (root : Root) (has : Content) : Type 0 where
  pub counting : CountingRoot image sectors root
  pub base_ids : root.base ≡ ids_of has.base
  pub tail_ids : root.tail ≡ ids_of (tails has)
  pub base : AreStored image has.base
  pub tail : AreStored image (tails has)

-- an image carries n commands, in the frames of the base and of the tail: the base stands for as many as the root says
pub record Carries (image : Image) (sectors n : ℕ) (base tail : Frames) : Type 0 where
  pub root : Root
  pub has : Content
  pub stored : LogAt image sectors root has
  pub base_frames : base ≡ frames_of has.base
  pub tail_frames : tail ≡ frames_of (tails has)
  pub number : n ≡ root.base_number + counted tail
  pub in_range : n ≤ COMMAND_NUMBER_MAX

-- an image carries these commands and frames, or one frame more
abbrev pub CarriesBeforeOrAfter : ℕ → ℕ → Frames → Frames → ℕ → List ℕ → Image → Type 0
CarriesBeforeOrAfter sectors n base tail count payload image =
    Carries image sectors n base tail ⊎ Carries image sectors (n + count) base (tail ++ (count, payload) ∷ [])

-- every crash image of a moment has this root and content
abbrev pub KeepsLog : Moment → ℕ → Root → Content → Type 0
KeepsLog m sectors root has = (image : Image) → IsImage m image → LogAt image sectors root has

-- every crash image of a moment carries these commands and frames
abbrev pub AllCarry : Moment → ℕ → ℕ → Frames → Frames → Type 0
AllCarry m sectors n base tail = (image : Image) → IsImage m image → Carries image sectors n base tail

-- every crash image of a moment has this root and content, of which the last frame ends there, and the last command has this
-- number
pub record HoldsContent (m : Moment) (sectors : ℕ) (root : Root) (end number : ℕ) (has : Content) : Type 0 where
  pub keeps : KeepsLog m sectors root has
  pub end_is : end ≡ end_of_frames 0 has.last.1
  pub number_is : number ≡ root.base_number + counted (frames_of (tails has))
