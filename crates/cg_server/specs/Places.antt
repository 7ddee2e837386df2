-- Where the log is, and where it comes from.
use Rattle.std.specs.Prelude.{◌≡◌, ◌⊎◌, Bool, true, false, List, Option, None, Some, codes}
use Rattle.clap.specs.Walk.{first_of}
use Rattle.clap.specs.Words.{Text, one_of}
use Rattle.cg_server.specs.CommandLine.{rows_in}
use Rattle.cg_server.specs.declared.command_line.LogPlace.{LogPlace}
use Rattle.cg_server.specs.declared.command_line.LogPlace.TheVariants as place
use Rattle.cg_server.specs.declared.log_file.Origin.{Origin}
use Rattle.cg_server.specs.declared.log_file.Origin.TheVariants as origin

-- a flag is among the words, by what clap finds for it
abbrev pub IsGiven : Option Text → Type 0
IsGiven text = text ≡ Some (codes "true")

-- a flag is not among the words
abbrev pub IsMissing : Option Text → Type 0
IsMissing text = (text ≡ None) ⊎ (text ≡ Some (codes "false"))

-- the file with this path is made, and overwritten or not
abbrev pub IsNewFile : Text → Bool → LogPlace → Type 0
IsNewFile path overwritten (place.NewFile at overwrite) = (at.now ≡ path) × (overwrite ≡ overwritten)
IsNewFile path overwritten other = ⊥

-- the file with this path is opened as it is
abbrev pub IsFoundFile : Text → LogPlace → Type 0
IsFoundFile path (place.File at) = at.now ≡ path
IsFoundFile path other = ⊥

-- where the log is, by what is found for --disk, --overwrite and --format: in memory without --disk; a file is made with one of the
-- flags, and opened as it is without
abbrev pub PlaceFor : Option Text → Option Text → Option Text → LogPlace → Type 0
PlaceFor None overwrite format at = at ≡ place.Memory
PlaceFor (Some path) overwrite format at = (IsGiven overwrite → IsNewFile path true at)
    × (IsMissing overwrite → IsGiven format → IsNewFile path false at) × (IsMissing overwrite → IsMissing format → IsFoundFile path at)

-- the words choose this place
abbrev pub ChoosesPlace : List Text → LogPlace → Type 0
ChoosesPlace words = PlaceFor (first_of (codes "disk") (rows_in words)) (one_of (codes "overwrite") (rows_in words)) (one_of (codes "format") (rows_in words))

-- a log is formatted where its file is to be made, and is as it was found where that is to be opened
abbrev pub IsOpenedFor : LogPlace → Origin → Type 0
IsOpenedFor place.Memory from = ⊥
IsOpenedFor (place.NewFile path overwrite) from = from ≡ origin.Formatted
IsOpenedFor (place.File path) from = from ≡ origin.Found
