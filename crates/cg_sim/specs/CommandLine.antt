-- The command line: `--segments N`, and what its words ask for.
use Rattle.std.specs.Prelude.{◌≡◌, ◌⊎◌, ◌<◌, ◌^◌, ℕ, List, ◌++◌, Option, None, Some, codes, true}
use Rattle.std.specs.Io.KnownBytes.{Appends}
use Rattle.std.specs.Str.Parse.{IsNumeral, digits_value, without_leading_plus}
use Rattle.clap.specs.Words.{App, IsAmong, Kinds, Rule, Text, fault_of, matches_of, new_app, new_rule, one_of, with_rule}
use Rattle.clap.specs.declared.builder.value_parser.ValueParser.TheVariants as parser
use Rattle.clap.specs.declared.error.kind.ErrorKind.{ErrorKind}
use Rattle.clap.specs.declared.error.kind.ErrorKind.TheVariants as kind
use Rattle.cg_gate.specs.declared.layout.TheConstants.{SEGMENTS_MAX}
use Rattle.cg_sim.specs.declared.command_line.TheConstants.{SEGMENTS_DEFAULT}
use Rattle.cg_sim.specs.declared.script.TheConstants.{STATUS_DONE, STATUS_USAGE}
use Rattle.cg_sim.specs.declared.stop.Stop.TheVariants as stop
use Rattle.cg_sim.specs.declared.version.TheConstants.{VERSION}
use Rattle.cg_sim.specs.Ending.{EndsEarly}

-- an option with a number from 1 to the greatest number of segments
abbrev pub segments_rule : Rule
segments_rule = record (new_rule (codes "segments")) { long = Some (codes "segments"); value_names = 1; parser = Some (parser.Unsigned 1 SEGMENTS_MAX) }

-- a command line with that option alone, and a version, whose first word is not the program's name
abbrev pub sim_app : App
sim_app = let named = new_app (codes "cg_sim") in with_rule (record named { top = record named.top { no_binary_name = true; has_version = true } }) segments_rule

-- what clap refuses the words for; nothing, if it takes them
abbrev pub faults_of : List Text → Kinds
faults_of words = fault_of sim_app words

-- the number of segments that a text asks for; without a text it is the default
abbrev pub AsksFor : Option Text → ℕ → Type 0
AsksFor None segments = segments ≡ SEGMENTS_DEFAULT
AsksFor (Some text) segments = let digits = without_leading_plus text in IsNumeral 10 digits → digits_value 10 digits < 2 ^ 64 → segments ≡ digits_value 10 digits

-- the number of segments that the words ask for
abbrev pub WordsAskFor : List Text → ℕ → Type 0
WordsAskFor words segments = AsksFor (one_of (codes "segments") (matches_of sim_app words)) segments

-- the line of the version
abbrev pub version_text : List ℕ
version_text = codes "cg_sim " ++ VERSION.now ++ codes "\n"

-- the version was printed; otherwise that memory ran out was, unless the status is that of a failed write
abbrev pub ShowsVersion : ℕ → Option (List ℕ) → Option (List ℕ) → Type 0
ShowsVersion status old new = ((status ≡ STATUS_DONE) × Appends old new version_text) ⊎ EndsEarly stop.Memory status old new

-- what is printed for this kind of error: that memory ran out, the version, or nothing
abbrev pub RefusesWords : ErrorKind → ℕ → Option (List ℕ) → Option (List ℕ) → Type 0
RefusesWords kind.OutOfMemory status old new = EndsEarly stop.Memory status old new
RefusesWords kind.DisplayVersion status old new = ShowsVersion status old new
RefusesWords other status old new = (status ≡ STATUS_USAGE) × (new ≡ old)

-- the words were refused for one of these kinds of error, or memory ran out
abbrev pub IsRefused : Kinds → ℕ → Option (List ℕ) → Option (List ℕ) → Type 0
IsRefused kinds status old new = ((status ≡ STATUS_USAGE) × (new ≡ old)) ⊎ EndsEarly stop.Memory status old new ⊎ (IsAmong kind.DisplayVersion kinds × ShowsVersion status old new)
