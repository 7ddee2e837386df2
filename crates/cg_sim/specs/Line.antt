-- The parsed form of a script line, or None for a bad line.
use Rattle.std.specs.Prelude.{ℕ, List, length, nat_lt, Bool, true, false, Option, None, Some, if◌then◌else◌, codes}
use Rattle.std.specs.Option.{option_map}
use Rattle.std.specs.Str.{bytes_eq}
use Rattle.cg_disk.specs.declared.mem.Crash.TheVariants.{Keep, Lose}
use Rattle.cg_line.specs.Numbers.{number_of}
use Rattle.cg_sim.specs.Text.{◌>>=◌, cut_of, is_skipped, session_of}
use Rattle.cg_sim.specs.SectorText.{sector_text_of}
use Rattle.cg_sim.specs.declared.text.TheConstants.{NUMBER_MAX}
use Rattle.cg_sim.specs.declared.line.TheConstants.{SCRIPT_LINE_BYTES_MAX}
use Rattle.cg_sim.specs.declared.line.Line.{Line}
use Rattle.cg_sim.specs.declared.line.Line.TheVariants.{Skipped, At, Tick, Gone, Take, Append, Settle, Flush, Compact, Fuse, Once, Poke, Stop, Load, Reload, Close, Ask}
use Rattle.cg_sim.specs.declared.compaction.Compaction.TheVariants.{Whole, Step, Abort}
use Rattle.cg_sim.specs.declared.compaction.CompactStep.TheVariants.{Start, Read, Write, Switch}

abbrev space : ℕ
space = 32

-- a step of the desk or the store
unfoldable pub step_line_of : List ℕ → Option Line
step_line_of text =
    if bytes_eq text (codes "take") then Some Take
    else (if bytes_eq text (codes "append") then Some Append
    else (if bytes_eq text (codes "settle") then Some Settle
    else (if bytes_eq text (codes "flush") then Some Flush
    else None)))

-- a compaction, or a part of one
unfoldable pub compact_line_of : List ℕ → Option Line
compact_line_of text =
    if bytes_eq text (codes "compact") then Some (Compact Whole)
    else (if bytes_eq text (codes "compact start") then Some (Compact (Step Start))
    else (if bytes_eq text (codes "compact read") then Some (Compact (Step Read))
    else (if bytes_eq text (codes "compact write") then Some (Compact (Step Write))
    else (if bytes_eq text (codes "compact switch") then Some (Compact (Step Switch))
    else (if bytes_eq text (codes "compact abort") then Some (Compact Abort)
    else None)))))

-- a stop, a load, a reload or a close
unfoldable pub power_line_of : List ℕ → Option Line
power_line_of text =
    if bytes_eq text (codes "stop keep") then Some (Stop Keep)
    else (if bytes_eq text (codes "stop lose") then Some (Stop Lose)
    else (if bytes_eq text (codes "load") then Some Load
    else (if bytes_eq text (codes "reload") then Some Reload
    else (if bytes_eq text (codes "close") then Some Close
    else None))))

-- a poke: its sector, and its bytes
unfoldable pub poke_line_of : List ℕ → Option Line
poke_line_of rest = do
  words ← cut_of space rest
  sector ← number_of NUMBER_MAX words.0
  bytes ← sector_text_of words.1
  Some (Poke sector bytes)

-- a line by its first word: a moment, a closed session, a failure of the disk, a poke or a request
unfoldable pub word_line_of : List ℕ → List ℕ → Option Line
word_line_of word rest =
    if bytes_eq word (codes "at") then option_map At (number_of NUMBER_MAX rest)
    else (if bytes_eq word (codes "tick") then option_map Tick (number_of NUMBER_MAX rest)
    else (if bytes_eq word (codes "gone") then option_map Gone (session_of rest)
    else (if bytes_eq word (codes "fuse") then option_map Fuse (number_of NUMBER_MAX rest)
    else (if bytes_eq word (codes "once") then option_map Once (number_of NUMBER_MAX rest)
    else (if bytes_eq word (codes "poke") then poke_line_of rest
    else option_map (λ session. Ask session rest) (session_of word))))))

-- a line with a first word and a rest
unfoldable pub worded_line_of : List ℕ → Option Line
worded_line_of text = do
  word ← cut_of space text
  word_line_of word.0 word.1

-- the first of the two, or else the second
abbrev pub first_of_two : Option Line → Option Line → Option Line
first_of_two None second = second
first_of_two (Some line) second = Some line

-- a line that is not too long
unfoldable pub line_of : List ℕ → Option Line
line_of text =
    if nat_lt SCRIPT_LINE_BYTES_MAX (length text) then None
    else (if is_skipped text then Some Skipped else first_of_two (step_line_of text) (first_of_two (compact_line_of text) (first_of_two (power_line_of text) (worded_line_of text))))

-- the line may follow a poke while something is loaded: the next stop, reload or close puts its bytes down
abbrev pub may_follow_poke : Line → Bool
may_follow_poke Skipped = true
may_follow_poke (Poke sector text) = true
may_follow_poke (Stop crash) = true
may_follow_poke Reload = true
may_follow_poke Close = true
may_follow_poke _ = false
