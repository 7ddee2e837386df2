-- What a version of the format decides.
use Rattle.std.specs.Prelude.{ℕ, Bool, true, false, if◌then◌else◌}
use Rattle.cg_record.specs.declared.entries.TheConstants.{ENTRIES_MAX, SHORT_COUNT_MAX}
use Rattle.cg_record.specs.declared.format.TheConstants.{VERSION_ONE, VERSION_TWO, VERSION_THREE}
use Rattle.cg_record.specs.declared.format.Version.{Version}
use Rattle.cg_record.specs.declared.format.Version.TheVariants.{One, Two, Three}

-- the first byte of a payload
abbrev pub byte_of : Version → ℕ
byte_of One = VERSION_ONE
byte_of Two = VERSION_TWO
byte_of Three = VERSION_THREE

-- the version that `write` encodes
abbrev pub newest : Version
newest = Three

-- `Emptied` and `Committed` have a moment
abbrev pub has_moments : Version → Bool
has_moments One = false
has_moments Two = true
has_moments Three = true

-- `Expired` is a command
abbrev pub has_expired : Version → Bool
has_expired One = false
has_expired Two = true
has_expired Three = true

-- `Dropped` is a command
abbrev pub has_dropped : Version → Bool
has_dropped One = false
has_dropped Two = false
has_dropped Three = true

-- the number of entries or partitions has two bytes
abbrev pub has_long_counts : Version → Bool
has_long_counts One = false
has_long_counts Two = false
has_long_counts Three = true

-- the maximum number of entries or partitions of a command
abbrev pub count_max : Version → ℕ
count_max version = if has_long_counts version then ENTRIES_MAX else SHORT_COUNT_MAX
