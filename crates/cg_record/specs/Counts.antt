-- The number of entries or partitions of a command: its encoding and its decoding.
use Rattle.std.specs.Prelude.{ℕ, List, [], ◌∷◌, if◌then◌else◌}
use Rattle.cg_record.specs.declared.format.Version.{Version}
use Rattle.cg_record.specs.declared.fault.RecordFault.TheVariants.{BadLength}
use Rattle.cg_record.specs.Versions.{has_long_counts, count_max}
use Rattle.cg_record.specs.Texts.{two}
use Rattle.cg_record.specs.Fields.{Read, only, is_from_to, byte_at, two_at}

-- one byte, or two
unfoldable pub count_text : Version → ℕ → List ℕ
count_text version n = if has_long_counts version then two n else n ∷ []

unfoldable pub number_of_count_at : Version → List ℕ → Read ℕ
number_of_count_at version bytes = if has_long_counts version then two_at bytes else byte_at bytes

-- from 1 to the maximum of the version
unfoldable pub count_at : Version → List ℕ → Read ℕ
count_at version bytes = only (is_from_to 1 (count_max version)) BadLength (number_of_count_at version bytes)
