-- The law of a number of entries or partitions: its decoder accepts exactly its encoding.
use Rattle.std.proofs.Common.{ℕ, ◌<◌, ◌≤◌, ◌^◌, Bool, true, false, cond, [], ◌∷◌, refl, arith}
use Rattle.cg_record.specs.declared.entries.TheConstants.{ENTRIES_MAX, SHORT_COUNT_MAX}
use Rattle.cg_record.specs.declared.format.Version.{Version}
use Rattle.cg_record.specs.declared.format.Version.TheVariants.{One, Two, Three}
use Rattle.cg_record.specs.declared.fault.RecordFault.TheVariants.{BadLength}
use Rattle.cg_record.specs.Fields.{is_from_to, byte_at, two_at}
use Rattle.cg_record.specs.Texts.{two}
use Rattle.cg_record.specs.Counts.{count_text, number_of_count_at, count_at}
use Rattle.cg_record.specs.Versions.{has_long_counts, count_max}
use Rattle.cg_record.proofs.Laws.{Reads, reads_only, reads_as}
use Rattle.cg_record.proofs.FieldLaws.{reads_byte, reads_two, from_to-true, is_from_to-true}

-- from 1 to the maximum of the version
abbrev pub IsCount : Version → ℕ → Type 0
IsCount version n = (1 ≤ n) × (n ≤ count_max version)

pub max_few : (version : Version) → count_max version ≤ ENTRIES_MAX
max_few One = omega arith
max_few Two = omega arith
max_few Three = omega arith

reads_if : (long : Bool) → Reads (λ bytes. cond long (two_at bytes) (byte_at bytes)) (λ n. cond long (two n) (n ∷ [])) (λ n. n < cond long (2 ^ 16) 256)
reads_if true = reads_two
reads_if false = reads_byte

fits : (long : Bool) (n : ℕ) → n ≤ cond long ENTRIES_MAX SHORT_COUNT_MAX → n < cond long (2 ^ 16) 256
fits true n le = omega (arith, le)
fits false n le = omega (arith, le)

pub reads_count : (version : Version) → Reads (count_at version) (count_text version) (IsCount version)
unfolding count_at number_of_count_at count_text
reads_count version =
    reads_as
    (reads_only (is_from_to 1 (count_max version)) BadLength (reads_if (has_long_counts version)))
    (λ n. refl)
    (λ n known is. from_to-true 1 (count_max version) n is.1)
    (λ n known is. (fits (has_long_counts version) n is.1, is_from_to-true 1 (count_max version) n is.0 is.1))
