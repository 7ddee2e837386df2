-- The moment of a command, in milliseconds, or unknown: the range, the encoding and the decoding.
use Rattle.std.specs.Prelude.{ℕ, ◌<◌, ◌^◌, ◌==◌, List, [], ◌∷◌, Option, Some, None, IfSome, Ok, if◌then◌else◌}
use Rattle.cg_record.specs.declared.format.Version.{Version}
use Rattle.cg_record.specs.declared.fault.RecordFault.TheVariants.{BadLength}
use Rattle.cg_record.specs.Versions.{has_moments}
use Rattle.cg_record.specs.Texts.{eight}
use Rattle.cg_record.specs.Fields.{Read, ◌>>=◌, only, made, at_most, byte_at, eight_at}

-- a moment fits eight bytes
abbrev pub IsMoment : Option ℕ → Type 0
IsMoment moment = IfSome moment (λ m. m < 2 ^ 64)

-- the byte 0 for an unknown moment, or 1 and the milliseconds
abbrev pub stamp_text : Option ℕ → List ℕ
stamp_text None = 0 ∷ []
stamp_text (Some m) = 1 ∷ eight m

-- versions without moments have no byte for it
unfoldable pub moment_text : Version → Option ℕ → List ℕ
moment_text version moment = if has_moments version then stamp_text moment else []

-- the milliseconds, if the moment is known
abbrev pub stamped_at : ℕ → List ℕ → Read (Option ℕ)
stamped_at known bytes = if known == 0 then Ok (None, bytes) else made Some (eight_at bytes)

unfoldable pub stamp_at : List ℕ → Read (Option ℕ)
stamp_at bytes = do
  known ← only (at_most 1) BadLength (byte_at bytes)
  stamped_at known.0 known.1

unfoldable pub moment_at : Version → List ℕ → Read (Option ℕ)
moment_at version bytes = if has_moments version then stamp_at bytes else Ok (None, bytes)
