-- The generations of a group, which the protocol encodes as an INT32.
use Rattle.std.specs.Prelude.{ℕ, ◌+◌, nat_lt, if◌then◌else◌}
use Rattle.cg_names.specs.declared.generation.TheConstants.{GENERATION_MAX}

-- the next generation; 1 after `GENERATION_MAX`
abbrev pub next_generation : ℕ → ℕ
next_generation n = if nat_lt n GENERATION_MAX then n + 1 else 1
