-- What a permit allows.
use Rattle.std.specs.Prelude.{ℕ}
use Rattle.cg_desk.specs.declared.permit.Permit.{Permit}

-- the greatest need of a reply that may leave
abbrev pub front_of : Permit → ℕ
front_of permit = permit.front
