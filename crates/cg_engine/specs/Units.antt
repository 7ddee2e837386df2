-- How many units of the ledger a value has.
use Rattle.std.specs.Prelude.{ℕ}
use Rattle.cg_engine.specs.declared.units.Pool.{Pool}
use Rattle.cg_engine.specs.declared.units.Units.{Units}

-- the units on a part
abbrev pub count_of : {L : Type 0} → Units L → ℕ
count_of units = units.count

-- the units of the pool
abbrev pub units_in : {L : Type 0} → Pool L → ℕ
units_in pool = pool.count

-- the parts of the pool
abbrev pub parts_in : {L : Type 0} → Pool L → ℕ
parts_in pool = pool.parts
