-- Checks in their order: the first check that fails decides the error code.
use Rattle.std.specs.Prelude.{Bool, true, false, Result, Ok, Err}
use Rattle.cg_names.specs.declared.code.Code.{Code}

infixl 10 ◌>>=◌
-- the checks that follow one that passed
abbrev pub ◌>>=◌ : {A B : Type 0} → Result A Code → (A → Result B Code) → Result B Code
Ok x >>= rest = rest x
Err code >>= rest = Err code

-- the request is refused with this code if the condition holds
abbrev pub refused_if : Bool → Code → Result (Unit {0}) Code
refused_if true code = Err code
refused_if false code = Ok tt
