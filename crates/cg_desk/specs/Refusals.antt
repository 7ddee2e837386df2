-- The codes by which a token may be spent without a permit: such a reply rests on no command.
use Rattle.std.specs.Prelude.{Bool, true, false}
use Rattle.cg_names.specs.declared.code.Code.{Code}
use Rattle.cg_names.specs.declared.code.Code.TheVariants.{UnknownServerError, CoordinatorLoadInProgress, CoordinatorNotAvailable, InvalidRequest}

-- -1, 14, 15 and 42
abbrev pub is_refusal : Code → Bool
is_refusal UnknownServerError = true
is_refusal CoordinatorLoadInProgress = true
is_refusal CoordinatorNotAvailable = true
is_refusal InvalidRequest = true
is_refusal code = false
