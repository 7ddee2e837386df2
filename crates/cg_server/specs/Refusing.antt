-- When words are refused.
use Rattle.std.specs.Prelude.{◌≡◌, [], Result, Ok, Err}
use Rattle.clap.specs.Words.{HasKind, Kinds}
use Rattle.cg_server.specs.declared.command_line.Refusal.{Refusal}
use Rattle.cg_server.specs.declared.command_line.Refusal.TheVariants as refused

-- clap's error has one of these kinds; an address is refused only where clap has nothing against the words
abbrev pub RefusesFor : Kinds → Refusal → Type 0
RefusesFor kinds (refused.Words error) = HasKind kinds error
RefusesFor kinds refused.Address = kinds ≡ []

-- words are taken only where clap has nothing against them
abbrev pub RefusesBy : {T : Type 0} → Kinds → Result T Refusal → Type 0
RefusesBy kinds (Ok taken) = kinds ≡ []
RefusesBy kinds (Err refusal) = RefusesFor kinds refusal
