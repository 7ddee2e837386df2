-- A closed session makes no command.
use Rattle.std.proofs.Common.{◌≡◌, ℕ, List, [], ◌∷◌, refl}
use Rattle.std.specs.List.{flat_map}
use Rattle.cg_request.specs.declared.event.Event.TheVariants.{Gone}
use Rattle.cg_group_state.specs.declared.group.Group.{Group}
use Rattle.cg_group_rules.specs.Leave.{gone_in}
use Rattle.cg_group.specs.Machine.{handled, step}
use Rattle.cg_group_table.specs.GroupTable.{Machine, everywhere}

no_commands : (now session : ℕ) (groups : List Group) → flat_map (λ (g : Group). (gone_in now session g).commands) groups ≡ []
unfolding gone_in
no_commands now session [] = refl
no_commands now session (g ∷ groups) = no_commands now session groups

pub gone_makes_none : (s : Machine) (session now : ℕ) → (step s (Gone session) now).effects.commands ≡ []
unfolding step handled everywhere
gone_makes_none s session now = no_commands _ session s.groups
