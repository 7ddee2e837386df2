use Rattle.cg_store.proofs.Whole.{Carries-commands}
use Rattle.cg_store.proofs.laws.images_carry_commands.Goals as goal

pub returns : goal.returns
returns c = Carries-commands
