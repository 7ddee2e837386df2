use Rattle.cg_store.proofs.Whole.{Carries-unique}
use Rattle.cg_store.proofs.laws.images_carry_one_pair.Goals as goal

pub returns : goal.returns
returns c = Carries-unique
