use Rattle.std.proofs.Common.{refl}
use Rattle.cg_store.proofs.Reading.{IsRead-none}
use Rattle.cg_store.proofs.recovery.Loading.new.Goals as goal

pub returns : goal.returns
returns c = IsRead-none _ _ refl c.new.ensures
