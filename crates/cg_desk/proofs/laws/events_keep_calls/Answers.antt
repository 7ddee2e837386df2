use Rattle.cg_desk.proofs.Living.{events_keep_calls}
use Rattle.cg_desk.proofs.laws.events_keep_calls.Goals as goal

pub returns : goal.returns
returns c = events_keep_calls
