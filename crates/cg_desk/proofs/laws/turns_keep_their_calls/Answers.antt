use Rattle.cg_desk.proofs.CalledTurns.{turns_keep_their_calls}
use Rattle.cg_desk.proofs.laws.turns_keep_their_calls.Goals as goal

pub returns : goal.returns
returns c = turns_keep_their_calls
