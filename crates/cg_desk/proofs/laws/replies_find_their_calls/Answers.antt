use Rattle.cg_desk.proofs.Balanced.{replies_find_their_calls}
use Rattle.cg_desk.proofs.laws.replies_find_their_calls.Goals as goal

pub returns : goal.returns
returns c = replies_find_their_calls
