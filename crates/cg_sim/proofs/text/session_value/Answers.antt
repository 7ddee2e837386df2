use Rattle.cg_sim.proofs.Value.{session-fits}
use Rattle.cg_sim.proofs.text.session_value.Goals as goal

pub unreachable-requires : goal.unreachable-requires
unreachable-requires c = session-fits c.args.digits.now c.requires c.in-None.ensures
