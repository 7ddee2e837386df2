use Rattle.cg_world.proofs.world.World.close.Goals as goal

pub returns-clause-out : goal.returns-clause-out
returns-clause-out g c = c.close.ensures.order
