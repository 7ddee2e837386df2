use Rattle.cg_desk.proofs.Keeping.{failing-in}
use Rattle.cg_desk.proofs.desk.Desk.close.Goals as goal

pub returns-in-Serving-clause-order : goal.returns-in-Serving-clause-order
returns-in-Serving-clause-order c = failing-in c.args.self.phase c.in-Serving.last c.fail.result.items c.in-Serving.is c.args.self.balanced c.fail.ensures.order
