use Rattle.std.proofs.Common.{◌∙◌, sym}
use Rattle.cg_desk.proofs.Keeping.{failing-in}
use Rattle.cg_desk.proofs.desk.Desk.fail.Goals as goal

pub returns-in-Serving-clause-order : goal.returns-in-Serving-clause-order
returns-in-Serving-clause-order c =
    failing-in c.args.self.now.phase c.in-Serving.serving c.fail.result.items (sym c.replace.ensures.value ∙ c.in-Serving.is) c.args.self.now.balanced c.fail.ensures.order
