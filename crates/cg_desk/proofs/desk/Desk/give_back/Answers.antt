use Rattle.cg_desk.specs.Serving.{books}
use Rattle.cg_desk.proofs.Keeping.{give-back-stays, in-serving}
use Rattle.cg_desk.proofs.desk.Desk.give_back.Goals as goal

pub invariant_of-self-in-Serving : goal.invariant_of-self-in-Serving
invariant_of-self-in-Serving c =
    let before = in-serving c.args.self.now.phase c.in-Serving.serving c.in-Serving.is c.args.self.now.balanced in
    record { balanced = give-back-stays c.give_back.result (books c.in-Serving.serving) (books c.give_back.new.self) c.args.batch c.give_back.ensures.ok c.give_back.ensures.unchanged before }
