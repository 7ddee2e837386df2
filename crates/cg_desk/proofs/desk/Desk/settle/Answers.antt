use Rattle.cg_store.specs.Receipts.{batch_of}
use Rattle.cg_desk.specs.Serving.{books}
use Rattle.cg_desk.proofs.Keeping.{in-serving, settle-stays}
use Rattle.cg_desk.proofs.desk.Desk.settle.Goals as goal

pub invariant_of-self-in-Serving : goal.invariant_of-self-in-Serving
invariant_of-self-in-Serving c =
    let before = in-serving c.args.self.now.phase c.in-Serving.serving c.in-Serving.is c.args.self.now.balanced in
    record { balanced = settle-stays c.settle.result (books c.in-Serving.serving) (books c.settle.new.self) (batch_of c.args.receipt) c.settle.ensures.ok c.settle.ensures.unchanged before }
