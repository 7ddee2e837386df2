use Rattle.cg_desk.proofs.Recorded.{empty-records}
use Rattle.cg_tests.proofs.desk.serving.Goals as goal

pub loaded-loaded-requires-clause-lawful : goal.loaded-loaded-requires-clause-lawful
loaded-loaded-requires-clause-lawful g c = empty-records c.new.result c.new.ensures
