use Rattle.cg_desk.proofs.Recorded.{commands_make_records}
use Rattle.cg_desk.proofs.laws.commands_make_records.Goals as goal

pub returns : goal.returns
returns c = commands_make_records
