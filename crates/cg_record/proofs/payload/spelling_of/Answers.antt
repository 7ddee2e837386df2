use Rattle.std.proofs.Common.{arith}
use Rattle.cg_record.proofs.CommandLaws.{commands_take}
use Rattle.cg_record.specs.Payloads.{told}
use Rattle.cg_record.proofs.Longer.{text_reads}
use Rattle.cg_record.proofs.payload.spelling_of.Goals as goal

pub returns-clause-decoded : goal.returns-clause-decoded
returns-clause-decoded c = text_reads c.args.bytes.now c.requires

-- commands that were decoded are lawful, whatever the version
pub returns-clause-lawful : goal.returns-clause-lawful
returns-clause-lawful c = (commands_take c.args.bytes.now (told c.args.bytes.now) (λ i. omega (arith, c.type_inv.bytes i)) (text_reads c.args.bytes.now c.requires)).0
