use Rattle.std.proofs.Common.{arith}
use Rattle.cg_record.specs.Reading.{command_at}
use Rattle.cg_record.proofs.CommandLaws.{command_shortens}
use Rattle.cg_record.proofs.Decoding.{left_on}
use Rattle.cg_record.proofs.command_decoder.command_at.Goals as goal

pub returns-clause-shorter : goal.returns-clause-shorter
unfolding command_at
returns-clause-shorter c = command_shortens (λ x. (x.0, x.1.now)) c.body_at.result c.args.version c.args.bytes.now (λ i. omega (arith, c.type_inv.bytes i)) (rw c.in_ok-kind.ensures c.body_at.ensures)

pub returns-clause-left : goal.returns-clause-left
unfolding command_at
returns-clause-left c = left_on (λ x. (x.0, x.1.now)) c.body_at.result c.args.version c.args.bytes.now (λ i. omega (arith, c.type_inv.bytes i)) (rw c.in_ok-kind.ensures c.body_at.ensures)
