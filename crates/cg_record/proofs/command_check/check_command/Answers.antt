use Rattle.std.proofs.Common.{arith}
use Rattle.cg_record.specs.Reading.{command_at}
use Rattle.cg_record.proofs.CommandLaws.{skipped_shortens}
use Rattle.cg_record.proofs.command_check.check_command.Goals as goal

pub returns-clause-shorter : goal.returns-clause-shorter
unfolding command_at
returns-clause-shorter c = skipped_shortens (λ rest. rest.now) c.check_body.result c.args.version c.args.bytes.now (λ i. omega (arith, c.type_inv.bytes i)) (rw c.in_ok-kind.ensures c.check_body.ensures)
