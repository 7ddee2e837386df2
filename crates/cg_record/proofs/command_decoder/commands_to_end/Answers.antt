use Rattle.std.proofs.Common.{length}
use Rattle.cg_record.specs.Reading.{commands_to_end}
use Rattle.cg_record.proofs.Steps.{commands_on}
use Rattle.cg_record.proofs.command_decoder.commands_to_end.Goals as goal

pub loop-rest-preserved : goal.loop-rest-preserved
loop-rest-preserved c =
    rw c.in_ok-push.ensures.items
    (commands_on c.args.version c.args.bytes.now c.loop-rest.commands.items c.loop-rest.rest.now (commands_to_end c.args.version (length c.args.bytes.now) c.args.bytes.now) c.in_ok-command.command c.in_ok-command.after.now c.loop-rest.invariant c.in_ok-command.ensures.builds c.in_ok-command.ensures.shorter)
