use Rattle.std.proofs.Common.{length, ap, ◌∙◌, arith}
use Rattle.cg_record.specs.Reading.{commands_of}
use Rattle.cg_record.proofs.CommandLaws.{whole_spelled, whole_lawful, spelling_len, commands_again}
use Rattle.cg_record.proofs.encoder.write.Goals as goal

pub returns-clause-spelled : goal.returns-clause-spelled
returns-clause-spelled c = whole_spelled c.args.commands.now c.loop-command.command-index c.loop-command.out.items (omega arith) c.loop-command.invariant.0

pub returns-clause-len : goal.returns-clause-len
returns-clause-len c =
    let spelled = whole_spelled c.args.commands.now c.loop-command.command-index c.loop-command.out.items (omega arith) c.loop-command.invariant.0 in
    ap length spelled ∙ spelling_len c.args.commands.now

pub returns-clause-reads_back : goal.returns-clause-reads_back
returns-clause-reads_back c =
    let spelled = whole_spelled c.args.commands.now c.loop-command.command-index c.loop-command.out.items (omega arith) c.loop-command.invariant.0 in
    let lawful = whole_lawful c.args.commands.now c.loop-command.command-index (omega arith) c.loop-command.invariant.1 in
    ap commands_of spelled ∙ commands_again c.args.commands.now lawful
