use Rattle.std.proofs.Common.{rules, length}
use Rattle.cg_group_rules.specs.OffsetCommit.{commit_unheld}
use Rattle.cg_group.proofs.InPlace.{concluded_refused}
use Rattle.cg_group.proofs.offset_commit.commit_apart.Goals as goal

pub returns-in-Some-clause-ok : goal.returns-in-Some-clause-ok
returns-in-Some-clause-ok c =
    concluded_refused c.args.context.now c.args.held.now c.args.context.ticket (commit_unheld c.args.context.now c.args.generation c.args.entries c.args.context.ticket (length c.args.held.now) c.args.id) c.in-Some.code c.reply_alone.result
    (search rules) c.reply_alone.ensures
