use Rattle.std.proofs.Common.{arith}
use Rattle.cg_trail.proofs.Picked.{picked-past}
use Rattle.cg_group_state.proofs.Exchanges.{rest_is}
use Rattle.cg_trail.proofs.answers.past_one.Goals as goal

pub returns-in-len1-up : goal.returns-in-len1-up
returns-in-len1-up c = λ others.
    picked-past c.args.answers.now c.first-item.result c.args.reply.now _ others (rest_is c.args.answers.now c.first-item.result (omega arith) c.first-item.is) (c.is_same.ensures.0 c.if-is_same.true)
