use Rattle.cg_group.proofs.InPlace.{join_in_place}
use Rattle.cg_group.proofs.KnownSessions.{known-heard}
use Rattle.cg_group_table.proofs.Tight.{stay_heard}
use Rattle.cg_group.proofs.parked_join.rejoin_in.Goals as goal

pub returns-clause-met : goal.returns-clause-met
returns-clause-met c =
    λ r fresh at. join_in_place c.args.now r fresh c.args.ticket c.args.held.now c.hear_in.new.held c.args.own.now c.args.id.now c.args.reply c.hear_in.result at c.hear_in.ensures.groups c.hear_in.ensures.effects

pub returns-clause-known : goal.returns-clause-known
returns-clause-known c =
    λ r homes at h.
    known-heard homes c.args.now c.args.id.now c.args.own.now c.args.held.now c.hear_in.new.held at.group at.named.found (c.hear_in.ensures.groups at.group at.named.found) h

pub returns-clause-parked : goal.returns-clause-parked
returns-clause-parked c = λ r at. stay_heard c.args.now c.args.id.now c.args.own.now c.args.held.now c.hear_in.new.held at.group at.named.found (c.hear_in.ensures.groups at.group at.named.found)
