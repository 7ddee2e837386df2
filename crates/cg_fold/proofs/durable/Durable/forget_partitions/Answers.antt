use Rattle.cg_fold.proofs.Kept.{state-fewer}
use Rattle.cg_fold.proofs.durable.Durable.forget_partitions.Goals as goal

pub returns : goal.returns
returns c =
    state-fewer c.args.group.now c.args.partitions.now c.self.inside.records.entries c.self.inside.offsets c.forget_partitions.new.self c.args.self.now c.forget_partitions.ensures c.self.view_is
