use Rattle.cg_fold.proofs.KeyOrder.{name_total}
use Rattle.cg_fold.proofs.Kept.{state-keep}
use Rattle.cg_fold.proofs.Put.{put_keeps_order}
use Rattle.cg_fold.proofs.durable.Durable.keep.Goals as goal

pub invariant_of-self-2 : goal.invariant_of-self-2
invariant_of-self-2 c = put_keeps_order name_total c.args.group c.args.held c.self.inside.records.entries c.put.new.kept.entries c.in_ok-put.ensures.ok c.self.invariant

pub returns-clause-ok : goal.returns-clause-ok
returns-clause-ok c =
    state-keep c.args.group c.args.held c.self.inside.records.entries c.put.new.kept.entries c.self.inside.offsets c.args.self.now c.self.invariant c.in_ok-put.ensures.ok c.self.view_is
