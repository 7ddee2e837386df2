use Rattle.cg_fold.specs.Key.{name_cmp}
use Rattle.cg_fold.specs.Grouped.{is_another}
use Rattle.cg_fold.proofs.Kept.{state-delete, filter_keeps_order}
use Rattle.cg_fold.proofs.durable.Durable.delete.Goals as goal

pub invariant_of-self : goal.invariant_of-self
invariant_of-self c =
    filter_keeps_order name_cmp (is_another c.args.deleted.now.group) c.self.inside.records.entries c.take_away-record.new.kept.entries c.take_away-record.ensures.entries c.self.invariant

pub returns : goal.returns
returns c =
    state-delete c.args.deleted.now c.self.inside.records.entries c.take_away-record.new.kept.entries c.self.inside.offsets c.forget.new.self c.args.self.now
    c.self.invariant c.take_away-record.ensures.entries c.forget.ensures c.self.view_is
