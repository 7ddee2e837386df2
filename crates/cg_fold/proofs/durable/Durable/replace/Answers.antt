use Rattle.std.proofs.Common.{◌∙◌}
use Rattle.cg_fold.proofs.Kept.{state-replace}
use Rattle.cg_fold.proofs.durable.Durable.replace.Goals as goal

pub returns-clause-ok : goal.returns-clause-ok
returns-clause-ok c =
    state-replace c.args.replaced.now c.in_ok-member.member c.self.inside.records.entries c.replace_in.new.records.entries c.self.inside.offsets c.args.self.now
    c.self.invariant (c.in_ok-member.ensures.cases ∙ c.member.ensures.value) c.replace_in.ensures.records c.self.view_is
