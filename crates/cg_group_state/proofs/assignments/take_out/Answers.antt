use Rattle.std.proofs.Common.{ap, ◌∙◌, cond, None}
use Rattle.indexmap.specs.IndexMap.{get}
use Rattle.std.specs.Prelude.{nat_eq}
use Rattle.std.specs.Cmp.Lexicographic.{pointwise}
use Rattle.cg_group_state.proofs.assignments.take_out.Goals as goal

pub returns-in-Some-clause-others : goal.returns-in-Some-clause-others
returns-in-Some-clause-others c =
    λ other e. c.in-Some.ensures.updates.0 other ∙ ap (λ b. cond b None (get (pointwise nat_eq) c.args.index.now other)) e
