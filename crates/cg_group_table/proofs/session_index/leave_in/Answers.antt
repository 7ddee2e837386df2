use Rattle.std.proofs.Common.{ap, ◌∙◌}
use Rattle.std.specs.BTreeMap.{get}
use Rattle.std.specs.Cmp.Lexicographic.{slice_cmp}
use Rattle.std.specs.Ordering.{nat_cmp}
use Rattle.cg_group_table.specs.SessionIndex.{is_lived_in}
use Rattle.cg_group_table.proofs.Homing.{lived_in_stay, others_stay}
use Rattle.cg_group_table.proofs.session_index.leave_in.Goals as goal

pub returns-then-is_doubtful-clause-others : goal.returns-then-is_doubtful-clause-others
returns-then-is_doubtful-clause-others c =
    λ x apart h. others_stay c.args.id.now x (get (slice_cmp nat_cmp) c.args.groups.now x) (get (slice_cmp nat_cmp) c.remove.new.self x) (c.remove.ensures.updates.0 x) apart h

pub returns-then-is_doubtful-clause-certain : goal.returns-then-is_doubtful-clause-certain
returns-then-is_doubtful-clause-certain c =
    λ x h.
    lived_in_stay c.args.id.now x (get (slice_cmp nat_cmp) c.args.groups.now x) (get (slice_cmp nat_cmp) c.remove.new.self x) (c.remove.ensures.updates.0 x)
    (λ same. ap (λ y. is_lived_in (get (slice_cmp nat_cmp) c.args.groups.now y)) same ∙ c.is_doubtful.ensures.doubtful c.if-is_doubtful.true)
    h
