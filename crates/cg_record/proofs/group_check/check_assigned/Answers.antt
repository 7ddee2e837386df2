use Rattle.std.proofs.Common.{refl}
use Rattle.cg_record.specs.Reading.{assigned_at}
use Rattle.cg_record.proofs.group_check.check_assigned.Goals as goal

pub returns : goal.returns
unfolding assigned_at
returns c = (
  record { group = c.in_ok-rest.field-0-0.now; generation = c.in_ok-rest-2.field-0-0; kind = c.in_ok-rest-3.field-0-0.now; roster = c.in_ok-rest-4.ensures.0 },
  rw (c.in_ok-rest.ensures.gives, c.in_ok-rest-2.ensures.gives, c.in_ok-rest-3.ensures.gives, c.in_ok-rest-4.ensures.1) refl,
)
