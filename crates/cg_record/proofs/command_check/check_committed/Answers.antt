use Rattle.std.proofs.Common.{refl}
use Rattle.cg_record.specs.Reading.{committed_at}
use Rattle.cg_record.proofs.command_check.check_committed.Goals as goal

pub returns : goal.returns
unfolding committed_at
returns c = (
  record { group = c.in_ok-rest.field-0-0.now; moment = c.in_ok-rest-2.field-0-0; entries = c.in_ok-rest-3.ensures.0 },
  rw (c.in_ok-rest.ensures.gives, c.in_ok-rest-2.ensures, c.in_ok-rest-3.ensures.1) refl,
)
