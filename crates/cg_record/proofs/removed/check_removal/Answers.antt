use Rattle.std.proofs.Common.{refl}
use Rattle.cg_record.specs.Reading.{removal_at}
use Rattle.cg_record.proofs.removed.check_removal.Goals as goal

pub returns : goal.returns
unfolding removal_at
returns c = ((c.in_ok-rest.field-0-0.now, c.in_ok-rest-2.ensures.0), rw (c.in_ok-rest.ensures.gives, c.in_ok-rest-2.ensures.1) refl)
