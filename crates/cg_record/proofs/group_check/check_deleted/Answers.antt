use Rattle.std.proofs.Common.{refl}
use Rattle.cg_record.specs.Reading.{deleted_at}
use Rattle.cg_record.proofs.group_check.check_deleted.Goals as goal

pub returns : goal.returns
unfolding deleted_at
returns c = (record { group = c.in_ok-rest.field-0-0.now }, rw c.in_ok-rest.ensures.gives refl)
