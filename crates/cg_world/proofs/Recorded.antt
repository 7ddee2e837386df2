-- Lawful commands make lawful records, none of generation 0.
use Rattle.std.proofs.Common.{◌≤◌, Option, None, Some, IfSome}
use Rattle.cg_fold.specs.declared.group_record.GroupRecord.{GroupRecord}
use Rattle.cg_fold.specs.Durable.{State}
use Rattle.cg_group_table.specs.Kept.{kept_in}
use Rattle.cg_store.specs.Carried.{AreMade}
use Rattle.cg_store.proofs.Whole.{Carries-commands}
use Rattle.cg_desk.proofs.Recorded.{AreSound, IsSound, made-sound, sound-records}
use Rattle.cg_world.specs.Opening.{IsLawfulState, LoadingsAreLawful}

sound-lawful : (state : State) → AreSound state → IsLawfulState state
sound-lawful state h = record { records = sound-records state h; completed = λ group. completed (kept_in state group) (h group) }
  where
    completed : (o : Option GroupRecord) → IfSome o IsSound → IfSome o (λ r. 1 ≤ r.generation)
    completed None is = tt
    completed (Some r) is = is.1

pub made-lawful : (state : State) → AreMade state → IsLawfulState state
made-lawful state made = sound-lawful state (made-sound state made)

pub loadings_are_lawful : LoadingsAreLawful
loadings_are_lawful = record { made = made-lawful; carried = λ image sectors n state carries. made-lawful state (Carries-commands image sectors n state carries).0 }
