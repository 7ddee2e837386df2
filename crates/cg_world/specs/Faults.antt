-- When a step or a run reports that the disk failed, and the refusal of a request for which an allocation fails.
use Rattle.std.specs.Prelude.{Bool, true, false, Result, Ok, Err, Option, Some, None}
use Rattle.cg_world.specs.declared.step.StepNote.{StepNote}
use Rattle.cg_world.specs.declared.step.StepNote.TheVariants as note
use Rattle.cg_names.specs.declared.code.Code.TheVariants.{UnknownServerError}
use Rattle.cg_group_state.specs.declared.reply.Reply.TheVariants.{Refused}
use Rattle.cg_desk.specs.Outgoings.{answer}
use Rattle.cg_desk.specs.declared.outgoing.Outgoing.{Outgoing}
use Rattle.cg_world.specs.declared.step.Step.{Step}
use Rattle.cg_world.specs.declared.step.Step.TheVariants.{Request}
use Rattle.cg_world.specs.declared.step_effect.Taken.{Taken}
use Rattle.cg_world.specs.declared.step.StopCause.{StopCause}
use Rattle.cg_world.specs.declared.step.StopCause.TheVariants as cause

abbrev pub is_failure : StepNote → Bool
is_failure note.Device = true
is_failure other = false

abbrev pub failed_append : {T E : Type 0} → Result (StepNote × T) E → Bool
failed_append (Ok told) = is_failure told.0
failed_append (Err e) = false

abbrev pub failed_step : {E : Type 0} → Result Taken E → Bool
failed_step (Ok taken) = is_failure taken.note
failed_step (Err e) = false

abbrev pub stopped_by_device : Option StopCause → Bool
stopped_by_device None = false
stopped_by_device (Some cause.Memory) = false
stopped_by_device (Some cause.Device) = true

-- the refusal of a step for which an allocation fails: a request is refused with -1
abbrev pub refusal_of : Step → Option Outgoing
refusal_of (Request ticket r now fresh) = Some (answer ticket (Refused UnknownServerError) 0)
refusal_of step = None
