-- The steps of a compaction.
use Rattle.cg_world.specs.declared.step.Step.{Step}
use Rattle.cg_world.specs.declared.step.Step.TheVariants.{CompactStart, CompactRead, CompactWrite, CompactSwitch}
use Rattle.cg_sim.specs.declared.compaction.CompactStep.{CompactStep}
use Rattle.cg_sim.specs.declared.compaction.CompactStep.TheVariants.{Start, Read, Write, Switch}

abbrev pub step_of : CompactStep → Step
step_of Start = CompactStart
step_of Read = CompactRead
step_of Write = CompactWrite
step_of Switch = CompactSwitch
