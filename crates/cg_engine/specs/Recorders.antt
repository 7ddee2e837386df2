-- The trail that an engine keeps.
use Rattle.std.specs.Prelude.{Option, Some, None}
use Rattle.cg_trail.specs.Trails.{TrailParts}
use Rattle.cg_engine.specs.declared.trail.recorder.Recorder.{Recorder}
use Rattle.cg_engine.specs.declared.trail.recorder.Recorder.TheVariants.{Off, Waiting, On, Lost}

-- the trail, if one is kept and no step is missing
abbrev pub trail_of : Recorder → Option TrailParts
trail_of Off = None
trail_of Waiting = None
trail_of (On trail) = Some trail
trail_of Lost = None
