-- What a watched reader or writer noted.
use Rattle.std.specs.Prelude.{◌≡◌, ◌||◌, true, is_err, Result}
use Rattle.cg_sim.specs.declared.watched.Watched.{Watched}

-- a call failed since it is watched
abbrev pub HasFailed : {T : Type 0} → Watched T → Type 0
HasFailed watched = watched.failed ≡ true

-- this call is noted if it failed, and nothing else is
abbrev pub Notes : {T A E : Type 0} → Watched T → Watched T → Result A E → Type 0
Notes old new result = new.failed ≡ (is_err result || old.failed)
