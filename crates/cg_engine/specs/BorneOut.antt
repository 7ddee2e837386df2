-- What the end of an engine shows of its trail.
use Rattle.std.specs.Prelude.{◌≡◌, ◌+◌, ◌<◌, ℕ, Bool, true, List, [], ◌∷◌, length, nat_eq, Option}
use Rattle.std.specs.List.{list_any}
use Rattle.cg_disk.specs.Disk.{History}
use Rattle.cg_fold.specs.Durable.{after, folded}
use Rattle.cg_record.specs.declared.command.Command.{Command}
use Rattle.cg_trail.specs.Trails.{TrailParts, BeginsWith, IsLawful, made_by}
use Rattle.cg_engine.specs.Appended.{BearsIfNoted}
use Rattle.cg_engine.specs.Left.{LeavesIn}
use Rattle.cg_engine.specs.Noted.{AreIn}
use Rattle.cg_engine.specs.Passes.{noted_of, number_of, units_of}
use Rattle.cg_engine.specs.declared.trail.appended.Appended.{Appended}
use Rattle.cg_engine.specs.declared.pass.SessionPass.{SessionPass}
use Rattle.cg_engine.specs.declared.trail.recorder.Recorder.{Recorder}
use Rattle.cg_engine.specs.declared.trail.recorder.Recorder.TheVariants.{Off, Waiting, On, Lost}

-- one of the passes has this number
abbrev pub has_number : {L : Type 0} → ℕ → List (SessionPass L) → Bool
has_number number passes = list_any (λ pass. nat_eq (number_of pass) number) passes

-- as many passes as were made, with the numbers from 0 on, so each of them once
abbrev pub AreAll : {L : Type 0} → ℕ → List (SessionPass L) → Type 0
AreAll made passes = (length passes ≡ made) × ((number : ℕ) → number < made → has_number number passes ≡ true)

-- the answers of each pass are replies of the trail, each a different one, in the order of the trail
abbrev pub AreAllIn : {L : Type 0} → List (SessionPass L) → TrailParts → Type 0
AreAllIn [] t = Unit {0}
AreAllIn (pass ∷ passes) t = AreIn (noted_of pass) t × AreAllIn passes t

-- the units of the passes together
abbrev pub units_with : {L : Type 0} → List (SessionPass L) → ℕ
units_with [] = 0
units_with (pass ∷ passes) = units_of pass + units_with passes

-- each command that was appended since loading is worth a unit: one of a pass, or one that no pass has
abbrev pub AreCounted : {L : Type 0} → ℕ → List (SessionPass L) → ℕ → Type 0
AreCounted since passes unpaid = since ≡ units_with passes + unpaid

-- The trail is lawful, it begins with the loaded state, the appended commands are the first that it makes, the answers of
-- the passes are its replies, and the units add up.
abbrev pub IsTested : {L : Type 0} → TrailParts → Option Appended → ℕ → List (SessionPass L) → ℕ → Type 0
IsTested t appended since passes unpaid = IsLawful t × BearsIfNoted appended t (made_by t) × AreAllIn passes t × AreCounted since passes unpaid

-- the same, where a trail is kept
abbrev pub IsTestedBy : {L : Type 0} → Recorder → Option Appended → ℕ → List (SessionPass L) → ℕ → Type 0
IsTestedBy Off appended since passes unpaid = Unit {0}
IsTestedBy Waiting appended since passes unpaid = Unit {0}
IsTestedBy (On t) appended since passes unpaid = IsTested t appended since passes unpaid
IsTestedBy Lost appended since passes unpaid = ⊥

-- The trail is lawful. The answers of each pass are its replies. Some first commands of those that it makes were appended
-- since loading: every crash image of an honest disk carries this number and the state after them, or one further batch
-- as well. The number is the sum of `opening` and of how many they are. The units of the passes and some others, `unpaid`,
-- are as many as they are.
pub record IsBorneOut {D L : Type 0} (honest : D → Bool) (history : D → History) (size : D → ℕ) (t : TrailParts) (passes : List (SessionPass L)) (disk : Option D) (front : ℕ) : Type 0 where
  pub lawful : IsLawful t
  pub answers : AreAllIn passes t
  pub appended : List Command
  pub begun : BeginsWith (made_by t) appended
  pub images : LeavesIn honest history size disk front (after (folded t.loaded) appended)
  pub opening : ℕ
  pub unpaid : ℕ
  pub number : front ≡ opening + length appended
  pub counted : AreCounted (length appended) passes unpaid
