-- Which commands a version can say.
use Rattle.std.specs.Prelude.{◌≡◌, ℕ, ◌≤◌, true, List, length, Option, IfSome}
use Rattle.std.specs.List.{AllByRecursion}
use Rattle.cg_record.specs.declared.command.Command.{Command}
use Rattle.cg_record.specs.declared.command.Command.TheVariants as kinds
use Rattle.cg_record.specs.declared.format.Version.{Version}
use Rattle.cg_record.specs.Versions.{has_moments, has_expired, has_dropped, count_max}

-- the moment is unknown, or the version has moments
abbrev pub CanSayMoment : Version → Option ℕ → Type 0
CanSayMoment version moment = IfSome moment (λ m. has_moments version ≡ true)

-- the version has the command, its moment and its number of entries or partitions
abbrev pub CanSay : Version → Command → Type 0
CanSay version (kinds.Assigned assigned) = Unit {0}
CanSay version (kinds.Emptied emptied) = CanSayMoment version emptied.moment
CanSay version (kinds.Replaced replaced) = Unit {0}
CanSay version (kinds.Committed committed) = CanSayMoment version committed.moment × (length committed.entries ≤ count_max version)
CanSay version (kinds.Deleted deleted) = Unit {0}
CanSay version (kinds.Expired expired) = (has_expired version ≡ true) × (length expired.partitions ≤ count_max version)
CanSay version (kinds.Dropped dropped) = (has_dropped version ≡ true) × (length dropped.partitions ≤ count_max version)

-- the version can say all the commands
abbrev pub CanSayAll : Version → List Command → Type 0
CanSayAll version commands = AllByRecursion (CanSay version) commands
