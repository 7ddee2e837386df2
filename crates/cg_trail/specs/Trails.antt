-- A trail, and when it is lawful.
use Rattle.std.specs.Prelude.{◌≡◌, ◌⊎◌, ℕ, List, [], ◌∷◌, map, length, take}
use Rattle.cg_fold.specs.Durable.{folded}
use Rattle.cg_group.specs.Laws.{commands_of}
use Rattle.cg_group_table.specs.GroupTable.{Machine}
use Rattle.cg_group_table.specs.Recovery.{revive}
use Rattle.cg_record.specs.declared.command.Command.{Command}
use Rattle.cg_trail.specs.Entries.{Answer, all_recorded, events_of, recorded, replies_of}
use Rattle.cg_trail.specs.declared.trail_entry.TrailEntry.{TrailEntry}

-- the commands of the loaded state, the moment of loading, the entries, and the number of entries that have room
pub record TrailParts : Type 0 where
  pub loaded : List Command
  pub moment : ℕ
  pub entries : List TrailEntry
  pub spare : ℕ

-- the machine at the moment of loading
abbrev pub opened : TrailParts → Machine
opened t = revive (folded t.loaded) t.moment

-- each entry records the replies that its event makes, after the events of the entries before it
unfoldable pub AreLawful : List TrailEntry → Machine → Type 0
AreLawful entries s = map recorded entries ≡ replies_of (events_of entries) s

-- a lawful trail: its replies are those that its events make, from the loaded state on
abbrev pub IsLawful : TrailParts → Type 0
IsLawful t = AreLawful t.entries (opened t)

-- the commands that the events of a trail make, from the loaded state on
abbrev pub made_by : TrailParts → List Command
made_by t = commands_of (events_of t.entries) (opened t)

-- the second list is a prefix of the first
abbrev pub BeginsWith : List Command → List Command → Type 0
BeginsWith made appended = take (length appended) made ≡ appended

-- the answers are replies of this list, each a different one, in the order of the list
abbrev pub ArePicked : List Answer → List Answer → Type 0
ArePicked [] replies = Unit {0}
ArePicked (x ∷ xs) [] = ⊥
ArePicked (x ∷ xs) (y ∷ ys) = ((x ≡ y) × ArePicked xs ys) ⊎ ArePicked (x ∷ xs) ys

-- the answers are replies that the trail records, each a different one, in the order of the trail
abbrev pub AreAnswers : List Answer → TrailParts → Type 0
AreAnswers answers t = ArePicked answers (all_recorded t.entries)
