-- The commands that build a state from the empty one.
use Rattle.std.specs.Prelude.{◌≡◌, ℕ, zero, suc, ◌+◌, ◌-◌, ◌<◌, ◌≤◌, nat_eq, nat_le, Bool, true, ◌&&◌, if◌then◌else◌, List, [], ◌∷◌, ◌++◌, length, map as each, take, drop, filter, flat_map, Option, Some, None, IsTrue, bytes_eq}
use Rattle.std.specs.List.{list_all}
use Rattle.std.specs.Option.{option_eq, option_to_list}
use Rattle.std.specs.declared.cmp.Ordering.{Ordering}
use Rattle.std.specs.declared.cmp.Ordering.TheVariants.{Less, Greater}
use Rattle.std.specs.FinMap as map
use Rattle.std.specs.FinMap.{find, is_sorted}
use Rattle.cg_record.specs.declared.command.Command.{Command}
use Rattle.cg_record.specs.declared.command.Command.TheVariants.{Assigned, Emptied, Committed}
use Rattle.cg_record.specs.declared.entries.TheConstants.{COMMIT_METADATA_BYTES_MAX, ENTRIES_MAX}
use Rattle.cg_record.specs.declared.entry.Entry.{Entry}
use Rattle.cg_record.specs.Keys.{metadata_bytes}
use Rattle.cg_fold.specs.declared.group_record.GroupRecord.{GroupRecord}
use Rattle.cg_fold.specs.declared.group_record.RecordedMembers.{RecordedMembers}
use Rattle.cg_fold.specs.declared.group_record.RecordedMembers.TheVariants.{Empty, Roster}
use Rattle.cg_fold.specs.declared.stored_offset.StoredOffset.{StoredOffset}
use Rattle.cg_fold.specs.Key.{KeptRow, OffsetKey, key_cmp, name_cmp, without_group_id}
use Rattle.cg_fold.specs.Record.{KeptRecord}
use Rattle.cg_fold.specs.Shelf.{KeptShelf, AreShelves, stock}
use Rattle.cg_fold.specs.Durable.{State}

-- the groups that have a record or an offset
abbrev pub groups_in : State → List (List ℕ)
groups_in state = map.keys state.records ++ each (λ k. k.group) (map.keys state.offsets)

-- a name as a key without a value
abbrev pub marked : List ℕ → List ℕ × Unit {0}
marked name = (name, tt)

-- names, each once, by bytes
abbrev pub in_order : List (List ℕ) → List (List ℕ)
in_order names = map.keys (map.from_entries {R = name_cmp} (each marked names))

-- the first comes before each of the others, by bytes
abbrev pub ComesBefore : List ℕ → List (List ℕ) → Type 0
ComesBefore name [] = Unit {0}
ComesBefore name (other ∷ others) = (name_cmp name other ≡ Less) × ComesBefore name others

-- names in ascending order of their bytes, each once
abbrev pub Ascending : List (List ℕ) → Type 0
Ascending [] = Unit {0}
Ascending (name ∷ names) = ComesBefore name names × Ascending names

-- the groups in either list, each once, by bytes
abbrev pub groups_of_either : {X Y : Type 0} → List (List ℕ × X) → List (List ℕ × Y) → List (List ℕ)
groups_of_either left right = in_order (each (λ kept. kept.0) left ++ each (λ kept. kept.0) right)

-- the group is the first of either list, and these remain after it
pub record ComesFirst {X Y : Type 0} (left : List (List ℕ × X)) (right : List (List ℕ × Y)) (group : List ℕ) (left_rest : List (List ℕ × X)) (right_rest : List (List ℕ × Y)) : Type 0 where
  pub groups : groups_of_either left right ≡ group ∷ groups_of_either left_rest right_rest
  pub left_sorted : IsTrue (is_sorted name_cmp left_rest)
  pub right_sorted : IsTrue (is_sorted name_cmp right_rest)
  pub fewer : length left_rest + length right_rest < length left + length right

-- which of two sorted lists has the first group: Less stands for the left one, Equal for both, Greater for the right one
abbrev pub first_side : {X Y : Type 0} → List (List ℕ × X) → List (List ℕ × Y) → Option Ordering
first_side [] [] = None
first_side (kept ∷ left) [] = Some Less
first_side [] (also ∷ right) = Some Greater
first_side (kept ∷ left) (also ∷ right) = Some (name_cmp kept.0 also.0)

-- the old list is the new one after the group's value, if the group has one
pub record RemovesFirst {X : Type 0} (old new : List (List ℕ × X)) (group : List ℕ) (value : Option X) : Type 0 where
  pub removed : old ≡ each (λ v. (group, v)) (option_to_list value) ++ new
  pub found : find name_cmp group old ≡ value

-- the first group of two lists is removed from both, with these values
pub record PopsFirst {X Y : Type 0} (left : List (List ℕ × X)) (right : List (List ℕ × Y)) (group : List ℕ) (value : Option X) (other : Option Y) (left_rest : List (List ℕ × X)) (right_rest : List (List ℕ × Y)) : Type 0 where
  pub first : ComesFirst left right group left_rest right_rest
  pub of_left : RemovesFirst left left_rest group value
  pub of_right : RemovesFirst right right_rest group other

-- the command that sets a record
abbrev pub record_command : List ℕ → ℕ → List ℕ → RecordedMembers → Command
record_command group generation kind (Empty moment) = Emptied (record { group = group; generation = generation; kind = kind; moment = moment })
record_command group generation kind (Roster roster) = Assigned (record { group = group; generation = generation; kind = kind; roster = roster })

abbrev pub record_commands : List ℕ → Option GroupRecord → List Command
record_commands group None = []
record_commands group (Some held) = record_command group held.generation held.kind held.members ∷ []

-- the entry of a commit that sets an offset
abbrev pub entry_of : KeptRow → Entry
entry_of row = record { key = row.0; offset = row.1.offset; metadata = row.1.metadata }

-- the commit that sets these offsets, at this moment
abbrev pub commit_command : List ℕ → Option ℕ → List KeptRow → Command
commit_command group moment rows = Committed (record { group = group; moment = moment; entries = each entry_of rows })

-- the offset was committed at this moment, or both are unknown
abbrev pub has_moment : Option ℕ → KeptRow → Bool
has_moment moment row = option_eq nat_eq row.1.moment moment

-- the moment of the first of these offsets
abbrev pub first_moment : List KeptRow → Option ℕ
first_moment [] = None
first_moment (row ∷ rows) = row.1.moment

-- a length of the next run of these offsets: at least one, no more than there are, all with one moment
pub record IsRun (rows : List KeptRow) (len : ℕ) : Type 0 where
  pub some : 0 < len
  pub within : len ≤ length rows
  pub one_moment : list_all (has_moment (first_moment rows)) (take len rows) ≡ true

-- a rule for the runs into which a snapshot cuts offsets: the length of the next one
abbrev pub CutsRuns : (List KeptRow → ℕ) → Type 0
CutsRuns run = (rows : List KeptRow) → 0 < length rows → IsRun rows (run rows)

-- a run that one commit can have
pub record FitsCommit (rows : List KeptRow) (len : ℕ) : Type 0 where
  pub run : IsRun rows len
  pub few : len ≤ ENTRIES_MAX
  pub metadata : metadata_bytes (each entry_of (take len rows)) ≤ COMMIT_METADATA_BYTES_MAX

-- the longest run that one commit can have
pub record IsLongestRun (rows : List KeptRow) (len : ℕ) : Type 0 where
  pub fits : FitsCommit rows len
  pub longest : (other : ℕ) → FitsCommit rows other → other ≤ len

-- the commits of these offsets, one for each run; there are at most `most` offsets
unfoldable pub commits_by : (List KeptRow → ℕ) → ℕ → List ℕ → List KeptRow → List Command
commits_by run zero group rows = []
commits_by run (suc most) group [] = []
commits_by run (suc most) group (row ∷ rows) =
    commit_command group row.1.moment (take (run (row ∷ rows)) (row ∷ rows)) ∷ commits_by run most group (drop (run (row ∷ rows)) (row ∷ rows))

-- the number of offsets at the front that have this moment: at most `most`, with at most `room` bytes of metadata together
unfoldable pub run_len : Option ℕ → ℕ → ℕ → List KeptRow → ℕ
run_len moment zero room rows = 0
run_len moment (suc most) room [] = 0
run_len moment (suc most) room (row ∷ rows) =
    if has_moment moment row && nat_le (length row.1.metadata) room then suc (run_len moment most (room - length row.1.metadata) rows) else 0

-- the rule of this coordinator: the first offset, and as many after it as one commit may have
unfoldable pub first_len : List KeptRow → ℕ
first_len [] = 0
first_len (row ∷ rows) = suc (run_len row.1.moment (ENTRIES_MAX - 1) (COMMIT_METADATA_BYTES_MAX - length row.1.metadata) rows)

abbrev pub commits_of : ℕ → List ℕ → List KeptRow → List Command
commits_of = commits_by first_len

-- the offset is the group's
abbrev pub is_of_group : List ℕ → OffsetKey → Bool
is_of_group group key = bytes_eq key.group group

-- the offsets of a group, by topic and partition
abbrev pub offsets_in : map.FinMap key_cmp StoredOffset → List ℕ → List KeptRow
offsets_in offsets group = each without_group_id (filter (λ kept. is_of_group group kept.0) (map.entries offsets))

abbrev pub offsets_of : State → List ℕ → List KeptRow
offsets_of state group = offsets_in state.offsets group

-- the commands that build one group: its record, and then its offsets
unfoldable pub group_commands_by : (List KeptRow → ℕ) → State → List ℕ → List Command
group_commands_by run state group = record_commands group (map.get state.records group) ++ commits_by run (length (offsets_of state group)) group (offsets_of state group)

abbrev pub group_commands : State → List ℕ → List Command
group_commands = group_commands_by first_len

-- the commands that build a state, group by group
abbrev pub snapshot_by : (List KeptRow → ℕ) → State → List Command
snapshot_by run state = flat_map (group_commands_by run state) (in_order (groups_in state))

abbrev pub snapshot_of : State → List Command
snapshot_of = snapshot_by first_len

-- the state of sorted records and shelves
abbrev pub listed : List KeptRecord → List KeptShelf → State
listed records shelves = record { records = map.from_sorted records; offsets = map.from_sorted (stock shelves) }

-- records and shelves from which a snapshot can be made
pub record AreListed (records : List KeptRecord) (shelves : List KeptShelf) : Type 0 where
  pub by_group : IsTrue (is_sorted name_cmp records)
  pub are_shelves : AreShelves (length (stock shelves)) shelves

-- the commands of a snapshot that are left: these, and those of the records and shelves
abbrev pub left_of : List Command → List KeptRecord → List KeptShelf → List Command
left_of commands records shelves = commands ++ snapshot_of (listed records shelves)
