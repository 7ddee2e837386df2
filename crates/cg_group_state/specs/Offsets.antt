-- The committed offsets of all groups, as the commands define them.
use Rattle.std.specs.Prelude.{List}
use Rattle.std.specs.FinMap as finmap
use Rattle.cg_fold.specs.declared.stored_offset.StoredOffset.{StoredOffset}
use Rattle.cg_fold.specs.Key.{key_cmp}
use Rattle.cg_fold.specs.Durable.{after}
use Rattle.cg_record.specs.declared.command.Command.{Command}

-- the committed offset of each partition of each group
abbrev pub OffsetMap : Type 0
OffsetMap = finmap.FinMap key_cmp StoredOffset

-- the offsets after these commands, as in the durable state
abbrev pub offsets_after : OffsetMap → List Command → OffsetMap
offsets_after offsets commands = (after (record { records = finmap.empty; offsets = offsets }) commands).offsets
