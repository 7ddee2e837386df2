use Rattle.cg_line.proofs.Each.{each_seen}
use Rattle.cg_line.specs.Parsing.{is_sync_entry}
use Rattle.cg_line.proofs.parser.sync_entries.each_in.Goals as goal

pub sync_entry_in-requires : goal.sync_entry_in-requires
sync_entry_in-requires c = each_seen is_sync_entry (λ w. w.now) c.args.words.now c.loop-word.word-index _ c.loop-word-test.true c.requires
