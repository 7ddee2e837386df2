use Rattle.std.proofs.Common.{◌≡◌, map, take}
use Rattle.cg_line.specs.Parsing.{sync_entry_in}
use Rattle.cg_line.proofs.parser.sync_entries.each_in.Given as goal

abbrev pub invariant-loop-word : goal.invariant-loop-word
invariant-loop-word l = l.entries.items ≡ map sync_entry_in (map (λ w. w.now) (take l.word-index l.words))
