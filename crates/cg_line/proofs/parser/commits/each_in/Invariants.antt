use Rattle.std.proofs.Common.{◌≡◌, map, take}
use Rattle.cg_line.specs.Parsing.{commit_in}
use Rattle.cg_line.proofs.parser.commits.each_in.Given as goal

abbrev pub invariant-loop-word : goal.invariant-loop-word
invariant-loop-word l = l.entries.items ≡ map commit_in (map (λ w. w.now) (take l.word-index l.words))
