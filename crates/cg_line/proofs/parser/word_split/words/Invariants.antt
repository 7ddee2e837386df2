use Rattle.std.proofs.Common.{◌≡◌, ◌++◌, length, map}
use Rattle.cg_line.specs.Splitting.{words_of}
use Rattle.cg_line.proofs.parser.word_split.words.Given as goal

abbrev pub decreases-loop-word : goal.decreases-loop-word
decreases-loop-word g l = length l.rest

abbrev pub invariant-loop-word : goal.invariant-loop-word
invariant-loop-word g l = map (λ w. w.now) l.words.items ++ words_of l.rest ≡ words_of l.line
