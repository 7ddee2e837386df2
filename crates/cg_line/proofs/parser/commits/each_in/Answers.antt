use Rattle.cg_line.proofs.Each.{each_seen}
use Rattle.cg_line.specs.Parsing.{is_commit}
use Rattle.cg_line.proofs.parser.commits.each_in.Goals as goal

pub commit_in-requires : goal.commit_in-requires
commit_in-requires c = each_seen is_commit (λ w. w.now) c.args.words.now c.loop-word.word-index _ c.loop-word-test.true c.requires
