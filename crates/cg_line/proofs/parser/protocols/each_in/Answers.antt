use Rattle.cg_line.proofs.Each.{each_seen}
use Rattle.cg_line.specs.Parsing.{is_protocol}
use Rattle.cg_line.proofs.parser.protocols.each_in.Goals as goal

pub protocol_in-requires : goal.protocol_in-requires
protocol_in-requires c = each_seen is_protocol (λ w. w.now) c.args.words.now c.loop-word.word-index _ c.loop-word-test.true c.requires
