use Rattle.std.proofs.Common.{◌∙◌}
use Rattle.cg_line.proofs.Each.{all_seen}
use Rattle.cg_line.specs.Parsing.{is_protocol}
use Rattle.cg_line.proofs.parser.protocols.are_each.Goals as goal

pub returns : goal.returns
returns c = c.pass_each.ensures ∙ all_seen is_protocol (λ w. w.now) c.args.words.now
