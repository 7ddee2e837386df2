use Rattle.std.proofs.Common.{◌∙◌, map}
use Rattle.cg_request.specs.Names.{is_same}
use Rattle.cg_line.proofs.Each.{any_seen}
use Rattle.cg_line.specs.Parsing.{key_of}
use Rattle.cg_line.proofs.parser.keys.is_key_among.Goals as goal

pub returns : goal.returns
returns c = c.is_key_of_one.ensures ∙ (any_seen (λ word. is_same c.args.key.now (key_of word)) (λ w. w.now) c.args.words.now ∙ any_seen (is_same c.args.key.now) key_of (map (λ w. w.now) c.args.words.now))
