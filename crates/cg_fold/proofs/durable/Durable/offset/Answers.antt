use Rattle.std.proofs.Common.{ap, ◌∙◌}
use Rattle.std.specs.FinMap as map
use Rattle.cg_fold.specs.Key.{key_of}
use Rattle.cg_fold.proofs.durable.Durable.offset.Goals as goal

pub returns : goal.returns
returns c = c.get.ensures ∙ ap (λ s. map.get s.offsets (key_of c.args.group.now c.args.partition.now)) c.self.view_is
