use Rattle.std.proofs.Common.{ap, ◌∙◌}
use Rattle.cg_fold.specs.Key.{key_cmp}
use Rattle.cg_fold.specs.Shelf.{stock}
use Rattle.cg_fold.proofs.Kept.{map-nil, map_of}
use Rattle.cg_fold.proofs.offsets.Offsets.new.Goals as goal

pub returns : goal.returns
returns c = ap (λ l. map_of (stock l)) c.new.ensures.empty ∙ map-nil key_cmp
