use Rattle.std.proofs.Common.{◌∙◌, ap}
use Rattle.cg_line.specs.Fields.{bytes_in}
use Rattle.cg_sim.specs.Poking.{filled}
use Rattle.cg_sim.proofs.Filled.{filled-resized, opaque-bytes}
use Rattle.cg_sim.proofs.sector_text.SectorText.sector.Goals as goal

pub bytes_in-requires : goal.bytes_in-requires
bytes_in-requires c = opaque-bytes _ c.self.inside.word.now c.self.invariant

pub returns-clause-filled : goal.returns-clause-filled
returns-clause-filled c =
    filled-resized _ _ _ _ c.self.invariant c.in_ok-sector.sector.ok.0 c.in_ok-sector.ensures c.in_ok-resize.ensures.items ∙ ap (λ word. filled (bytes_in word)) c.self.view_is
