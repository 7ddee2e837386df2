use Rattle.std.proofs.Common.{sym, ap, ◌∙◌}
use Rattle.std.specs.FinMap as map
use Rattle.cg_fold.specs.Key.{name_cmp}
use Rattle.cg_fold.proofs.Kept.{map-get}
use Rattle.cg_fold.proofs.durable.Durable.group.Goals as goal

pub returns : goal.returns
returns c =
    let group = c.args.group.now in
    c.held_at.ensures ∙ sym (map-get name_cmp c.self.inside.records.entries group c.self.invariant) ∙ ap (λ s. map.get s.records group) c.self.view_is
