use Rattle.std.proofs.Common.{◌≡◌, ℕ, sym, ap, ◌∙◌}
use Rattle.std.specs.FinMap as map
use Rattle.cg_fold.specs.Key.{name_cmp}
use Rattle.cg_fold.specs.Durable.{State}
use Rattle.cg_fold.proofs.Kept.{map-len}
use Rattle.cg_fold.proofs.durable.Durable.counts.Goals as goal

pub returns : goal.returns
returns c =
    let record_count : c.len.result ≡ map.len c.args.self.now.records =
    c.len.ensures.len ∙ sym (map-len name_cmp c.self.inside.records.entries c.self.invariant) ∙ ap (λ (s : State). map.len s.records) c.self.view_is in
    let row_count : c.len-2.result ≡ map.len c.args.self.now.offsets = c.len-2.ensures ∙ ap (λ (s : State). map.len s.offsets) c.self.view_is in
    ap (λ (n : ℕ). (n, c.len-2.result)) record_count ∙ ap (λ (n : ℕ). (map.len c.args.self.now.records, n)) row_count
