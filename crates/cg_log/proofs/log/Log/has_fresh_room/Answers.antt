use Rattle.std.proofs.Common.{◌≡◌, ◌≤◌, ◌<◌, length, subst, rules}
use Rattle.std.specs.Prelude.{IsTrue, ◌↔◌}
use Rattle.cg_frame.specs.Frames.{next_gate}
use Rattle.cg_frame.specs.declared.segment.Segment.{Segment}
use Rattle.cg_log.proofs.Kept.{fits_fresh-none, fits_fresh-test}
use Rattle.cg_log.proofs.log.Log.has_fresh_room.Goals as goal

pub returns-then-is_empty : goal.returns-then-is_empty
returns-then-is_empty g c =
    let self = c.args.self.now in
    let none : length self.fresh.items ≡ 0 = search rules in
    fits_fresh-none self.fresh.items self.fresh_end c.args.bytes none

pub returns : goal.returns
returns g c =
    let self = c.args.self.now in
    let some : 1 ≤ length self.fresh.items = search rules in
    let test = subst (λ (s : Segment). IsTrue c.fits.result ↔ (next_gate self.fresh_end c.args.bytes < s.sectors)) c.segment-last.ensures.segment c.fits.ensures in
    fits_fresh-test self.fresh.items self.fresh_end c.args.bytes c.fits.result some test
