use Rattle.std.proofs.Common.{ℕ, List, subst}
use Rattle.cg_disk.specs.Disk.{Image, IsImage, LeavesOnly, present}
use Rattle.cg_disk.proofs.Moments.{LeavesOnly-weaker, LeavesOnly-present}
use Rattle.cg_frame.specs.Outcomes.{Appended, StandsLast}
use Rattle.cg_frame.proofs.Laid.{Appended-starts, frames-starts}
use Rattle.cg_frame.proofs.Standing.{HasFramesTo-appended, IsBeforeOrAfter-appended}
use Rattle.cg_frame.proofs.frame_writer.append.Goals as goal

pub returns-then-not-fits-clause-any_moment : goal.returns-then-not-fits-clause-any_moment
returns-then-not-fits-clause-any_moment g c honest = Appended-starts _ c.args.segment c.args.pos c.args.count c.args.payload.now (c.requires.closed honest)

pub returns-then-not-fits-clause-frames : goal.returns-then-not-fits-clause-frames
returns-then-not-fits-clause-frames g c honest fs keeps = frames-starts _ c.args.segment c.args.pos c.args.count c.args.payload.now fs keeps

pub returns-in_err-frame-clause-any_moment : goal.returns-in_err-frame-clause-any_moment
returns-in_err-frame-clause-any_moment g c honest = Appended-starts _ c.args.segment c.args.pos c.args.count c.args.payload.now (c.requires.closed honest)

pub returns-in_err-frame-clause-frames : goal.returns-in_err-frame-clause-frames
returns-in_err-frame-clause-frames g c honest fs keeps = frames-starts _ c.args.segment c.args.pos c.args.count c.args.payload.now fs keeps

pub returns-in_err-next-clause-frames : goal.returns-in_err-next-clause-frames
returns-in_err-next-clause-frames g c honest fs keeps =
    let old = g.D.SectorDisk.history c.args.disk.now in
    let new = g.D.SectorDisk.history c.append_staged.new.disk in
    let run = subst (λ (f : ℕ × List ℕ). LeavesOnly old new (Appended (present old) c.args.segment c.args.pos f.0 f.1)) c.in_ok-frame.ensures (c.append_staged.ensures.any_moment honest) in
    LeavesOnly-weaker old new _ _ (λ image appended. IsBeforeOrAfter-appended (present old) c.args.segment c.args.pos c.args.count c.args.payload.now fs image keeps appended) run

pub returns-clause-frames : goal.returns-clause-frames
returns-clause-frames g c honest fs keeps =
    let old = g.D.SectorDisk.history c.args.disk.now in
    let new = g.D.SectorDisk.history c.append_staged.new.disk in
    let run = subst (λ (f : ℕ × List ℕ). LeavesOnly old new (Appended (present old) c.args.segment c.args.pos f.0 f.1)) c.in_ok-frame.ensures (c.append_staged.ensures.any_moment honest) in
    LeavesOnly-weaker old new _ _ (λ image appended. IsBeforeOrAfter-appended (present old) c.args.segment c.args.pos c.args.count c.args.payload.now fs image keeps appended) run

pub returns-clause-frames_after : goal.returns-clause-frames_after
returns-clause-frames_after g c honest fs keeps image is =
    let old = g.D.SectorDisk.history c.args.disk.now in
    let new = g.D.SectorDisk.history c.append_staged.new.disk in
    let run = subst (λ (f : ℕ × List ℕ). LeavesOnly old new (Appended (present old) c.args.segment c.args.pos f.0 f.1)) c.in_ok-frame.ensures (c.append_staged.ensures.any_moment honest) in
    let stands = subst (λ (f : ℕ × List ℕ). (image : Image) → IsImage (present new) image → StandsLast image c.args.segment c.args.pos f.0 f.1) c.in_ok-frame.ensures (c.in_ok-next.ensures.stands honest) in
    HasFramesTo-appended (present old) c.args.segment c.args.pos c.args.count c.args.payload.now fs image keeps (LeavesOnly-present old new _ run image is) (stands image is)
