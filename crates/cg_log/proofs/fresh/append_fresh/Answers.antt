use Rattle.std.proofs.Common.{◌≡◌, sym, subst, length}
use Rattle.cg_disk.specs.Disk.{Image, IsImage, LeavesOnly, present}
use Rattle.cg_disk.proofs.Moments.{LeavesOnly-present}
use Rattle.cg_frame.specs.Frames.{HasFramesTo, next_gate}
use Rattle.cg_frame.specs.Outcomes.{Appended, KeepsFramesTo, StandsLast}
use Rattle.cg_frame.specs.declared.segment.Segment.{Segment}
use Rattle.cg_frame.proofs.Standing.{HasFramesTo-appended}
use Rattle.cg_log.specs.Segments.{segment_of}
use Rattle.cg_log.proofs.Filled.{HasFramesTo-end}
use Rattle.cg_log.proofs.fresh.append_fresh.Goals as goal

pub returns-clause-stored : goal.returns-clause-stored
returns-clause-stored g c honest frames kept end_is image left =
    let old = g.D.SectorDisk.history c.args.disk.now in
    let new = g.D.SectorDisk.history c.append_staged.new.disk in
    let is : c.segment.result ≡ segment_of c.args.id = c.segment.ensures.segment in
    let run = subst (λ (s : Segment). LeavesOnly old new (Appended (present old) s c.args.end c.args.frame.now.0 c.args.frame.now.1)) is (c.append_staged.ensures.any_moment honest) in
    let stands = subst (λ (s : Segment). (image : Image) → IsImage (present new) image → StandsLast image s c.args.end c.args.frame.now.0 c.args.frame.now.1) is (c.in_ok-next.ensures.stands honest) in
    let before : KeepsFramesTo (present old) (segment_of c.args.id) frames c.args.end = λ base was. subst (HasFramesTo base (segment_of c.args.id) frames) (sym end_is) (HasFramesTo-end base (segment_of c.args.id) frames (kept base was)) in
    (next_gate c.args.end (length c.args.frame.now.1), HasFramesTo-appended (present old) (segment_of c.args.id) c.args.end c.args.frame.now.0 c.args.frame.now.1 frames image before (LeavesOnly-present old new _ run image left) (stands image left))
