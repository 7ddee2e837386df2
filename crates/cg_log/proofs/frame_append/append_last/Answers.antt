use Rattle.std.proofs.Common.{◌≡◌, ◌+◌, ◌∙◌, ap, subst, length, arith}
use Rattle.cg_disk.specs.Disk.{Changes, Image, IsImage, LeavesOnly, present}
use Rattle.cg_frame.specs.Frames.{body_sectors, next_gate}
use Rattle.cg_frame.specs.Outcomes.{Appended, StandsLast}
use Rattle.cg_frame.specs.declared.segment.Segment.{Segment}
use Rattle.cg_log.specs.Ready.{last_id}
use Rattle.cg_log.specs.Segments.{segment_of}
use Rattle.cg_log.proofs.Moves.{IsReady-appended, append-images, append-stored}
use Rattle.cg_gate.specs.Layout.{first_sector}
use Rattle.cg_log.proofs.Kept.{KeepsFresh-segment}
use Rattle.cg_log.proofs.frame_append.append_last.Goals as goal

pub returns-in_err-next-clause-images : goal.returns-in_err-next-clause-images
returns-in_err-next-clause-images g c honest has number holds =
    let old = g.D.SectorDisk.history c.args.disk.now in
    let new = g.D.SectorDisk.history c.append_staged.new.disk in
    let size = g.D.SectorDisk.size c.args.disk.now in
    let root = c.args.root.now in
    let is : c.segment-last.result ≡ segment_of (last_id root.tail) = c.segment-last.ensures.segment ∙ ap segment_of (c.last_id.ensures ∙ ap last_id c.as_slice.ensures) in
    let run = subst (λ (s : Segment). LeavesOnly old new (Appended (present old) s c.args.end c.args.frame.now.0 c.args.frame.now.1)) is (c.append_staged.ensures.any_moment honest) in
    append-images old new size root c.args.end number c.args.frame.now.0 c.args.frame.now.1 has c.requires.lawful c.requires.fits holds run

pub returns-clause-images : goal.returns-clause-images
returns-clause-images g c honest has number holds =
    let old = g.D.SectorDisk.history c.args.disk.now in
    let new = g.D.SectorDisk.history c.append_staged.new.disk in
    let size = g.D.SectorDisk.size c.args.disk.now in
    let root = c.args.root.now in
    let is : c.segment-last.result ≡ segment_of (last_id root.tail) = c.segment-last.ensures.segment ∙ ap segment_of (c.last_id.ensures ∙ ap last_id c.as_slice.ensures) in
    let run = subst (λ (s : Segment). LeavesOnly old new (Appended (present old) s c.args.end c.args.frame.now.0 c.args.frame.now.1)) is (c.append_staged.ensures.any_moment honest) in
    append-images old new size root c.args.end number c.args.frame.now.0 c.args.frame.now.1 has c.requires.lawful c.requires.fits holds run

pub returns-clause-stored : goal.returns-clause-stored
returns-clause-stored g c honest has number holds =
    let old = g.D.SectorDisk.history c.args.disk.now in
    let new = g.D.SectorDisk.history c.append_staged.new.disk in
    let size = g.D.SectorDisk.size c.args.disk.now in
    let root = c.args.root.now in
    let is : c.segment-last.result ≡ segment_of (last_id root.tail) = c.segment-last.ensures.segment ∙ ap segment_of (c.last_id.ensures ∙ ap last_id c.as_slice.ensures) in
    let run = subst (λ (s : Segment). LeavesOnly old new (Appended (present old) s c.args.end c.args.frame.now.0 c.args.frame.now.1)) is (c.append_staged.ensures.any_moment honest) in
    let stands = subst (λ (s : Segment). (image : Image) → IsImage (present new) image → StandsLast image s c.args.end c.args.frame.now.0 c.args.frame.now.1) is (c.in_ok-next.ensures.stands honest) in
    rw c.in_ok-next.ensures.next (append-stored old new size root c.args.end number c.args.frame.now.0 c.args.frame.now.1 has c.requires.lawful c.requires.fits holds run stands)

pub returns-clause-ready : goal.returns-clause-ready
returns-clause-ready g c honest is_other_open ready =
    let old = g.D.SectorDisk.history c.args.disk.now in
    let new = g.D.SectorDisk.history c.append_staged.new.disk in
    let size = g.D.SectorDisk.size c.args.disk.now in
    let root = c.args.root.now in
    let is : c.segment-last.result ≡ segment_of (last_id root.tail) = c.segment-last.ensures.segment ∙ ap segment_of (c.last_id.ensures ∙ ap last_id c.as_slice.ensures) in
    let stands = subst (λ (s : Segment). (image : Image) → IsImage (present new) image → StandsLast image s c.args.end c.args.frame.now.0 c.args.frame.now.1) is (c.in_ok-next.ensures.stands honest) in
    let n = body_sectors (length c.args.frame.now.1) + 2 in
    let change = subst (λ (s : Segment). Changes (s.first + c.args.end) n old new) is (c.append_staged.ensures.time honest) in
    rw c.in_ok-next.ensures.next (IsReady-appended old new size root c.args.end (next_gate c.args.end (length c.args.frame.now.1)) n is_other_open change (λ image left. (stands image left).closed) ready)

pub returns-in_err-next-clause-fresh : goal.returns-in_err-next-clause-fresh
returns-in_err-next-clause-fresh g c honest ids none =
    let old = g.D.SectorDisk.history c.args.disk.now in
    let new = g.D.SectorDisk.history c.append_staged.new.disk in
    let root = c.args.root.now in
    let is : c.segment-last.result ≡ segment_of (last_id root.tail) = c.segment-last.ensures.segment ∙ ap segment_of (c.last_id.ensures ∙ ap last_id c.as_slice.ensures) in
    let n = body_sectors (length c.args.frame.now.1) + 2 in
    let change = subst (λ (s : Segment). Changes (s.first + c.args.end) n old new) is (c.append_staged.ensures.time honest) in
    KeepsFresh-segment (first_sector (last_id root.tail) + c.args.end) n old new change (last_id root.tail) ids (omega arith) (omega (arith, c.requires.fits)) none

pub returns-clause-fresh : goal.returns-clause-fresh
returns-clause-fresh g c honest ids none =
    let old = g.D.SectorDisk.history c.args.disk.now in
    let new = g.D.SectorDisk.history c.append_staged.new.disk in
    let root = c.args.root.now in
    let is : c.segment-last.result ≡ segment_of (last_id root.tail) = c.segment-last.ensures.segment ∙ ap segment_of (c.last_id.ensures ∙ ap last_id c.as_slice.ensures) in
    let n = body_sectors (length c.args.frame.now.1) + 2 in
    let change = subst (λ (s : Segment). Changes (s.first + c.args.end) n old new) is (c.append_staged.ensures.time honest) in
    KeepsFresh-segment (first_sector (last_id root.tail) + c.args.end) n old new change (last_id root.tail) ids (omega arith) (omega (arith, c.requires.fits)) none
