use Rattle.std.proofs.Common.{◌≡◌, ◌+◌, ◌∙◌, ◌∷◌, [], ◌++◌, ℕ, ap, sym, subst, length}
use Rattle.cg_disk.specs.Disk.{Changes, Image, IsImage, present}
use Rattle.cg_frame.specs.Frames.{HasFrames, next_gate}
use Rattle.cg_gate.specs.Layout.{first_sector, segment_count}
use Rattle.cg_log.specs.Ready.{AllClosed, last_id}
use Rattle.cg_log.specs.Segments.{Frames, end_of_frames, segment_of}
use Rattle.cg_log.proofs.Kept.{HoldsFresh-more, content-fresh, images-fresh, ready-fresh}
use Rattle.cg_log.proofs.Taken.{fresh-segments, last-not_named}
use Rattle.cg_log.proofs.log.Log.put_fresh.Goals as goal

pub returns-in-Ok-clause-stored : goal.returns-in-Ok-clause-stored
returns-in-Ok-clause-stored g c has log =
    let self = c.args.self.now in
    let size = g.D.SectorDisk.size self.disk in
    let old = g.D.SectorDisk.history self.disk in
    let new = g.D.SectorDisk.history c.append_fresh.new.disk in
    let ids = self.fresh.items in
    let id = last_id ids in
    let none = last-not_named (segment_count size) self.root ids self.taken c.requires.some in
    let id_is : c.last_id-id.result ≡ last_id ids = c.last_id-id.ensures ∙ ap last_id c.as_slice.ensures.value in
    let change = subst (λ (k : ℕ). Changes (first_sector k) 2048 old new) id_is (c.append_fresh.ensures.time log.is_honest) in
    record {
      is_honest = c.append_fresh.ensures.same_honesty ∙ log.is_honest;
      holds = rw c.append_fresh.ensures.same_size (content-fresh id old new change size self.root none self.end self.number has log.holds);
    }

pub returns-in-Err-Device-clause-stored : goal.returns-in-Err-Device-clause-stored
returns-in-Err-Device-clause-stored g c has log =
    let self = c.args.self.now in
    let size = g.D.SectorDisk.size self.disk in
    let old = g.D.SectorDisk.history self.disk in
    let new = g.D.SectorDisk.history c.append_fresh.new.disk in
    let ids = self.fresh.items in
    let id = last_id ids in
    let none = last-not_named (segment_count size) self.root ids self.taken c.requires.some in
    let id_is : c.last_id-id.result ≡ last_id ids = c.last_id-id.ensures ∙ ap last_id c.as_slice.ensures.value in
    let change = subst (λ (k : ℕ). Changes (first_sector k) 2048 old new) id_is (c.append_fresh.ensures.time log.is_honest) in
    record {
      is_honest = c.append_fresh.ensures.same_honesty ∙ log.is_honest;
      holds = rw c.append_fresh.ensures.same_size (content-fresh id old new change size self.root none self.end self.number has log.holds);
    }

pub returns-in-Ok-clause-images : goal.returns-in-Ok-clause-images
returns-in-Ok-clause-images g c has log =
    let self = c.args.self.now in
    let size = g.D.SectorDisk.size self.disk in
    let old = g.D.SectorDisk.history self.disk in
    let new = g.D.SectorDisk.history c.append_fresh.new.disk in
    let ids = self.fresh.items in
    let id = last_id ids in
    let none = last-not_named (segment_count size) self.root ids self.taken c.requires.some in
    let id_is : c.last_id-id.result ≡ last_id ids = c.last_id-id.ensures ∙ ap last_id c.as_slice.ensures.value in
    let change = subst (λ (k : ℕ). Changes (first_sector k) 2048 old new) id_is (c.append_fresh.ensures.time log.is_honest) in
    images-fresh id old new change size self.root none self.end self.number has self.in_range log.holds

pub returns-in-Err-Device-clause-images : goal.returns-in-Err-Device-clause-images
returns-in-Err-Device-clause-images g c has log =
    let self = c.args.self.now in
    let size = g.D.SectorDisk.size self.disk in
    let old = g.D.SectorDisk.history self.disk in
    let new = g.D.SectorDisk.history c.append_fresh.new.disk in
    let ids = self.fresh.items in
    let id = last_id ids in
    let none = last-not_named (segment_count size) self.root ids self.taken c.requires.some in
    let id_is : c.last_id-id.result ≡ last_id ids = c.last_id-id.ensures ∙ ap last_id c.as_slice.ensures.value in
    let change = subst (λ (k : ℕ). Changes (first_sector k) 2048 old new) id_is (c.append_fresh.ensures.time log.is_honest) in
    images-fresh id old new change size self.root none self.end self.number has self.in_range log.holds

pub returns-in-Ok-clause-fresh : goal.returns-in-Ok-clause-fresh
returns-in-Ok-clause-fresh g c sealed at frames has =
    let self = c.args.self.now in
    let size = g.D.SectorDisk.size self.disk in
    let old = g.D.SectorDisk.history self.disk in
    let new = g.D.SectorDisk.history c.append_fresh.new.disk in
    let ids = self.fresh.items in
    let id = last_id ids in
    let none = last-not_named (segment_count size) self.root ids self.taken c.requires.some in
    let id_is : c.last_id-id.result ≡ last_id ids = c.last_id-id.ensures ∙ ap last_id c.as_slice.ensures.value in
    let change = subst (λ (k : ℕ). Changes (first_sector k) 2048 old new) id_is (c.append_fresh.ensures.time has.is_honest) in
    let count = c.args.frame.now.0 in
    let payload = c.args.frame.now.1 in
    let more = subst (λ (k : ℕ). (frames : Frames) → ((image : Image) → IsImage (present old) image → HasFrames image (segment_of k) frames) → self.fresh_end ≡ end_of_frames 0 frames → (image : Image) → IsImage (present new) image → HasFrames image (segment_of k) (frames ++ (count, payload) ∷ [])) id_is (c.in-Ok.ensures.stored has.is_honest) in
    record {
      is_honest = c.append_fresh.ensures.same_honesty ∙ has.is_honest;
      holds = rw c.in-Ok.ensures.next (HoldsFresh-more old new (segment_count size) ids self.fresh_end at count payload sealed frames (fresh-segments (segment_count size) self.root ids self.taken) change more has.holds);
    }

pub invariant_of-self-clause-ready : goal.invariant_of-self-clause-ready
invariant_of-self-clause-ready g c serves honest =
    let self = c.args.self.now in
    let size = g.D.SectorDisk.size self.disk in
    let old = g.D.SectorDisk.history self.disk in
    let new = g.D.SectorDisk.history c.append_fresh.new.disk in
    let ids = self.fresh.items in
    let id = last_id ids in
    let none = last-not_named (segment_count size) self.root ids self.taken c.requires.some in
    let id_is : c.last_id-id.result ≡ last_id ids = c.last_id-id.ensures ∙ ap last_id c.as_slice.ensures.value in
    let honest0 = sym c.append_fresh.ensures.same_honesty ∙ honest in
    let change = subst (λ (k : ℕ). Changes (first_sector k) 2048 old new) id_is (c.append_fresh.ensures.time honest0) in
    rw c.append_fresh.ensures.same_size (ready-fresh id old new change size self.root none self.end self.is_other_open self.inside self.lawful.tail (self.ready serves honest0))

pub invariant_of-self-clause-fresh_ready : goal.invariant_of-self-clause-fresh_ready
invariant_of-self-clause-fresh_ready g c serves honest some =
    let self = c.args.self.now in
    let size = g.D.SectorDisk.size self.disk in
    let old = g.D.SectorDisk.history self.disk in
    let new = g.D.SectorDisk.history c.append_fresh.new.disk in
    let ids = self.fresh.items in
    let id = last_id ids in
    let none = last-not_named (segment_count size) self.root ids self.taken c.requires.some in
    let id_is : c.last_id-id.result ≡ last_id ids = c.last_id-id.ensures ∙ ap last_id c.as_slice.ensures.value in
    let honest0 = sym c.append_fresh.ensures.same_honesty ∙ honest in
    rw c.in-Ok.ensures.next (subst (λ (k : ℕ). AllClosed (present new) (first_sector k + next_gate self.fresh_end (length c.args.frame.now.1))) id_is (c.in-Ok.ensures.closed honest0))
