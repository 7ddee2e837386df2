use Rattle.std.proofs.Common.{◌∙◌, ap, Ok}
use Rattle.std.proofs.lemmas.Result.{err_from_is_err_and}
use Rattle.cg_disk.proofs.Moments.{Stays-content, Stays-synced}
use Rattle.cg_frame.specs.Reader.{position_of}
use Rattle.cg_log.proofs.Next.{Tells-next}
use Rattle.cg_log.proofs.ReadTo.{HasBadFrame-number}
use Rattle.cg_log.proofs.opening.Opening.read_next.Goals as goal

pub returns-in_err-next-clause-tells : goal.returns-in_err-next-clause-tells
returns-in_err-next-clause-tells g c image read has not_end =
    let self = c.args.self.now in
    let found = c.in_err-next.ensures.found has.is_honest image self.number read has.content has.buffered has.so_far in
    let p = err_from_is_err_and c.from_residual.result c.from_residual.ensures.1 in
    rw (p.1, p.2, c.read_on.ensures.same_size) (Tells-next image (g.D.SectorDisk.size self.disk) self.root c.read_on.new.index self.number read c.read_on.new.reader c.in_err-next.field-0.0 has.counting found)

pub returns-in_err-self-in-Some-clause-tells : goal.returns-in_err-self-in-Some-clause-tells
returns-in_err-self-in-Some-clause-tells g c image read has not_end =
    let self = c.args.self.now in
    let found = rw c.in-Some.is at (c.in_ok-next.ensures.found has.is_honest image self.number read has.content has.buffered has.so_far) in
    let bad = HasBadFrame-number image (g.D.SectorDisk.size self.disk) self.root has.counting c.read_on.new.index (position_of c.read_on.new.reader) _ _ c.read_on.ensures.inside found c.in_err-self-in-Some.ensures.1 in
    let p = err_from_is_err_and c.from_residual-in_err-self-in-Some.result c.from_residual-in_err-self-in-Some.ensures.1 in
    rw (p.1, p.2, c.in_err-self-in-Some.ensures.0, c.read_on.ensures.same_size) bad

pub returns-in_ok-self-in-Some-clause-frame : goal.returns-in_ok-self-in-Some-clause-frame
returns-in_ok-self-in-Some-clause-frame g c image read has not_end =
    let self = c.args.self.now in
    let found = rw c.in-Some.is at (c.in_ok-next.ensures.found has.is_honest image self.number read has.content has.buffered has.so_far) in
    record {
      is_honest = c.read_on.ensures.same_honesty ∙ has.is_honest;
      content = λ s. Stays-content _ _ (c.read_on.ensures.time has.is_honest) s ∙ has.content s;
      synced = λ s. Stays-synced _ _ (c.read_on.ensures.time has.is_honest) s (has.synced s);
      serves = has.serves;
      counting = rw c.read_on.ensures.same_size has.counting;
      other = has.other;
      buffered = c.read_on.ensures.buffered has.is_honest image has.content has.buffered;
      so_far = rw c.in_ok-self-in-Some.ensures.0 found;
      closed = λ ended. absurd cc;
    }

pub returns-in-None-clause-all : goal.returns-in-None-clause-all
returns-in-None-clause-all g c image read has _ =
    let self = c.args.self.now in
    let found = rw c.in-None.is at (c.in_ok-next.ensures.found has.is_honest image self.number read has.content has.buffered has.so_far) in
    record {
      is_honest = c.read_on.ensures.same_honesty ∙ has.is_honest;
      content = λ s. Stays-content _ _ (c.read_on.ensures.time has.is_honest) s ∙ has.content s;
      synced = λ s. Stays-synced _ _ (c.read_on.ensures.time has.is_honest) s (has.synced s);
      serves = has.serves;
      counting = rw c.read_on.ensures.same_size has.counting;
      other = has.other;
      buffered = c.read_on.ensures.buffered has.is_honest image has.content has.buffered;
      so_far = found.0;
      closed = λ _. (c.in_ok-next.ensures.last (ap Ok c.in-None.is), found.1);
    }
