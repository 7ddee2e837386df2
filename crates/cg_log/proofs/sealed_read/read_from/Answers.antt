use Rattle.std.proofs.Common.{◌≡◌, ◌<◌, ◌∙◌, sym, subst, refl, ap, arith, length, get_or, Ok, Err, Some, None}
use Rattle.std.specs.Prelude.{IfSome}
use Rattle.std.proofs.lemmas.Result.{err_from_is_err_and}
use Rattle.cg_disk.specs.Disk.{present}
use Rattle.cg_disk.proofs.Moments.{Changes-then, Stays-content}
use Rattle.cg_frame.specs.Frames.{next_gate}
use Rattle.cg_log.specs.Scanned.{Finds}
use Rattle.cg_log.specs.Segments.{ids_of}
use Rattle.cg_log.specs.declared.fault.LogFault.TheVariants as log_fault
use Rattle.cg_log.proofs.Found.{Finds-same}
use Rattle.cg_log.proofs.Reading.{IsAfter-closed, IsNext-found, not_bad, read-all}
use Rattle.cg_log.proofs.sealed_read.read_from.Goals as goal

pub returns-in_err-frame-clause-good : goal.returns-in_err-frame-clause-good
returns-in_err-frame-clause-good g c honest segments read ids stored start bad =
    let inv = c.loop-index.invariant in
    let first = (present (g.D.SectorDisk.history c.args.disk.now)).content in
    let now = (present (g.D.SectorDisk.history c.loop-index.disk)).content in
    let same = Stays-content (g.D.SectorDisk.history c.args.disk.now) (g.D.SectorDisk.history c.loop-index.disk) (inv.time honest) in
    let i = c.loop-index.index in
    let inside : i < length (ids_of segments) = omega (arith, ap length ids, c.requires.end, c.loop-index-test.true) in
    let id : c.id_at-id.result ≡ get_or (ids_of segments) i 0 = c.id_at-id.ensures ∙ ap (λ l. get_or l i 0) ids in
    let after = inv.progress honest segments read ids stored start in
    let found = subst (λ k. Finds first k c.loop-index.pos (Err c.in_err-frame.field-0.0)) id (Finds-same now first c.id_at-id.result c.loop-index.pos (Err c.in_err-frame.field-0.0) (λ s. sym (same s)) (c.in_err-frame.ensures.found (inv.same_honesty ∙ honest))) in
    let p = err_from_is_err_and c.from_residual.result c.from_residual.ensures.1 in
    let is : c.in_err-frame.field-0.0 ≡ log_fault.BadFrame = cc (p.1, p.2, bad) in
    not_bad first segments i c.loop-index.pos 0 read inside stored after c.in_err-frame.field-0.0 found is

pub returns-in-Some-clause-reads : goal.returns-in-Some-clause-reads
returns-in-Some-clause-reads g c honest segments read ids stored start =
    let inv = c.loop-index.invariant in
    let first = (present (g.D.SectorDisk.history c.args.disk.now)).content in
    let now = (present (g.D.SectorDisk.history c.loop-index.disk)).content in
    let same = Stays-content (g.D.SectorDisk.history c.args.disk.now) (g.D.SectorDisk.history c.loop-index.disk) (inv.time honest) in
    let i = c.loop-index.index in
    let inside : i < length (ids_of segments) = omega (arith, ap length ids, c.requires.end, c.loop-index-test.true) in
    let id : c.id_at-id.result ≡ get_or (ids_of segments) i 0 = c.id_at-id.ensures ∙ ap (λ l. get_or l i 0) ids in
    let after = inv.progress honest segments read ids stored start in
    let found = subst (λ k. Finds first k c.loop-index.pos (Ok (Some c.in-Some.frame))) id (Finds-same now first c.id_at-id.result c.loop-index.pos (Ok (Some c.in-Some.frame)) (λ s. sym (same s))
    (subst (λ o. Finds now c.id_at-id.result c.loop-index.pos (Ok o)) c.in-Some.is (c.in_ok-frame.ensures.found (inv.same_honesty ∙ honest)))) in
    let next_is = subst (λ o. IfSome o (λ frame. frame.next ≡ next_gate c.loop-index.pos (length frame.payload.items))) c.in-Some.is c.in_ok-frame.ensures.next in
    IsNext-found first segments i c.loop-index.pos 0 read inside stored after c.args.end c.in-Some.frame _ (omega arith) found refl next_is

pub loop-index-preserved : goal.loop-index-preserved
loop-index-preserved g c = record {
  progress = λ honest segments read ids stored start.
      let inv = c.loop-index.invariant in
      let first = (present (g.D.SectorDisk.history c.args.disk.now)).content in
      let now = (present (g.D.SectorDisk.history c.loop-index.disk)).content in
      let same = Stays-content (g.D.SectorDisk.history c.args.disk.now) (g.D.SectorDisk.history c.loop-index.disk) (inv.time honest) in
      let i = c.loop-index.index in
      let inside : i < length (ids_of segments) = omega (arith, ap length ids, c.requires.end, c.loop-index-test.true) in
      let id : c.id_at-id.result ≡ get_or (ids_of segments) i 0 = c.id_at-id.ensures ∙ ap (λ l. get_or l i 0) ids in
      let after = inv.progress honest segments read ids stored start in
      let found = subst (λ k. Finds first k c.loop-index.pos (Ok None)) id (Finds-same now first c.id_at-id.result c.loop-index.pos (Ok None) (λ s. sym (same s))
      (subst (λ o. Finds now c.id_at-id.result c.loop-index.pos (Ok o)) c.in_default.is (c.in_ok-frame.ensures.found (inv.same_honesty ∙ honest)))) in
      IsAfter-closed first segments i c.loop-index.pos 0 read inside stored after found;
  time = λ honest. Changes-then 0 0 _ _ _ (c.loop-index.invariant.time honest) (c.next_frame.ensures.time (c.loop-index.invariant.same_honesty ∙ honest));
  same_failures = c.in_ok-frame.ensures.device.stays refl ∙ c.loop-index.invariant.same_failures;
  same_size = c.next_frame.ensures.same_size ∙ c.loop-index.invariant.same_size;
  same_honesty = c.next_frame.ensures.same_honesty ∙ c.loop-index.invariant.same_honesty;
  inside = omega arith;
}

pub returns-clause-reads : goal.returns-clause-reads
returns-clause-reads g c honest segments read ids stored start =
    read-all segments c.loop-index.index c.loop-index.pos c.args.end read (omega (arith, c.loop-index-test.false)) (c.loop-index.invariant.progress honest segments read ids stored start)
