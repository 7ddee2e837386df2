use Rattle.std.proofs.Common.{◌≡◌, ℕ, [], ◌∷◌, ◌++◌, ◌∙◌, subst, ap, refl, false, Ok}
use Rattle.std.proofs.lemmas.Result.{err_from_is_err_and}
use Rattle.cg_disk.proofs.Moments.{Changes-then}
use Rattle.cg_log.specs.Faults.{Tells as LogTells}
use Rattle.cg_log.specs.Openings.{HasRead as HasReadTo, disk_under}
use Rattle.cg_log.specs.Segments.{Frames}
use Rattle.cg_store.specs.Loading.{HasRead}
use Rattle.cg_store.proofs.Whole.{Tells-of_log}
use Rattle.cg_store.proofs.recovery.read_frames.Goals as goal

pub returns-in_err-count-clause-tells : goal.returns-in_err-count-clause-tells
returns-in_err-count-clause-tells g c image has =
    let size = g.D.SectorDisk.size in
    let inv = c.loop-spent.invariant in
    let so_far = inv.read image has in
    let fault = c.in_err-count.field-0.0 in
    let same : size (disk_under c.next.new.self) ≡ size (disk_under c.args.opening.now) = c.next.ensures.same_size ∙ inv.same_size in
    let told = subst (λ (z : ℕ). LogTells image z fault) same (c.in_err-count.ensures.tells image so_far.0 so_far.1.0) in
    let p = err_from_is_err_and c.from_residual.result c.from_residual.ensures.1 in
    rw (p.1, p.2) (Tells-of_log image (size (disk_under c.args.opening.now)) fault told)

pub loop-spent-preserved : goal.loop-spent-preserved
loop-spent-preserved g c =
    let inv = c.loop-spent.invariant in
    record {
      read = λ image has.
          let so_far = inv.read image has in
          let frame = rw c.in-Some.is at (c.in_ok-count.ensures.frame image so_far.0 so_far.1.0) in (
            so_far.0 ++ (c.in-Some.count, c.payload.result.now) ∷ [],
            (rw c.payload.ensures frame, c.in_ok-add.ensures so_far.0 so_far.1.1),
          );
      some = (inv.some.0 ++ (c.in-Some.count, c.payload.result.now) ∷ [], c.in_ok-add.ensures inv.some.0 inv.some.1);
      time = λ honest. Changes-then 0 0 _ _ _ (inv.time honest) (c.next.ensures.time (inv.same_honesty ∙ honest));
      same_failures = c.in_ok-count.ensures.device.stays (refl {a = false}) ∙ inv.same_failures;
      same_size = c.next.ensures.same_size ∙ inv.same_size;
      same_honesty = c.next.ensures.same_honesty ∙ inv.same_honesty;
    }

pub returns-clause-read : goal.returns-clause-read
returns-clause-read g c image has =
    let disk = g.D.SectorDisk in
    let so_far = c.loop-spent.invariant.read image has in
    let all = c.in_ok-count.ensures.all image so_far.0 so_far.1.0 (ap Ok c.in_default.is) in
    let rest = all.1.1.1 in
    record {
      base = all.1.0;
      tail = all.1.1.0;
      handed_out = subst (λ (l : Frames). HasReadTo disk.is_honest disk.history disk.size c.next.new.self image l) rest.0 all.0;
      carried = rest.1;
      is_read = subst (λ (l : Frames). HasRead l c.loop-spent.loading) rest.0 so_far.1.1;
    }
