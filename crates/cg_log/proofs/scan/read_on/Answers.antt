use Rattle.std.proofs.Common.{◌+◌, ◌++◌, ◌∙◌, refl, ap, arith, length, get_or}
use Rattle.std.proofs.lemmas.List.{length-append}
use Rattle.std.proofs.lemmas.Result.{err_from_is_err_and}
use Rattle.cg_disk.specs.Disk.{present}
use Rattle.cg_disk.proofs.Moments.{Changes-then, Stays-content}
use Rattle.cg_frame.specs.Heads.{HasContent}
use Rattle.cg_log.specs.Segments.{segment_of}
use Rattle.cg_log.proofs.Ids.{root-on_disk}
use Rattle.cg_log.proofs.Next.{FindsNext-closed, FindsNext-fault, FindsNext-found}
use Rattle.cg_log.proofs.scan.read_on.Goals as goal

pub next-requires : goal.next-requires
next-requires g c =
    let inv = c.loop-index.invariant in
    let on = root-on_disk (g.D.SectorDisk.size c.args.disk.now) c.args.root.now c.loop-index.index c.requires.lawful inv.inside in
    record { on_disk = omega (arith, on, inv.same_size, ap (λ s. s.first) inv.at, ap (λ s. s.sectors) inv.at) }

pub next-requires-2 : goal.next-requires-2
next-requires-2 g c =
    let inv = c.loop-index.invariant in
    let on = root-on_disk (g.D.SectorDisk.size c.args.disk.now) c.args.root.now c.loop-index.index c.requires.lawful inv.inside in
    record { on_disk = omega (arith, on, inv.same_size, ap (λ s. s.first) inv.at, ap (λ s. s.sectors) inv.at) }

pub returns-in_err-count-clause-found : goal.returns-in_err-count-clause-found
returns-in_err-count-clause-found g c honest image number read same buffered start =
    let inv = c.loop-index.invariant in
    let now : HasContent (present (g.D.SectorDisk.history c.loop-index.disk)) image = λ s. Stays-content _ _ (inv.time honest) s ∙ same s in
    let found = c.in_err-count.ensures.found (inv.same_honesty ∙ honest) image now (inv.buffered honest image same buffered) in
    let p = err_from_is_err_and c.from_residual.result c.from_residual.ensures.1 in
    rw (p.1, p.2) (FindsNext-fault image c.args.root.now c.loop-index.index number read c.loop-index.reader c.next.new.self inv.inside inv.at (inv.progress honest image number read same buffered start) c.loop-index.index c.in_err-count.field-0.0 found)

pub returns-in_err-count-clause-buffered : goal.returns-in_err-count-clause-buffered
returns-in_err-count-clause-buffered g c honest image same buffered =
    let inv = c.loop-index.invariant in
    let now : HasContent (present (g.D.SectorDisk.history c.loop-index.disk)) image = λ s. Stays-content _ _ (inv.time honest) s ∙ same s in
    c.next.ensures.buffered (inv.same_honesty ∙ honest) image now (inv.buffered honest image same buffered)

pub returns-in-Some-clause-found : goal.returns-in-Some-clause-found
returns-in-Some-clause-found g c honest image number read same buffered start =
    let inv = c.loop-index.invariant in
    let now : HasContent (present (g.D.SectorDisk.history c.loop-index.disk)) image = λ s. Stays-content _ _ (inv.time honest) s ∙ same s in
    let found = c.in_ok-count.ensures.found (inv.same_honesty ∙ honest) image now (inv.buffered honest image same buffered) in
    rw c.in-Some.is at (FindsNext-found image c.args.root.now c.loop-index.index number read c.loop-index.reader c.next.new.self inv.inside inv.at (inv.progress honest image number read same buffered start) c.in_ok-count.field-0 found c.in_ok-count.ensures.next c.in_ok-count.ensures.stays)

pub returns-in-Some-clause-buffered : goal.returns-in-Some-clause-buffered
returns-in-Some-clause-buffered g c honest image same buffered =
    let inv = c.loop-index.invariant in
    let now : HasContent (present (g.D.SectorDisk.history c.loop-index.disk)) image = λ s. Stays-content _ _ (inv.time honest) s ∙ same s in
    c.next.ensures.buffered (inv.same_honesty ∙ honest) image now (inv.buffered honest image same buffered)

pub loop-index-preserved : goal.loop-index-preserved
loop-index-preserved g c =
    let inv = c.loop-index.invariant in
    record {
      progress = λ honest image number read same buffered start.
          let now : HasContent (present (g.D.SectorDisk.history c.loop-index.disk)) image = λ s. Stays-content _ _ (inv.time honest) s ∙ same s in
          let found = c.in_ok-count.ensures.found (inv.same_honesty ∙ honest) image now (inv.buffered honest image same buffered) in
          FindsNext-closed image c.args.root.now c.loop-index.index number read c.loop-index.reader c.next.new.self inv.inside inv.at (inv.progress honest image number read same buffered start) c.in_ok-count.field-0 c.in_default.is found _ c.restart.ensures.position;
      buffered = λ _ image _ _. c.restart.ensures.buffered image;
      time = λ honest. Changes-then 0 0 _ _ _ (inv.time honest) (c.next.ensures.time (inv.same_honesty ∙ honest));
      same_failures = c.in_ok-count.ensures.device.stays refl ∙ inv.same_failures;
      same_size = c.next.ensures.same_size ∙ inv.same_size;
      same_honesty = c.next.ensures.same_honesty ∙ inv.same_honesty;
      inside = omega (arith, c.loop-index-test.true, ap length c.as_slice-base.ensures, ap length c.as_slice-tail.ensures, length-append c.args.root.now.base c.args.root.now.tail);
      at = c.restart.ensures.segment ∙ c.segment.ensures.segment ∙ ap segment_of (c.id_at.ensures ∙ (λ i. get_or (c.as_slice-base.ensures i ++ c.as_slice-tail.ensures i) (c.loop-index.index + 1) 0));
      moves = omega (arith, inv.moves, c.restart.ensures.position, c.loop-index.reader.inside, ap (λ s. s.sectors) inv.at);
    }

pub returns-in_err-count-2-clause-found : goal.returns-in_err-count-2-clause-found
returns-in_err-count-2-clause-found g c honest image number read same buffered start =
    let inv = c.loop-index.invariant in
    let now : HasContent (present (g.D.SectorDisk.history c.loop-index.disk)) image = λ s. Stays-content _ _ (inv.time honest) s ∙ same s in
    let found = c.in_err-count-2.ensures.found (inv.same_honesty ∙ honest) image now (inv.buffered honest image same buffered) in
    let p = err_from_is_err_and c.from_residual-in_err-count-2.result c.from_residual-in_err-count-2.ensures.1 in
    rw (p.1, p.2) (FindsNext-fault image c.args.root.now c.loop-index.index number read c.loop-index.reader c.next-2.new.self inv.inside inv.at (inv.progress honest image number read same buffered start) c.loop-index.index c.in_err-count-2.field-0.0 found)

pub returns-in_err-count-2-clause-buffered : goal.returns-in_err-count-2-clause-buffered
returns-in_err-count-2-clause-buffered g c honest image same buffered =
    let inv = c.loop-index.invariant in
    let now : HasContent (present (g.D.SectorDisk.history c.loop-index.disk)) image = λ s. Stays-content _ _ (inv.time honest) s ∙ same s in
    c.next-2.ensures.buffered (inv.same_honesty ∙ honest) image now (inv.buffered honest image same buffered)

pub returns-clause-found : goal.returns-clause-found
returns-clause-found g c honest image number read same buffered start =
    let inv = c.loop-index.invariant in
    let now : HasContent (present (g.D.SectorDisk.history c.loop-index.disk)) image = λ s. Stays-content _ _ (inv.time honest) s ∙ same s in
    let found = c.in_ok-count-2.ensures.found (inv.same_honesty ∙ honest) image now (inv.buffered honest image same buffered) in
    FindsNext-found image c.args.root.now c.loop-index.index number read c.loop-index.reader c.next-2.new.self inv.inside inv.at (inv.progress honest image number read same buffered start) c.in_ok-count-2.count found c.in_ok-count-2.ensures.next c.in_ok-count-2.ensures.stays

pub returns-clause-buffered : goal.returns-clause-buffered
returns-clause-buffered g c honest image same buffered =
    let inv = c.loop-index.invariant in
    let now : HasContent (present (g.D.SectorDisk.history c.loop-index.disk)) image = λ s. Stays-content _ _ (inv.time honest) s ∙ same s in
    c.next-2.ensures.buffered (inv.same_honesty ∙ honest) image now (inv.buffered honest image same buffered)
