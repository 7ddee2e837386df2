use Rattle.std.proofs.Common.{◌∙◌, sym}
use Rattle.std.proofs.lemmas.Result.{err_from_is_err_and}
use Rattle.cg_disk.specs.Disk.{present}
use Rattle.cg_disk.proofs.Moments.{Stays-content}
use Rattle.cg_log.proofs.Images.{Tells-same}
use Rattle.cg_log.proofs.log_root.read_roots.Goals as goal

pub returns-in_err-roots-clause-tells : goal.returns-in_err-roots-clause-tells
returns-in_err-roots-clause-tells g c honest =
    let h0 = g.D.SectorDisk.history c.args.disk.now in
    let h1 = g.D.SectorDisk.history c.sync.new.self in
    let size = g.D.SectorDisk.size c.args.disk.now in
    let same = Stays-content h0 h1 (c.sync.ensures.time honest) in
    let fault = c.in_err-roots.field-0.0 in
    let told = rw c.sync.ensures.same_size at (c.in_err-roots.ensures.tells (c.sync.ensures.same_honesty ∙ honest)) in
    let rest = Tells-same (present h1).content (present h0).content size fault (λ s. sym (same s)) told in
    let p = err_from_is_err_and c.from_residual-in_err-roots.result c.from_residual-in_err-roots.ensures.1 in
    rw (p.1, p.2) rest
