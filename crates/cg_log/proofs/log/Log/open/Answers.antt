use Rattle.std.proofs.Common.{◌≡◌, ℕ, [], ◌∙◌, sym, subst}
use Rattle.cg_disk.specs.Disk.{present}
use Rattle.cg_log.specs.Carried.{AllCarry, Carries}
use Rattle.cg_log.specs.Faults.{Tells}
use Rattle.cg_log.proofs.Images.{IsOutOfReach-carries}
use Rattle.cg_log.proofs.log.Log.open.Goals as goal

pub returns-in-Err-clause-carried : goal.returns-in-Err-clause-carried
returns-in-Err-clause-carried g c honest n base tail carries = IsOutOfReach-carries _ _ n base tail c.in-Err.refused.0 carries (c.in-Err.ensures.tells honest)

pub finish-requires-clause-read : goal.finish-requires-clause-read
finish-requires-clause-read g c now =
    let image = (present (g.D.SectorDisk.history c.args.disk)).content in
    let honest = sym c.in-Ok.ensures.same_honesty ∙ sym c.read_all.ensures.same_honesty ∙ now in
    (image, c.in-Ok-read_all.ensures.read image [] (c.in-Ok.ensures.begins honest))

pub returns-in-Ok-read_all-clause-carried : goal.returns-in-Ok-read_all-clause-carried
returns-in-Ok-read_all-clause-carried g c honest n base tail carries =
    let size = g.D.SectorDisk.size in
    let image = (present (g.D.SectorDisk.history c.args.disk)).content in
    let same : size c.read_all.new.self.disk ≡ size c.args.disk = c.read_all.ensures.same_size ∙ c.in-Ok.ensures.same_size in
    let all = c.in-Ok-read_all.ensures.read image [] (c.in-Ok.ensures.begins honest) in
    let there = c.finish.ensures.carried image all.0 all.1 n base tail in
    subst (λ (z : ℕ). Carries image z n base tail → (c.finish.result.number ≡ n) × AllCarry (present (g.D.SectorDisk.history c.finish.result.disk)) z n base tail) same there carries

pub returns-in-Err-read_all-clause-carried : goal.returns-in-Err-read_all-clause-carried
returns-in-Err-read_all-clause-carried g c honest n base tail carries =
    let size = g.D.SectorDisk.size in
    let image = (present (g.D.SectorDisk.history c.args.disk)).content in
    let fault = c.in-Err-read_all.fault in
    let same : size c.read_all.new.self.disk ≡ size c.args.disk = c.read_all.ensures.same_size ∙ c.in-Ok.ensures.same_size in
    let told = c.in-Err-read_all.ensures.tells image [] (c.in-Ok.ensures.begins honest) in
    IsOutOfReach-carries image (size c.args.disk) n base tail fault carries (subst (λ (z : ℕ). Tells image z fault) same told)

pub returns-in-Err-read_all-clause-tells : goal.returns-in-Err-read_all-clause-tells
returns-in-Err-read_all-clause-tells g c honest =
    let size = g.D.SectorDisk.size in
    let image = (present (g.D.SectorDisk.history c.args.disk)).content in
    let fault = c.in-Err-read_all.fault in
    let same : size c.read_all.new.self.disk ≡ size c.args.disk = c.read_all.ensures.same_size ∙ c.in-Ok.ensures.same_size in
    subst (λ (z : ℕ). Tells image z fault) same (c.in-Err-read_all.ensures.tells image [] (c.in-Ok.ensures.begins honest))
