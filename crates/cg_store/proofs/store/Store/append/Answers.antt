use Rattle.std.proofs.Common.{ℕ, ◌+◌, length, subst}
use Rattle.cg_fold.specs.Durable.{after}
use Rattle.cg_store.specs.Carried.{AllCarry}
use Rattle.cg_store.specs.Store.{disk_of}
use Rattle.cg_store.proofs.Standing.{StandsAt-carry}
use Rattle.cg_store.proofs.store.Store.append.Goals as goal

pub returns-in-Ok-clause-after : goal.returns-in-Ok-clause-after
returns-in-Ok-clause-after g c n state stands =
    let disk = g.D.SectorDisk in
    let new = c.put.new.self in
    let all = StandsAt-carry disk.is_honest disk.history new (n + length c.args.batch.commands) (after state c.args.batch.commands) (c.in-Ok.ensures.ok n state stands) in
    subst (λ (s : ℕ). AllCarry (disk.history (disk_of new)) s (n + length c.args.batch.commands) (after state c.args.batch.commands)) c.put.ensures.same_sectors all
