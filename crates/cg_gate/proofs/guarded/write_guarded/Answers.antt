use Rattle.std.proofs.Common.{◌≡◌, ◌∙◌, arith}
use Rattle.cg_disk.specs.Disk.{present, sector_count}
use Rattle.cg_gate.proofs.Gates.{GuardedWrite-first, GuardedWrite-second, IsGuarded-second, IsOpenGate-written}
use Rattle.cg_gate.proofs.guarded.write_guarded.Goals as goal

pub returns-in_err-write_synced-clause-any_moment : goal.returns-in_err-write_synced-clause-any_moment
returns-in_err-write_synced-clause-any_moment g c honest = GuardedWrite-first _ _ c.args.gate _ c.args.sectors.now (c.write_synced.ensures.time honest) (c.requires.closed honest)

pub returns-in_err-write_synced-2-clause-any_moment : goal.returns-in_err-write_synced-2-clause-any_moment
returns-in_err-write_synced-2-clause-any_moment g c honest =
    let one : sector_count c.open_gate.result ≡ 1 = omega (arith, c.open_gate.ensures.long) in
    let time = c.write_synced.ensures.time honest in
    let second = rw one at (c.write_synced-2.ensures.time (c.write_synced.ensures.same_honesty ∙ honest)) in
    GuardedWrite-second _ _ c.args.gate _ c.args.sectors.now time _ (GuardedWrite-first _ _ c.args.gate _ c.args.sectors.now time (c.requires.closed honest)) (c.in_ok-write_synced.ensures.bytes honest) (c.in_ok-write_synced.ensures.durable honest) second

pub returns-clause-any_moment : goal.returns-clause-any_moment
returns-clause-any_moment g c honest =
    let one : sector_count c.open_gate.result ≡ 1 = omega (arith, c.open_gate.ensures.long) in
    let time = c.write_synced.ensures.time honest in
    let second = rw one at (c.write_synced-2.ensures.time (c.write_synced.ensures.same_honesty ∙ honest)) in
    GuardedWrite-second _ _ c.args.gate _ c.args.sectors.now time _ (GuardedWrite-first _ _ c.args.gate _ c.args.sectors.now time (c.requires.closed honest)) (c.in_ok-write_synced.ensures.bytes honest) (c.in_ok-write_synced.ensures.durable honest) second

pub returns-clause-guarded : goal.returns-clause-guarded
returns-clause-guarded g c honest =
    let one : sector_count c.open_gate.result ≡ 1 = omega (arith, c.open_gate.ensures.long) in
    let still = c.write_synced.ensures.same_honesty ∙ honest in
    let second = rw one at (c.write_synced-2.ensures.time still) in
    let gate = rw one at (c.in_ok-write_synced-2.ensures.bytes still) in
    IsGuarded-second _ _ c.args.gate _ c.args.sectors.now (c.write_synced.ensures.time honest) _ c.open_gate.result (c.in_ok-write_synced.ensures.bytes honest) second gate (c.in_ok-write_synced-2.ensures.durable still) c.open_gate.ensures

pub returns-clause-gate : goal.returns-clause-gate
returns-clause-gate g c honest =
    let one : sector_count c.open_gate.result ≡ 1 = omega (arith, c.open_gate.ensures.long) in
    let still = c.write_synced.ensures.same_honesty ∙ honest in
    IsOpenGate-written (present (g.D.SectorDisk.history c.write_synced-2.new.disk)).content c.args.gate c.open_gate.result (rw one at (c.in_ok-write_synced-2.ensures.bytes still)) c.open_gate.ensures
