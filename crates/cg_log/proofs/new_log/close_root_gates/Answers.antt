use Rattle.std.proofs.Common.{◌∙◌, arith}
use Rattle.cg_disk.proofs.Moments.{Changes-refl}
use Rattle.cg_log.proofs.Closed.{AllClosed-synced}
use Rattle.cg_log.proofs.new_log.close_root_gates.Goals as goal

pub returns-clause-zero : goal.returns-clause-zero
returns-clause-zero g c honest =
    let honest1 = c.write.ensures.same_honesty ∙ honest in
    let honest2 = c.write-2.ensures.same_honesty ∙ honest1 in
    AllClosed-synced (g.D.SectorDisk.history c.write.new.self) (g.D.SectorDisk.history c.write-2.new.self) (g.D.SectorDisk.history c.sync.new.self) 0 _ 2 _ c.closed_gate-closed.result c.closed_gate-closed.ensures (omega (arith, c.closed_gate-closed.ensures.long)) (rw c.gate.ensures at (c.in_ok-write.ensures.bytes honest)) (rw c.gate-2.ensures at (c.write-2.ensures.time honest1)) (omega (arith, c.closed_gate-closed.ensures.long)) (c.sync.ensures.time honest2) (c.in_ok-sync.ensures.durable honest2)

pub returns-clause-one : goal.returns-clause-one
returns-clause-one g c honest =
    let honest1 = c.write.ensures.same_honesty ∙ honest in
    let honest2 = c.write-2.ensures.same_honesty ∙ honest1 in
    let h2 = g.D.SectorDisk.history c.write-2.new.self in
    AllClosed-synced h2 h2 (g.D.SectorDisk.history c.sync.new.self) 2 _ 3 0 c.closed_gate-closed.result c.closed_gate-closed.ensures (omega (arith, c.closed_gate-closed.ensures.long)) (rw c.gate-2.ensures at (c.in_ok-write-2.ensures.bytes honest1)) (Changes-refl 3 0 h2) (omega (arith, c.closed_gate-closed.ensures.long)) (c.sync.ensures.time honest2) (c.in_ok-sync.ensures.durable honest2)
