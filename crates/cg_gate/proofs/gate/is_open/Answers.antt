use Rattle.std.proofs.Common.{arith, rules}
use Rattle.std.proofs.lemmas.Bool.Decides.{nat_tests}
use Rattle.cg_disk.specs.Disk.{present}
use Rattle.cg_gate.proofs.Gates.{first_byte}
use Rattle.cg_gate.proofs.gate.is_open.Goals as goal

pub returns-clause-opened : goal.returns-clause-opened
returns-clause-opened g c honest =
    let same = first_byte (present (g.D.SectorDisk.history c.args.disk.now)).content c.args.gate _ c.read.new.bytes (c.in_ok-read.ensures.bytes honest) (search rules) in
    (λ opened. grind (arith, nat_tests), λ opened. grind (arith, nat_tests))
