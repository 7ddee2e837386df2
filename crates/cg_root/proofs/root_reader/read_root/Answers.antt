use Rattle.std.proofs.Common.{rules, subst}
use Rattle.cg_disk.specs.Disk.{present, sector, Holds}
use Rattle.cg_root.specs.Roots.{CountingRoot}
use Rattle.cg_root.proofs.Stored.{SameSlot-read, CountingRoot-same}
use Rattle.cg_root.proofs.root_reader.read_root.Goals as goal

pub returns-in_err-root-clause-memory : goal.returns-in_err-root-clause-memory
returns-in_err-root-clause-memory g c honest memory =
    let content = (present (g.D.SectorDisk.history c.args.disk.now)).content in
    let slots = c.read.new.bytes in
    let holds : Holds content 0 4 slots = c.in_ok-read.ensures.bytes honest in
    let found = c.root_among.ensures.memory (search rules) in
    (found.0, subst (λ n. CountingRoot content n found.0) c.sectors-sectors.ensures (CountingRoot-same (sector slots) content c.sectors-sectors.result found.0 (SameSlot-read content slots holds) found.1))
