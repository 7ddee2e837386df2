use Rattle.std.proofs.Common.{◌≡◌, ap, subst, refl, [], true, false, Err}
use Rattle.cg_disk.specs.Disk.{present}
use Rattle.cg_log.specs.Log.{disk_of, root_of}
use Rattle.cg_log.specs.Segments.{Frames}
use Rattle.cg_store.specs.Compacting.{IsFolding}
use Rattle.cg_store.specs.Loading.{Adds}
use Rattle.cg_store.specs.declared.compaction.Reading.{Reading}
use Rattle.cg_store.proofs.Folding.{LogAt-now, folded-all, folded-good, folded-one, folded-same}
use Rattle.cg_store.proofs.compaction_work.read_frame.Goals as goal

pub returns-in-Err-BadFrame-clause-honest : goal.returns-in-Err-BadFrame-clause-honest
returns-in-Err-BadFrame-clause-honest g c has number left state holds spelled folding is = c.in-Err-BadFrame.ensures.good has folding.read holds folding.at (ap Err c.in-Err-BadFrame.field-0-is)

pub returns-in_default-clause-read : goal.returns-in_default-clause-read
returns-in_default-clause-read g c has number left state holds spelled folding =
    let reading = c.args.reading.now in
    let reads = c.in-Ok.ensures.reads has folding.read holds folding.at in
    let few = rw c.in_default.is at reads in
    let none : left ≡ [] = folded-all has number left reading.cut reading.cursor reading.durable reading.room reading.spent folding few in
    let same = folded-same has number left reading.cut reading.cursor reading.durable reading.room reading.spent folding c.sealed_read.new.room in
    let now : Reading = record { cut = reading.cut; cursor = reading.cursor; durable = reading.durable; room = c.sealed_read.new.room; spent = reading.spent } in
    ([], ((none, refl), subst (λ (l : Frames). IsFolding has number l now) none same))

pub returns-then-is_text-clause-read : goal.returns-then-is_text-clause-read
returns-then-is_text-clause-read g c has number left state holds spelled folding =
    let disk = g.D.SectorDisk in
    let log = c.args.log.now in
    let reading = c.args.reading.now in
    let reads = c.in-Ok.ensures.reads has folding.read holds folding.at in
    let found = rw c.in-Some.is at reads in
    let before = c.in-Ok.ensures.before in
    let below = rw c.in-Some.is at before in
    let at = LogAt-now disk.is_honest disk.history disk.size log has holds in
    let adds : Adds true c.in-Some.frame.count c.in-Some.frame.payload.items reading.durable c.add_commands.new.durable =
    coe 0 1 (i. Adds (c.if-is_text.true i) c.in-Some.frame.count (c.deref.ensures.value i) reading.durable c.add_commands.new.durable) c.in_ok-is_text.ensures in
    folded-one has number left reading.cut reading.cursor reading.durable reading.room reading.spent folding (present (disk.history (disk_of log))).content (disk.size (disk_of log)) (root_of log) at c.in-Some.frame c.in-Some.next c.add_commands.new.durable c.in-Some.frame.payload c.add_commands.new.room found below adds

pub returns-else-is_text-clause-honest : goal.returns-else-is_text-clause-honest
returns-else-is_text-clause-honest g c has number left state holds spelled folding is =
    let reading = c.args.reading.now in
    let reads = c.in-Ok.ensures.reads has folding.read holds folding.at in
    let found = rw c.in-Some.is at reads in
    let adds : Adds false c.in-Some.frame.count c.in-Some.frame.payload.items reading.durable c.add_commands.new.durable =
    coe 0 1 (i. Adds (c.if-is_text.false i) c.in-Some.frame.count (c.deref.ensures.value i) reading.durable c.add_commands.new.durable) c.in_ok-is_text.ensures in
    folded-good has number left reading.cut reading.cursor reading.durable reading.room reading.spent folding state spelled c.in-Some.frame c.in-Some.next found adds
