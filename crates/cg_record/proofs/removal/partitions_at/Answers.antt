use Rattle.std.proofs.Common.{[], arith}
use Rattle.cg_record.specs.Reading.{partition_at, partitions_at}
use Rattle.cg_record.proofs.Steps.{many_end, many_on}
use Rattle.cg_record.proofs.RemovalLaws.{reads_partitions}
use Rattle.cg_record.proofs.removal.partitions_at.Goals as goal

pub returns-clause-len : goal.returns-clause-len
returns-clause-len c =
    let read = many_end partition_at c.args.count c.loop.counter c.loop.partitions.items c.loop.rest.now (partitions_at c.args.count [] c.args.bytes.now) c.loop-test.false c.loop.invariant in
    let t = (reads_partitions c.args.count).takes c.args.bytes.now c.loop.partitions.items c.loop.rest.now (λ i. omega (arith, c.type_inv.bytes i)) read in
    t.2.count

pub returns-clause-distinct : goal.returns-clause-distinct
returns-clause-distinct c =
    let read = many_end partition_at c.args.count c.loop.counter c.loop.partitions.items c.loop.rest.now (partitions_at c.args.count [] c.args.bytes.now) c.loop-test.false c.loop.invariant in
    let t = (reads_partitions c.args.count).takes c.args.bytes.now c.loop.partitions.items c.loop.rest.now (λ i. omega (arith, c.type_inv.bytes i)) read in
    t.2.distinct

pub loop-preserved : goal.loop-preserved
loop-preserved c =
    let total = partitions_at c.args.count [] c.args.bytes.now in
    let read = rw c.as_slice.ensures.value at c.in_ok-partition.ensures in
    rw c.in_ok-push.ensures.items
    (many_on partition_at c.args.count c.loop.counter c.loop.partitions.items c.loop.rest.now c.in_ok-partition.partition c.in_ok-partition.after.now total c.loop-test.true read c.loop.invariant)

pub returns-clause-builds : goal.returns-clause-builds
returns-clause-builds c =
    many_end partition_at c.args.count c.loop.counter c.loop.partitions.items c.loop.rest.now (partitions_at c.args.count [] c.args.bytes.now) c.loop-test.false c.loop.invariant
