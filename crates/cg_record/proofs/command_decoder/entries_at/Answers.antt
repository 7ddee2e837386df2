use Rattle.std.proofs.Common.{[], arith}
use Rattle.cg_record.specs.Reading.{entry_at, entries_at}
use Rattle.cg_record.proofs.Steps.{many_end, many_on}
use Rattle.cg_record.proofs.CommitLaws.{reads_entries}
use Rattle.cg_record.proofs.command_decoder.entries_at.Goals as goal

pub returns-clause-len : goal.returns-clause-len
returns-clause-len c =
    let read = many_end entry_at c.args.count c.loop.counter c.loop.entries.items c.loop.rest.now (entries_at c.args.count [] c.args.bytes.now) c.loop-test.false c.loop.invariant in
    let t = (reads_entries c.args.count).takes c.args.bytes.now c.loop.entries.items c.loop.rest.now (λ i. omega (arith, c.type_inv.bytes i)) read in
    t.2.count

pub returns-clause-distinct : goal.returns-clause-distinct
returns-clause-distinct c =
    let read = many_end entry_at c.args.count c.loop.counter c.loop.entries.items c.loop.rest.now (entries_at c.args.count [] c.args.bytes.now) c.loop-test.false c.loop.invariant in
    let t = (reads_entries c.args.count).takes c.args.bytes.now c.loop.entries.items c.loop.rest.now (λ i. omega (arith, c.type_inv.bytes i)) read in
    t.2.distinct.0

pub returns-clause-metadata : goal.returns-clause-metadata
returns-clause-metadata c =
    let read = many_end entry_at c.args.count c.loop.counter c.loop.entries.items c.loop.rest.now (entries_at c.args.count [] c.args.bytes.now) c.loop-test.false c.loop.invariant in
    let t = (reads_entries c.args.count).takes c.args.bytes.now c.loop.entries.items c.loop.rest.now (λ i. omega (arith, c.type_inv.bytes i)) read in
    t.2.distinct.1

pub loop-preserved : goal.loop-preserved
loop-preserved c =
    let total = entries_at c.args.count [] c.args.bytes.now in
    let read = rw c.as_slice.ensures.value at c.in_ok-entry.ensures in
    rw c.in_ok-push.ensures.items
    (many_on entry_at c.args.count c.loop.counter c.loop.entries.items c.loop.rest.now c.in_ok-entry.entry c.in_ok-entry.after.now total c.loop-test.true read c.loop.invariant)

pub returns-clause-builds : goal.returns-clause-builds
returns-clause-builds c =
    many_end entry_at c.args.count c.loop.counter c.loop.entries.items c.loop.rest.now (entries_at c.args.count [] c.args.bytes.now) c.loop-test.false c.loop.invariant
