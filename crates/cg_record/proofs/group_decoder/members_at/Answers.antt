use Rattle.std.proofs.Common.{[], arith}
use Rattle.cg_record.specs.Members.{member_at}
use Rattle.cg_record.specs.Reading.{members_at}
use Rattle.cg_record.proofs.Steps.{many_end}
use Rattle.cg_record.proofs.RosterLaws.{reads_members}
use Rattle.cg_record.proofs.group_decoder.members_at.Goals as goal

pub returns-clause-builds : goal.returns-clause-builds
returns-clause-builds c = many_end member_at c.args.count c.loop.counter c.loop.members.items c.loop.rest.now (members_at c.args.count [] c.args.bytes.now) c.loop-test.false c.loop.invariant

pub returns-clause-len : goal.returns-clause-len
returns-clause-len c =
    let read = many_end member_at c.args.count c.loop.counter c.loop.members.items c.loop.rest.now (members_at c.args.count [] c.args.bytes.now) c.loop-test.false c.loop.invariant in
    let t = (reads_members c.args.count).takes c.args.bytes.now c.loop.members.items c.loop.rest.now (λ i. omega (arith, c.type_inv.bytes i)) read in
    t.2.count

pub returns-clause-distinct : goal.returns-clause-distinct
returns-clause-distinct c =
    let read = many_end member_at c.args.count c.loop.counter c.loop.members.items c.loop.rest.now (members_at c.args.count [] c.args.bytes.now) c.loop-test.false c.loop.invariant in
    let t = (reads_members c.args.count).takes c.args.bytes.now c.loop.members.items c.loop.rest.now (λ i. omega (arith, c.type_inv.bytes i)) read in
    t.2.distinct
