use Rattle.cg_record.proofs.Again.{summed_start, summed_next, summed_on, summed_end}
use Rattle.cg_record.proofs.command_check.room_left.Goals as goal

pub loop-init : goal.loop-init
loop-init c = λ whole end h. summed_start c.args.count whole end c.args.start.now h

pub returns-in-None : goal.returns-in-None
returns-in-None c = λ whole end h.
    let s = c.loop.invariant whole end h in
    let n = summed_next c.args.count c.loop.counter whole end c.loop.rest.now c.loop.room s c.loop-test.true in
    absurd (c.in-None.ensures s.front n.0.0 n.0.1 n.1)

pub loop-preserved : goal.loop-preserved
loop-preserved c = λ whole end h.
    let s = c.loop.invariant whole end h in
    let n = summed_next c.args.count c.loop.counter whole end c.loop.rest.now c.loop.room s c.loop-test.true in
    let same = c.in-Some.ensures s.front n.0.0 n.0.1 n.1 in
    rw same.2
    (summed_on c.args.count c.loop.counter whole end c.loop.rest.now c.loop.room s n.0.0 n.0.1 c.in-Some.size c.saturating_sub-room.result n.2 same.1 c.saturating_sub-room.ensures)

pub returns : goal.returns
returns c = λ whole end h.
    summed_end c.args.count c.loop.counter whole end c.loop.rest.now c.loop.room (c.loop.invariant whole end h) c.loop-test.false
