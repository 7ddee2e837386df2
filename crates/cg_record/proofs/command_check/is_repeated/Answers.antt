use Rattle.std.proofs.Common.{◌≡◌, ◌+◌, ◌-◌, sym, ◌∙◌, true, false}
use Rattle.cg_record.specs.Keys.{is_of}
use Rattle.cg_record.specs.Partitions.{topic_partition}
use Rattle.cg_record.specs.Reading.{entry_at}
use Rattle.cg_record.proofs.Again.{unmet_next, unmet_hit, unmet_on, unmet_end}
use Rattle.cg_record.proofs.command_check.is_repeated.Goals as goal

pub returns-in-None : goal.returns-in-None
returns-in-None c = λ whole end h.
    let passes = is_of (topic_partition c.args.topic.now c.args.partition) in
    let u = c.loop.invariant whole end h in
    let n = unmet_next entry_at c.args.count c.loop.counter passes whole end c.loop.rest.now u c.loop-test.true in
    absurd (c.in-None.ensures u.front n.0.0 n.0.1 n.1)

pub returns-then-is_same : goal.returns-then-is_same
returns-then-is_same c = λ whole end h.
    let passes = is_of (topic_partition c.args.topic.now c.args.partition) in
    let u = c.loop.invariant whole end h in
    let n = unmet_next entry_at c.args.count c.loop.counter passes whole end c.loop.rest.now u c.loop-test.true in
    let same = c.in-Some.ensures u.front n.0.0 n.0.1 n.1 in
    let hit : passes n.0.0 ≡ true = rw (← same.0) (sym c.is_same.ensures ∙ c.if-is_same.true) in
    sym (unmet_hit entry_at (c.args.count - (c.loop.counter + 1)) passes u.front n.0.0 whole end n.0.1 n.2 hit)

pub loop-preserved : goal.loop-preserved
loop-preserved c = λ whole end h.
    let passes = is_of (topic_partition c.args.topic.now c.args.partition) in
    let u = c.loop.invariant whole end h in
    let n = unmet_next entry_at c.args.count c.loop.counter passes whole end c.loop.rest.now u c.loop-test.true in
    let same = c.in-Some.ensures u.front n.0.0 n.0.1 n.1 in
    let miss : passes n.0.0 ≡ false = rw (← same.0) (sym c.is_same.ensures ∙ c.if-is_same.false) in
    rw same.2 (unmet_on entry_at c.args.count c.loop.counter passes whole end c.loop.rest.now u n.0.0 n.0.1 n.2 miss)

pub returns : goal.returns
returns c = λ whole end h.
    let passes = is_of (topic_partition c.args.topic.now c.args.partition) in
    sym (unmet_end entry_at c.args.count c.loop.counter passes whole end c.loop.rest.now (c.loop.invariant whole end h) c.loop-test.false)
