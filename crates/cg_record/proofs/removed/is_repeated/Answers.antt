use Rattle.std.proofs.Common.{◌≡◌, ◌+◌, ◌-◌, sym, ◌∙◌, true, false}
use Rattle.cg_record.specs.Partitions.{are_one, topic_partition}
use Rattle.cg_record.specs.declared.topic_partition.TopicPartition.{TopicPartition}
use Rattle.cg_record.specs.Reading.{partition_at}
use Rattle.cg_record.proofs.Again.{not_both, partition_again, same_partition, unmet_next, unmet_hit, unmet_on, unmet_end}
use Rattle.cg_record.proofs.removed.is_repeated.Goals as goal

pub returns-in-Err : goal.returns-in-Err
returns-in-Err c = λ whole end h.
    let passes = λ (other : TopicPartition). are_one other (topic_partition c.args.topic.now c.args.partition) in
    let u = c.loop.invariant whole end h in
    let n = unmet_next partition_at c.args.count c.loop.counter passes whole end c.loop.rest.now u c.loop-test.true in
    absurd (not_both c.loop.rest.now c.in-Err.field-0 n.0.0 n.0.1 c.in-Err.ensures.gives (partition_again u.front c.loop.rest.now n.0.0 n.0.1 n.1))

pub returns-then-is_same : goal.returns-then-is_same
returns-then-is_same c = λ whole end h.
    let passes = λ (other : TopicPartition). are_one other (topic_partition c.args.topic.now c.args.partition) in
    let u = c.loop.invariant whole end h in
    let n = unmet_next partition_at c.args.count c.loop.counter passes whole end c.loop.rest.now u c.loop-test.true in
    let same = same_partition c.loop.rest.now (topic_partition c.in-Ok.key.topic.now c.in-Ok.key.partition) c.in-Ok.after.now n.0.0 n.0.1 c.in-Ok.ensures.gives (partition_again u.front c.loop.rest.now n.0.0 n.0.1 n.1) in
    let hit : passes n.0.0 ≡ true = rw (← same.0) (sym c.is_same.ensures ∙ c.if-is_same.true) in
    sym (unmet_hit partition_at (c.args.count - (c.loop.counter + 1)) passes u.front n.0.0 whole end n.0.1 n.2 hit)

pub loop-preserved : goal.loop-preserved
loop-preserved c = λ whole end h.
    let passes = λ (other : TopicPartition). are_one other (topic_partition c.args.topic.now c.args.partition) in
    let u = c.loop.invariant whole end h in
    let n = unmet_next partition_at c.args.count c.loop.counter passes whole end c.loop.rest.now u c.loop-test.true in
    let same = same_partition c.loop.rest.now (topic_partition c.in-Ok.key.topic.now c.in-Ok.key.partition) c.in-Ok.after.now n.0.0 n.0.1 c.in-Ok.ensures.gives (partition_again u.front c.loop.rest.now n.0.0 n.0.1 n.1) in
    let miss : passes n.0.0 ≡ false = rw (← same.0) (sym c.is_same.ensures ∙ c.if-is_same.false) in
    rw same.1 (unmet_on partition_at c.args.count c.loop.counter passes whole end c.loop.rest.now u n.0.0 n.0.1 n.2 miss)

pub returns : goal.returns
returns c = λ whole end h.
    let passes = λ (other : TopicPartition). are_one other (topic_partition c.args.topic.now c.args.partition) in
    sym (unmet_end partition_at c.args.count c.loop.counter passes whole end c.loop.rest.now (c.loop.invariant whole end h) c.loop-test.false)
