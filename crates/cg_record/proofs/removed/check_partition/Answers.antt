use Rattle.std.proofs.Common.{sym, ◌∙◌}
use Rattle.cg_record.specs.Partitions.{topic_partition}
use Rattle.cg_record.proofs.Again.{partition_reads, partition_repeats}
use Rattle.cg_record.proofs.removed.check_partition.Goals as goal

pub returns-then-is_repeated : goal.returns-then-is_repeated
returns-then-is_repeated c = λ front h.
    let key = topic_partition c.in_ok-key.key.topic.now c.in_ok-key.key.partition in
    partition_repeats front c.args.bytes.now key c.in_ok-key.rest.now c.in_ok-key.ensures.gives (sym (c.is_repeated.ensures front c.args.bytes.now h) ∙ c.if-is_repeated.true)

pub returns : goal.returns
returns c = λ front h.
    let key = topic_partition c.in_ok-key.key.topic.now c.in_ok-key.key.partition in (
      key,
      partition_reads front c.args.bytes.now key c.in_ok-key.rest.now c.in_ok-key.ensures.gives (sym (c.is_repeated.ensures front c.args.bytes.now h) ∙ c.if-is_repeated.false),
    )
