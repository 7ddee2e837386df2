use Rattle.std.proofs.Common.{sym, ◌∙◌}
use Rattle.cg_record.specs.Partitions.{topic_partition}
use Rattle.cg_record.proofs.Again.{partition_reads}
use Rattle.cg_record.proofs.removal.partition_at.Goals as goal

pub returns : goal.returns
returns c =
    let key = topic_partition c.in_ok-key.key.topic.now c.in_ok-key.key.partition in
    rw c.in_ok-partition.ensures
    (partition_reads c.args.front.now c.args.bytes.now key c.in_ok-key.rest.now c.in_ok-key.ensures.gives (sym c.is_among.ensures ∙ c.if-is_among.false))
