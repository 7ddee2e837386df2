use Rattle.std.proofs.Common.{◌≡◌, Bool, is_some, filter, rules, ap, ◌∙◌}
use Rattle.std.specs.FinMap as finmap
use Rattle.std.proofs.lemmas.Fn.{filter_same}
use Rattle.cg_record.specs.declared.topic_partition.TopicPartition.{TopicPartition}
use Rattle.cg_record.specs.Partitions.{ArePartitions}
use Rattle.cg_fold.specs.Key.{key_of}
use Rattle.cg_group.proofs.Dropping.{partitions-filter}
use Rattle.cg_group.proofs.drop_offsets.with_offset.Goals as goal

kept_partitions : (c : goal.After-retain) → c.retain.new.self.items ≡ filter (λ (p : TopicPartition). is_some (finmap.get c.args.offsets.now (key_of c.args.group.now p))) c.args.partitions
kept_partitions c =
    let kept : TopicPartition → Bool = λ p. is_some (finmap.get c.args.offsets.now (key_of c.args.group.now p)) in
    filter_same _ kept _ (λ x b q k. search rules) _ _ c.retain.ensures.filtered ∙ ap (filter kept) (search rules)

pub returns-clause-value : goal.returns-clause-value
returns-clause-value c = kept_partitions c

pub returns-clause-lawful : goal.returns-clause-lawful
returns-clause-lawful c =
    let kept : TopicPartition → Bool = λ p. is_some (finmap.get c.args.offsets.now (key_of c.args.group.now p)) in
    let lawful : ArePartitions c.args.partitions = search rules in
    λ some. partitions-filter kept c.args.partitions c.retain.new.self.items (kept_partitions c) lawful some
