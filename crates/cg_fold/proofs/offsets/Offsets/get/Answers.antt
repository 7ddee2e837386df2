use Rattle.std.proofs.Common.{ap, ◌∙◌}
use Rattle.std.specs.FinMap.{find}
use Rattle.cg_record.specs.Partitions.{partition_cmp}
use Rattle.cg_fold.specs.Key.{key_of}
use Rattle.cg_fold.proofs.Stock.{find-offsets_in}
use Rattle.cg_fold.proofs.offsets.Offsets.get.Goals as goal

pub returns : goal.returns
returns c =
    let key = key_of c.args.group.now c.args.partition.now in
    c.stored_at.ensures ∙ ap (find partition_cmp key.partition) c.of_group.ensures.value ∙ find-offsets_in key c.args.self.now
