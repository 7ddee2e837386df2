use Rattle.std.proofs.Common.{arith}
use Rattle.cg_fold.proofs.Fewer.{are_fewer, length-stock-fewer, shelves-fewer}
use Rattle.cg_fold.proofs.Restock.{length-rows}
use Rattle.cg_fold.proofs.offsets.Offsets.forget_partitions.Goals as goal

pub overflow_sub-self : goal.overflow_sub-self
overflow_sub-self c = omega (arith, c.remove_rows-dropped.ensures.gone, length-rows c.args.group.now c.self.inside.len c.self.inside.shelves.entries c.self.invariant)

pub invariant_of-self : goal.invariant_of-self
invariant_of-self c =
    let group = c.args.group.now in
    let partitions = c.args.partitions.now in
    let before = c.self.inside.shelves.entries in
    let after = c.remove_rows-dropped.new.shelves.entries in
    are_fewer group partitions c.self.inside.len before after c.self.invariant c.remove_rows-dropped.ensures.others _
    (omega (
      arith,
      length-rows group c.self.inside.len before c.self.invariant,
      c.remove_rows-dropped.ensures.gone,
      length-stock-fewer group partitions c.self.inside.len before after c.self.invariant c.remove_rows-dropped.ensures.others,
    ))

pub returns : goal.returns
returns c =
    shelves-fewer c.args.group.now c.args.partitions.now c.self.inside.len c.self.inside.shelves.entries c.remove_rows-dropped.new.shelves.entries
    c.self.invariant c.remove_rows-dropped.ensures.others c.args.self.now c.self.view_is
