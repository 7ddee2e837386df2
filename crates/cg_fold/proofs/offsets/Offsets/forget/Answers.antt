use Rattle.std.proofs.Common.{arith}
use Rattle.cg_fold.proofs.Restock.{length-rows, length-stock-others, shelves-forget, shelves-others}
use Rattle.cg_fold.proofs.offsets.Offsets.forget.Goals as goal

pub overflow_sub-self : goal.overflow_sub-self
overflow_sub-self c = omega (arith, c.remove-gone.ensures.gone, length-rows c.args.group.now c.self.inside.len c.self.inside.shelves.entries c.self.invariant)

pub invariant_of-self : goal.invariant_of-self
invariant_of-self c =
    let group = c.args.group.now in
    let before = c.self.inside.shelves.entries in
    let after = c.remove-gone.new.shelves.entries in
    shelves-others group c.self.inside.len _ before after c.self.invariant c.remove-gone.ensures.others
    (omega (arith, c.remove-gone.ensures.gone, length-stock-others group c.self.inside.len before after c.self.invariant c.remove-gone.ensures.others))

pub returns : goal.returns
returns c =
    shelves-forget c.args.group.now c.self.inside.len c.self.inside.shelves.entries c.remove-gone.new.shelves.entries c.args.self.now
    c.self.invariant c.remove-gone.ensures.others c.self.view_is
