use Rattle.std.proofs.Common.{◌<◌, length, arith}
use Rattle.std.proofs.lemmas.List.{length-map}
use Rattle.cg_fold.specs.Key.{row_of, rows_of}
use Rattle.cg_fold.proofs.Restock.{length-rows-more, length-stock-more, shelves-commit, shelves-more}
use Rattle.cg_fold.proofs.offsets.Offsets.commit.Goals as goal

pub overflow_add-self : goal.overflow_add-self
overflow_add-self c =
    let commit = c.args.commit.now in
    omega (
      arith,
      length-map commit.entries (row_of commit.moment),
      c.in_ok-grown.ensures.grown,
      length-rows-more commit.group c.self.inside.shelves.entries c.add.new.shelves.entries (rows_of commit.moment commit.entries) c.in_ok-grown.ensures.ok,
    )

pub invariant_of-self-2 : goal.invariant_of-self-2
invariant_of-self-2 c =
    let commit = c.args.commit.now in
    let some : 0 < length (rows_of commit.moment commit.entries) = omega (arith, length-map commit.entries (row_of commit.moment), c.len.ensures.lawful.distinct.some) in
    shelves-more commit.group c.self.inside.len _ c.self.inside.shelves.entries c.add.new.shelves.entries (rows_of commit.moment commit.entries) c.self.invariant some
    c.in_ok-grown.ensures.ok
    (omega (
      arith,
      c.in_ok-grown.ensures.grown,
      length-stock-more commit.group c.self.inside.len c.self.inside.shelves.entries c.add.new.shelves.entries (rows_of commit.moment commit.entries) c.self.invariant c.in_ok-grown.ensures.ok,
    ))

pub returns-clause-ok : goal.returns-clause-ok
returns-clause-ok c =
    shelves-commit c.args.commit.now c.self.inside.len c.self.inside.shelves.entries c.add.new.shelves.entries c.args.self.now
    c.self.invariant c.in_ok-grown.ensures.ok c.self.view_is
