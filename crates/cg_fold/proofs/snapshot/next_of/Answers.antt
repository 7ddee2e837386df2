use Rattle.std.proofs.Common.{◌≡◌, length, ap, sym, ◌∙◌, arith}
use Rattle.std.specs.Vec.Iter.{into_iter_items}
use Rattle.cg_fold.specs.Snapshot.{left_of}
use Rattle.cg_fold.proofs.Popped.{left_first, left_none, listed_rest, no_commands}
use Rattle.cg_fold.proofs.snapshot.next_of.Goals as goal

pub returns-in_default-pop_first-clause-next : goal.returns-in_default-pop_first-clause-next
returns-in_default-pop_first-clause-next c =
    let none = c.in_default-pop_first.ensures in
    let old = into_iter_items c.loop-command.commands in
    let new = into_iter_items c.next.new.self in
    let before : length old ≡ 0 = omega (arith, c.in_default.ensures.cases.0) in
    let after : length new ≡ 0 = omega (arith, c.in_default.ensures.cases.1) in (
      sym c.loop-command.invariant.same ∙ left_none old c.loop-command.records.entries c.loop-command.shelves.entries c.loop-command.invariant.listed (no_commands old before) none.0,
      ap (λ l. left_of new l c.pop_first.new.right.entries) none.1 ∙ ap (left_of new c.loop-command.records.entries) none.2
          ∙ left_none new c.loop-command.records.entries c.loop-command.shelves.entries c.loop-command.invariant.listed (no_commands new after) none.0,
    )

pub loop-command-preserved : goal.loop-command-preserved
loop-command-preserved c =
    let before : length (into_iter_items c.loop-command.commands) ≡ 0 = omega (arith, c.in_default.ensures.cases.0) in
    record {
      listed = listed_rest c.loop-command.records.entries c.pop_first.new.left.entries c.loop-command.shelves.entries c.pop_first.new.right.entries _ _ _ c.loop-command.invariant.listed c.in-Some-pop_first.ensures;
      same = left_first (into_iter_items c.loop-command.commands) (into_iter_items c.in_ok-commands.field-0) c.loop-command.records.entries c.pop_first.new.left.entries c.loop-command.shelves.entries c.pop_first.new.right.entries _ _ _ c.loop-command.invariant.listed c.in-Some-pop_first.ensures
          (no_commands (into_iter_items c.loop-command.commands) before) c.in_ok-commands.ensures ∙ c.loop-command.invariant.same;
    }
