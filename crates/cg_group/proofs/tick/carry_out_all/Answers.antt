use Rattle.std.proofs.Common.{◌≡◌, List, [], length, rules, sym, ap, ◌∙◌, subst, arith}
use Rattle.std.proofs.lemmas.List.{nil_from_length}
use Rattle.std.specs.Vec.Iter.{into_iter_items}
use Rattle.cg_group_table.specs.declared.due_groups.Due.{Due}
use Rattle.cg_group_table.proofs.DueGroups.{HaveCarried, carried_all, carried_next, carried_none, due_still}
use Rattle.cg_group_table.proofs.Successive.{Along}
use Rattle.cg_group.proofs.tick.carry_out_all.Goals as goal

pub loop-due-init : goal.loop-due-init
loop-due-init c =
    let now = c.args.now in
    let gs = c.args.held.now in
    let H : List Due → Type 0 = λ left. Along (HaveCarried now gs gs) c.args.dues.items left in
    record {
      carried = subst H (sym c.into_iter-due-iterator.ensures.into_iter_gives.0) (carried_none now gs c.args.dues.items);
      known = c.requires.known;
      tight = c.requires.tight;
      len = search rules;
    }

pub carry_out_due-requires-clause-due : goal.carry_out_due-requires-clause-due
carry_out_due-requires-clause-due c =
    let l = c.loop-due in
    due_still c.args.now c.args.held.now c.args.dues.items c.requires.due l.held (into_iter_items l.due-iterator) (into_iter_items c.next.new.self) c.in-Some.due c.in-Some.ensures.steps.0 l.invariant.carried

pub loop-due-preserved : goal.loop-due-preserved
loop-due-preserved c =
    let l = c.loop-due in
    record {
      carried = carried_next c.args.now c.args.held.now c.args.dues.items c.requires.due l.held (into_iter_items l.due-iterator) (into_iter_items c.next.new.self) c.in-Some.due c.in-Some.ensures.steps.0 c.carry_out_due.new.held c.carry_out_due.ensures.in_order c.carry_out_due.ensures.after l.invariant.carried;
      known = c.carry_out_due.ensures.known;
      tight = c.carry_out_due.ensures.tight;
      len =
          let was = l.invariant.len in
          let gone = c.in-Some.ensures.steps.1 in
          let short = ap length c.in-Some.ensures.steps.0 in
          omega arith;
    }

pub returns-clause-after : goal.returns-clause-after
returns-clause-after c =
    let l = c.loop-due in
    let none : into_iter_items l.due-iterator ≡ [] = nil_from_length _ (sym l.invariant.len ∙ c.in-None.ensures.steps.0) in
    carried_all c.args.now c.args.held.now l.held c.args.dues.items (into_iter_items l.due-iterator) c.requires.due none l.invariant.carried
