use Rattle.std.proofs.Common.{◌≡◌, true, List, ◌++◌, ◌∷◌, [], ap, rules, length, sym, ◌∙◌, subst, arith}
use Rattle.std.proofs.lemmas.List.{nil_from_length}
use Rattle.std.specs.List.{list_any}
use Rattle.std.specs.Vec.Iter.{into_iter_items}
use Rattle.cg_group_state.specs.declared.effects.Effects.{Effects}
use Rattle.cg_group_state.specs.declared.group.Group.{Group}
use Rattle.cg_group_rules.specs.TickDeadline.{tick_touches}
use Rattle.cg_group_table.specs.DueGroups.{HavePlanned}
use Rattle.cg_group_table.specs.declared.due_groups.Due.{Due}
use Rattle.cg_group_table.proofs.DueGroups.{effects_all, planned_all, planned_none}
use Rattle.cg_group_table.proofs.Successive.{along_end, along_next}
use Rattle.cg_group_table.proofs.due_groups.plan_due.Goals as goal

pub loop-id-init : goal.loop-id-init
loop-id-init c =
    let D : List Due → Type 0 = λ ds. HavePlanned c.args.now c.args.held.now [] ds c.new-effects.result in
    record {
      same = c.advance.ensures;
      planned = ([], sym c.into_iter-id-iterator.ensures.into_iter_gives.0, subst D (sym c.new-dues.ensures.items) (planned_none c.args.now c.args.held.now c.new-effects.result (ap (λ (e : Effects). e.commands) c.new-effects.ensures) (ap (λ (e : Effects). e.replies) c.new-effects.ensures)));
      len = search rules;
    }

pub loop-id-preserved : goal.loop-id-preserved
loop-id-preserved c =
    let l = c.loop-id in
    let now = c.args.now in
    let gs = c.args.held.now in
    record {
      same = c.in_ok-plan_named.ensures.same ∙ l.invariant.same;
      planned = along_next (λ ids. HavePlanned now gs ids l.dues.items l.effects) (λ ids. HavePlanned now gs ids c.plan_named.new.dues.items c.plan_named.new.effects) c.args.ids.items (into_iter_items l.id-iterator) (into_iter_items c.next.new.self) c.in-Some.id c.requires.ascending c.in-Some.ensures.steps.0
          (λ ids b h.
          let P : List Group → Type 0 = λ hs. HavePlanned now hs ids l.dues.items l.effects in
          let Q : List Group → Type 0 = λ hs. HavePlanned now hs (ids ++ c.in-Some.id ∷ []) c.plan_named.new.dues.items c.plan_named.new.effects in
          subst Q l.invariant.same (c.in_ok-plan_named.ensures.planned ids b (subst P (sym l.invariant.same) h)))
          l.invariant.planned;
      len =
          let was = l.invariant.len in
          let gone = c.in-Some.ensures.steps.1 in
          let short = ap length c.in-Some.ensures.steps.0 in
          omega arith;
    }

pub returns-in_err-plan_named-clause-same : goal.returns-in_err-plan_named-clause-same
returns-in_err-plan_named-clause-same c = c.plan_named.ensures.same ∙ c.loop-id.invariant.same

pub returns-in_err-plan_named-clause-touched : goal.returns-in_err-plan_named-clause-touched
returns-in_err-plan_named-clause-touched c =
    let P : List Group → Type 0 = λ gs. list_any (tick_touches c.args.now) gs ≡ true in
    let some : P c.args.held.now = subst P c.loop-id.invariant.same c.in_err-plan_named.ensures.touched in
    search rules

pub returns-clause-same : goal.returns-clause-same
returns-clause-same c = c.loop-id.invariant.same

pub returns-clause-due : goal.returns-clause-due
returns-clause-due c =
    let l = c.loop-id in
    let none : into_iter_items l.id-iterator ≡ [] = nil_from_length _ (sym l.invariant.len ∙ c.in-None.ensures.steps.0) in
    planned_all c.args.now c.args.held.now c.args.ids.items l.dues.items l.effects c.requires.others (along_end (λ ids. HavePlanned c.args.now c.args.held.now ids l.dues.items l.effects) c.args.ids.items (into_iter_items l.id-iterator) none l.invariant.planned)

pub returns-clause-effects : goal.returns-clause-effects
returns-clause-effects c =
    let l = c.loop-id in
    let none : into_iter_items l.id-iterator ≡ [] = nil_from_length _ (sym l.invariant.len ∙ c.in-None.ensures.steps.0) in
    effects_all c.args.now c.args.held.now c.args.ids.items l.dues.items l.effects c.requires.others (along_end (λ ids. HavePlanned c.args.now c.args.held.now ids l.dues.items l.effects) c.args.ids.items (into_iter_items l.id-iterator) none l.invariant.planned)
