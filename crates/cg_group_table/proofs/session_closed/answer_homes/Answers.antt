use Rattle.std.proofs.Common.{[], sym, ap, ◌∙◌}
use Rattle.std.specs.BTreeMap.{keys}
use Rattle.cg_group_state.specs.declared.group.Group.{Group}
use Rattle.cg_group_rules.specs.Leave.{gone_in}
use Rattle.cg_group_table.proofs.Framed.{framed-gone_in}
use Rattle.cg_group_table.proofs.Homeward.{answered_all}
use Rattle.cg_group_table.proofs.InOrder.{ascending_from_sorted}
use Rattle.cg_group_table.proofs.Mapped.{changed_by}
use Rattle.cg_group_table.proofs.Successive.{HaveStepped, along_end, along_next, stepped_next, stepped_none}
use Rattle.cg_group_table.proofs.session_closed.answer_homes.Goals as goal

pub loop-id-init : goal.loop-id-init
loop-id-init c =
    ([], sym (c.into_iter-id-iterator.ensures.into_iter_gives ∙ c.keys-id-items.ensures.rest), stepped_none (gone_in c.args.now c.args.session) c.args.held.now)

pub change-changed-requires-clause-keeps : goal.change-changed-requires-clause-keeps
change-changed-requires-clause-keeps c = λ g after _ is. ap (λ (k : Group). k.id) is ∙ (framed-gone_in c.args.now c.args.session g).0

pub loop-id-preserved : goal.loop-id-preserved
loop-id-preserved c =
    let l = c.loop-id in
    let first = c.args.held.now in
    let turn = gone_in c.args.now c.args.session in
    along_next (HaveStepped turn first l.held) (HaveStepped turn first c.change-changed.new.self) (keys c.args.ids.now) l.id-iterator c.next.new.self c.in-Some.id.now (ascending_from_sorted (keys c.args.ids.now) c.keys-id-items.ensures.ordered) c.in-Some.ensures.steps
    (stepped_next turn (λ g. (framed-gone_in c.args.now c.args.session g).0) first l.held c.change-changed.new.self c.in-Some.id.now c.change-changed.ensures.in_order
    (λ g found. changed_by _ (λ k. (turn k).group) (λ _ _ _ is. is) l.held c.change-changed.new.self g c.change-changed.result (c.change-changed.ensures.changed g found)) (λ none. (c.change-changed.ensures.absent none).1))
    l.invariant

pub returns : goal.returns
returns c =
    let l = c.loop-id in
    answered_all c.args.now c.args.session c.args.held.now l.held c.args.ids.now.entries c.requires (along_end (HaveStepped (gone_in c.args.now c.args.session) c.args.held.now l.held) (keys c.args.ids.now) l.id-iterator c.in-None.ensures.steps.0 l.invariant)
