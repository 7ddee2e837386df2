use Rattle.std.proofs.Common.{◌≡◌, List, length, map, ap, sym, ◌∙◌}
use Rattle.cg_group_state.specs.declared.group.Group.{Group}
use Rattle.cg_group_state.specs.declared.group.Phase.TheVariants.{Stable}
use Rattle.cg_group_state.specs.declared.member.Member.{Member}
use Rattle.cg_group_state.specs.declared.member.Waits.TheVariants.{Sync}
use Rattle.cg_group_state.specs.Assignments.{with_assignments}
use Rattle.cg_group_state.specs.Waiting.{waits_with}
use Rattle.cg_group_state.specs.Membership.{with_member}
use Rattle.cg_group_rules.specs.SyncSteps.{handed}
use Rattle.cg_group_rules.proofs.Distributing.{as_many_parked, list_is, parked}
use Rattle.cg_group_rules.proofs.sync.hand_out.Goals as goal

pub exchange_assignments-requires : goal.exchange_assignments-requires
exchange_assignments-requires c =
    let is : c.wait.new.self ≡ parked c.args.now c.args.id.now c.args.ticket c.args.group.now.members = c.wait.ensures ∙ ap (with_member c.args.id.now (waits_with c.args.now (Sync c.args.ticket))) c.hear.ensures.heard in
    c.requires ∙ sym (ap length is ∙ as_many_parked c.args.now c.args.id.now c.args.ticket c.args.group.now.members)

pub returns-clause-group : goal.returns-clause-group
unfolding handed
returns-clause-group c =
    let is : c.wait.new.self ≡ parked c.args.now c.args.id.now c.args.ticket c.args.group.now.members = c.wait.ensures ∙ ap (with_member c.args.id.now (waits_with c.args.now (Sync c.args.ticket))) c.hear.ensures.heard in
    ap (λ ms. let g : Group = record c.args.group.now { phase = Stable; members = ms } in g) (c.exchange_assignments.ensures.members ∙ ap (with_assignments c.args.list.now) is)

pub returns-clause-list : goal.returns-clause-list
returns-clause-list c =
    let is : c.wait.new.self ≡ parked c.args.now c.args.id.now c.args.ticket c.args.group.now.members = c.wait.ensures ∙ ap (with_member c.args.id.now (waits_with c.args.now (Sync c.args.ticket))) c.hear.ensures.heard in
    list_is c.args.now c.args.id.now c.args.ticket c.args.group.now.members c.args.list.now c.exchange_assignments.new.assignments
    (c.exchange_assignments.ensures.assignments ∙ ap (λ (ms : List Member). map (λ (m : Member). m.assignment) ms) is)
