use Rattle.std.proofs.Common.{List, map, ap, sym, subst, ◌∙◌}
use Rattle.cg_group_rules.specs.Join.{new_group}
use Rattle.cg_group_state.specs.declared.group.Group.{Group}
use Rattle.cg_request.specs.Commits.{kept_entry}
use Rattle.cg_group_table.specs.GroupTable.{find_group, with_group, without_group}
use Rattle.cg_group_table.specs.SessionIndex.{StayParked}
use Rattle.cg_group_table.proofs.Tight.{stay_added}
use Rattle.cg_group.proofs.Made.{commit_made, own_id_new, unmade}
use Rattle.cg_group.proofs.offset_commit.commit_new.Goals as goal

pub returns-in-Ok-clause-ok : goal.returns-in-Ok-clause-ok
returns-in-Ok-clause-ok c =
    commit_made c.args.context.now c.args.held.now c.put.new.self c.args.context.ticket (map kept_entry c.args.entries) c.args.id c.in-Ok.effects (c.in_ok-put.ensures.ok ∙ ap (λ k. with_group k c.args.held.now) (c.new_group.ensures ∙ ap new_group c.in_ok-own.ensures.cases)) c.in-Ok.ensures.ok

pub returns-in-Ok-clause-parked : goal.returns-in-Ok-clause-parked
returns-in-Ok-clause-parked c =
    let P : List Group → Type 0 = λ gs. StayParked c.args.held.now gs in
    subst P (sym (c.in_ok-put.ensures.ok ∙ ap (λ k. with_group k c.args.held.now) (c.new_group.ensures ∙ ap new_group c.in_ok-own.ensures.cases))) (stay_added (new_group c.args.id) c.args.held.now (ap (λ i. find_group i c.args.held.now) (own_id_new c.args.id) ∙ c.requires.absent))

pub returns-in-Err-clause-err : goal.returns-in-Err-clause-err
returns-in-Err-clause-err c = ((c.remove.ensures ∙ ap (λ i. without_group i c.put.new.self) c.in-Err.ensures.back ∙ ap (without_group c.args.id) (c.in_ok-put.ensures.ok ∙ ap (λ k. with_group k c.args.held.now) (c.new_group.ensures ∙ ap new_group c.in_ok-own.ensures.cases)) ∙ unmade c.args.id c.args.held.now c.requires.absent), c.in-Err.ensures.err)

pub returns-in-Err-clause-parked : goal.returns-in-Err-clause-parked
returns-in-Err-clause-parked c =
    let P : List Group → Type 0 = λ gs. StayParked c.args.held.now gs in
    subst P (sym (c.remove.ensures ∙ ap (λ i. without_group i c.put.new.self) c.in-Err.ensures.back ∙ ap (without_group c.args.id) (c.in_ok-put.ensures.ok ∙ ap (λ k. with_group k c.args.held.now) (c.new_group.ensures ∙ ap new_group c.in_ok-own.ensures.cases)) ∙ unmade c.args.id c.args.held.now c.requires.absent)) (λ q x h. h)
