use Rattle.std.proofs.Common.{List, ap, sym, subst, ◌∙◌}
use Rattle.cg_group_state.specs.declared.group.Group.{Group}
use Rattle.cg_group_table.specs.SessionIndex.{AreKnown, StayParked}
use Rattle.cg_group.specs.InPlace.{groups_of}
use Rattle.cg_group.proofs.NewGroups.{known_created, stay_created}
use Rattle.cg_group.proofs.join.create_in.Goals as goal

pub returns-clause-known : goal.returns-clause-known
returns-clause-known c = λ homes h.
    let P : List Group → Type 0 = λ gs. AreKnown homes gs in
    let after = c.in_ok-_none.ensures.ok ∙ ap (λ o. groups_of o c.args.held.now) (sym c.in_ok-group.ensures) in
    subst P (sym after) (known_created c.args.context.now c.args.r c.args.fresh c.args.context.ticket c.len-loaded.result c.args.id homes c.args.held.now h)

pub returns-clause-parked : goal.returns-clause-parked
returns-clause-parked c =
    let P : List Group → Type 0 = λ gs. StayParked c.args.held.now gs in
    let after = c.in_ok-_none.ensures.ok ∙ ap (λ o. groups_of o c.args.held.now) (sym c.in_ok-group.ensures) in
    subst P (sym after) (stay_created c.args.context.now c.args.r c.args.fresh c.args.context.ticket c.len-loaded.result c.args.id c.args.held.now c.requires.absent)
