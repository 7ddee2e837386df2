use Rattle.std.proofs.Common.{List, sym, subst}
use Rattle.cg_group_state.specs.declared.group.Group.{Group}
use Rattle.cg_group_table.specs.SessionIndex.{StayParked}
use Rattle.cg_group_table.proofs.Tight.{stay_removed}
use Rattle.cg_group.proofs.delete_group.handle_delete.Goals as goal

pub returns-in_ok-group-in-Ok-clause-parked : goal.returns-in_ok-group-in-Ok-clause-parked
returns-in_ok-group-in-Ok-clause-parked c =
    let P : List Group → Type 0 = λ gs. StayParked c.args.held.now gs in
    subst P (sym c.remove.ensures) (stay_removed c.in-Ok.own.now c.args.held.now c.in-Ok.ensures.idle)
