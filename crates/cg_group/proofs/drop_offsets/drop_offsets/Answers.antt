use Rattle.std.proofs.Common.{List, sym, subst}
use Rattle.cg_group_state.specs.declared.group.Group.{Group}
use Rattle.cg_group_table.specs.SessionIndex.{StayParked}
use Rattle.cg_group_table.proofs.Tight.{stay_removed}
use Rattle.cg_group.proofs.drop_offsets.drop_offsets.Goals.{then-is_unfounded, else-is_unfounded}
use Rattle.cg_group.proofs.drop_offsets.drop_offsets.Goals as goal

pub returns-clause-parked : goal.returns-clause-parked
returns-clause-parked c =
    let P : List Group → Type 0 = λ gs. StayParked c.args.held.now gs in
    elim c.if-is_unfounded.branch [
      | then-is_unfounded w ↦ subst P (sym w.held-is) (subst P (sym w.remove.ensures) (stay_removed c.args.own.now c.args.held.now c.requires.idle))
      | else-is_unfounded w ↦ subst P (sym w.held-is) (λ session id parked. parked)
    ]
