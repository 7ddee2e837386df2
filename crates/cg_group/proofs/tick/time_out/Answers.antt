use Rattle.std.proofs.Common.{List, sym, subst}
use Rattle.cg_group_state.specs.declared.group.Group.{Group}
use Rattle.cg_group_table.specs.SessionIndex.{AreKnown, IsTight, is_home}
use Rattle.cg_group.proofs.tick.time_out.Goals as goal

pub carry_out_all-requires-clause-known : goal.carry_out_all-requires-clause-known
carry_out_all-requires-clause-known c =
    let P : List Group → Type 0 = λ gs. AreKnown (is_home c.args.homes.now) gs in
    subst P (sym c.plan_due.ensures.same) c.requires.known

pub carry_out_all-requires-clause-tight : goal.carry_out_all-requires-clause-tight
carry_out_all-requires-clause-tight c =
    let P : List Group → Type 0 = λ gs. IsTight c.args.homes.now gs in
    subst P (sym c.plan_due.ensures.same) c.requires.tight
