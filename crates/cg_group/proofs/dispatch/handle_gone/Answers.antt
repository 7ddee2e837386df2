use Rattle.std.proofs.Common.{List, ap, sym, subst, ◌∙◌}
use Rattle.cg_group_state.specs.declared.group.Group.{Group}
use Rattle.cg_group_table.specs.SessionIndex.{AreKnown, IsTight, is_home, is_noted}
use Rattle.cg_group.proofs.InPlace.{on_err}
use Rattle.cg_group.proofs.KnownSessions.{known-apart, known-closed}
use Rattle.cg_group.proofs.TightIndex.{tight_closed}
use Rattle.cg_group_table.proofs.Tight.{has_parked}
use Rattle.cg_group.proofs.dispatch.handle_gone.Goals as goal

pub end_session-requires : goal.end_session-requires
end_session-requires c = known-apart (is_home c.args.homes.now) c.args.session c.args.held.now c.requires.known

pub returns-clause-known : goal.returns-clause-known
returns-clause-known c =
    let P : List Group → Type 0 = λ gs. AreKnown (is_home c.forget.new.homes) gs in
    subst P (sym c.in_ok-effects.ensures.groups) (known-closed (is_home c.args.homes.now) (is_home c.forget.new.homes) c.args.now c.args.session (λ q x apart h. ap (is_noted x) (c.forget.ensures.apart q apart) ∙ h) c.args.held.now c.requires.known)

pub returns-clause-tight : goal.returns-clause-tight
returns-clause-tight c =
    let P : List Group → Type 0 = λ gs. IsTight c.forget.new.homes gs in
    subst P (sym c.in_ok-effects.ensures.groups) (tight_closed c.args.now c.args.session c.args.homes.now c.forget.new.homes c.args.held.now c.forget.ensures.gone c.forget.ensures.apart c.requires.tight)

pub returns-in_err-effects-clause-parked : goal.returns-in_err-effects-clause-parked
returns-in_err-effects-clause-parked c = on_err _ _ (has_parked c.args.homes.now c.args.held.now c.args.session c.requires.tight c.in_err-effects.ensures.err_known)
