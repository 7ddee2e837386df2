use Rattle.std.proofs.Common.{◌≡◌, Some, None, Option, Result, refl, sym, subst, ℕ}
use Rattle.cg_names.specs.declared.code.Code.{Code}
use Rattle.cg_group_table.specs.GroupTable.{find_group}
use Rattle.cg_group.proofs.Committers.{Outcome, checked_found, checks_hear}
use Rattle.cg_group.proofs.offset_commit.check_commit.Goals as goal

pub hear-requires-clause-hears : goal.hear-requires-clause-hears
hear-requires-clause-hears c = checks_hear c.args.now c.args.r.now

pub returns : goal.returns
returns c =
    let gs = c.args.held.now in
    let own = c.args.own.now in
    let P : Option (Result (Option ℕ) Code) → Type 0 = λ o. Outcome c.args.now c.args.r.now gs c.hear.new.self own o in
    (elim (find_group own gs) as (λ f. find_group own gs ≡ f → P c.hear.result) [
      | None ↦ λ none. let missing = c.hear.ensures.absent none in subst P (sym missing.0) (none, missing.1)
      | Some g ↦ λ found. checked_found c.args.now c.args.r.now gs c.hear.new.self own c.requires c.hear.ensures.in_order g found c.hear.result (c.hear.ensures.changed g found)
    ]) refl
