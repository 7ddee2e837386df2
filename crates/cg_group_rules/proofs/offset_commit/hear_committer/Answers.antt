use Rattle.std.proofs.Common.{◌≡◌, true, rules, refl, sym, ◌∙◌}
use Rattle.cg_group_state.specs.Membership.{is_empty}
use Rattle.cg_group_rules.proofs.Committers.{simply_refused, simply_taken}
use Rattle.cg_group_rules.proofs.offset_commit.hear_committer.Goals as goal

pub returns-in-Some : goal.returns-in-Some
returns-in-Some c =
    let none : is_empty c.args.group.now.members ≡ true = search rules in
    (simply_refused c.args.r.now c.args.group.now none c.in-Some.code (sym c.simple_refusal.ensures ∙ c.in-Some.is), refl)

pub returns-in-None : goal.returns-in-None
returns-in-None c =
    let none : is_empty c.args.group.now.members ≡ true = search rules in
    simply_taken c.args.r.now c.args.group.now none c.args.now (sym c.simple_refusal.ensures ∙ c.in-None.is)
