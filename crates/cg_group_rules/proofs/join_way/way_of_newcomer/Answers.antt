use Rattle.std.proofs.Common.{◌≡◌, true, false, is_some, rules, ap}
use Rattle.std.specs.List.{list_all}
use Rattle.cg_group_state.specs.declared.calls.Calls.TheVariants.{Joins}
use Rattle.cg_group_state.specs.Membership.{find_instance, is_preparing}
use Rattle.cg_group_state.specs.Waiting.{is_waiting}
use Rattle.cg_group_rules.proofs.Entering.{held_entered}
use Rattle.cg_group_rules.proofs.join_way.way_of_newcomer.Goals as goal

pub returns : goal.returns
returns c =
    let r = c.args.r.now in
    let g = c.args.group.now in
    let preparing : is_preparing g.phase ≡ true = search rules in
    let behind : list_all (is_waiting Joins) g.members ≡ false = search rules in
    let alone : is_some (find_instance r.instance g.members) ≡ false = search rules in
    record { place = search rules; taken = λ now ticket. held_entered now r c.args.fresh ticket g preparing behind (ap is_some c.requires) alone (search rules) }
