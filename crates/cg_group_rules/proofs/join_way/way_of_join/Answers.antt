use Rattle.cg_group_rules.proofs.join_way.way_of_join.Goals as goal

pub returns-in_ok-way-in-Ok-clause-ok : goal.returns-in_ok-way-in-Ok-clause-ok
returns-in_ok-way-in-Ok-clause-ok c = c.in_ok-way-in-Ok.ensures c.args.fresh
