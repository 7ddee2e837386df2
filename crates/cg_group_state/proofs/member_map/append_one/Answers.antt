use Rattle.cg_group_state.proofs.Keyed.{pushed_keys, pushed_values}
use Rattle.cg_group_state.proofs.member_map.append_one.Goals as goal

pub returns-clause-keyed : goal.returns-clause-keyed
returns-clause-keyed c = pushed_keys c.args.members.now.entries c.insert.new.self.entries c.in_ok-id.id c.args.member c.requires.keyed c.in_ok-id.ensures.cases c.requires.own_id c.in_ok-insert.ensures.entries

pub returns-clause-ok : goal.returns-clause-ok
returns-clause-ok c = pushed_values c.args.members.now.entries c.insert.new.self.entries c.in_ok-id.id c.args.member c.requires.keyed c.in_ok-id.ensures.cases c.requires.own_id c.in_ok-insert.ensures.entries
