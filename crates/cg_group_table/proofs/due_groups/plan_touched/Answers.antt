use Rattle.cg_group_table.proofs.DueGroups.{planned_touched}
use Rattle.cg_group_table.proofs.due_groups.plan_touched.Goals as goal

pub returns : goal.returns
returns c =
    λ ids b h.
    planned_touched c.args.now c.args.groups.now ids c.args.id c.args.group.now c.requires.in_order c.requires.found b c.args.dues.now.items c.push.new.self.items c.in_ok-due.due c.args.effects.now _ c.in_ok-due.made
    c.in_ok-due.ensures.id c.in_ok-due.ensures.planned c.in_ok-due.ensures.parked c.in_ok-push.ensures.items c.in_ok-append.ensures.ok c.in_ok-append-2.ensures.ok h
