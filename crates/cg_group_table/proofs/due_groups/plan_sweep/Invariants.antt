use Rattle.std.proofs.Common.{◌≡◌, ◌++◌, Some}
use Rattle.std.specs.List.{flat_map}
use Rattle.cg_group_rules.specs.Tick.{ticked}
use Rattle.cg_group_rules.specs.TickDeadline.{tick_touches}
use Rattle.cg_group_table.specs.DueGroups.{IsDue, due_ids, ids_of}
use Rattle.cg_group_table.specs.Expiry.{expires, swept}
use Rattle.cg_group_table.specs.GroupTable.{InOrder, find_group}
use Rattle.cg_group_table.specs.Kept.{Each}
use Rattle.cg_group_table.proofs.due_groups.plan_sweep.Given as goal

abbrev pub invariant-loop-group : goal.invariant-loop-group
invariant-loop-group l = record {
  in_order : InOrder l.groups;
  found : Each (λ g. find_group g.id l.groups ≡ Some g) l.group-iterator;
  planned : Each (IsDue l.clock.moment l.groups) l.sweep.dues.items;
  dues : due_ids l.sweep.dues.items ++ ids_of (tick_touches l.clock.moment) l.group-iterator ≡ ids_of (tick_touches l.clock.moment) l.groups;
  thinned : l.sweep.thinned.items ++ ids_of (expires l.clock.loaded l.clock.moment l.offsets) l.group-iterator ≡ ids_of (expires l.clock.loaded l.clock.moment l.offsets) l.groups;
  commands : l.sweep.effects.commands ++ flat_map (λ g. (swept l.clock.loaded l.clock.moment l.offsets g).commands) l.group-iterator ≡ flat_map (λ g. (swept l.clock.loaded l.clock.moment l.offsets g).commands) l.groups;
  replies : l.sweep.effects.replies ++ flat_map (λ g. (ticked l.clock.moment g).replies) l.group-iterator ≡ flat_map (λ g. (ticked l.clock.moment g).replies) l.groups;
}
