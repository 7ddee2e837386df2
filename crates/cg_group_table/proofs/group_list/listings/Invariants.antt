use Rattle.std.proofs.Common.{◌≡◌, ◌++◌, map}
use Rattle.cg_group_table.specs.Describe.{listing}
use Rattle.cg_group_table.proofs.group_list.listings.Given as goal

abbrev pub invariant-loop-group : goal.invariant-loop-group
invariant-loop-group l = l.list ++ map listing l.group-iterator ≡ map listing l.groups
