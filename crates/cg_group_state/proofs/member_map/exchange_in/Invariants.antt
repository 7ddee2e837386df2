use Rattle.std.proofs.Common.{◌≡◌, ◌++◌, map, take, drop}
use Rattle.indexmap.specs.IndexMap.{index_map_len, keys, values}
use Rattle.cg_group_state.specs.Assignments.{with_assignments}
use Rattle.cg_group_state.proofs.member_map.exchange_in.Given as goal

abbrev pub invariant-loop-place : goal.invariant-loop-place
invariant-loop-place l = record {
  members : values l.members ≡ with_assignments (take l.place l.initial.assignments) (values l.initial.members);
  list : l.assignments ≡ take l.place (map (λ m. m.assignment) (values l.initial.members)) ++ drop l.place l.initial.assignments;
  same_keys : keys l.members ≡ keys l.initial.members;
  as_many : index_map_len l.members ≡ index_map_len l.initial.members;
}
