use Rattle.std.proofs.Common.{◌≡◌, ◌++◌, map, take, drop}
use Rattle.indexmap.specs.IndexMap.{index_map_len, keys, values}
use Rattle.cg_group_state.specs.Waiting.{after_answer}
use Rattle.cg_group_state.proofs.member_map.answer_in.Given as goal

abbrev pub invariant-loop-place : goal.invariant-loop-place
invariant-loop-place l = record {
  answered : values l.members ≡ map (after_answer l.which l.now) (take l.place (values l.initial.members)) ++ drop l.place (values l.initial.members);
  same_keys : keys l.members ≡ keys l.initial.members;
  as_many : index_map_len l.members ≡ index_map_len l.initial.members;
}
