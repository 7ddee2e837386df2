use Rattle.std.proofs.Common.{◌≡◌, ◌++◌}
use Rattle.indexmap.specs.IndexMap.{values}
use Rattle.cg_group_state.specs.Keyed.{AreKeyed}
use Rattle.cg_group_state.proofs.members.Members.from_vec.Given as goal

abbrev pub invariant-loop-member : goal.invariant-loop-member
invariant-loop-member l = record {
  all : values l.by_id ≡ l.yielded;
  keyed : AreKeyed l.by_id;
  left : l.fn.items.items ≡ l.yielded ++ l.member-iterator.rest.items;
}
