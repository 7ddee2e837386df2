use Rattle.cg_group_state.proofs.SameLists.{same_protocols}
use Rattle.cg_group_state.proofs.shared_protocols.are_same.Goals as goal

pub returns : goal.returns
returns c = same_protocols c.args.a.now c.args.b.now _ (rw (c.as_slice.ensures.value, c.as_slice-2.ensures.value) at c.eq.ensures)
