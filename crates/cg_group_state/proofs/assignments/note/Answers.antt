use Rattle.cg_group_state.proofs.assignments.note.Goals as goal

pub returns : goal.returns
returns c = λ id. c.in_ok-insert.ensures.updates.0 id
