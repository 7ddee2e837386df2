use Rattle.cg_trail.proofs.answers.are_recorded.Goals as goal

pub returns : goal.returns
returns c = (λ h. c.past_entries.ensures.1 (c.are_none.ensures.0 h), λ h. c.are_none.ensures.1 (c.past_entries.ensures.0 h))
