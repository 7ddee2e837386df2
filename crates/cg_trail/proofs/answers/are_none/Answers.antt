use Rattle.cg_trail.proofs.Picked.{picked-none}
use Rattle.cg_trail.proofs.answers.are_none.Goals as goal

pub returns-in_default : goal.returns-in_default
returns-in_default c = (λ h. cc, λ h. absurd (picked-none c.args.answers.now c.in_default.len_at_least h))
