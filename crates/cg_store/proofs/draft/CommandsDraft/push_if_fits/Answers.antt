use Rattle.std.proofs.Common.{◌≡◌, ◌∙◌, ℕ, List, [], length, ap, arith}
use Rattle.cg_record.specs.Spelling.{spelling}
use Rattle.cg_record.proofs.Lengths.{no_command}
use Rattle.cg_record.proofs.Longer.{few-text}
use Rattle.cg_store.proofs.draft.CommandsDraft.push_if_fits.Goals as goal

pub returns-then-bytes-payload-clause-first : goal.returns-then-bytes-payload-clause-first
returns-then-bytes-payload-clause-first c none =
    let inside = c.self.inside in
    let is : c.spelling_of-payload.result.now ≡ spelling [] =
    c.spelling_of-payload.ensures.same ∙ c.payload.ensures ∙ ap (λ (f : ℕ × List ℕ). f.1) c.deref.ensures ∙ inside.whole ∙ ap spelling (c.self.view_is ∙ none) in
    absurd (omega (arith, ap length is, no_command, c.size-bytes.ensures.bound))

pub overflow_add-self : goal.overflow_add-self
overflow_add-self c = let inside = c.self.inside in omega (arith, inside.counted, inside.small, few-text inside.frame.value.1 inside.whole)
