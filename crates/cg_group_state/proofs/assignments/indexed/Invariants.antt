use Rattle.std.proofs.Common.{◌≡◌, List, ℕ, vec_len, find}
use Rattle.std.specs.Prelude.{option_map, nat_eq}
use Rattle.indexmap.specs.IndexMap.{get}
use Rattle.std.specs.Cmp.Lexicographic.{pointwise}
use Rattle.cg_group_state.specs.Assignments.{after_notes}
use Rattle.cg_group_state.specs.Membership.{is_same}
use Rattle.cg_group_state.proofs.assignments.indexed.Given as goal

abbrev pub invariant-loop-entry : goal.invariant-loop-entry
invariant-loop-entry l = (id : List ℕ) → after_notes l.rest.items id (get (pointwise nat_eq) l.index id) ≡ option_map (λ e. e.assignment) (find (λ e. is_same e.member id) l.fn.entries)

abbrev pub decreases-loop-entry : goal.decreases-loop-entry
decreases-loop-entry l = vec_len l.rest
