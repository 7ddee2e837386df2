-- A COMMIT in a group that is not loaded.
use Rattle.std.proofs.Common.{◌≡◌, ℕ, List, length, refl, sym, ap, ◌∙◌, Some, None, Ok, Err, ok_or}
use Rattle.cg_names.specs.declared.code.Code.TheVariants.{InvalidGroupId}
use Rattle.cg_record.specs.declared.entry.Entry.{Entry}
use Rattle.cg_group_state.specs.declared.effects.Effects.{Effects}
use Rattle.cg_group_state.specs.declared.group.Group.{Group}
use Rattle.cg_request.specs.declared.request_fields.CommitRequest.{CommitRequest}
use Rattle.cg_request.specs.declared.ticket.Ticket.{Ticket}
use Rattle.cg_group_rules.specs.OffsetCommit.{commit_at, commit_effects, commit_unheld, keeping_entries}
use Rattle.cg_group_rules.specs.Join.{new_group}
use Rattle.cg_group.specs.Machine.{commit, commit_in, concluded}
use Rattle.cg_group_table.specs.GroupTable.{at_moment, find_group, outcome, with_group, without_group}
use Rattle.cg_group_state.specs.Checks.{◌>>=◌}
use Rattle.cg_group_table.proofs.Removing.{without_with}

pub commit_made : (now : ℕ) (groups after : List Group) (ticket : Ticket) (entries : List Entry) (id : List ℕ) (e : Effects) → after ≡ with_group (new_group id) groups → e ≡ commit_effects (commit_at now entries id) ticket → concluded (at_moment now groups) ticket (Ok (keeping_entries now entries ticket (new_group id))) ≡ outcome (at_moment now after) e
unfolding concluded keeping_entries new_group
commit_made now groups after ticket entries id e put made = ap (λ gs. outcome (at_moment now gs) (commit_effects (commit_at now entries id) ticket)) (sym put) ∙ ap (outcome (at_moment now after)) (sym made)

pub commit_unnamed : (now : ℕ) (r : CommitRequest) (ticket : Ticket) (groups : List Group) → r.group ≡ None → commit now r ticket groups ≡ Err InvalidGroupId
unfolding commit
commit_unnamed now r ticket groups e = ap (λ o. ok_or o InvalidGroupId >>= λ id. commit_in now r ticket groups id (find_group id groups)) e

pub commit_absent : (now : ℕ) (r : CommitRequest) (ticket : Ticket) (groups : List Group) (id : List ℕ) → r.group ≡ Some id → find_group id groups ≡ None → commit now r ticket groups ≡ commit_unheld now r.generation r.entries ticket (length groups) id
unfolding commit
commit_absent now r ticket groups id e none =
    ap (λ o. ok_or o InvalidGroupId >>= λ i. commit_in now r ticket groups i (find_group i groups)) e
    ∙ ap (commit_in now r ticket groups id) none

-- creating a group for a commit and removing it again changes nothing
pub unmade : (id : List ℕ) (groups : List Group) → find_group id groups ≡ None → without_group id (with_group (new_group id) groups) ≡ groups
unfolding new_group
unmade id groups none = without_with (new_group id) groups none

-- a new group has the id that it was given
pub own_id_new : (id : List ℕ) → (new_group id).id ≡ id
unfolding new_group
own_id_new id = refl
