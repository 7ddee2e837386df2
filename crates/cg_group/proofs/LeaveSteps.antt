-- The step of a LEAVE in its loaded group, which does not refuse it.
use Rattle.std.proofs.Common.{◌≡◌, ℕ, true, is_some, List, Some, Result, Ok, Err, ap, sym, subst, ◌∙◌}
use Rattle.std.specs.Prelude.{is_ok}
use Rattle.cg_names.specs.declared.code.Code.{Code}
use Rattle.cg_group_state.specs.declared.effects.Effects.{Effects}
use Rattle.cg_group_state.specs.declared.group.Group.{Group}
use Rattle.cg_group_state.specs.declared.turn.Turn.{Turn}
use Rattle.cg_group_rules.specs.Leave.{leave_held}
use Rattle.cg_group_rules.specs.Rebalance.{turned}
use Rattle.cg_request.specs.declared.request_fields.LeaveRequest.{LeaveRequest}
use Rattle.cg_request.specs.declared.ticket.Ticket.{Ticket}
use Rattle.cg_group.specs.InPlace.{IsLeaving, IsNamed, IsStepped, StepKnown}
use Rattle.cg_group.specs.Machine.{concluded, leave, named_group}
use Rattle.cg_group_table.specs.GroupChanges.{KeepsId, StepsTo}
use Rattle.cg_group_table.specs.GroupTable.{IsHeld, at_moment, find_group, outcome}
use Rattle.cg_group_table.proofs.Framed.{framed-leave_taken}
use Rattle.cg_group_table.proofs.Mapped.{keeps_step}
use Rattle.cg_group_state.specs.Checks.{◌>>=◌}
use Rattle.cg_group.proofs.Departures.{leave_here}
use Rattle.cg_group.proofs.Requests.{Fine, fine-leave_held}
use Rattle.cg_group.proofs.Stepped.{concluded_stepped, leave_known}

-- a LEAVE that is refused
pub leave_unnamed : (r : LeaveRequest) (groups : List Group) (code : Code) → named_group r.group groups ≡ Err code → (now : ℕ) (ticket : Ticket) → leave now r ticket groups ≡ Err code
unfolding leave
leave_unnamed r groups code e now ticket = ap (λ o. o >>= λ g. leave_held now r ticket g) e

pub leave_refused : (r : LeaveRequest) (groups : List Group) (own : List ℕ) (g : Group) (code : Code) → IsNamed r.group groups own g → ((now : ℕ) (ticket : Ticket) → leave_held now r ticket g ≡ Err code)
    → (now : ℕ) (ticket : Ticket) → leave now r ticket groups ≡ Err code
leave_refused r groups own g code named refused now ticket = leave_here r groups own g named now ticket ∙ refused now ticket

-- such a step keeps the id of its group
pub keeps_left : {E : Type 0} (now : ℕ) (r : LeaveRequest) (ticket : Ticket) → KeepsId (λ g. StepsTo {E = E} (λ t. leave_held now r ticket g ≡ Ok t) g)
keeps_left now r ticket =
    keeps_step (λ g t. leave_held now r ticket g ≡ Ok t)
    (λ g t is.
    let F : Result Turn Code → Type 0 = λ o. Fine (λ u. u.group.id ≡ g.id) o in
    subst F is (fine-leave_held (λ u. u.group.id ≡ g.id) now r ticket g (λ m _. (framed-leave_taken now m.id ticket m g).0)))

module _ (now : ℕ) (r : LeaveRequest) (ticket : Ticket) (groups : List Group) (own : List ℕ) (at : IsLeaving r groups own) where
  there : (g : Group) → find_group own groups ≡ Some g → at.group ≡ g
  there g found = let same : Some at.group ≡ Some g = sym at.named.found ∙ found in cc

  pub suits_leaving : (g : Group) → find_group own groups ≡ Some g → is_ok (leave_held now r ticket g) ≡ true
  suits_leaving g found = let P : Group → Type 0 = λ k. is_ok (leave_held now r ticket k) ≡ true in subst P (there g found) (at.taken now ticket)

  left_is : (g : Group) → find_group own groups ≡ Some g → (t : Turn) → leave_held now r ticket g ≡ Ok t → leave now r ticket groups ≡ Ok t
  left_is g found t is = leave_here r groups own at.group at.named now ticket ∙ ap (leave_held now r ticket) (there g found) ∙ is

  pub known_left : (g after : Group) (e : Effects) → find_group own groups ≡ Some g → leave_held now r ticket g ≡ Ok (turned after e) → StepKnown groups (turned after e)
  known_left g after e found is = leave_known now r ticket groups (turned after e) (left_is g found (turned after e) is)

  pub loaded_left : IsHeld groups own
  loaded_left = ap is_some at.named.found

  pub taken_left : is_ok (leave now r ticket groups) ≡ true
  taken_left = ap is_ok (leave_here r groups own at.group at.named now ticket) ∙ at.taken now ticket

  pub leaving_is : {E : Type 0} (later : List Group) (e : Effects) → IsStepped {E = E} (λ g. StepsTo (λ t. leave_held now r ticket g ≡ Ok t) g) own groups later e → concluded (at_moment now groups) ticket (leave now r ticket groups) ≡ outcome (at_moment now later) e
  leaving_is later e s = concluded_stepped (λ g t. leave_held now r ticket g ≡ Ok t) own groups later e s (leave now r ticket groups) left_is now ticket
