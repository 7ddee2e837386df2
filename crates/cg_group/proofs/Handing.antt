-- The SYNC of a leader, which hands the assignments in.
use Rattle.std.proofs.Common.{◌≡◌, ℕ, List, Some, Ok, refl, sym, ap, ◌∙◌}
use Rattle.cg_group_state.specs.declared.effects.Effects.{Effects}
use Rattle.cg_group_state.specs.declared.group.Group.{Group}
use Rattle.cg_group_state.specs.declared.turn.Turn.{Turn}
use Rattle.cg_request.specs.declared.request_fields.SyncRequest.{SyncRequest}
use Rattle.cg_request.specs.declared.ticket.Ticket.{Ticket}
use Rattle.cg_group_rules.specs.declared.sync.SyncCase.TheVariants.{Leading}
use Rattle.cg_group_rules.specs.SyncSteps.{distributing}
use Rattle.cg_group.specs.InPlace.{IsStepped, IsSync, StepParks}
use Rattle.cg_group.specs.Machine.{concluded, sync}
use Rattle.cg_group_table.specs.GroupChanges.{KeepsId, StepsTo}
use Rattle.cg_group_table.specs.GroupTable.{at_moment, find_group, outcome}
use Rattle.cg_group_rules.specs.Join.{waiting}
use Rattle.cg_group_state.specs.Membership.{hearing}
use Rattle.cg_group_rules.specs.Rebalance.{turned}
use Rattle.cg_group_rules.specs.Sync.{assigning, propagate_assignment, reply_to_syncs}
use Rattle.cg_request.specs.declared.request_fields.SyncEntry.{SyncEntry}
use Rattle.cg_group_table.proofs.Mapped.{keeps_step}
use Rattle.cg_group.proofs.InPlace.{sync_here}
use Rattle.cg_group.proofs.Stepped.{concluded_stepped, sync_parks}

id-leading : (now : ℕ) (id : List ℕ) (ticket : Ticket) (entries : List SyncEntry) (g : Group) → (distributing now id ticket entries g).group.id ≡ g.id
unfolding propagate_assignment reply_to_syncs assigning waiting hearing
id-leading now id ticket entries g = refl

pub keeps_leading : {E : Type 0} (now : ℕ) (id : List ℕ) (ticket : Ticket) (entries : List SyncEntry) → KeepsId (λ g. StepsTo {E = E} (λ t. t ≡ distributing now id ticket entries g) g)
keeps_leading now id ticket entries = keeps_step (λ g t. t ≡ distributing now id ticket entries g) (λ g t is. ap (λ (u : Turn). u.group.id) is ∙ id-leading now id ticket entries g)

module _ (now : ℕ) (r : SyncRequest) (ticket : Ticket) (groups : List Group) (own id : List ℕ) (at : IsSync r groups own id Leading) where
  leads_to : (g : Group) → find_group own groups ≡ Some g → (t : Turn) → t ≡ distributing now id ticket r.entries g → sync now r ticket groups ≡ Ok t
  leads_to g found t is =
      let named : Some at.group ≡ Some g = sym at.named.found ∙ found in
      let same : at.group ≡ g = cc in
      sync_here now r ticket groups own id Leading at ∙ ap Ok (at.processed.1 now r id ticket) ∙ ap (λ k. Ok (distributing now id ticket r.entries k)) same ∙ ap Ok (sym is)

  pub parks_leading : (g after : Group) (e : Effects) → find_group own groups ≡ Some g → turned after e ≡ distributing now id ticket r.entries g → StepParks groups ticket (turned after e)
  parks_leading g after e found is = sync_parks now r ticket groups (turned after e) (leads_to g found (turned after e) is)

  pub leading_is : {E : Type 0} (later : List Group) (e : Effects) → IsStepped {E = E} (λ g. StepsTo (λ t. t ≡ distributing now id ticket r.entries g) g) own groups later e → concluded (at_moment now groups) ticket (sync now r ticket groups) ≡ outcome (at_moment now later) e
  leading_is later e s = concluded_stepped (λ g t. t ≡ distributing now id ticket r.entries g) own groups later e s (sync now r ticket groups) leads_to now ticket
