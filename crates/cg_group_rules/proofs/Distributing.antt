-- The assignments of the leader's SYNC, handed out in place and taken back.
use Rattle.std.proofs.Common.{◌≡◌, ℕ, true, List, [], ◌++◌, length, map, Some, refl, sym, ap, ◌∙◌}
use Rattle.std.proofs.lemmas.List.{length-map}
use Rattle.cg_group_state.specs.declared.calls.Calls.TheVariants.{Syncs}
use Rattle.cg_group_state.specs.declared.effects.Effects.{Effects}
use Rattle.cg_group_state.specs.declared.group.Group.{Group}
use Rattle.cg_group_state.specs.declared.group.Phase.TheVariants.{Stable}
use Rattle.cg_group_state.specs.declared.member.Member.{Member}
use Rattle.cg_group_state.specs.declared.member.Waits.{Waits}
use Rattle.cg_group_state.specs.declared.member.Waits.TheVariants.{Sync}
use Rattle.cg_request.specs.declared.request_fields.SyncEntry.{SyncEntry}
use Rattle.cg_request.specs.declared.ticket.Ticket.{Ticket}
use Rattle.cg_group_state.specs.declared.turn.Turn.{Turn}
use Rattle.cg_group_state.specs.Assignments.{with_assignments, assignment_for}
use Rattle.cg_group_rules.specs.Join.{displaced, waiting}
use Rattle.cg_group_state.specs.Waiting.{waits_with, after_answers, recalled}
use Rattle.cg_group_state.specs.Membership.{find_member, heard, hearing, is_led, is_named, leads, with_member}
use Rattle.cg_group_rules.specs.Rebalance.{turn_of, turned}
use Rattle.cg_group_rules.specs.Sync.{assigned_command, assigning, propagate_assignment, reply_to_syncs}
use Rattle.cg_group_state.proofs.Exchanges.{exchanged_back, handing_entries, map-with_assignments}
use Rattle.cg_group_state.proofs.Keeping.{map-with_member}
use Rattle.cg_group_state.proofs.Recalling.{find-with_member, recalled_after_waiting}
use Rattle.cg_group_rules.specs.SyncSteps.{IsLeader, displacing, distributing, handed, handed_back, telling}
use Rattle.cg_group_rules.proofs.Leading.{any_found, any_same_ids}

module _ (now : ℕ) (id : List ℕ) (ticket : Ticket) where
  -- the members once the SYNC of one is parked
  abbrev pub parked : List Member → List Member
  parked ms = with_member id (waits_with now (Sync ticket)) (with_member id (heard now) ms)

  -- what they keep
  pub kept_parked : {A : Type 0} (f : Member → A) → ((m : Member) (h : ℕ) (w : Waits) → f (record m { heard = h; waits = w }) ≡ f m) → (ms : List Member) → map f (parked ms) ≡ map f ms
  kept_parked f keeps ms =
      map-with_member f id (waits_with now (Sync ticket)) (λ m. keeps m (waits_with now (Sync ticket) m).heard (Sync ticket)) (with_member id (heard now) ms)
      ∙ map-with_member f id (heard now) (λ m. keeps m now m.waits) ms

  pub as_many_parked : (ms : List Member) → length (parked ms) ≡ length ms
  as_many_parked ms = sym (length-map (parked ms) (λ (m : Member). m.id)) ∙ ap length (kept_parked (λ m. m.id) (λ m h w. refl) ms) ∙ length-map ms (λ (m : Member). m.id)

  -- the assignments of the members, taken from an exchange after the SYNC is parked
  pub list_is : (ms : List Member) (list given : List (List ℕ)) → given ≡ map (λ m. m.assignment) (parked ms) → given ≡ map (λ m. m.assignment) ms
  list_is ms list given e = e ∙ kept_parked (λ m. m.assignment) (λ m h w. refl) ms

  -- the entries' assignments make the group that the leader's SYNC makes
  pub handed_entries : (entries : List SyncEntry) (list : List (List ℕ)) (g : Group) → list ≡ map (λ m. assignment_for entries m.id) g.members → handed now id ticket list g ≡ assigning entries (waiting now id (Sync ticket) (turn_of (hearing now id g))).group
  unfolding handed assigning waiting hearing
  handed_entries entries list g e =
      ap (λ xs. let after : Group = record g { phase = Stable; members = xs } in after)
      (ap (λ xs. with_assignments xs (parked g.members)) (e ∙ sym (kept_parked (λ m. assignment_for entries m.id) (λ m h w. refl) g.members)) ∙ handing_entries entries (parked g.members))

  -- the leader is still a member
  pub led_handed : (list : List (List ℕ)) (g : Group) → IsLeader id g → is_led (handed now id ticket list g) ≡ true
  unfolding handed
  led_handed list g h =
      any_same_ids (is_named g.leader) (with_assignments list (parked g.members)) g.members
      (map-with_assignments (λ m. m.id) (λ m a. refl) list (parked g.members) ∙ kept_parked (λ m. m.id) (λ m h w. refl) g.members)
      ∙ any_found (leads g) id g.members h.0 h.1 h.2

  -- there are as many members as before
  pub as_many_handed : (list : List (List ℕ)) (g : Group) → length (handed now id ticket list g).members ≡ length g.members
  unfolding handed
  as_many_handed list g =
      sym (length-map (with_assignments list (parked g.members)) (λ (m : Member). m.id))
      ∙ ap length (map-with_assignments (λ m. m.id) (λ m a. refl) list (parked g.members) ∙ kept_parked (λ m. m.id) (λ m h w. refl) g.members)
      ∙ length-map g.members (λ (m : Member). m.id)

  pub as_many_back : (list given : List (List ℕ)) (g after : Group) → given ≡ map (λ m. m.assignment) g.members → after ≡ handed now id ticket list g → length given ≡ length after.members
  as_many_back list given g after e is = ap length e ∙ length-map g.members (λ (m : Member). m.assignment) ∙ sym (ap (λ (x : Group). length x.members) is ∙ as_many_handed list g)

  -- what was handed out, taken back
  pub taken_back : (list given : List (List ℕ)) (g after back : Group) (m : Member) (moment : ℕ) (waits : Waits) → find_member id g.members ≡ Some m → length list ≡ length g.members → (moment ≡ m.heard) × (waits ≡ m.waits) → given ≡ map (λ m. m.assignment) g.members → after ≡ handed now id ticket list g → back ≡ handed_back id moment waits g.phase given after → back ≡ g
  unfolding handed handed_back
  taken_back list given g after back m moment waits found many was e is undone =
      undone
      ∙ ap (λ h. handed_back id h waits g.phase given after) was.0
      ∙ ap (λ w. handed_back id m.heard w g.phase given after) was.1
      ∙ ap (λ xs. handed_back id m.heard m.waits g.phase xs after) (e ∙ sym (kept_parked (λ m. m.assignment) (λ m h w. refl) g.members))
      ∙ ap (λ (x : Group). handed_back id m.heard m.waits g.phase (map (λ (m : Member). m.assignment) (parked g.members)) x) is
      ∙ ap (λ xs. let whole : Group = record g { members = with_member id (recalled m.heard m.waits) xs } in whole) (exchanged_back list (parked g.members) (many ∙ sym (as_many_parked g.members)))
      ∙ ap (λ xs. let whole : Group = record g { members = xs } in whole) (recalled_after_waiting id now (Sync ticket) m g.members found)

  -- the replies are those of the leader's SYNC
  pub told : (list : List (List ℕ)) (g after : Group) (ms : List Member) (before effects : Effects) → after ≡ handed now id ticket list g → effects ≡ telling after before → ms ≡ after_answers Syncs now after.members
      → turned (record after { members = ms }) effects ≡ (let h : Group = handed now id ticket list g in reply_to_syncs now (record { group = h; replies = before.replies; commands = before.commands ++ assigned_command h }))
  unfolding reply_to_syncs
  told list g after ms before effects is tells answered =
      ap (λ e. turned (record after { members = ms }) e) tells
      ∙ ap (λ xs. turned (record after { members = xs }) (telling after before)) answered
      ∙ ap (λ (h : Group). turned (record h { members = after_answers Syncs now h.members }) (telling h before)) is

  -- the replies and commands once the SYNC is parked
  displaced_first : (g : Group) (m : Member) → find_member id g.members ≡ Some m → displacing m ≡ (let t : Turn = waiting now id (Sync ticket) (turn_of (hearing now id g)) in record { commands = t.commands; replies = t.replies })
  unfolding waiting hearing
  displaced_first g m found =
      ap (λ o. let e : Effects = record { commands = []; replies = displaced o } in e) (sym (find-with_member id (heard now) (λ x. refl) g.members m found))

  -- the whole step
  pub distributed_is : (entries : List SyncEntry) (list : List (List ℕ)) (x : Member) (g after : Group) (before effects : Effects)
      → Some x ≡ find_member id g.members → list ≡ map (λ m. assignment_for entries m.id) g.members → before ≡ displacing x
      → turned after effects ≡ (let h : Group = handed now id ticket list g in reply_to_syncs now (record { group = h; replies = before.replies; commands = before.commands ++ assigned_command h }))
      → turned after effects ≡ distributing now id ticket entries g
  unfolding propagate_assignment
  distributed_is entries list x g after before effects found listed displaces tells =
      let t : Turn = waiting now id (Sync ticket) (turn_of (hearing now id g)) in
      tells
      ∙ ap (λ (h : Group). reply_to_syncs now (record { group = h; replies = before.replies; commands = before.commands ++ assigned_command h })) (handed_entries entries list g listed)
      ∙ ap (λ (e : Effects). reply_to_syncs now (record { group = assigning entries t.group; replies = e.replies; commands = e.commands ++ assigned_command (assigning entries t.group) })) (displaces ∙ displaced_first g x (sym found))
