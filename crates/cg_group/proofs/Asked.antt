-- The laws of assignments as tests, which the proofs step through, and what the tests say.
use Rattle.std.proofs.Common.{◌≡◌, ◌<◌, ℕ, suc, arith, Bool, true, false, ◌&&◌, ◌||◌, List, [], ◌∷◌, length, refl, ap, subst, ◌∙◌, Option, Some, None}
use Rattle.std.specs.Prelude.{◌==◌, Contains, pos}
use Rattle.std.specs.List.{list_any}
use Rattle.std.specs.Ordering.{int_eq}
use Rattle.std.proofs.lemmas.Bool.{and_parts, eqb-true, false≢true}
use Rattle.cg_record.specs.declared.command.Command.{Command}
use Rattle.cg_record.specs.declared.command.Command.TheVariants as command
use Rattle.cg_record.specs.declared.member_record.MemberRecord.{MemberRecord}
use Rattle.cg_record.specs.declared.replaced.Replaced.{Replaced}
use Rattle.cg_record.specs.Rosters.{RosterParts}
use Rattle.cg_fold.specs.declared.group_record.GroupRecord.{GroupRecord}
use Rattle.cg_fold.specs.declared.group_record.RecordedMembers.{RecordedMembers}
use Rattle.cg_fold.specs.declared.group_record.RecordedMembers.TheVariants as recorded
use Rattle.cg_request.specs.declared.event.Event.{Event}
use Rattle.cg_request.specs.declared.event.Event.TheVariants as event
use Rattle.cg_request.specs.declared.request_fields.SyncRequest.{SyncRequest}
use Rattle.cg_request.specs.declared.ticket.Ticket.{Ticket}
use Rattle.cg_group_state.specs.declared.group.Group.{Group}
use Rattle.cg_group_state.specs.declared.member.Member.{Member}
use Rattle.cg_group_state.specs.declared.reply.Reply.{Reply}
use Rattle.cg_group_state.specs.declared.reply.Reply.TheVariants as reply
use Rattle.cg_group_state.specs.Membership.{has_instance, is_named, is_same}
use Rattle.cg_group_table.specs.Kept.{Kept}
use Rattle.cg_group_table.proofs.KeptLists.{same_names}
use Rattle.cg_group.specs.Laws.{IsEarnedAssignment, IsPassedOn}

abbrev pub is_same_ticket : Ticket → Ticket → Bool
is_same_ticket t u = (t.session == u.session) && (t.number == u.number)

-- the event is the SYNC with this ticket, of this member of this group, and gives this generation
abbrev pub is_sync_of : List ℕ → ℕ → List ℕ → Ticket → Event → Bool
is_sync_of group generation member t (event.Sync ticket r) =
    is_same_ticket ticket t && is_named r.group group && is_named r.member member && int_eq r.generation (pos generation)
is_sync_of group generation member t (event.Join ticket r fresh) = false
is_sync_of group generation member t (event.Beat ticket r) = false
is_sync_of group generation member t (event.Leave ticket r) = false
is_sync_of group generation member t (event.Commit ticket r) = false
is_sync_of group generation member t (event.Fetch ticket r) = false
is_sync_of group generation member t (event.Delete ticket id) = false
is_sync_of group generation member t (event.Drop ticket r) = false
is_sync_of group generation member t (event.Describe ticket id) = false
is_sync_of group generation member t (event.List ticket) = false
is_sync_of group generation member t (event.Gone session) = false
is_sync_of group generation member t event.Tick = false

-- one of these events is such a SYNC
abbrev pub has_named : List (Event × ℕ) → List ℕ → ℕ → List ℕ → Ticket → Bool
has_named events group generation member t = list_any (λ e. is_sync_of group generation member t e.0) events

-- these bytes are the assignment of the member in the roster
abbrev pub is_in_roster : RecordedMembers → List ℕ → List ℕ → Bool
is_in_roster (recorded.Empty moment) member bytes = false
is_in_roster (recorded.Roster roster) member bytes = list_any (λ m. is_same m.id member && is_same m.assignment bytes) roster.members

-- these bytes are the stored assignment of the member with this id
abbrev pub is_kept_for : Option GroupRecord → List ℕ → List ℕ → Bool
is_kept_for None member bytes = false
is_kept_for (Some r) member bytes = is_in_roster r.members member bytes

-- a SYNC reply is for a SYNC of a member of the group, which gave its generation, and has the member's stored
-- assignment
abbrev pub is_earned_in : List (Event × ℕ) → Group → Option GroupRecord → Ticket × Reply → Bool
is_earned_in events g kept (t, reply.Synced bytes) =
    list_any (λ m. has_named events g.id g.generation m.id t && is_kept_for kept m.id bytes) g.members
is_earned_in events g kept (t, reply.Joined j) = true
is_earned_in events g kept (t, reply.Done) = true
is_earned_in events g kept (t, reply.Fetched partitions) = true
is_earned_in events g kept (t, reply.Described d) = true
is_earned_in events g kept (t, reply.Groups listings) = true
is_earned_in events g kept (t, reply.Refused code) = true

-- the same for some loaded group; other replies always pass
abbrev pub is_earned : List (Event × ℕ) → List Group → Kept → Ticket × Reply → Bool
is_earned events groups kept (t, reply.Synced bytes) = list_any (λ g. is_earned_in events g (kept g.id) (t, reply.Synced bytes)) groups
is_earned events groups kept (t, reply.Joined j) = true
is_earned events groups kept (t, reply.Done) = true
is_earned events groups kept (t, reply.Fetched partitions) = true
is_earned events groups kept (t, reply.Described d) = true
is_earned events groups kept (t, reply.Groups listings) = true
is_earned events groups kept (t, reply.Refused code) = true

-- the member has the instance of the new one, and the same assignment
abbrev pub passes_assignment : MemberRecord → Member → Bool
passes_assignment new m = has_instance new.instance m && is_same m.assignment new.assignment

-- a Replaced command has the assignment of the member that it replaces, as its group was before
abbrev pub is_passed_on : List Group → Command → Bool
is_passed_on groups (command.Replaced r) = list_any (λ g. is_same g.id r.group && list_any (passes_assignment r.member) g.members) groups
is_passed_on groups (command.Assigned a) = true
is_passed_on groups (command.Emptied e) = true
is_passed_on groups (command.Committed c) = true
is_passed_on groups (command.Deleted d) = true
is_passed_on groups (command.Expired e) = true
is_passed_on groups (command.Dropped d) = true

-- an element that passes the test
contained : {X : Type 0} (p : X → Bool) (xs : List X) → list_any p xs ≡ true → (x : X) × Contains xs x × (p x ≡ true)
contained p [] e = absurd (false≢true e)
contained {X} p (x ∷ xs) e =
    (elim (p x) as (λ b. p x ≡ b → (b || list_any p xs) ≡ true → (y : X) × Contains (x ∷ xs) y × (p y ≡ true)) [
      | true ↦ λ h _. (x, (0, omega arith, refl), h)
      | false ↦ λ _ k. let w = contained p xs k in (w.0, (suc w.1.0, further w.1.0 xs w.1.1, w.1.2), w.2)
    ]) refl e
  where
    further : (k : ℕ) (ys : List X) → k < length ys → suc k < suc (length ys)
    further k ys lt = omega arith

same_ticket_is : (t u : Ticket) → is_same_ticket t u ≡ true → t ≡ u
same_ticket_is t u e =
    let parts = and_parts (t.session == u.session) (t.number == u.number) e in
    let made : ℕ → ℕ → Ticket = λ x y. record { session = x; number = y } in
    ap (λ x. made x t.number) (eqb-true t.session u.session parts.0) ∙ ap (made u.session) (eqb-true t.number u.number parts.1)

named_is_given : (o : Option (List ℕ)) (x : List ℕ) → is_named o x ≡ true → o ≡ Some x
named_is_given None x e = absurd (false≢true e)
named_is_given (Some y) x e = ap Some (same_names y x e)

-- the SYNC that the test found
record Asked (group : List ℕ) (generation : ℕ) (member : List ℕ) (t : Ticket) (e : Event) : Type 0 where
  request : SyncRequest
  is : e ≡ event.Sync t request
  addressed : request.group ≡ Some group
  given : request.member ≡ Some member
  dated : int_eq request.generation (pos generation) ≡ true

asked_by : (group : List ℕ) (generation : ℕ) (member : List ℕ) (t : Ticket) (e : Event) → is_sync_of group generation member t e ≡ true → Asked group generation member t e
asked_by group generation member t (event.Sync ticket r) h =
    let dated = and_parts (is_same_ticket ticket t && is_named r.group group && is_named r.member member) (int_eq r.generation (pos generation)) h in
    let given = and_parts (is_same_ticket ticket t && is_named r.group group) (is_named r.member member) dated.0 in
    let addressed = and_parts (is_same_ticket ticket t) (is_named r.group group) given.0 in
    record {
      request = r;
      is = ap (λ x. event.Sync x r) (same_ticket_is ticket t addressed.0);
      addressed = named_is_given r.group group addressed.1;
      given = named_is_given r.member member given.1;
      dated = dated.1;
    }
asked_by group generation member t (event.Join ticket r fresh) h = absurd (false≢true h)
asked_by group generation member t (event.Beat ticket r) h = absurd (false≢true h)
asked_by group generation member t (event.Leave ticket r) h = absurd (false≢true h)
asked_by group generation member t (event.Commit ticket r) h = absurd (false≢true h)
asked_by group generation member t (event.Fetch ticket r) h = absurd (false≢true h)
asked_by group generation member t (event.Delete ticket id) h = absurd (false≢true h)
asked_by group generation member t (event.Drop ticket r) h = absurd (false≢true h)
asked_by group generation member t (event.Describe ticket id) h = absurd (false≢true h)
asked_by group generation member t (event.List ticket) h = absurd (false≢true h)
asked_by group generation member t (event.Gone session) h = absurd (false≢true h)
asked_by group generation member t event.Tick h = absurd (false≢true h)

-- the stored member that the test found
record StoredFor (o : Option GroupRecord) (id bytes : List ℕ) : Type 0 where
  entry : GroupRecord
  entry_is : o ≡ Some entry
  roster : RosterParts
  roster_is : entry.members ≡ recorded.Roster roster
  stored : MemberRecord
  listed : Contains roster.members stored
  own : stored.id ≡ id
  assigned : stored.assignment ≡ bytes

stored_in : (r : GroupRecord) (o : RecordedMembers) (id bytes : List ℕ) → r.members ≡ o → is_in_roster o id bytes ≡ true → StoredFor (Some r) id bytes
stored_in r (recorded.Empty moment) id bytes e h = absurd (false≢true h)
stored_in r (recorded.Roster roster) id bytes e h =
    let k = contained (λ (m : MemberRecord). is_same m.id id && is_same m.assignment bytes) roster.members h in
    let parts = and_parts (is_same k.0.id id) (is_same k.0.assignment bytes) k.2 in
    record {
      entry = r;
      entry_is = refl;
      roster = roster;
      roster_is = e;
      stored = k.0;
      listed = k.1;
      own = same_names k.0.id id parts.0;
      assigned = same_names k.0.assignment bytes parts.1;
    }

stored_for : (o : Option GroupRecord) (id bytes : List ℕ) → is_kept_for o id bytes ≡ true → StoredFor o id bytes
stored_for None id bytes h = absurd (false≢true h)
stored_for (Some r) id bytes h = stored_in r r.members id bytes refl h

sent_as : (events : List (Event × ℕ)) (m : ℕ) (a b : Event) → a ≡ b → Contains events (a, m) → Contains events (b, m)
sent_as events m a b e h = let P : Event → Type 0 = λ x. Contains events (x, m) in subst P e h

pub earned_is : (events : List (Event × ℕ)) (groups : List Group) (kept : Kept) (t : Ticket) (bytes : List ℕ) → is_earned events groups kept (t, reply.Synced bytes) ≡ true → IsEarnedAssignment events groups kept t bytes
earned_is events groups kept t bytes e =
    let g = contained (λ (g : Group). is_earned_in events g (kept g.id) (t, reply.Synced bytes)) groups e in
    let m = contained (λ (m : Member). has_named events g.0.id g.0.generation m.id t && is_kept_for (kept g.0.id) m.id bytes) g.0.members g.2 in
    let parts = and_parts (has_named events g.0.id g.0.generation m.0.id t) (is_kept_for (kept g.0.id) m.0.id bytes) m.2 in
    let sent = contained (λ (x : Event × ℕ). is_sync_of g.0.id g.0.generation m.0.id t x.0) events parts.0 in
    let asked = asked_by g.0.id g.0.generation m.0.id t sent.0.0 sent.2 in
    let own = stored_for (kept g.0.id) m.0.id bytes parts.1 in
    record {
      group = g.0;
      loaded = g.1;
      member = m.0;
      joined = m.1;
      request = asked.request;
      moment = sent.0.1;
      sent = sent_as events sent.0.1 sent.0.0 (event.Sync t asked.request) asked.is sent.1;
      addressed = asked.addressed;
      given = asked.given;
      dated = asked.dated;
      entry = own.entry;
      entry_is = own.entry_is;
      roster = own.roster;
      roster_is = own.roster_is;
      stored = own.stored;
      listed = own.listed;
      own = own.own;
      assigned = own.assigned;
    }

pub passed_is : (groups : List Group) (r : Replaced) → is_passed_on groups (command.Replaced r) ≡ true → IsPassedOn groups r
passed_is groups r e =
    let g = contained (λ (g : Group). is_same g.id r.group && list_any (passes_assignment r.member) g.members) groups e in
    let parts = and_parts (is_same g.0.id r.group) (list_any (passes_assignment r.member) g.0.members) g.2 in
    let m = contained (passes_assignment r.member) g.0.members parts.1 in
    let both = and_parts (has_instance r.member.instance m.0) (is_same m.0.assignment r.member.assignment) m.2 in
    record {
      group = g.0;
      loaded = g.1;
      own = same_names g.0.id r.group parts.0;
      old = m.0;
      joined = m.1;
      instance = both.0;
      assignment = same_names m.0.assignment r.member.assignment both.1;
    }
