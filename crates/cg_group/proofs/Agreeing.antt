-- A group agrees with its record before and after each step.
use Rattle.std.proofs.Common.{◌≡◌, ℕ, ◌+◌, ◌≤◌, nat_lt, arith, Bool, true, false, not, ◌&&◌, ◌||◌, List, [], ◌∷◌, ◌++◌, map, filter, cond, is_some, refl, sym, ap, ◌∙◌, subst, Option, Some, None}
use Rattle.std.specs.Prelude.{if◌then◌else◌}
use Rattle.std.specs.List.{list_any, list_all}
use Rattle.std.specs.Option.{option_to_list, option_map, option_and_then}
use Rattle.std.proofs.lemmas.Bool.Decides.{nat_tests}
use Rattle.cg_names.specs.Generations.{next_generation}
use Rattle.cg_names.specs.declared.generation.TheConstants.{GENERATION_MAX}
use Rattle.std.proofs.lemmas.Bool.{and_parts, and_from, or_parts, or_left, or_right, not-false, false≢true}
use Rattle.std.proofs.lemmas.List.Folds.{list_all-append, list_all-map}
use Rattle.cg_group_state.specs.declared.calls.Calls.TheVariants.{Joins, Syncs}
use Rattle.cg_record.specs.declared.command.Command.TheVariants as command
use Rattle.cg_request.specs.declared.event.Event.{Event}
use Rattle.cg_fold.specs.declared.group_record.GroupRecord.{GroupRecord}
use Rattle.cg_fold.specs.declared.group_record.RecordedMembers.{RecordedMembers}
use Rattle.cg_fold.specs.declared.group_record.RecordedMembers.TheVariants as recorded
use Rattle.cg_group_state.specs.declared.group.Group.{Group}
use Rattle.cg_group_state.specs.declared.group.Phase.{Phase}
use Rattle.cg_group_state.specs.declared.group.Phase.TheVariants.{Empty, Preparing, Completing, Stable}
use Rattle.cg_group_state.specs.declared.member.Member.{Member}
use Rattle.cg_request.specs.declared.protocol.Protocol.{Protocol}
use Rattle.cg_group_state.specs.declared.member.Waits.TheVariants.{Join}
use Rattle.cg_request.specs.declared.request_fields.JoinRequest.{JoinRequest}
use Rattle.cg_request.specs.declared.request_fields.SyncEntry.{SyncEntry}
use Rattle.cg_request.specs.declared.ticket.Ticket.{Ticket}
use Rattle.cg_group_state.specs.declared.turn.Turn.{Turn}
use Rattle.cg_group_rules.specs.Join.{in_join_phase, is_inconsistent, waiting}
use Rattle.cg_group_state.specs.JoinTerms.{updated}
use Rattle.cg_group_state.specs.Waiting.{waits_with, after_answers}
use Rattle.cg_group_table.specs.Kept.{HasOffset, Kept}
use Rattle.cg_group_table.proofs.Kept.{kept_after}
use Rattle.cg_group.specs.Laws.{IsRecordedAs, TellsOf}
use Rattle.cg_group_state.specs.Offsets.{OffsetMap}
use Rattle.cg_group_rules.specs.Leave.{after_removal, has_joined}
use Rattle.cg_group_state.specs.Membership.{has_id, has_instance, heard, hearing, is_empty, is_named, is_preparing, is_same, with_member, seated, seating}
use Rattle.cg_group_rules.specs.Rebalance.{complete_join, completed_generation, emptied, emptied_command, is_ready, init_next_generation, prepare_rebalance, reply_to_joins, try_complete_join}
use Rattle.cg_group_state.specs.Assignments.{assigned}
use Rattle.cg_group_rules.specs.Sync.{assigned_command, assigning, propagate_assignment, kept_member, kept_roster, reply_to_syncs}
use Rattle.cg_group_rules.specs.Tick.{can_complete, ended}
use Rattle.cg_group_state.specs.Vote.{is_common, offers}
use Rattle.cg_group.proofs.Elections.{HasCommon, elected_is}
use Rattle.cg_group_state.proofs.Keeping.{IsLasting, map-same, map-with_member, keep-after_answers}
use Rattle.cg_group_table.proofs.KeptLists.{kept_after-append, kept_after-one, same_self}
use Rattle.cg_group.proofs.Calling.{AllWaits, all-named, is_named_wait, no_sync, no_sync-after_answers, waits-after_answers, waits-assigned, waits-with_member}

-- a rebalance has completed the group's generation
abbrev pub IsCompleted : Group → Type 0
IsCompleted g = completed_generation g.generation ≡ Some g.generation

-- what each phase says of the group
abbrev pub Holds : Phase → Group → Option GroupRecord → Type 0
Holds Stable g o = TellsOf g o
Holds Empty g o = TellsOf g o
Holds Preparing g o = is_some g.kind ≡ true
Holds Completing g o = (is_some g.kind ≡ true) × (is_some g.protocol ≡ true) × IsCompleted g

-- a group that agrees with its record, after the events so far; where it has no type it has an offset
pub record Whole (events : List (Event × ℕ)) (offsets : OffsetMap) (g : Group) (o : Option GroupRecord) : Type 0 where
  pub common : HasCommon g.members
  pub holds : Holds g.phase g o
  pub named : AllWaits (is_named_wait events g.id g.generation) g.members
  pub quiet : is_preparing g.phase ≡ true → AllWaits no_sync g.members
  pub typed : g.kind ≡ None → HasOffset offsets g.id

-- a type is given
pub has_kind : {A : Type 0} (o : Option (List ℕ)) → is_some o ≡ true → o ≡ None → A
has_kind o e n = absurd (false≢true (sym (ap is_some n) ∙ e))

-- a group with a rebalance under way
pub record Joining (g : Group) : Type 0 where
  pub phase : g.phase ≡ Preparing
  pub kind : is_some g.kind ≡ true
  pub common : HasCommon g.members
  pub quiet : AllWaits no_sync g.members

pub preparing_is : (p : Phase) → is_preparing p ≡ true → p ≡ Preparing
preparing_is Preparing e = refl
preparing_is Empty e = cc
preparing_is Completing e = cc
preparing_is Stable e = cc

is_preparing_from : (p : Phase) → p ≡ Preparing → is_preparing p ≡ true
is_preparing_from p e = ap is_preparing e

pub lasting_protocols : IsLasting (λ m. m.protocols)
lasting_protocols m h w = refl

pub lasting_kept : (p : Option (List ℕ)) → IsLasting (kept_member p)
lasting_kept p m h w = refl

-- the list has the protocol

abbrev pub offered : List ℕ → List Protocol → Bool
offered name ps = list_any (λ p. is_same p.name name) ps

pub common-map : (xs ys : List Member) → map (λ m. m.protocols) xs ≡ map (λ m. m.protocols) ys → HasCommon ys → HasCommon xs
unfolding is_common
common-map xs ys e h =
    (h.0, sym (list_all-map (offered h.0) (λ (m : Member). m.protocols) xs) ∙ ap (list_all (offered h.0)) e ∙ list_all-map (offered h.0) (λ (m : Member). m.protocols) ys ∙ h.1)

all-filter : (p stays : Member → Bool) (ms : List Member) → list_all p ms ≡ true → list_all p (filter stays ms) ≡ true
all-filter p stays [] h = refl
all-filter p stays (m ∷ ms) h =
    let parts = and_parts (p m) (list_all p ms) h in
    elim (stays m) as (λ b. list_all p (cond b (m ∷ filter stays ms) (filter stays ms)) ≡ true) [
      | true ↦ and_from (p m) (list_all p (filter stays ms)) parts.0 (all-filter p stays ms parts.1)
      | false ↦ all-filter p stays ms parts.1
    ]

pub common-filter : (stays : Member → Bool) (ms : List Member) → HasCommon ms → HasCommon (filter stays ms)
unfolding is_common
common-filter stays ms h = (h.0, all-filter (offers h.0) stays ms h.1)

pub common-append : (name : List ℕ) (ms : List Member) (m : Member) → is_common ms name ≡ true → offers name m ≡ true → HasCommon (ms ++ m ∷ [])
unfolding is_common
common-append name ms m h e = (name, list_all-append (offers name) ms (m ∷ []) ∙ and_from (list_all (offers name) ms) (offers name m && true) h (and_from (offers name m) true e refl))

pub common-update : (name : List ℕ) (id : List ℕ) (r : JoinRequest) (ms : List Member) → is_common ms name ≡ true → offered name r.protocols ≡ true → is_common (with_member id (updated r) ms) name ≡ true
unfolding is_common with_member
common-update name id r [] h e = refl
common-update name id r (m ∷ ms) h e =
    let parts = and_parts (offers name m) (list_all (offers name) ms) h in
    elim (has_id id m) as (λ b. list_all (offers name) (if b then updated r m ∷ ms else m ∷ with_member id (updated r) ms) ≡ true) [
      | true ↦ and_from (offers name (updated r m)) (list_all (offers name) ms) e parts.1
      | false ↦ and_from (offers name m) (list_all (offers name) (with_member id (updated r) ms)) parts.0 (common-update name id r ms parts.1 e)
    ]

pub common-seated : (name : List ℕ) (new : Member) (ms : List Member) → is_common ms name ≡ true → offers name new ≡ true → is_common (seating new ms) name ≡ true
unfolding is_common seating
common-seated name new [] h e = refl
common-seated name new (m ∷ ms) h e =
    let parts = and_parts (offers name m) (list_all (offers name) ms) h in
    let rest = common-seated name new ms parts.1 e in
    elim (has_instance new.instance m) as (λ b. list_all (offers name) ((if b then new else m) ∷ map (seated new) ms) ≡ true) [
      | true ↦ and_from (offers name new) (list_all (offers name) (map (seated new) ms)) e rest
      | false ↦ and_from (offers name m) (list_all (offers name) (map (seated new) ms)) parts.0 rest
    ]

-- one of the protocols passes the test
any_witness : (p : List ℕ → Bool) (ps : List Protocol) → list_any (λ q. p q.name) ps ≡ true → (name : List ℕ) × (p name ≡ true) × (offered name ps ≡ true)
any_witness p [] e = cc
any_witness p (q ∷ qs) e =
    (elim (p q.name) as (λ b. p q.name ≡ b → (b || list_any (λ q. p q.name) qs) ≡ true → (name : List ℕ) × (p name ≡ true) × (list_any (λ q. is_same q.name name) (q ∷ qs) ≡ true)) [
      | true ↦ λ h _. (q.name, h, or_left (is_same q.name q.name) (list_any (λ z. is_same z.name q.name) qs) (same_self q.name))
      | false ↦ λ _ k. let w = any_witness p qs k in (w.0, w.1, or_right (is_same q.name w.0) (list_any (λ z. is_same z.name w.0) qs) w.2)
    ]) refl e

common-empty : (ms : List Member) (name : List ℕ) → is_empty ms ≡ true → is_common ms name ≡ true
unfolding is_common
common-empty [] name e = refl
common-empty (m ∷ ms) name e = cc

-- a JOIN that is not refused by 23 has a protocol in common with the members
pub record Suits (r : JoinRequest) (ms : List Member) : Type 0 where
  pub name : List ℕ
  pub common : is_common ms name ≡ true
  pub offers : offered name r.protocols ≡ true

pub suits_empty : (r : JoinRequest) (ms : List Member) → list_any (λ p. true) r.protocols ≡ true → is_empty ms ≡ true → Suits r ms
suits_empty r ms some e = let w = any_witness (λ _. true) r.protocols some in record { name = w.0; common = common-empty ms w.0 e; offers = w.2 }

not_false_parts : (a b : Bool) → (not a || not b) ≡ false → b ≡ true
not_false_parts a b e = not-false b (or_parts (not a) (not b) e).1

pub suits_consistent : (r : JoinRequest) (g : Group) → list_any (λ p. true) r.protocols ≡ true → is_inconsistent r g ≡ false → Suits r g.members
unfolding is_inconsistent
suits_consistent r g some e =
    (elim (is_empty g.members) as (λ b. is_empty g.members ≡ b → (not b && (not (is_named g.kind r.kind) || not (list_any (λ p. is_common g.members p.name) r.protocols))) ≡ false → Suits r g.members) [
      | true ↦ λ empty _. suits_empty r g.members some empty
      | false ↦ λ _ k.
          let w = any_witness (is_common g.members) r.protocols (not_false_parts (is_named g.kind r.kind) (list_any (λ p. is_common g.members p.name) r.protocols) k) in
          record { name = w.0; common = w.1; offers = w.2 }
    ]) refl e

-- records

kind_recorded : (g : Group) (r : GroupRecord) (roster : RecordedMembers) → IsRecordedAs r roster g → is_some g.kind ≡ true
kind_recorded g r (recorded.Roster roster) h = ap is_some (sym h.kind)
kind_recorded g r (recorded.Empty moment) h = ap is_some (sym h.kind)

kind_told : (g : Group) (o : Option GroupRecord) → is_empty g.members ≡ false → TellsOf g o → is_some g.kind ≡ true
kind_told g None filled h = absurd (false≢true (sym filled ∙ ap is_empty h.members))
kind_told g (Some r) filled h = kind_recorded g r r.members h

pub kind_holds : (p : Phase) (g : Group) (o : Option GroupRecord) → is_empty g.members ≡ false → Holds p g o → is_some g.kind ≡ true
kind_holds Stable g o filled h = kind_told g o filled h
kind_holds Empty g o filled h = kind_told g o filled h
kind_holds Preparing g o filled h = h
kind_holds Completing g o filled h = h.0

nil_from_map : {A : Type 0} (f : Member → A) (ms ns : List Member) → map f ms ≡ map f ns → ns ≡ [] → ms ≡ []
nil_from_map f [] ns e h = refl
nil_from_map f (m ∷ ms) ns e h = let bad : f m ∷ map f ms ≡ [] = e ∙ ap (map f) h in cc

recorded-members : (g : Group) (ms : List Member) (r : GroupRecord) (roster : RecordedMembers) → map (kept_member g.protocol) ms ≡ map (kept_member g.protocol) g.members → IsRecordedAs r roster g → IsRecordedAs r roster (record g { members = ms })
recorded-members g ms r (recorded.Roster roster) e h = record { phase = h.phase; generation = h.generation; kind = h.kind; protocol = h.protocol; leader = h.leader; members = h.members ∙ sym e }
recorded-members g ms r (recorded.Empty moment) e h = record { phase = h.phase; generation = h.generation; kind = h.kind; protocol = h.protocol; leader = h.leader; members = nil_from_map (kept_member g.protocol) ms g.members e h.members; emptied = h.emptied }

told-members : (g : Group) (ms : List Member) (o : Option GroupRecord) → map (kept_member g.protocol) ms ≡ map (kept_member g.protocol) g.members → TellsOf g o → TellsOf (record g { members = ms }) o
told-members g ms None e h = record { phase = h.phase; generation = h.generation; kind = h.kind; protocol = h.protocol; leader = h.leader; members = nil_from_map (kept_member g.protocol) ms g.members e h.members }
told-members g ms (Some r) e h = recorded-members g ms r r.members e h

holds-members : (p : Phase) (g : Group) (ms : List Member) (o : Option GroupRecord) → map (kept_member g.protocol) ms ≡ map (kept_member g.protocol) g.members → Holds p g o → Holds p (record g { members = ms }) o
holds-members Stable g ms o e h = told-members g ms o e h
holds-members Empty g ms o e h = told-members g ms o e h
holds-members Preparing g ms o e h = h
holds-members Completing g ms o e h = h

-- the group with other moments last heard and other parked calls
pub whole-members : (events : List (Event × ℕ)) (offsets : OffsetMap) (g : Group) (ms : List Member) (o : Option GroupRecord) → map (λ m. m.protocols) ms ≡ map (λ m. m.protocols) g.members → map (kept_member g.protocol) ms ≡ map (kept_member g.protocol) g.members
    → AllWaits (is_named_wait events g.id g.generation) ms → (is_preparing g.phase ≡ true → AllWaits no_sync ms) → Whole events offsets g o → Whole events offsets (record g { members = ms }) o
whole-members events offsets g ms o protocols kept named quiet h = record {
  common = common-map ms g.members protocols h.common;
  holds = holds-members g.phase g ms o kept h.holds;
  named = named;
  quiet = quiet;
  typed = h.typed;
}

empty_recorded : (g : Group) (r : GroupRecord) (roster : RecordedMembers) → g.phase ≡ Empty → IsRecordedAs r roster g → g.members ≡ []
empty_recorded g r (recorded.Roster roster) p h = let bad : Stable ≡ Empty = sym h.phase ∙ p in cc
empty_recorded g r (recorded.Empty moment) p h = h.members

empty_told : (g : Group) (o : Option GroupRecord) → g.phase ≡ Empty → TellsOf g o → g.members ≡ []
empty_told g None p h = h.members
empty_told g (Some r) p h = empty_recorded g r r.members p h

-- a group in Empty has no members
pub empty_members : (events : List (Event × ℕ)) (offsets : OffsetMap) (g : Group) (o : Option GroupRecord) → Whole events offsets g o → g.phase ≡ Empty → g.members ≡ []
empty_members events offsets g o h p = let P : Phase → Type 0 = λ x. Holds x g o in empty_told g o p (subst P p h.holds)

pub joining_from : (events : List (Event × ℕ)) (offsets : OffsetMap) (g : Group) (o : Option GroupRecord) → Whole events offsets g o → g.phase ≡ Preparing → Joining g
joining_from events offsets g o h p = let P : Phase → Type 0 = λ x. Holds x g o in record { phase = p; kind = subst P p h.holds; common = h.common; quiet = h.quiet (is_preparing_from g.phase p) }

whole_joining : (events : List (Event × ℕ)) (offsets : OffsetMap) (g : Group) (o : Option GroupRecord) → Joining g → Whole events offsets g o
whole_joining events offsets g o j = let P : Phase → Type 0 = λ x. Holds x g o in record {
  common = j.common;
  holds = subst P (sym j.phase) j.kind;
  named = all-named events g.id g.generation g.members j.quiet;
  quiet = λ _. j.quiet;
  typed = has_kind g.kind j.kind;
}

emptied_tells : (now : ℕ) (g : Group) (kept : Kept) (id : List ℕ) → g.id ≡ id → g.phase ≡ Empty → g.emptied ≡ Some now → g.protocol ≡ None → g.leader ≡ None → g.members ≡ [] → is_some g.kind ≡ true → IsCompleted g → TellsOf g (kept_after kept (emptied_command now g) id)
unfolding emptied_command
emptied_tells now g kept id named phase moment protocol leader members kind complete_join =
    let P : Option ℕ → Type 0 = λ n. TellsOf g (kept_after kept (option_to_list (option_and_then (λ generation. option_map (λ kind. command.Emptied (record { group = g.id; generation = generation; kind = kind; moment = Some now })) g.kind) n)) id) in
    subst P (sym complete_join) (go g.kind refl kind)
  where
    go : (k : Option (List ℕ)) → k ≡ g.kind → is_some k ≡ true → TellsOf g (kept_after kept (option_to_list (option_map (λ kind. command.Emptied (record { group = g.id; generation = g.generation; kind = kind; moment = Some now })) k)) id)
    go None e h = absurd (false≢true h)
    go (Some k) e h =
        let P : Option GroupRecord → Type 0 = λ o. TellsOf g o in
        subst P (sym (kept_after-one kept (command.Emptied (record { group = g.id; generation = g.generation; kind = k; moment = Some now })) id named)) (record { phase = phase; generation = refl; kind = e; protocol = protocol; leader = leader; members = members; emptied = moment })

pub assigned_tells : (g : Group) (kept : Kept) (id : List ℕ) → g.id ≡ id → g.phase ≡ Stable → is_some g.kind ≡ true → is_some g.protocol ≡ true → is_some g.leader ≡ true → IsCompleted g → TellsOf g (kept_after kept (assigned_command g) id)
unfolding assigned_command
assigned_tells g kept id named phase kind protocol leader complete_join =
    let P : Option ℕ → Type 0 = λ n. TellsOf g (kept_after kept (option_to_list (option_and_then (λ generation. option_and_then (λ kind. option_and_then (λ protocol. option_map (λ leader. command.Assigned (record { group = g.id; generation = generation; kind = kind; roster = kept_roster protocol leader g })) g.leader) g.protocol) g.kind) n)) id) in
    subst P (sym complete_join) (go g.kind g.protocol g.leader refl refl refl kind protocol leader)
  where
    go : (k p l : Option (List ℕ)) → k ≡ g.kind → p ≡ g.protocol → l ≡ g.leader → is_some k ≡ true → is_some p ≡ true → is_some l ≡ true → TellsOf g (kept_after kept (option_to_list (option_and_then (λ kind. option_and_then (λ protocol. option_map (λ leader. command.Assigned (record { group = g.id; generation = g.generation; kind = kind; roster = kept_roster protocol leader g })) l) p) k)) id)
    go None p l ek ep el hk hp hl = absurd (false≢true hk)
    go (Some k) None l ek ep el hk hp hl = absurd (false≢true hp)
    go (Some k) (Some p) None ek ep el hk hp hl = absurd (false≢true hl)
    go (Some k) (Some p) (Some l) ek ep el hk hp hl =
        let P : Option GroupRecord → Type 0 = λ o. TellsOf g o in
        subst P (sym (kept_after-one kept (command.Assigned (record { group = g.id; generation = g.generation; kind = k; roster = kept_roster p l g })) id named)) (record { phase = phase; generation = refl; kind = ek; protocol = ep; leader = el; members = refl })

-- the generation after a completed rebalance
next_is_completed : (n : ℕ) → completed_generation (next_generation n) ≡ Some (next_generation n)
next_is_completed n = elim (nat_lt n GENERATION_MAX) as (λ b. completed_generation (if b then n + 1 else 1) ≡ Some (if b then n + 1 else 1)) [ true ↦ is_completed (n + 1) (omega arith) | false ↦ refl ]
  where
    is_completed : (k : ℕ) → 1 ≤ k → completed_generation k ≡ Some k
    is_completed k h = grind (arith, nat_tests)

pub empty_is : (ms : List Member) → is_empty ms ≡ true → ms ≡ []
empty_is [] e = refl
empty_is (m ∷ ms) e = cc

-- stages

module _ (events : List (Event × ℕ)) (offsets : OffsetMap) (kept : Kept) (id : List ℕ) where
  -- the fact after a step in the group with this id
  abbrev pub After : Turn → Type 0
  After t = Whole events offsets t.group (kept_after kept t.commands id)

  after-emptied : (now : ℕ) (t : Turn) → t.group.id ≡ id → is_empty t.group.members ≡ true → Joining t.group → After (emptied now t)
  unfolding emptied
  after-emptied now t named empty j =
      let g : Group = (emptied now t).group in
      let P : Kept → Type 0 = λ k. TellsOf g (k id) in
      record {
        common = j.common;
        holds = subst P (sym (kept_after-append kept t.commands (emptied_command now g))) (emptied_tells now g (kept_after kept t.commands) id named refl refl refl refl (empty_is t.group.members empty) j.kind (next_is_completed t.group.generation));
        named = all-named events g.id g.generation t.group.members j.quiet;
        quiet = λ e. absurd (false≢true e);
        typed = has_kind g.kind j.kind;
      }

  after-round : (now : ℕ) (t : Turn) → is_empty t.group.members ≡ false → Joining t.group → After (reply_to_joins now (record t { group = init_next_generation t.group }))
  unfolding reply_to_joins init_next_generation
  after-round now t filled j = record {
    common = common-map (after_answers Joins now t.group.members) t.group.members (keep-after_answers (λ m. m.protocols) lasting_protocols Joins now t.group.members) j.common;
    holds = (j.kind, elected_is t.group.members j.common filled, next_is_completed t.group.generation);
    named = all-named events (init_next_generation t.group).id (init_next_generation t.group).generation (after_answers Joins now t.group.members) (waits-after_answers no_sync (λ _. refl) Joins now t.group.members j.quiet);
    quiet = λ e. absurd (false≢true e);
    typed = has_kind t.group.kind j.kind;
  }

  pub after-completed : (now : ℕ) (t : Turn) → t.group.id ≡ id → Joining t.group → After (complete_join now t)
  unfolding complete_join
  after-completed now t named j =
      (elim (is_empty t.group.members) as (λ b. is_empty t.group.members ≡ b → After (if b then emptied now t else reply_to_joins now (record t { group = init_next_generation t.group }))) [
        | true ↦ λ e. after-emptied now t named e j
        | false ↦ λ e. after-round now t e j
      ]) refl

  pub after-tried : (now : ℕ) (t : Turn) → t.group.id ≡ id → Joining t.group → After (try_complete_join now t)
  unfolding try_complete_join
  after-tried now t named j = elim (is_ready t.group) as (λ b. After (if b then complete_join now t else t)) [ true ↦ after-completed now t named j | false ↦ whole_joining events offsets t.group (kept_after kept t.commands id) j ]

  pub after-ended : (now : ℕ) (t : Turn) → t.group.id ≡ id → Joining t.group → After (ended now t)
  unfolding ended
  after-ended now t named j =
      elim (can_complete t.group.members) as (λ b. After (if b then complete_join now t else record t { group = record t.group { started = now } })) [
        | true ↦ after-completed now t named j
        | false ↦ whole_joining events offsets (record t.group { started = now }) (kept_after kept t.commands id) (record { phase = j.phase; kind = j.kind; common = j.common; quiet = j.quiet })
      ]

  joining-prepared : (now : ℕ) (t : Turn) → is_some t.group.kind ≡ true → HasCommon t.group.members → Joining (prepare_rebalance now t).group
  unfolding prepare_rebalance
  joining-prepared now t kind common = record {
    phase = refl;
    kind = kind;
    common = common-map (after_answers Syncs now t.group.members) t.group.members (keep-after_answers (λ m. m.protocols) lasting_protocols Syncs now t.group.members) common;
    quiet = no_sync-after_answers now t.group.members;
  }

  pub joining-in_join_phase : (now : ℕ) (t : Turn) → is_some t.group.kind ≡ true → HasCommon t.group.members → (is_preparing t.group.phase ≡ true → AllWaits no_sync t.group.members) → Joining (in_join_phase now t).group
  joining-in_join_phase now t kind common quiet =
      (elim (is_preparing t.group.phase) as (λ b. is_preparing t.group.phase ≡ b → Joining (if b then t else prepare_rebalance now t).group) [
        | true ↦ λ e. record { phase = preparing_is t.group.phase e; kind = kind; common = common; quiet = quiet e }
        | false ↦ λ e. joining-prepared now t kind common
      ]) refl

  pub joining-waiting : (now : ℕ) (own : List ℕ) (ticket : Ticket) (t : Turn) → Joining t.group → Joining (waiting now own (Join ticket) t).group
  unfolding waiting
  joining-waiting now own ticket t j = record {
    phase = j.phase;
    kind = j.kind;
    common = common-map (with_member own (waits_with now (Join ticket)) t.group.members) t.group.members (map-with_member (λ m. m.protocols) own (waits_with now (Join ticket)) (λ m. refl) t.group.members) j.common;
    quiet = waits-with_member no_sync own (waits_with now (Join ticket)) (λ m _ _. refl) t.group.members j.quiet;
  }

  pub after-hearing : (now : ℕ) (own : List ℕ) (g : Group) → Whole events offsets g (kept id) → Whole events offsets (hearing now own g) (kept id)
  unfolding hearing
  after-hearing now own g h =
      whole-members events offsets g (with_member own (heard now) g.members) (kept id)
      (map-with_member (λ m. m.protocols) own (heard now) (λ m. refl) g.members)
      (map-with_member (kept_member g.protocol) own (heard now) (λ m. refl) g.members)
      (waits-with_member (is_named_wait events g.id g.generation) own (heard now) (λ m _ e. e) g.members h.named)
      (λ p. waits-with_member no_sync own (heard now) (λ m _ e. e) g.members (h.quiet p)) h

  after-reply_to_syncs : (now : ℕ) (t : Turn) → After t → After (reply_to_syncs now t)
  unfolding reply_to_syncs
  after-reply_to_syncs now t h =
      whole-members events offsets t.group (after_answers Syncs now t.group.members) (kept_after kept t.commands id)
      (keep-after_answers (λ m. m.protocols) lasting_protocols Syncs now t.group.members)
      (keep-after_answers (kept_member t.group.protocol) (lasting_kept t.group.protocol) Syncs now t.group.members)
      (waits-after_answers (is_named_wait events t.group.id t.group.generation) (λ _. refl) Syncs now t.group.members h.named)
      (λ p. no_sync-after_answers now t.group.members) h

  pub after-distributed : (now : ℕ) (entries : List SyncEntry) (t : Turn) → t.group.id ≡ id → is_some t.group.kind ≡ true → is_some t.group.protocol ≡ true → is_some t.group.leader ≡ true → IsCompleted t.group → HasCommon t.group.members → AllWaits (is_named_wait events t.group.id t.group.generation) t.group.members → After (propagate_assignment now entries t)
  unfolding propagate_assignment assigning
  after-distributed now entries t named kind protocol leader complete_join common waits =
      let g : Group = assigning entries t.group in
      let P : Kept → Type 0 = λ k. TellsOf g (k id) in
      after-reply_to_syncs now (record { group = g; replies = t.replies; commands = t.commands ++ assigned_command g }) (record {
        common = common-map (map (assigned entries) t.group.members) t.group.members (map-same (λ m. m.protocols) (assigned entries) (λ m. refl) t.group.members) common;
        holds = subst P (sym (kept_after-append kept t.commands (assigned_command g))) (assigned_tells g (kept_after kept t.commands) id named refl kind protocol leader complete_join);
        named = waits-assigned (is_named_wait events t.group.id t.group.generation) entries t.group.members waits;
        quiet = λ e. absurd (false≢true e);
        typed = has_kind t.group.kind kind;
      })

  id-prepared : (now : ℕ) (t : Turn) → (prepare_rebalance now t).group.id ≡ t.group.id
  unfolding prepare_rebalance
  id-prepared now t = refl

  joined_or_joining : (p : Phase) → has_joined p ≡ false → (p ≡ Empty → ⊥) → p ≡ Preparing
  joined_or_joining Empty e n = absurd (n refl)
  joined_or_joining Preparing e n = refl
  joined_or_joining Completing e n = cc
  joined_or_joining Stable e n = cc

  pub after-after_removal : (now : ℕ) (t : Turn) → t.group.id ≡ id → is_some t.group.kind ≡ true → HasCommon t.group.members → (is_preparing t.group.phase ≡ true → AllWaits no_sync t.group.members) → (t.group.phase ≡ Empty → ⊥) → After (after_removal now t)
  unfolding after_removal
  after-after_removal now t named kind common quiet filled =
      (elim (has_joined t.group.phase) as (λ b. has_joined t.group.phase ≡ b → After (try_complete_join now (if b then prepare_rebalance now t else t))) [
        | true ↦ λ e. after-tried now (prepare_rebalance now t) (id-prepared now t ∙ named) (joining-prepared now t kind common)
        | false ↦ λ e. let p : t.group.phase ≡ Preparing = joined_or_joining t.group.phase e filled in after-tried now t named (record { phase = p; kind = kind; common = common; quiet = quiet (is_preparing_from t.group.phase p) })
      ]) refl
