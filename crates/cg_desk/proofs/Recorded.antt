-- Lawful commands make lawful records.
use Rattle.std.proofs.Common.{◌≡◌, ◌≤◌, ℕ, Bool, true, false, cond, not, List, [], ◌∷◌, map, Option, None, Some, IfSome, refl, sym, ap, subst}
use Rattle.std.specs.List.{list_any}
use Rattle.std.specs.Ordering.{eq_by_cmp}
use Rattle.std.specs.FinMap as finmap
use Rattle.std.proofs.lemmas.Bool.{and_parts, not-true}
use Rattle.cg_fold.specs.declared.group_record.GroupRecord.{GroupRecord}
use Rattle.cg_fold.specs.declared.group_record.RecordedMembers.{RecordedMembers}
use Rattle.cg_fold.specs.declared.group_record.RecordedMembers.TheVariants as recorded
use Rattle.cg_fold.specs.Durable.{State, after, effect, empty, with_member, with_record}
use Rattle.cg_fold.specs.Grouped.{is_another}
use Rattle.cg_fold.specs.Key.{name_cmp}
use Rattle.cg_fold.specs.Record.{assigned_record, emptied_record, replaced_members, replaced_record, roster_in}
use Rattle.cg_fold.proofs.KeyOrder.{name_same, name_total}
use Rattle.cg_group_table.specs.Kept.{AreRecords, IsRecord, kept_in}
use Rattle.cg_record.specs.declared.command.Command.{Command}
use Rattle.cg_record.specs.declared.command.Command.TheVariants.{Assigned, Emptied, Replaced, Committed, Deleted, Dropped, Expired}
use Rattle.cg_record.specs.declared.member_record.MemberRecord.{MemberRecord}
use Rattle.cg_record.specs.Lawful.{AreCommands, IsCommand}
use Rattle.cg_record.specs.Rosters.{IsRoster, RosterParts, has_id_of_other, leader_after, may_replace, replaced_in, roster_of, seated, takes_place_of}
use Rattle.cg_record.proofs.Replacing.{seated_roster}
use Rattle.cg_store.specs.Carried.{AreMade}
use Rattle.cg_desk.specs.Laws.{CommandsMakeRecords}

-- a member may replace another
roster-at : (may : Bool) (new : MemberRecord) (roster : RosterParts) → may_replace new roster.members ≡ may → IsRoster roster
    → IsRoster (cond may (roster_of roster.protocol (leader_after new roster) (map (seated new) roster.members)) roster)
roster-at true new roster is h =
    let parts = and_parts (list_any (takes_place_of new) roster.members) (not (list_any (has_id_of_other new) roster.members)) is in
    seated_roster new roster h parts.0 (not-true (list_any (has_id_of_other new) roster.members) parts.1)
roster-at false new roster is h = h

replaced-roster : (new : MemberRecord) (o : RecordedMembers) → IfSome (roster_in o) IsRoster → IfSome (roster_in (replaced_members new o)) IsRoster
unfolding replaced_in
replaced-roster new (recorded.Empty moment) h = tt
replaced-roster new (recorded.Roster roster) h = roster-at (may_replace new roster.members) new roster refl h

-- a lawful record of a generation above 0
abbrev pub IsSound : GroupRecord → Type 0
IsSound r = IsRecord r × (1 ≤ r.generation)

abbrev pub AreSound : State → Type 0
AreSound state = (group : List ℕ) → IfSome (kept_in state group) IsSound

-- a record is set
set-lawful : (state : State) (group : List ℕ) (r : GroupRecord) → AreSound state → IsSound r → AreSound (with_record state group r)
set-lawful state group r h is q =
    subst (λ (o : Option GroupRecord). IfSome o IsSound) (sym (finmap.get-insert name_total state.records group r q)) (either (eq_by_cmp name_cmp q group))
  where
    either : (b : Bool) → IfSome (cond b (Some r) (kept_in state q)) IsSound
    either true = is
    either false = h q

member-lawful : (state : State) (group : List ℕ) (new : MemberRecord) (o : Option GroupRecord) → IfSome o IsSound → AreSound state → AreSound (with_member state group new o)
member-lawful state group new None is h = h
member-lawful state group new (Some r) is h = set-lawful state group (replaced_record new r) h (replaced-roster new r.members is.0, is.1)

gone-lawful : (state : State) (group : List ℕ) → AreSound state → (q : List ℕ) → IfSome (finmap.get (finmap.retain_keys state.records (is_another group)) q) IsSound
gone-lawful state group h q =
    subst (λ (o : Option GroupRecord). IfSome o IsSound)
    (sym (finmap.get-retain_keys state.records (is_another group) q (λ x tie. ap (is_another group) (sym (name_same q x tie))))) (either (is_another group q))
  where
    either : (b : Bool) → IfSome (cond b (kept_in state q) None) IsSound
    either true = h q
    either false = tt

effect-lawful : (state : State) (c : Command) → IsCommand c → AreSound state → AreSound (effect state c)
unfolding effect
effect-lawful state (Assigned a) is h = set-lawful state a.group (assigned_record a) h (is.roster.together, is.started)
effect-lawful state (Emptied e) is h = set-lawful state e.group (emptied_record e) h (tt, is.started)
effect-lawful state (Replaced r) is h = member-lawful state r.group r.member (finmap.get state.records r.group) (h r.group) h
effect-lawful state (Committed c) is h = h
effect-lawful state (Deleted d) is h = gone-lawful state d.group h
effect-lawful state (Expired e) is h = h
effect-lawful state (Dropped d) is h = h

after-lawful : (commands : List Command) (state : State) → AreCommands commands → AreSound state → AreSound (after state commands)
after-lawful [] state lawful h = h
after-lawful (c ∷ cs) state lawful h = after-lawful cs (effect state c) lawful.1 (effect-lawful state c lawful.0 h)

empty-lawful : AreSound empty
empty-lawful q = subst (λ (o : Option GroupRecord). IfSome o IsSound) (sym (finmap.get-empty name_cmp q)) tt

-- the records that lawful commands make
pub made-sound : (state : State) → AreMade state → AreSound state
made-sound state made = subst AreSound (sym made.state_is) (after-lawful made.commands empty made.lawful empty-lawful)

pub sound-records : (state : State) → AreSound state → AreRecords state
sound-records state h group = by-record (kept_in state group) (h group)
  where
    by-record : (o : Option GroupRecord) → IfSome o IsSound → IfSome o IsRecord
    by-record None is = tt
    by-record (Some r) is = is.0

pub commands_make_records : CommandsMakeRecords
commands_make_records state made = sound-records state (made-sound state made)

-- a state without commands has no record
pub empty-records : (state : State) → state ≡ empty → AreRecords state
empty-records state is = subst AreRecords (sym is) (sound-records empty empty-lawful)
