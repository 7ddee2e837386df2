-- A replacement in a group has the same effect as its command on the group's record.
use Rattle.std.proofs.Common.{◌≡◌, ℕ, Bool, true, false, not, ◌&&◌, ◌||◌, List, [], ◌∷◌, map, find, cond, is_some, refl, sym, ap, ◌∙◌, subst, Option, Some, None}
use Rattle.std.specs.Prelude.{if◌then◌else◌}
use Rattle.std.specs.List.{list_any}
use Rattle.std.specs.Option.{option_map}
use Rattle.std.proofs.lemmas.Bool.{and_from, or_from, or_parts}
use Rattle.std.proofs.lemmas.Cmp.{nat_list_eq_equiv}
use Rattle.cg_record.specs.declared.member_record.MemberRecord.{MemberRecord}
use Rattle.cg_record.specs.Rosters.{RosterParts, has_id_of_other, is_one_instance, leader_after, leads_and_goes as record_goes, may_replace, replaced_in, roster_of, seated as record_seated, takes_place_of}
use Rattle.cg_fold.specs.declared.group_record.GroupRecord.{GroupRecord}
use Rattle.cg_fold.specs.declared.group_record.RecordedMembers.{RecordedMembers}
use Rattle.cg_fold.specs.declared.group_record.RecordedMembers.TheVariants as recorded
use Rattle.cg_fold.specs.Record.{replaced_members, replaced_record}
use Rattle.cg_group_state.specs.declared.group.Group.{Group}
use Rattle.cg_group_state.specs.declared.group.Phase.TheVariants.{Empty, Stable}
use Rattle.cg_group_state.specs.declared.member.Member.{Member}
use Rattle.cg_request.specs.declared.request_fields.JoinRequest.{JoinRequest}
use Rattle.cg_group_rules.specs.Join.{new_member}
use Rattle.cg_group.specs.Laws.{IsAssignedAs, IsRecordedAs, TellsOf}
use Rattle.cg_group_state.specs.Members.{ids}
use Rattle.cg_group_state.specs.Membership.{find_instance, find_member, has_instance, is_named, is_same, seated, seating}
use Rattle.cg_group_rules.specs.StaticMember.{leads_and_goes, replacing, successor}
use Rattle.cg_group_rules.specs.Sync.{kept_member}
use Rattle.cg_group_state.proofs.Together.{fresh_from_find}
use Rattle.cg_group_table.proofs.Finding.{any_found}

-- a found element passes the test
pub found_passes : (p : Member → Bool) (ms : List Member) (m : Member) → find p ms ≡ Some m → p m ≡ true
found_passes p [] m e = cc
found_passes p (x ∷ xs) m e =
    (elim (p x) as (λ b. p x ≡ b → cond b (Some x) (find p xs) ≡ Some m → p m ≡ true) [
      | true ↦ λ h e. let same : x ≡ m = cc in let Q : Member → Type 0 = λ y. p y ≡ true in subst Q same h
      | false ↦ λ h e. found_passes p xs m e
    ]) refl e

-- the command and the machine compare instances alike
takes_same : (o : Option (List ℕ)) (m : Member) → is_one_instance m.instance o ≡ has_instance o m
takes_same None m = none_at m.instance
  where
    none_at : (own : Option (List ℕ)) → is_one_instance own None ≡ false
    none_at None = refl
    none_at (Some j) = refl
takes_same (Some i) m = some_at m.instance
  where
    some_at : (own : Option (List ℕ)) → is_one_instance own (Some i) ≡ is_named own i
    some_at None = refl
    some_at (Some j) = refl

module _ (p : Option (List ℕ)) (new : Member) where
  abbrev kept : Member → MemberRecord
  kept m = kept_member p m

  kept_seated : (m : Member) → record_seated (kept new) (kept m) ≡ kept (seated new m)
  kept_seated m =
      ap (λ b. if b then kept new else kept m) (takes_same new.instance m)
      ∙ (elim (has_instance new.instance m) as (λ b. (if b then kept new else kept m) ≡ kept (if b then new else m)) [ true ↦ refl | false ↦ refl ])

  kept_seating : (ms : List Member) → map (record_seated (kept new)) (map kept ms) ≡ map kept (map (seated new) ms)
  kept_seating [] = refl
  kept_seating (m ∷ ms) = ap (λ x. x ∷ map (record_seated (kept new)) (map kept ms)) (kept_seated m) ∙ ap (λ xs. kept (seated new m) ∷ xs) (kept_seating ms)

  any_takes : (ms : List Member) → list_any (takes_place_of (kept new)) (map kept ms) ≡ list_any (has_instance new.instance) ms
  any_takes [] = refl
  any_takes (m ∷ ms) = ap (λ b. b || list_any (takes_place_of (kept new)) (map kept ms)) (takes_same new.instance m) ∙ ap (λ b. has_instance new.instance m || b) (any_takes ms)

  no_other : (ms : List Member) → list_any (λ y. is_same y new.id) (ids ms) ≡ false → list_any (has_id_of_other (kept new)) (map kept ms) ≡ false
  no_other [] e = refl
  no_other (m ∷ ms) e =
      let parts = or_parts (is_same m.id new.id) (list_any (λ y. is_same y new.id) (ids ms)) e in
      or_from (has_id_of_other (kept new) (kept m)) (list_any (has_id_of_other (kept new)) (map kept ms)) (ap (λ b. b && not (takes_place_of (kept new) (kept m))) parts.0) (no_other ms parts.1)

  any_goes : (g : Group) (leader : List ℕ) → Some leader ≡ g.leader → (ms : List Member) → list_any (record_goes (kept new) leader) (map kept ms) ≡ list_any (leads_and_goes new g) ms
  any_goes g leader e [] = refl
  any_goes g leader e (m ∷ ms) =
      ap (λ b. (b && is_same m.id leader) || list_any (record_goes (kept new) leader) (map kept ms)) (takes_same new.instance m)
      ∙ ap (λ b. (has_instance new.instance m && b) || list_any (record_goes (kept new) leader) (map kept ms)) (nat_list_eq_equiv.symm m.id leader ∙ ap (λ o. is_named o m.id) e)
      ∙ ap (λ b. leads_and_goes new g m || b) (any_goes g leader e ms)

replaced_is : (new : MemberRecord) (roster : RosterParts) → may_replace new roster.members ≡ true → replaced_in new roster ≡ roster_of roster.protocol (leader_after new roster) (map (record_seated new) roster.members)
unfolding replaced_in
replaced_is new roster may = ap (λ b. if b then roster_of roster.protocol (leader_after new roster) (map (record_seated new) roster.members) else roster) may

leader_same : (new : Member) (g : Group) (roster : RosterParts) → Some roster.leader ≡ g.leader → roster.members ≡ map (kept_member g.protocol) g.members → Some (leader_after (kept_member g.protocol new) roster) ≡ (if list_any (leads_and_goes new g) g.members then Some new.id else g.leader)
leader_same new g roster e members =
    ap (λ b. Some (if b then new.id else roster.leader)) (ap (list_any (record_goes (kept_member g.protocol new) roster.leader)) members ∙ any_goes g.protocol new g roster.leader e g.members)
    ∙ (elim (list_any (leads_and_goes new g) g.members) as (λ b. Some (if b then new.id else roster.leader) ≡ (if b then Some new.id else g.leader)) [ true ↦ refl | false ↦ e ])

assigned-replacing : (new : Member) (g : Group) (r : GroupRecord) (roster : RosterParts) → may_replace (kept_member g.protocol new) (map (kept_member g.protocol) g.members) ≡ true → IsAssignedAs r roster g → IsAssignedAs (replaced_record (kept_member g.protocol new) r) (replaced_in (kept_member g.protocol new) roster) (replacing new g)
unfolding replacing seating
assigned-replacing new g r roster may h =
    let k : MemberRecord = kept_member g.protocol new in
    let Q : RosterParts → Type 0 = λ x. IsAssignedAs (replaced_record k r) x (replacing new g) in
    subst Q (sym (replaced_is k roster (ap (may_replace k) h.members ∙ may))) record {
      phase = h.phase;
      generation = h.generation;
      kind = h.kind;
      protocol = h.protocol;
      leader = leader_same new g roster h.leader h.members;
      members = ap (map (record_seated k)) h.members ∙ kept_seating g.protocol new g.members;
    }

recorded-replacing : (new : Member) (g : Group) (r : GroupRecord) (roster : RecordedMembers) → g.phase ≡ Stable → may_replace (kept_member g.protocol new) (map (kept_member g.protocol) g.members) ≡ true → IsRecordedAs r roster g → IsRecordedAs (replaced_record (kept_member g.protocol new) r) (replaced_members (kept_member g.protocol new) roster) (replacing new g)
recorded-replacing new g r (recorded.Empty moment) p may h = let bad : Empty ≡ Stable = sym h.phase ∙ p in cc
recorded-replacing new g r (recorded.Roster roster) p may h = assigned-replacing new g r roster may h

-- the record of a stable group agrees with it after the command has replaced the member
pub told-replacing : (new : Member) (g : Group) (o : Option GroupRecord) → g.phase ≡ Stable → may_replace (kept_member g.protocol new) (map (kept_member g.protocol) g.members) ≡ true → TellsOf g o → TellsOf (replacing new g) (option_map (replaced_record (kept_member g.protocol new)) o)
told-replacing new g None p may h = let bad : Empty ≡ Stable = sym h.phase ∙ p in cc
told-replacing new g (Some r) p may h = recorded-replacing new g r r.members p may h

-- the replacement is allowed: one member has the instance, and no other has the id
pub successor_may : (now : ℕ) (r : JoinRequest) (id : List ℕ) (old : Member) (g : Group) → is_some (find_member id g.members) ≡ false → find_instance r.instance g.members ≡ Some old → may_replace (kept_member g.protocol (successor now r id old)) (map (kept_member g.protocol) g.members) ≡ true
unfolding find_instance new_member
successor_may now r id old g own found =
    let new : Member = successor now r id old in
    let k : MemberRecord = kept_member g.protocol new in
    and_from (list_any (takes_place_of k) (map (kept_member g.protocol) g.members)) (not (list_any (has_id_of_other k) (map (kept_member g.protocol) g.members)))
    (any_takes g.protocol new g.members ∙ any_found (has_instance r.instance) (has_instance r.instance) g.members old found (found_passes (has_instance r.instance) g.members old found))
    (ap not (no_other g.protocol new g.members (fresh_from_find id g.members own)))
