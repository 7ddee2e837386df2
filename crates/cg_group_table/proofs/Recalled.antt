-- The members of a lawful record are lawful members of a group.
use Rattle.std.proofs.Common.{◌≡◌, ℕ, ◌≤◌, true, false, not, List, [], ◌∷◌, ◌++◌, map, refl, sym, ap, ◌∙◌, subst, Option, Some, None}
use Rattle.std.specs.List.{list_any, flat_map, AllByRecursion, IsDistinct}
use Rattle.std.specs.Option.{option_to_list}
use Rattle.std.proofs.lemmas.Bool.{and_from, or_parts, or_from, not_from_false}
use Rattle.std.proofs.lemmas.List.{length-map}
use Rattle.cg_record.specs.declared.member_record.MemberRecord.{MemberRecord}
use Rattle.cg_record.specs.declared.roster.TheConstants.{MEMBERS_MAX}
use Rattle.cg_record.specs.Rosters.{AreApart, IsRoster, RosterParts, have_one_name, is_one_instance}
use Rattle.cg_request.specs.Names.{are_distinct}
use Rattle.cg_group_state.specs.Members.{AreDistinct, AreMembers, ids, instances}
use Rattle.cg_group_state.specs.Membership.{is_same}
use Rattle.cg_group_table.specs.Recovery.{revived_member}

kept_ids : List MemberRecord → List (List ℕ)
kept_ids ms = map (λ m. m.id) ms

kept_instances : List MemberRecord → List (List ℕ)
kept_instances ms = flat_map (λ m. option_to_list m.instance) ms

no_other_id : (x : MemberRecord) (ys : List MemberRecord) → AllByRecursion (λ y. have_one_name x y ≡ false) ys → list_any (is_same x.id) (kept_ids ys) ≡ false
unfolding kept_ids
no_other_id x [] h = refl
no_other_id x (y ∷ ys) h = or_from (is_same x.id y.id) (list_any (is_same x.id) (kept_ids ys)) (or_parts (is_same x.id y.id) (is_one_instance x.instance y.instance) h.0).0 (no_other_id x ys h.1)

own_ids : (ms : List MemberRecord) → AreApart ms → are_distinct (kept_ids ms) ≡ true
unfolding IsDistinct are_distinct kept_ids
own_ids [] h = refl
own_ids (m ∷ ms) h = and_from (not (list_any (is_same m.id) (kept_ids ms))) (are_distinct (kept_ids ms)) (not_from_false (list_any (is_same m.id) (kept_ids ms)) (no_other_id m ms h.0)) (own_ids ms h.1)

no_other_instance : (i : List ℕ) (ys : List MemberRecord) → AllByRecursion (λ y. is_one_instance (Some i) y.instance ≡ false) ys → list_any (is_same i) (kept_instances ys) ≡ false
unfolding kept_instances
no_other_instance i [] h = refl
no_other_instance i (y ∷ ys) h = go (no_other_instance i ys h.1) y.instance h.0
  where
    go : list_any (is_same i) (kept_instances ys) ≡ false → (o : Option (List ℕ)) → is_one_instance (Some i) o ≡ false → list_any (is_same i) (option_to_list o ++ kept_instances ys) ≡ false
    go rest None e = rest
    go rest (Some j) e = or_from (is_same i j) (list_any (is_same i) (kept_instances ys)) e rest

instance_parts : (x : MemberRecord) (o : Option (List ℕ)) → x.instance ≡ o → (ys : List MemberRecord) → AllByRecursion (λ y. have_one_name x y ≡ false) ys → AllByRecursion (λ y. is_one_instance o y.instance ≡ false) ys
instance_parts x o e [] h = tt
instance_parts x o e (y ∷ ys) h =
    let P : Option (List ℕ) → Type 0 = λ i. is_one_instance i y.instance ≡ false in
    (subst P e (or_parts (is_same x.id y.id) (is_one_instance x.instance y.instance) h.0).1, instance_parts x o e ys h.1)

own_instances : (ms : List MemberRecord) → AreApart ms → are_distinct (kept_instances ms) ≡ true
unfolding IsDistinct are_distinct kept_instances
own_instances [] h = refl
own_instances (m ∷ ms) h = go (own_instances ms h.1) m.instance refl
  where
    go : are_distinct (kept_instances ms) ≡ true → (o : Option (List ℕ)) → m.instance ≡ o → are_distinct (option_to_list o ++ kept_instances ms) ≡ true
    go rest None e = rest
    go rest (Some i) e = and_from (not (list_any (is_same i) (kept_instances ms))) (are_distinct (kept_instances ms)) (not_from_false (list_any (is_same i) (kept_instances ms)) (no_other_instance i ms (instance_parts m (Some i) e ms h.0))) rest

ids-revived : (now : ℕ) (protocol : List ℕ) (ms : List MemberRecord) → ids (map (revived_member now protocol) ms) ≡ kept_ids ms
unfolding revived_member kept_ids
ids-revived now protocol [] = refl
ids-revived now protocol (m ∷ ms) = ap (λ xs. m.id ∷ xs) (ids-revived now protocol ms)

instances-revived : (now : ℕ) (protocol : List ℕ) (ms : List MemberRecord) → instances (map (revived_member now protocol) ms) ≡ kept_instances ms
unfolding revived_member kept_instances
instances-revived now protocol [] = refl
instances-revived now protocol (m ∷ ms) = ap (λ xs. option_to_list m.instance ++ xs) (instances-revived now protocol ms)

pub distinct-revived_members : (now : ℕ) (protocol : List ℕ) (ms : List MemberRecord) → AreApart ms → AreDistinct (map (revived_member now protocol) ms)
distinct-revived_members now protocol ms h = (ap are_distinct (ids-revived now protocol ms) ∙ own_ids ms h, ap are_distinct (instances-revived now protocol ms) ∙ own_instances ms h)

pub revived_together : (now : ℕ) (protocol : List ℕ) (roster : RosterParts) → IsRoster roster → AreMembers (map (revived_member now protocol) roster.members)
revived_together now protocol roster h = record {
  few = subst (λ (n : ℕ). n ≤ MEMBERS_MAX) (sym (length-map roster.members (revived_member now protocol))) h.members.few;
  distinct = distinct-revived_members now protocol roster.members h.members.apart;
}
