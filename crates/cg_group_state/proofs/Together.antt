-- The members of one group stay lawful: few enough, with different ids and different instances.
use Rattle.std.proofs.Common.{◌≡◌, ℕ, ◌<◌, ◌≤◌, Bool, true, false, not, ◌||◌, List, [], ◌∷◌, ◌++◌, length, map, filter, find, cond, is_some, refl, sym, ap, ◌∙◌, subst, Option, Some, None, arith}
use Rattle.std.specs.List.{list_any, flat_map}
use Rattle.std.specs.Option.{option_to_list}
use Rattle.std.proofs.lemmas.Bool.{and_parts, and_from, or_parts, or_from, not-true}
use Rattle.std.proofs.lemmas.List.{length-map, length-append}
use Rattle.cg_record.specs.declared.roster.TheConstants.{MEMBERS_MAX}
use Rattle.cg_group_state.specs.declared.calls.Calls.{Calls}
use Rattle.cg_group_state.specs.declared.member.Member.{Member}
use Rattle.cg_group_state.specs.declared.member.Waits.{Waits}
use Rattle.cg_request.specs.declared.request_fields.JoinRequest.{JoinRequest}
use Rattle.cg_group_state.specs.JoinTerms.{updated}
use Rattle.cg_group_state.specs.Waiting.{waits_with, after_answer, after_answers, recalled}
use Rattle.cg_request.specs.Names.{are_distinct}
use Rattle.cg_group_state.specs.Members.{AreDistinct, AreMembers, ids, instances}
use Rattle.cg_group_state.specs.Assignments.{with_assignments}
use Rattle.cg_group_state.specs.Membership.{is_same, is_named, has_id, has_instance, find_member, find_instance, heard, with_member}
use Rattle.cg_group_state.proofs.Exchanges.{map-with_assignments}
use Rattle.cg_group_state.proofs.Keeping.{IsLasting, keep-after_answers, map-with_member}

-- a property that no member has holds for none of those that stay
none_stays : (p : List ℕ → Bool) (stays : Member → Bool) (ms : List Member) → list_any p (ids ms) ≡ false → list_any p (ids (filter stays ms)) ≡ false
none_stays p stays [] e = refl
none_stays p stays (m ∷ ms) e =
    let parts = or_parts (p m.id) (list_any p (ids ms)) e in
    elim (stays m) as (λ b. list_any p (ids (cond b (m ∷ filter stays ms) (filter stays ms))) ≡ false) [
      | true ↦ or_from (p m.id) (list_any p (ids (filter stays ms))) parts.0 (none_stays p stays ms parts.1)
      | false ↦ none_stays p stays ms parts.1
    ]

-- a filter of distinct members is distinct
pub distinct-filter : (stays : Member → Bool) (ms : List Member) → are_distinct (ids ms) ≡ true → are_distinct (ids (filter stays ms)) ≡ true
unfolding are_distinct
distinct-filter stays [] e = refl
distinct-filter stays (m ∷ ms) e =
    let parts = and_parts (not (list_any (is_same m.id) (ids ms))) (are_distinct (ids ms)) e in
    let rest = distinct-filter stays ms parts.1 in
    elim (stays m) as (λ b. are_distinct (ids (cond b (m ∷ filter stays ms) (filter stays ms))) ≡ true) [
      | true ↦ and_from (not (list_any (is_same m.id) (ids (filter stays ms)))) (are_distinct (ids (filter stays ms))) (ap not (none_stays (is_same m.id) stays ms (not-true (list_any (is_same m.id) (ids ms)) parts.0))) rest
      | false ↦ rest
    ]

none-push : (p : List ℕ → Bool) (xs : List (List ℕ)) (x : List ℕ) → list_any p xs ≡ false → p x ≡ false → list_any p (xs ++ x ∷ []) ≡ false
none-push p [] x e here = or_from (p x) false here refl
none-push p (y ∷ ys) x e here =
    let parts = or_parts (p y) (list_any p ys) e in
    or_from (p y) (list_any p (ys ++ x ∷ [])) parts.0 (none-push p ys x parts.1 here)

-- a new id, appended, keeps the ids distinct
pub distinct-push : (xs : List (List ℕ)) (x : List ℕ) → are_distinct xs ≡ true → list_any (λ y. is_same y x) xs ≡ false → are_distinct (xs ++ x ∷ []) ≡ true
unfolding are_distinct
distinct-push [] x e fresh = refl
distinct-push (y ∷ ys) x e fresh =
    let parts = and_parts (not (list_any (is_same y) ys)) (are_distinct ys) e in
    let news = or_parts (is_same y x) (list_any (λ z. is_same z x) ys) fresh in
    and_from (not (list_any (is_same y) (ys ++ x ∷ []))) (are_distinct (ys ++ x ∷ [])) (ap not (none-push (is_same y) ys x (not-true (list_any (is_same y) ys) parts.0) news.0)) (distinct-push ys x parts.1 news.1)

-- an id by which no member is found is not among the ids
pub fresh_from_find : (id : List ℕ) (ms : List Member) → is_some (find_member id ms) ≡ false → list_any (λ y. is_same y id) (ids ms) ≡ false
unfolding find_member
fresh_from_find id [] e = refl
fresh_from_find id (m ∷ ms) e =
    elim (is_same m.id id) as (λ b. is_some (cond b (Some m) (find (has_id id) ms)) ≡ false → (b || list_any (λ y. is_same y id) (ids ms)) ≡ false) [
      | true ↦ λ e. e
      | false ↦ λ e. fresh_from_find id ms e
    ] e

-- the same for instances
pub flat_map-map : {A B : Type 0} (f : A → List B) (xs : List A) → flat_map f xs ≡ flat_map (λ ys. ys) (map f xs)
flat_map-map f [] = refl
flat_map-map f (x ∷ xs) = ap (λ ys. f x ++ ys) (flat_map-map f xs)

none_instance_stays : (p : List ℕ → Bool) (stays : Member → Bool) (ms : List Member) → list_any p (instances ms) ≡ false → list_any p (instances (filter stays ms)) ≡ false
none_instance_stays p stays [] e = refl
none_instance_stays p stays (m ∷ ms) e =
    (elim m.instance as (λ o. list_any p (option_to_list o ++ instances ms) ≡ false → list_any p (flat_map (λ (x : Member). option_to_list x.instance) (cond (stays m) (record m { instance = o } ∷ filter stays ms) (filter stays ms))) ≡ false) [
      | None ↦ λ e. elim (stays m) as (λ b. list_any p (flat_map (λ (x : Member). option_to_list x.instance) (cond b (record m { instance = None } ∷ filter stays ms) (filter stays ms))) ≡ false) [ true ↦ none_instance_stays p stays ms e | false ↦ none_instance_stays p stays ms e ]
      | Some i ↦ λ e.
          let parts = or_parts (p i) (list_any p (instances ms)) e in
          elim (stays m) as (λ b. list_any p (flat_map (λ (x : Member). option_to_list x.instance) (cond b (record m { instance = Some i } ∷ filter stays ms) (filter stays ms))) ≡ false) [
            | true ↦ or_from (p i) (list_any p (instances (filter stays ms))) parts.0 (none_instance_stays p stays ms parts.1)
            | false ↦ none_instance_stays p stays ms parts.1
          ]
    ]) e

pub distinct-filter_instances : (stays : Member → Bool) (ms : List Member) → are_distinct (instances ms) ≡ true → are_distinct (instances (filter stays ms)) ≡ true
unfolding are_distinct
distinct-filter_instances stays [] e = refl
distinct-filter_instances stays (m ∷ ms) e =
    (elim m.instance as (λ o. are_distinct (option_to_list o ++ instances ms) ≡ true → are_distinct (flat_map (λ (x : Member). option_to_list x.instance) (cond (stays m) (record m { instance = o } ∷ filter stays ms) (filter stays ms))) ≡ true) [
      | None ↦ λ e. elim (stays m) as (λ b. are_distinct (flat_map (λ (x : Member). option_to_list x.instance) (cond b (record m { instance = None } ∷ filter stays ms) (filter stays ms))) ≡ true) [ true ↦ distinct-filter_instances stays ms e | false ↦ distinct-filter_instances stays ms e ]
      | Some i ↦ λ e.
          let parts = and_parts (not (list_any (is_same i) (instances ms))) (are_distinct (instances ms)) e in
          let rest = distinct-filter_instances stays ms parts.1 in
          elim (stays m) as (λ b. are_distinct (flat_map (λ (x : Member). option_to_list x.instance) (cond b (record m { instance = Some i } ∷ filter stays ms) (filter stays ms))) ≡ true) [
            | true ↦ and_from (not (list_any (is_same i) (instances (filter stays ms)))) (are_distinct (instances (filter stays ms))) (ap not (none_instance_stays (is_same i) stays ms (not-true (list_any (is_same i) (instances ms)) parts.0))) rest
            | false ↦ rest
          ]
    ]) e

-- a member without an instance, appended, leaves the instances as they are
pub instances-push : (ms : List Member) (m : Member) → m.instance ≡ None → instances (ms ++ m ∷ []) ≡ instances ms
instances-push [] m e = ap (λ o. option_to_list o ++ []) e
instances-push (x ∷ xs) m e = ap (λ ys. option_to_list x.instance ++ ys) (instances-push xs m e)

-- members with the same ids and instances are distinct alike
pub distinct-names : (xs ys : List Member) → ids xs ≡ ids ys → map (λ m. option_to_list m.instance) xs ≡ map (λ m. option_to_list m.instance) ys → AreDistinct ys → AreDistinct xs
distinct-names xs ys e f h = (
  ap are_distinct e ∙ h.0,
  ap are_distinct (flat_map-map (λ (m : Member). option_to_list m.instance) xs ∙ ap (λ zs. flat_map (λ ns. ns) zs) f ∙ sym (flat_map-map (λ (m : Member). option_to_list m.instance) ys)) ∙ h.1,
)

pub ids-append : (ms : List Member) (m : Member) → ids (ms ++ m ∷ []) ≡ ids ms ++ m.id ∷ []
ids-append [] m = refl
ids-append (x ∷ xs) m = ap (λ r. x.id ∷ r) (ids-append xs m)

pub lasting_id : IsLasting (λ m. m.id)
lasting_id m h w = refl

pub lasting_instance : IsLasting (λ m. option_to_list m.instance)
lasting_instance m h w = refl

-- an instance by which no member is found is not among the instances
free_from_find : (i : List ℕ) (ms : List Member) → is_some (find_instance (Some i) ms) ≡ false → list_any (λ y. is_same y i) (instances ms) ≡ false
unfolding find_instance
free_from_find i [] e = refl
free_from_find i (m ∷ ms) e = go (free_from_find i ms) m.instance e
  where
    go : (is_some (find (has_instance (Some i)) ms) ≡ false → list_any (λ y. is_same y i) (instances ms) ≡ false) → (o : Option (List ℕ)) → is_some (cond (is_named o i) (Some m) (find (has_instance (Some i)) ms)) ≡ false → list_any (λ y. is_same y i) (option_to_list o ++ instances ms) ≡ false
    go rest None k = rest k
    go rest (Some j) k =
        elim (is_same j i) as (λ b. is_some (cond b (Some m) (find (has_instance (Some i)) ms)) ≡ false → (b || list_any (λ y. is_same y i) (instances ms)) ≡ false) [
          | true ↦ λ k. k
          | false ↦ rest
        ] k

instances-push_some : (ms : List Member) (m : Member) (i : List ℕ) → m.instance ≡ Some i → instances (ms ++ m ∷ []) ≡ instances ms ++ i ∷ []
instances-push_some [] m i e = ap (λ o. option_to_list o ++ []) e
instances-push_some (x ∷ xs) m i e = next x.instance (instances-push_some xs m i e)
  where
    next : (o : Option (List ℕ)) → instances (xs ++ m ∷ []) ≡ instances xs ++ i ∷ [] → option_to_list o ++ instances (xs ++ m ∷ []) ≡ (option_to_list o ++ instances xs) ++ i ∷ []
    next None rest = rest
    next (Some j) rest = ap (λ ys. j ∷ ys) rest

distinct-instances-push : (ms : List Member) (m : Member) (o : Option (List ℕ)) → m.instance ≡ o → are_distinct (instances ms) ≡ true → is_some (find_instance o ms) ≡ false → are_distinct (instances (ms ++ m ∷ [])) ≡ true
distinct-instances-push ms m None e h free = ap are_distinct (instances-push ms m e) ∙ h
distinct-instances-push ms m (Some i) e h free = ap are_distinct (instances-push_some ms m i e) ∙ distinct-push (instances ms) i h (free_from_find i ms free)

-- a member with a new id and a new instance, appended, keeps the members distinct
pub distinct-members-push : (ms : List Member) (m : Member) → is_some (find_member m.id ms) ≡ false → is_some (find_instance m.instance ms) ≡ false → AreDistinct ms → AreDistinct (ms ++ m ∷ [])
distinct-members-push ms m own free h =
    (ap are_distinct (ids-append ms m) ∙ distinct-push (ids ms) m.id h.0 (fresh_from_find m.id ms own), distinct-instances-push ms m m.instance refl h.1 free)

-- what makes the changed members lawful

few-of : (xs ys : List Member) → ids xs ≡ ids ys → length ys ≤ MEMBERS_MAX → length xs ≤ MEMBERS_MAX
few-of xs ys e h =
    let same : length xs ≡ length ys = sym (length-map xs (λ (m : Member). m.id)) ∙ ap length e ∙ length-map ys (λ (m : Member). m.id) in
    subst (λ (n : ℕ). n ≤ MEMBERS_MAX) (sym same) h

pub members-names : (xs ys : List Member) → ids xs ≡ ids ys → map (λ m. option_to_list m.instance) xs ≡ map (λ m. option_to_list m.instance) ys → AreMembers ys → AreMembers xs
members-names xs ys e f h = record { few = few-of xs ys e h.few; distinct = distinct-names xs ys e f h.distinct }

pub members-with_member : (id : List ℕ) (change : Member → Member) → ((m : Member) → (change m).id ≡ m.id) → ((m : Member) → option_to_list (change m).instance ≡ option_to_list m.instance) → (ms : List Member) → AreMembers ms → AreMembers (with_member id change ms)
members-with_member id change same own ms h =
    members-names (with_member id change ms) ms (map-with_member (λ m. m.id) id change same ms) (map-with_member (λ m. option_to_list m.instance) id change own ms) h

pub few-filter : (stays : Member → Bool) (ms : List Member) → length (filter stays ms) ≤ length ms
few-filter stays [] = omega arith
few-filter stays (m ∷ ms) =
    let rest : length (filter stays ms) ≤ length ms = few-filter stays ms in
    elim (stays m) as (λ b. length (cond b (m ∷ filter stays ms) (filter stays ms)) ≤ length (m ∷ ms)) [ true ↦ omega arith | false ↦ omega arith ]

pub members-filter : (stays : Member → Bool) (ms : List Member) → AreMembers ms → AreMembers (filter stays ms)
members-filter stays ms h = record {
  few = omega (arith, few-filter stays ms, h.few);
  distinct = (distinct-filter stays ms h.distinct.0, distinct-filter_instances stays ms h.distinct.1);
}

pub members-push : (ms : List Member) (m : Member) → length ms < MEMBERS_MAX → is_some (find_member m.id ms) ≡ false → is_some (find_instance m.instance ms) ≡ false → AreMembers ms → AreMembers (ms ++ m ∷ [])
members-push ms m room own free h = record {
  few = subst (λ (n : ℕ). n ≤ MEMBERS_MAX) (sym (length-append ms (m ∷ []))) (omega (arith, room));
  distinct = distinct-members-push ms m own free h.distinct;
}

pub none_together : AreMembers []
unfolding are_distinct
none_together = record { few = omega arith; distinct = (refl, refl) }

-- every change of the members keeps them lawful

pub after_hearing : (id : List ℕ) (now : ℕ) (ms ns : List Member) → ns ≡ with_member id (heard now) ms → AreMembers ms → AreMembers ns
after_hearing id now ms ns e h = subst (λ (xs : List Member). AreMembers xs) (sym e) (members-with_member id (heard now) (λ m. refl) (λ m. refl) ms h)

pub after_waiting : (id : List ℕ) (waits : Waits) (now : ℕ) (ms ns : List Member) → ns ≡ with_member id (waits_with now waits) ms → AreMembers ms → AreMembers ns
after_waiting id waits now ms ns e h = subst (λ (xs : List Member). AreMembers xs) (sym e) (members-with_member id (waits_with now waits) (λ m. refl) (λ m. refl) ms h)

pub after_recalling : (id : List ℕ) (moment : ℕ) (waits : Waits) (ms ns : List Member) → ns ≡ with_member id (recalled moment waits) ms → AreMembers ms → AreMembers ns
after_recalling id moment waits ms ns e h = subst (λ (xs : List Member). AreMembers xs) (sym e) (members-with_member id (recalled moment waits) (λ m. refl) (λ m. refl) ms h)

pub after_update : (id : List ℕ) (r : JoinRequest) (ms ns : List Member) → ns ≡ with_member id (updated r) ms → AreMembers ms → AreMembers ns
after_update id r ms ns e h = subst (λ (xs : List Member). AreMembers xs) (sym e) (members-with_member id (updated r) (λ m. refl) (λ m. refl) ms h)

pub after_all_answers : (which : Calls) (now : ℕ) (ms ns : List Member) → ns ≡ map (after_answer which now) ms → AreMembers ms → AreMembers ns
unfolding after_answers
after_all_answers which now ms ns e h =
    subst (λ (xs : List Member). AreMembers xs) (sym e)
    (members-names (after_answers which now ms) ms (keep-after_answers (λ m. m.id) lasting_id which now ms) (keep-after_answers (λ m. option_to_list m.instance) lasting_instance which now ms) h)

pub after_exchange : (list : List (List ℕ)) (ms ns : List Member) → ns ≡ with_assignments list ms → AreMembers ms → AreMembers ns
after_exchange list ms ns e h =
    subst (λ (xs : List Member). AreMembers xs) (sym e)
    (members-names (with_assignments list ms) ms (map-with_assignments (λ m. m.id) (λ m a. refl) list ms) (map-with_assignments (λ m. option_to_list m.instance) (λ m a. refl) list ms) h)

pub after_removing : (stays : Member → Bool) (ms ns : List Member) → ns ≡ filter stays ms → AreMembers ms → AreMembers ns
after_removing stays ms ns e h = subst (λ (xs : List Member). AreMembers xs) (sym e) (members-filter stays ms h)

pub after_push : (ms ns : List Member) (m : Member) → ns ≡ ms ++ m ∷ [] → length ms < MEMBERS_MAX → is_some (find_member m.id ms) ≡ false → is_some (find_instance m.instance ms) ≡ false → AreMembers ms → AreMembers ns
after_push ms ns m e room own free h = subst (λ (xs : List Member). AreMembers xs) (sym e) (members-push ms m room own free h)
