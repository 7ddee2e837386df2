-- A member replaces the one with its instance: only that one is removed, and the members stay lawful.
use Rattle.std.proofs.Common.{◌≡◌, ℕ, suc, ◌+◌, ◌<◌, ◌≤◌, true, false, cond, find, not, ◌||◌, List, [], ◌∷◌, ◌++◌, length, map, is_some, subst, Option, Some, None, refl, sym, ap, ◌∙◌, arith}
use Rattle.std.proofs.Math.ListN.{set}
use Rattle.std.specs.Prelude.{if◌then◌else◌}
use Rattle.std.specs.List.{list_any, flat_map, position, position_or_len}
use Rattle.std.specs.Option.{option_to_list}
use Rattle.std.proofs.lemmas.Bool.{and_parts, and_from, or_parts, or_from, false≢true, not-true}
use Rattle.std.proofs.lemmas.Cmp.{nat_list_eq_equiv}
use Rattle.std.proofs.lemmas.List.{length-map}
use Rattle.std.proofs.lemmas.Slice.Eq.{bytes_eq-Decides}
use Rattle.cg_record.specs.declared.roster.TheConstants.{MEMBERS_MAX}
use Rattle.cg_group_state.specs.declared.member.Member.{Member}
use Rattle.cg_group_state.specs.Members.{AreDistinct, AreMembers, ids, instances}
use Rattle.cg_group_state.specs.Membership.{find_instance, find_member, has_instance, is_named, is_same, seated, seating}
use Rattle.cg_request.specs.Names.{are_distinct}
use Rattle.cg_group_state.proofs.Keeping.{map-same}
use Rattle.cg_group_state.proofs.Places.{place_is, no_place_is}
use Rattle.cg_group_state.proofs.Together.{flat_map-map, fresh_from_find}

-- a look-up by instance that finds a member was given an instance
pub instance_given : (o : Option (List ℕ)) (ms : List Member) (m : Member) → find_instance o ms ≡ Some m → is_some o ≡ true
unfolding find_instance
instance_given None [] m e = cc
instance_given None (x ∷ xs) m e = instance_given None xs m e
instance_given (Some i) ms m e = refl

-- the instance that was found is the one that was looked for
own_instance : (i : List ℕ) (o : Option (List ℕ)) → is_named o i ≡ true → o ≡ Some i
own_instance i None h = absurd (false≢true h)
own_instance i (Some j) h = ap (λ x. Some x) ((bytes_eq-Decides j i).0 h)

pub found_instance : (o : Option (List ℕ)) (m : Member) → has_instance o m ≡ true → m.instance ≡ o
found_instance None m h = absurd (false≢true h)
found_instance (Some i) m h = own_instance i m.instance h

-- where the instance is not among those of the members, no member has it
none_named : (i : List ℕ) (ms : List Member) → list_any (is_same i) (instances ms) ≡ false → list_any (has_instance (Some i)) ms ≡ false
none_named i [] e = refl
none_named i (m ∷ ms) e = go (none_named i ms) m.instance e
  where
    go : (list_any (is_same i) (instances ms) ≡ false → list_any (has_instance (Some i)) ms ≡ false) → (o : Option (List ℕ)) → list_any (is_same i) (option_to_list o ++ instances ms) ≡ false → (is_named o i || list_any (has_instance (Some i)) ms) ≡ false
    go rest None k = rest k
    go rest (Some j) k =
        let parts = or_parts (is_same i j) (list_any (is_same i) (instances ms)) k in
        or_from (is_same j i) (list_any (has_instance (Some i)) ms) (nat_list_eq_equiv.symm j i ∙ parts.0) (rest parts.1)

-- no other member has the instance of this one
others_free : (o : Option (List ℕ)) (m : Member) (ms : List Member) → has_instance o m ≡ true → are_distinct (option_to_list m.instance ++ instances ms) ≡ true → list_any (has_instance o) ms ≡ false
unfolding are_distinct
others_free None m ms h d = absurd (false≢true h)
others_free (Some i) m ms h d = go m.instance h d
  where
    go : (own : Option (List ℕ)) → is_named own i ≡ true → are_distinct (option_to_list own ++ instances ms) ≡ true → list_any (has_instance (Some i)) ms ≡ false
    go None h d = absurd (false≢true h)
    go (Some j) h d =
        let apart : list_any (is_same j) (instances ms) ≡ false = not-true (list_any (is_same j) (instances ms)) (and_parts (not (list_any (is_same j) (instances ms))) (are_distinct (instances ms)) d).0 in
        let Q : List ℕ → Type 0 = λ x. list_any (is_same x) (instances ms) ≡ false in
        none_named i ms (subst Q ((bytes_eq-Decides j i).0 h) apart)

pub rest_distinct : (o : Option (List ℕ)) (rest : List (List ℕ)) → are_distinct (option_to_list o ++ rest) ≡ true → are_distinct rest ≡ true
unfolding are_distinct
rest_distinct None rest e = e
rest_distinct (Some i) rest e = (and_parts (not (list_any (is_same i) rest)) (are_distinct rest) e).1

-- where no member has the instance, the replacement changes nothing
seating_free : (new : Member) (ms : List Member) → list_any (has_instance new.instance) ms ≡ false → seating new ms ≡ ms
unfolding seating
seating_free new [] e = refl
seating_free new (m ∷ ms) e =
    let parts = or_parts (has_instance new.instance m) (list_any (has_instance new.instance) ms) e in
    ap (λ b. (if b then new else m) ∷ map (seated new) ms) parts.0 ∙ ap (λ xs. m ∷ xs) (seating_free new ms parts.1)

seating_past : (new : Member) (ms : List Member) → length ms ≤ position_or_len (has_instance new.instance) ms → seating new ms ≡ ms
unfolding seating
seating_past new [] le = refl
seating_past new (m ∷ ms) le =
    elim (has_instance new.instance m) as (λ b. length (m ∷ ms) ≤ cond (not b) (1 + position_or_len (has_instance new.instance) ms) 0 → (if b then new else m) ∷ map (seated new) ms ≡ m ∷ ms) [
      | true ↦ λ le. absurd (omega arith)
      | false ↦ λ le. ap (λ xs. m ∷ xs) (seating_past new ms (omega arith))
    ] le

seating_at : (new : Member) (ms : List Member) → are_distinct (instances ms) ≡ true → position_or_len (has_instance new.instance) ms < length ms → seating new ms ≡ set ms (position_or_len (has_instance new.instance) ms) new
unfolding seating
seating_at new [] d lt = refl
seating_at new (m ∷ ms) d lt =
    (elim (has_instance new.instance m) as (λ b. has_instance new.instance m ≡ b → cond (not b) (1 + position_or_len (has_instance new.instance) ms) 0 < length (m ∷ ms) → (if b then new else m) ∷ map (seated new) ms ≡ set (m ∷ ms) (cond (not b) (1 + position_or_len (has_instance new.instance) ms) 0) new) [
      | true ↦ λ h lt. ap (λ xs. new ∷ xs) (seating_free new ms (others_free new.instance m ms h d))
      | false ↦ λ h lt.
          let e : 1 + position_or_len (has_instance new.instance) ms ≡ suc (position_or_len (has_instance new.instance) ms) = omega arith in
          rw e (ap (λ xs. m ∷ xs) (seating_at new ms (rest_distinct m.instance (instances ms) d) (omega arith)))
    ]) refl lt

-- the goal that remains after the new member is written at the position that a search found
pub seating_place : (new : Member) (ms : List Member) (i : ℕ) → are_distinct (instances ms) ≡ true → position (has_instance new.instance) ms ≡ Some i → set ms i new ≡ seating new ms
seating_place new ms i d e =
    let at = place_is (position_or_len (has_instance new.instance) ms) (length ms) i e in
    let Q : ℕ → Type 0 = λ n. set ms n new ≡ seating new ms in
    subst Q at.0 (sym (seating_at new ms d at.1))

pub seating_no_place : (new : Member) (ms : List Member) → position (has_instance new.instance) ms ≡ None → ms ≡ seating new ms
seating_no_place new ms e = sym (seating_past new ms (no_place_is (position_or_len (has_instance new.instance) ms) (length ms) e))

-- the members stay distinct

pub other_way : (x : List ℕ) (ys : List (List ℕ)) → list_any (λ y. is_same y x) ys ≡ false → list_any (is_same x) ys ≡ false
other_way x [] e = refl
other_way x (y ∷ ys) e =
    let parts = or_parts (is_same y x) (list_any (λ z. is_same z x) ys) e in
    or_from (is_same x y) (list_any (is_same x) ys) (nat_list_eq_equiv.symm x y ∙ parts.0) (other_way x ys parts.1)

none_seated : (x : List ℕ) (new : Member) (ms : List Member) → is_same x new.id ≡ false → list_any (is_same x) (ids ms) ≡ false → list_any (is_same x) (ids (map (seated new) ms)) ≡ false
none_seated x new [] own e = refl
none_seated x new (m ∷ ms) own e =
    let parts = or_parts (is_same x m.id) (list_any (is_same x) (ids ms)) e in
    let rest = none_seated x new ms own parts.1 in
    elim (has_instance new.instance m) as (λ b. (is_same x (if b then new else m).id || list_any (is_same x) (ids (map (seated new) ms))) ≡ false) [
      | true ↦ or_from (is_same x new.id) (list_any (is_same x) (ids (map (seated new) ms))) own rest
      | false ↦ or_from (is_same x m.id) (list_any (is_same x) (ids (map (seated new) ms))) parts.0 rest
    ]

distinct_ids : (new : Member) (ms : List Member) → are_distinct (ids ms) ≡ true → are_distinct (instances ms) ≡ true → list_any (λ y. is_same y new.id) (ids ms) ≡ false → are_distinct (ids (seating new ms)) ≡ true
unfolding are_distinct seating
distinct_ids new [] e d free = refl
distinct_ids new (m ∷ ms) e d free =
    let parts = and_parts (not (list_any (is_same m.id) (ids ms))) (are_distinct (ids ms)) e in
    let news = or_parts (is_same m.id new.id) (list_any (λ y. is_same y new.id) (ids ms)) free in
    (elim (has_instance new.instance m) as (λ b. has_instance new.instance m ≡ b → are_distinct (ids ((if b then new else m) ∷ map (seated new) ms)) ≡ true) [
      | true ↦ λ h.
          let Q : List Member → Type 0 = λ xs. are_distinct (new.id ∷ ids xs) ≡ true in
          subst Q (sym (seating_free new ms (others_free new.instance m ms h d)))
          (and_from (not (list_any (is_same new.id) (ids ms))) (are_distinct (ids ms)) (ap not (other_way new.id (ids ms) news.1)) parts.1)
      | false ↦ λ h.
          and_from (not (list_any (is_same m.id) (ids (map (seated new) ms)))) (are_distinct (ids (map (seated new) ms)))
          (ap not (none_seated m.id new ms news.0 (not-true (list_any (is_same m.id) (ids ms)) parts.0)))
          (distinct_ids new ms parts.1 (rest_distinct m.instance (instances ms) d) news.1)
    ]) refl

same_instance : (new m : Member) → option_to_list (seated new m).instance ≡ option_to_list m.instance
same_instance new m =
    (elim (has_instance new.instance m) as (λ b. has_instance new.instance m ≡ b → option_to_list (if b then new else m).instance ≡ option_to_list m.instance) [
      | true ↦ λ h. ap (λ o. option_to_list o) (sym (found_instance new.instance m h))
      | false ↦ λ h. refl
    ]) refl

same_instances : (new : Member) (ms : List Member) → instances (seating new ms) ≡ instances ms
unfolding seating
same_instances new ms =
    flat_map-map (λ (m : Member). option_to_list m.instance) (map (seated new) ms)
    ∙ ap (λ xs. flat_map (λ ns. ns) xs) (map-same (λ m. option_to_list m.instance) (seated new) (same_instance new) ms)
    ∙ sym (flat_map-map (λ (m : Member). option_to_list m.instance) ms)

pub distinct-seating : (new : Member) (ms : List Member) → is_some (find_member new.id ms) ≡ false → AreDistinct ms → AreDistinct (seating new ms)
distinct-seating new ms own h = (distinct_ids new ms h.0 h.1 (fresh_from_find new.id ms own), ap are_distinct (same_instances new ms) ∙ h.1)

pub as_many : (new : Member) (ms : List Member) → length (seating new ms) ≡ length ms
unfolding seating
as_many new ms = length-map ms (seated new)

pub after_seating : (new : Member) (ms ns : List Member) → ns ≡ seating new ms → is_some (find_member new.id ms) ≡ false → AreMembers ms → AreMembers ns
after_seating new ms ns e own h = subst (λ (xs : List Member). AreMembers xs) (sym e) record {
  few = subst (λ (n : ℕ). n ≤ MEMBERS_MAX) (sym (as_many new ms)) h.few;
  distinct = distinct-seating new ms own h.distinct;
}

-- the member that an instance finds has that instance
pub instance_of : (o : Option (List ℕ)) (ms : List Member) (m : Member) → find_instance o ms ≡ Some m → m.instance ≡ o
unfolding find_instance
instance_of o [] m e = cc
instance_of o (x ∷ xs) m e =
    (elim (has_instance o x) as (λ b. has_instance o x ≡ b → cond b (Some x) (find (has_instance o) xs) ≡ Some m → m.instance ≡ o) [
      | true ↦ λ h f. let same : x ≡ m = cc in ap (λ (y : Member). y.instance) (sym same) ∙ found_instance o x h
      | false ↦ λ h f. instance_of o xs m f
    ]) refl e

-- whether a member has an instance depends on its instance alone
instance_alone : (o : Option (List ℕ)) (x y : Member) → x.instance ≡ y.instance → has_instance o x ≡ has_instance o y
instance_alone None x y e = refl
instance_alone (Some i) x y e = ap (λ j. is_named j i) e

-- the old member, put back where the new one is
module _ (new old : Member) (same : old.instance ≡ new.instance) where
  alike : (m : Member) → has_instance old.instance m ≡ has_instance new.instance m
  alike m = ap (λ o. has_instance o m) same

  pub back_seated : (ms : List Member) → are_distinct (instances ms) ≡ true → find_instance new.instance ms ≡ Some old → seating old (seating new ms) ≡ ms
  unfolding find_instance seating
  back_seated [] d e = cc
  back_seated (m ∷ ms) d e =
      (elim (has_instance new.instance m) as (λ b. has_instance new.instance m ≡ b → cond b (Some m) (find (has_instance new.instance) ms) ≡ Some old → seated old (if b then new else m) ∷ map (seated old) (map (seated new) ms) ≡ m ∷ ms) [
        | true ↦ λ h f.
            let is : m ≡ old = cc in
            let free : list_any (has_instance new.instance) ms ≡ false = others_free new.instance m ms h d in
            let free_old : list_any (has_instance old.instance) ms ≡ false = ap (λ o. list_any (has_instance o) ms) same ∙ free in
            let own : has_instance old.instance new ≡ true =
            alike new ∙ instance_alone new.instance new m (sym (found_instance new.instance m h)) ∙ h in
            ap (λ b. (if b then old else new) ∷ map (seated old) (map (seated new) ms)) own
            ∙ ap (λ x. x ∷ map (seated old) (map (seated new) ms)) (sym is)
            ∙ ap (λ xs. m ∷ map (seated old) xs) (seating_free new ms free)
            ∙ ap (λ xs. m ∷ xs) (seating_free old ms free_old)
        | false ↦ λ h f.
            ap (λ b. (if b then old else m) ∷ map (seated old) (map (seated new) ms)) (alike m ∙ h)
            ∙ ap (λ xs. m ∷ xs) (back_seated ms (rest_distinct m.instance (instances ms) d) f)
      ]) refl e
