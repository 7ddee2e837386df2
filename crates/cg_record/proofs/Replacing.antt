-- The replacement of a member in a group.
use Rattle.std.proofs.Common.{◌≡◌, ℕ, zero, suc, ◌+◌, ◌<◌, ◌≤◌, Bool, true, false, cond, List, [], ◌∷◌, length, get_or, set, map, Option, Some, None, refl, sym, ap, subst, ◌∙◌, arith}
use Rattle.std.specs.Prelude.{◌||◌, ◌&&◌, not, bytes_eq, position, nat_lt}
use Rattle.std.proofs.lemmas.List.Quantifiers.{position-Some}
use Rattle.std.proofs.lemmas.Bool.{ltb-false, or_parts}
use Rattle.std.specs.List.{list_any, position_or_len, AllByRecursion, IsDistinct}
use Rattle.std.proofs.lemmas.Slice.Eq.{bytes_eq-Decides}
use Rattle.std.proofs.lemmas.List.{length-map}
use Rattle.std.proofs.Math.Bool.{or-true}
use Rattle.std.proofs.lemmas.List.Folds.{list_any_at}
use Rattle.cg_record.specs.declared.member_record.MemberRecord.{MemberRecord}
use Rattle.cg_record.specs.Rosters.{RosterParts, roster_of, has_id, has_instance, is_one_instance, have_one_name, is_led_by, AreApart, IsRoster, IsPlace, takes_place_of, has_id_of_other, may_replace, seated, leads_and_goes, leader_after, replaced_in}
use Rattle.cg_record.proofs.Keys.{all_fail}

-- ---- one element of a list that passes a test

module _ {X : Type 0} (e : X → X → Bool) (p : X → Bool) (clash : (x y : X) → p x ≡ true → p y ≡ true → e x y ≡ true) (new : X) where
  -- no other element passes the test that this one passes
  others_fail : (x : X) (xs : List X) → p x ≡ true → AllByRecursion (λ y. e x y ≡ false) xs → AllByRecursion (λ y. p y ≡ false) xs
  others_fail x [] here apart = tt
  others_fail x (y ∷ ys) here apart = (fails (p y) refl, others_fail x ys here apart.1)
    where
      fails : (b : Bool) → p y ≡ b → b ≡ false
      fails true is = absurd (let both : true ≡ false = sym (clash x y here is) ∙ apart.0 in cc)
      fails false is = refl

  each_at : (P : X → Type 0) (xs : List X) (i : ℕ) (d : X) → i < length xs → AllByRecursion P xs → P (get_or xs i d)
  each_at P [] i d lt each = absurd (omega arith)
  each_at P (x ∷ xs) zero d lt each = each.0
  each_at P (x ∷ xs) (suc i) d lt each = each_at P xs i d (omega arith) each.1

  -- an element before it fails the test
  first_fails : (x : X) (xs : List X) (i : ℕ) (d : X) → i < length xs → AllByRecursion (λ y. e x y ≡ false) xs → p (get_or xs i d) ≡ true → p x ≡ false
  first_fails x xs i d lt apart hit = fails (p x) refl
    where
      fails : (b : Bool) → p x ≡ b → b ≡ false
      fails true is = absurd (let both : true ≡ false = sym (clash x (get_or xs i d) is hit) ∙ each_at (λ y. e x y ≡ false) xs i d lt apart in cc)
      fails false is = refl

  put : X → X
  put x = cond (p x) new x

  unmoved : (xs : List X) → AllByRecursion (λ y. p y ≡ false) xs → map (λ x. cond (p x) new x) xs ≡ xs
  unmoved [] each = refl
  unmoved (x ∷ xs) each = rw (each.0, unmoved xs each.1) refl

  -- replacing the elements that pass is an assignment at the index
  pub map-set : (xs : List X) (i : ℕ) (d : X) → IsDistinct e xs → i < length xs → p (get_or xs i d) ≡ true → map (λ x. cond (p x) new x) xs ≡ set xs i new
  unfolding IsDistinct
  map-set [] i d apart lt hit = absurd (omega arith)
  map-set (x ∷ xs) zero d apart lt hit = rw (hit, unmoved xs (others_fail x xs hit apart.0)) refl
  map-set (x ∷ xs) (suc i) d apart lt hit =
      rw (first_fails x xs i d (omega arith) apart.0 hit, map-set xs i d apart.1 (omega arith) hit) refl

  none_of_both : (q : X → Bool) (xs : List X) → AllByRecursion (λ y. p y ≡ false) xs → list_any (λ x. p x && q x) xs ≡ false
  none_of_both q [] each = refl
  none_of_both q (x ∷ xs) each = rw (each.0, none_of_both q xs each.1) refl

  or_false : (b : Bool) → (b || false) ≡ b
  or_false true = refl
  or_false false = refl

  -- a further condition on the element that passes
  pub any-and : (q : X → Bool) (xs : List X) (i : ℕ) (d : X) → IsDistinct e xs → i < length xs → p (get_or xs i d) ≡ true → list_any (λ x. p x && q x) xs ≡ q (get_or xs i d)
  unfolding IsDistinct
  any-and q [] i d apart lt hit = absurd (omega arith)
  any-and q (x ∷ xs) zero d apart lt hit = rw (hit, none_of_both q xs (others_fail x xs hit apart.0)) (or_false (q x))
  any-and q (x ∷ xs) (suc i) d apart lt hit = rw (first_fails x xs i d (omega arith) apart.0 hit) (any-and q xs i d apart.1 (omega arith) hit)

  -- the new element differs from this one, if this one stays
  abbrev pub IsApartFrom : X → Type 0
  IsApartFrom x = p x ≡ false → (e x new ≡ false) × (e new x ≡ false)

  pair_apart : (x y : X) → e x y ≡ false → IsApartFrom x → IsApartFrom y → e (cond (p x) new x) (cond (p y) new y) ≡ false
  pair_apart x y apart ax ay = cases (p x) (p y) refl refl
    where
      cases : (b c : Bool) → p x ≡ b → p y ≡ c → e (cond b new x) (cond c new y) ≡ false
      cases true true is also = absurd (let both : true ≡ false = sym (clash x y is also) ∙ apart in cc)
      cases true false is also = (ay also).1
      cases false true is also = (ax is).0
      cases false false is also = apart

  row_apart : (x : X) (xs : List X) → AllByRecursion (λ y. e x y ≡ false) xs → IsApartFrom x → AllByRecursion IsApartFrom xs → AllByRecursion (λ y. e (cond (p x) new x) y ≡ false) (map (λ y. cond (p y) new y) xs)
  row_apart x [] apart ax each = tt
  row_apart x (y ∷ ys) apart ax each = (pair_apart x y apart.0 ax each.0, row_apart x ys apart.1 ax each.1)

  -- distinct elements stay distinct
  pub map-apart : (xs : List X) → IsDistinct e xs → AllByRecursion IsApartFrom xs → IsDistinct e (map (λ x. cond (p x) new x) xs)
  unfolding IsDistinct
  map-apart [] apart each = tt
  map-apart (x ∷ xs) apart each = (row_apart x xs apart.0 each.0 each.1, map-apart xs apart.1 each.1)

-- ---- names

bytes_eq-sym : (a b : List ℕ) → bytes_eq a b ≡ bytes_eq b a
bytes_eq-sym a b = cases (bytes_eq a b) (bytes_eq b a) refl refl
  where
    cases : (p q : Bool) → bytes_eq a b ≡ p → bytes_eq b a ≡ q → p ≡ q
    cases true true is also = refl
    cases false false is also = refl
    cases true false is also =
        let same = (bytes_eq-Decides a b).0 is in
        sym ((bytes_eq-Decides b a).1 (sym same)) ∙ also
    cases false true is also =
        let same = (bytes_eq-Decides b a).0 also in
        sym is ∙ (bytes_eq-Decides a b).1 (sym same)

one_instance-sym : (a b : Option (List ℕ)) → is_one_instance a b ≡ is_one_instance b a
one_instance-sym None None = refl
one_instance-sym None (Some b) = refl
one_instance-sym (Some a) None = refl
one_instance-sym (Some a) (Some b) = bytes_eq-sym a b

one_instance-join : (a n b : Option (List ℕ)) → is_one_instance a n ≡ true → is_one_instance b n ≡ true → is_one_instance a b ≡ true
one_instance-join None n b is also = absurd cc
one_instance-join (Some a) None b is also = absurd cc
one_instance-join (Some a) (Some n) None is also = absurd cc
one_instance-join (Some a) (Some n) (Some b) is also =
    (bytes_eq-Decides a b).1 ((bytes_eq-Decides a n).0 is ∙ sym ((bytes_eq-Decides b n).0 also))

join_names : (new x y : MemberRecord) → takes_place_of new x ≡ true → takes_place_of new y ≡ true → have_one_name x y ≡ true
join_names new x y is also = right (has_id y.id x) (has_instance y.instance x) (one_instance-join x.instance new.instance y.instance is also)
  where
    right : (a b : Bool) → b ≡ true → (a || b) ≡ true
    right true b e = refl
    right false b e = e

-- ---- the members after the replacement

-- a member that stays has neither the new one's id nor its instance
stays_apart : (new x : MemberRecord) → has_id_of_other new x ≡ false → takes_place_of new x ≡ false → (have_one_name x new ≡ false) × (have_one_name new x ≡ false)
stays_apart new x no_id no_instance =
    let id : has_id new.id x ≡ false = other_id (has_id new.id x) (takes_place_of new x) no_id no_instance in
    let back : has_id x.id new ≡ false = bytes_eq-sym new.id x.id ∙ id in
    let instance : has_instance x.instance new ≡ false = one_instance-sym new.instance x.instance ∙ no_instance in
    (rw (id, no_instance) refl, rw (back, instance) refl)
  where
    other_id : (a b : Bool) → (a && not b) ≡ false → b ≡ false → a ≡ false
    other_id true true e is = absurd cc
    other_id true false e is = absurd cc
    other_id false b e is = refl

each_stays_apart : (new : MemberRecord) (xs : List MemberRecord) → AllByRecursion (λ x. has_id_of_other new x ≡ false) xs → AllByRecursion (IsApartFrom have_one_name (takes_place_of new) (join_names new) new) xs
each_stays_apart new [] each = tt
each_stays_apart new (x ∷ xs) each = ((λ no_instance. stays_apart new x each.0 no_instance), each_stays_apart new xs each.1)

pub seated_apart : (new : MemberRecord) (xs : List MemberRecord) → AreApart xs → list_any (has_id_of_other new) xs ≡ false → AreApart (map (seated new) xs)
seated_apart new xs apart none = map-apart have_one_name (takes_place_of new) (join_names new) new xs apart (each_stays_apart new xs (all_fail (has_id_of_other new) xs none))

pub seated_set : (new : MemberRecord) (xs : List MemberRecord) (i : ℕ) (d : MemberRecord) → AreApart xs → i < length xs → takes_place_of new (get_or xs i d) ≡ true → map (seated new) xs ≡ set xs i new
seated_set new xs i d apart lt hit = map-set have_one_name (takes_place_of new) (join_names new) new xs i d apart lt hit

pub leads_and_goes_at : (new : MemberRecord) (leader : List ℕ) (xs : List MemberRecord) (i : ℕ) (d : MemberRecord) → AreApart xs → i < length xs → takes_place_of new (get_or xs i d) ≡ true → list_any (leads_and_goes new leader) xs ≡ has_id leader (get_or xs i d)
leads_and_goes_at new leader xs i d apart lt hit = any-and have_one_name (takes_place_of new) (join_names new) new (has_id leader) xs i d apart lt hit

-- ---- the leader after the replacement

bytes_eq-same : (a : List ℕ) → bytes_eq a a ≡ true
bytes_eq-same a = (bytes_eq-Decides a a).1 refl

led_by_new : (new : MemberRecord) (xs : List MemberRecord) → list_any (takes_place_of new) xs ≡ true → is_led_by new.id (map (seated new) xs) ≡ true
led_by_new new [] some = absurd cc
led_by_new new (x ∷ xs) some = cases (takes_place_of new x) refl (led_by_new new xs)
  where
    cases : (b : Bool) → takes_place_of new x ≡ b → (list_any (takes_place_of new) xs ≡ true → is_led_by new.id (map (seated new) xs) ≡ true) → (has_id new.id (cond b new x) || is_led_by new.id (map (seated new) xs)) ≡ true
    cases true is later = rw (bytes_eq-same new.id) refl
    cases false is later =
        let rest : list_any (takes_place_of new) xs ≡ true = rw is at some in
        rw (later rest) (or-true (has_id new.id x))

led_by_old : (new : MemberRecord) (leader : List ℕ) (xs : List MemberRecord) → list_any (leads_and_goes new leader) xs ≡ false → is_led_by leader xs ≡ true → is_led_by leader (map (seated new) xs) ≡ true
led_by_old new leader [] none led = absurd cc
led_by_old new leader (x ∷ xs) none led = cases (has_id leader x) (takes_place_of new x) refl refl (led_by_old new leader xs)
  where
    parts : (leads_and_goes new leader x ≡ false) × (list_any (leads_and_goes new leader) xs ≡ false)
    parts = or_parts (leads_and_goes new leader x) (list_any (leads_and_goes new leader) xs) none

    cases : (l p : Bool) → has_id leader x ≡ l → takes_place_of new x ≡ p → (list_any (leads_and_goes new leader) xs ≡ false → is_led_by leader xs ≡ true → is_led_by leader (map (seated new) xs) ≡ true) → (has_id leader (cond p new x) || is_led_by leader (map (seated new) xs)) ≡ true
    cases true true is also later = absurd (let goes : leads_and_goes new leader x ≡ true = rw (also, is) refl in let clash : true ≡ false = sym goes ∙ parts.0 in cc)
    cases true false is also later = rw is refl
    cases false p is also later =
        let rest : is_led_by leader xs ≡ true = rw is at led in
        rw (later parts.1 rest) (or-true (has_id leader (cond p new x)))

leads_then : (b : Bool) (new : MemberRecord) (leader : List ℕ) (xs : List MemberRecord) → list_any (leads_and_goes new leader) xs ≡ b → list_any (takes_place_of new) xs ≡ true → is_led_by leader xs ≡ true → is_led_by (cond b new.id leader) (map (seated new) xs) ≡ true
leads_then true new leader xs goes some led = led_by_new new xs some
leads_then false new leader xs goes some led = led_by_old new leader xs goes led

-- the members stay lawful, and one of them leads
pub seated_roster : (new : MemberRecord) (roster : RosterParts) → IsRoster roster → list_any (takes_place_of new) roster.members ≡ true → list_any (has_id_of_other new) roster.members ≡ false
    → IsRoster (roster_of roster.protocol (leader_after new roster) (map (seated new) roster.members))
seated_roster new roster is some none = record {
  members = record {
    some = omega (arith, is.members.some, length-map roster.members (seated new));
    few = omega (arith, is.members.few, length-map roster.members (seated new));
    apart = seated_apart new roster.members is.members.apart none;
  };
  led = leads_then (list_any (leads_and_goes new roster.leader) roster.members) new roster.leader roster.members refl some is.led;
}

-- ---- the index of the replaced member

pub place_found : (new : MemberRecord) (members : List MemberRecord) (at : ℕ) → position (takes_place_of new) members ≡ Some at → list_any (has_id_of_other new) members ≡ false → IsPlace new members at
place_found new members at found none =
    let first = position-Some (takes_place_of new) members at new found in
    let some = list_any_at (takes_place_of new) members at new first.0 first.1 in
    record { may = rw (some, none) refl; within = first.0; taken = λ d. (position-Some (takes_place_of new) members at d found).1 }

none_before_end : {X : Type 0} (p : X → Bool) (xs : List X) → length xs ≤ position_or_len p xs → list_any p xs ≡ false
none_before_end p [] le = refl
none_before_end p (x ∷ xs) le = cases (p x) refl (none_before_end p xs)
  where
    cases : (b : Bool) → p x ≡ b → (length xs ≤ position_or_len p xs → list_any p xs ≡ false) → (b || list_any p xs) ≡ false
    cases true is later =
        let here : position_or_len p (x ∷ xs) ≡ 0 = rw is refl in
        absurd (omega arith)
    cases false is later =
        let more : position_or_len p (x ∷ xs) ≡ 1 + position_or_len p xs = rw is refl in
        later (omega arith)

none_of_position : {X : Type 0} (p : X → Bool) (xs : List X) → position p xs ≡ None → list_any p xs ≡ false
none_of_position p xs none = cases (nat_lt (position_or_len p xs) (length xs)) refl none
  where
    cases : (b : Bool) → nat_lt (position_or_len p xs) (length xs) ≡ b → cond b (Some (position_or_len p xs)) None ≡ None → list_any p xs ≡ false
    cases true is e = absurd cc
    cases false is e = none_before_end p xs (ltb-false _ _ is)

pub place_missed : (new : MemberRecord) (members : List MemberRecord) → position (takes_place_of new) members ≡ None → may_replace new members ≡ false
place_missed new members none = rw (none_of_position (takes_place_of new) members none) refl

pub place_refused : (new : MemberRecord) (members : List MemberRecord) → list_any (has_id_of_other new) members ≡ true → may_replace new members ≡ false
place_refused new members taken = cases (list_any (takes_place_of new) members) refl
  where
    cases : (b : Bool) → list_any (takes_place_of new) members ≡ b → (b && not (list_any (has_id_of_other new) members)) ≡ false
    cases true is = rw taken refl
    cases false is = refl

and_parts_not : (a b : Bool) → (a && not b) ≡ true → (a ≡ true) × (b ≡ false)
and_parts_not true true e = absurd cc
and_parts_not true false e = (refl, refl)
and_parts_not false b e = absurd cc

-- the members after the new one is written at the index
pub placed : (new : MemberRecord) (roster : RosterParts) (at : ℕ) (old : MemberRecord) (leads : Bool) (leader : List ℕ) (members : List MemberRecord) → IsRoster roster → IsPlace new roster.members at
    → old ≡ get_or roster.members at old → leads ≡ has_id roster.leader old → leader ≡ cond leads new.id roster.leader → members ≡ set roster.members at new
    → IsRoster (roster_of roster.protocol leader members) × (roster_of roster.protocol leader members ≡ replaced_in new roster)
unfolding replaced_in
placed new roster at old leads leader members is place old_is leads_is leader_is members_is =
    let parts = and_parts_not (list_any (takes_place_of new) roster.members) (list_any (has_id_of_other new) roster.members) place.may in
    let goes : list_any (leads_and_goes new roster.leader) roster.members ≡ leads =
    leads_and_goes_at new roster.leader roster.members at old is.members.apart place.within (place.taken old) ∙ ap (has_id roster.leader) (sym old_is) ∙ sym leads_is in
    let leader_then : leader ≡ leader_after new roster = leader_is ∙ ap (λ b. cond b new.id roster.leader) (sym goes) in
    let members_then : members ≡ map (seated new) roster.members = members_is ∙ sym (seated_set new roster.members at old is.members.apart place.within (place.taken old)) in
    let same : roster_of roster.protocol leader members ≡ roster_of roster.protocol (leader_after new roster) (map (seated new) roster.members) =
    ap (λ l. roster_of roster.protocol l members) leader_then ∙ ap (roster_of roster.protocol (leader_after new roster)) members_then in
    (subst IsRoster (sym same) (seated_roster new roster is parts.0 parts.1), same ∙ sym (ap (λ b. cond b (roster_of roster.protocol (leader_after new roster) (map (seated new) roster.members)) roster) place.may))

pub unplaced : (new : MemberRecord) (roster : RosterParts) → may_replace new roster.members ≡ false → roster ≡ replaced_in new roster
unfolding replaced_in
unplaced new roster not_there = sym (ap (λ b. cond b (roster_of roster.protocol (leader_after new roster) (map (seated new) roster.members)) roster) not_there)
