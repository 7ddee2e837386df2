-- The members of a group make a lawful record.
use Rattle.std.proofs.Common.{◌≡◌, ℕ, ◌≤◌, Bool, true, false, not, ◌||◌, List, [], ◌∷◌, ◌++◌, length, map, refl, sym, subst, Option, Some, None, arith}
use Rattle.std.specs.List.{list_any, AllByRecursion, IsDistinct}
use Rattle.std.specs.Option.{option_to_list}
use Rattle.std.proofs.lemmas.Bool.{and_parts, and_from, or_parts, or_from, or_left, or_right, false≢true, not_from_false, not-true}
use Rattle.std.proofs.lemmas.Cmp.{nat_list_eq_equiv}
use Rattle.std.proofs.lemmas.List.{length-map}
use Rattle.cg_record.specs.declared.member_record.MemberRecord.{MemberRecord}
use Rattle.cg_record.specs.declared.roster.TheConstants.{MEMBERS_MAX}
use Rattle.cg_record.specs.Rosters.{AreApart, IsRoster, have_one_name, is_led_by, is_one_instance, roster_of}
use Rattle.cg_group_state.specs.declared.group.Group.{Group}
use Rattle.cg_group_state.specs.declared.member.Member.{Member}
use Rattle.cg_request.specs.Names.{are_distinct}
use Rattle.cg_group_state.specs.Members.{AreMembers, ids, instances}
use Rattle.cg_group_state.specs.Membership.{has_member, is_same}
use Rattle.cg_group_rules.specs.Sync.{kept_member}
use Rattle.cg_group_state.proofs.Seats.{rest_distinct}

one_instance_free : (o : Option (List ℕ)) (y : Option (List ℕ)) (rest : List (List ℕ)) → are_distinct (option_to_list o ++ (option_to_list y ++ rest)) ≡ true → is_one_instance o y ≡ false
unfolding are_distinct
one_instance_free None y rest e = refl
one_instance_free (Some i) None rest e = refl
one_instance_free (Some i) (Some j) rest e =
    (or_parts (is_same i j) (list_any (is_same i) rest) (not-true (is_same i j || list_any (is_same i) rest) (and_parts (not (is_same i j || list_any (is_same i) rest)) (are_distinct (j ∷ rest)) e).0)).0

skip_one : (o : Option (List ℕ)) (y : Option (List ℕ)) (rest : List (List ℕ)) → are_distinct (option_to_list o ++ (option_to_list y ++ rest)) ≡ true → are_distinct (option_to_list o ++ rest) ≡ true
unfolding are_distinct
skip_one None None rest e = e
skip_one None (Some j) rest e = (and_parts (not (list_any (is_same j) rest)) (are_distinct rest) e).1
skip_one (Some i) None rest e = e
skip_one (Some i) (Some j) rest e =
    let outer = and_parts (not (is_same i j || list_any (is_same i) rest)) (are_distinct (j ∷ rest)) e in
    let apart = or_parts (is_same i j) (list_any (is_same i) rest) (not-true (is_same i j || list_any (is_same i) rest) outer.0) in
    let inner = and_parts (not (list_any (is_same j) rest)) (are_distinct rest) outer.1 in
    and_from (not (list_any (is_same i) rest)) (are_distinct rest) (not_from_false (list_any (is_same i) rest) apart.1) inner.1

others_apart : (p : Option (List ℕ)) (m : Member) (ms : List Member) → list_any (is_same m.id) (ids ms) ≡ false → are_distinct (option_to_list m.instance ++ instances ms) ≡ true → AllByRecursion (λ y. have_one_name (kept_member p m) y ≡ false) (map (kept_member p) ms)
others_apart p m [] e f = tt
others_apart p m (x ∷ xs) e f =
    let parts = or_parts (is_same m.id x.id) (list_any (is_same m.id) (ids xs)) e in
    (or_from (is_same m.id x.id) (is_one_instance m.instance x.instance) parts.0 (one_instance_free m.instance x.instance (instances xs) f), others_apart p m xs parts.1 (skip_one m.instance x.instance (instances xs) f))

apart-kept : (p : Option (List ℕ)) (ms : List Member) → are_distinct (ids ms) ≡ true → are_distinct (instances ms) ≡ true → AreApart (map (kept_member p) ms)
unfolding IsDistinct are_distinct
apart-kept p [] e f = tt
apart-kept p (m ∷ ms) e f =
    let parts = and_parts (not (list_any (is_same m.id) (ids ms))) (are_distinct (ids ms)) e in
    (others_apart p m ms (not-true (list_any (is_same m.id) (ids ms)) parts.0) f, apart-kept p ms parts.1 (rest_distinct m.instance (instances ms) f))

led-kept : (p : Option (List ℕ)) (leader : List ℕ) (ms : List Member) → has_member leader ms ≡ true → is_led_by leader (map (kept_member p) ms) ≡ true
led-kept p leader [] e = e
led-kept p leader (m ∷ ms) e =
    elim (is_same leader m.id) as (λ b. b ≡ is_same m.id leader → (b || has_member leader ms) ≡ true → (is_same m.id leader || is_led_by leader (map (kept_member p) ms)) ≡ true) [
      | true ↦ λ s _. or_left (is_same m.id leader) (is_led_by leader (map (kept_member p) ms)) (sym s)
      | false ↦ λ _ k. or_right (is_same m.id leader) (is_led_by leader (map (kept_member p) ms)) (led-kept p leader ms k)
    ] (nat_list_eq_equiv.symm leader m.id) e

some_member : (p : Member → Bool) (ms : List Member) → list_any p ms ≡ true → 1 ≤ length ms
some_member p [] e = absurd (false≢true e)
some_member p (m ∷ ms) e = omega arith

pub kept_roster_is : (protocol leader : List ℕ) (g : Group) (members : List MemberRecord) → members ≡ map (kept_member g.protocol) g.members → AreMembers g.members → has_member leader g.members ≡ true → IsRoster (roster_of protocol leader members)
kept_roster_is protocol leader g members e h led = subst (λ (ms : List MemberRecord). IsRoster (roster_of protocol leader ms)) (sym e) record {
  members = record {
    some = subst (λ (n : ℕ). 1 ≤ n) (sym (length-map g.members (kept_member g.protocol))) (some_member (λ m. is_same leader m.id) g.members led);
    few = subst (λ (n : ℕ). n ≤ MEMBERS_MAX) (sym (length-map g.members (kept_member g.protocol))) h.few;
    apart = apart-kept g.protocol g.members h.distinct.0 h.distinct.1;
  };
  led = led-kept g.protocol leader g.members led;
}
