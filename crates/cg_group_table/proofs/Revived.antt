-- The groups after recovery, and their order.
use Rattle.std.proofs.Common.{◌≡◌, ℕ, Bool, true, false, ◌||◌, List, [], ◌∷◌, cond, is_some, refl, sym, ap, ◌∙◌, subst, Option, Some, None, map as each, zero, suc, ◌+◌, ◌<◌, length, get_or, take, arith, ◌++◌}
use Rattle.std.proofs.Math.Dec.{T}
use Rattle.std.specs.List.{list_any}
use Rattle.std.specs.Cmp.{eq_by_cmp_equiv}
use Rattle.std.specs.Ordering.{eq_by_cmp, is_eq, is_lt, nat_cmp, ordering_then}
use Rattle.std.specs.Cmp.Lexicographic.{slice_cmp}
use Rattle.std.specs.FinMap.{contains_key-keys, entries, entries_sorted, from_entries, get, get-from_entries, is_sorted, keys}
use Rattle.std.specs.FinMap.Entries.{below_all, is_some-find}
use Rattle.std.specs.declared.cmp.Ordering.{Ordering}
use Rattle.std.specs.declared.cmp.Ordering.TheVariants.{Less, Equal, Greater}
use Rattle.std.proofs.lemmas.Bool.{or_left, or_right, false≢true}
use Rattle.std.proofs.lemmas.Cmp.{nat_list_cmp_total, nat_list_eq_equiv}
use Rattle.std.proofs.lemmas.List.{map-append, take_more}
use Rattle.std.proofs.lemmas.List.Folds.{list_any-append}
use Rattle.std.proofs.lemmas.Map.Text.{is_eq-slice_cmp}
use Rattle.cg_fold.specs.declared.group_record.GroupRecord.{GroupRecord}
use Rattle.cg_fold.specs.declared.group_record.RecordedMembers.{RecordedMembers}
use Rattle.cg_fold.specs.declared.group_record.RecordedMembers.TheVariants as recorded
use Rattle.cg_fold.specs.Durable.{State}
use Rattle.cg_record.specs.Partitions.{partition_cmp}
use Rattle.cg_fold.specs.Key.{OffsetKey, key_cmp, name_cmp}
use Rattle.cg_fold.specs.Snapshot.{groups_in, in_order, marked}
use Rattle.cg_fold.proofs.KeyOrder.{key_total}
use Rattle.cg_fold.proofs.Place.{less, both}
use Rattle.cg_record.specs.Rosters.{RosterParts}
use Rattle.cg_group_state.specs.declared.group.Group.{Group}
use Rattle.cg_group_rules.specs.Join.{new_group}
use Rattle.cg_group_table.specs.Kept.{Ascending, ComeBefore, ComesBefore, Each, HasOffset, kept_in}
use Rattle.cg_group_table.specs.GroupTable.{InOrder, find_group, with_group}
use Rattle.cg_group_state.specs.Membership.{is_same}
use Rattle.cg_group_table.specs.Recovery.{revived, revived_from, revived_with}
use Rattle.cg_group_table.proofs.Homing.{each_to_place}
use Rattle.cg_group_table.proofs.InOrder.{with_group-last}
use Rattle.cg_group_table.proofs.KeptLists.{group_ids, same_names, same_self}
use Rattle.cg_group_state.specs.Offsets.{OffsetMap}

-- names in ascending order

before_keys : {X : Type 0} (x : List ℕ) (es : List (List ℕ × X)) → T (below_all name_cmp x es) → ComesBefore x (each (λ e. e.0) es)
before_keys x [] h = tt
before_keys x (e ∷ es) h =
    let parts = both (is_lt (name_cmp x e.0)) (below_all name_cmp x es) h in
    (less (slice_cmp nat_cmp x e.0) parts.0, before_keys x es parts.1)

ascending_keys : {X : Type 0} (es : List (List ℕ × X)) → T (is_sorted name_cmp es) → Ascending (each (λ e. e.0) es)
ascending_keys [] h = tt
ascending_keys (e ∷ es) h =
    let parts = both (below_all name_cmp e.0 es) (is_sorted name_cmp es) h in
    (before_keys e.0 es parts.0, ascending_keys es parts.1)

ascending-in_order : (names : List (List ℕ)) → Ascending (in_order names)
ascending-in_order names = ascending_keys (entries (from_entries {R = name_cmp} (each marked names))) (entries_sorted (from_entries {R = name_cmp} (each marked names)))

id_with : (now : ℕ) (id : List ℕ) (r : GroupRecord) (o : RecordedMembers) → (revived_with now id r o).id ≡ id
unfolding revived_with
id_with now id r (recorded.Roster roster) = refl
id_with now id r (recorded.Empty moment) = refl

id_from : (now : ℕ) (id : List ℕ) (o : Option GroupRecord) → (revived_from now id o).id ≡ id
unfolding new_group
id_from now id None = refl
id_from now id (Some r) = id_with now id r r.members

pub id_revived : (now : ℕ) (state : State) (id : List ℕ) → (revived now state id).id ≡ id
unfolding revived
id_revived now state id = id_from now id (kept_in state id)

ids_revived : (now : ℕ) (state : State) (names : List (List ℕ)) → group_ids (each (revived now state) names) ≡ names
ids_revived now state [] = refl
ids_revived now state (x ∷ xs) = ap (λ y. y ∷ group_ids (each (revived now state) xs)) (id_revived now state x) ∙ ap (λ ys. x ∷ ys) (ids_revived now state xs)

pub in_order-revived : (now : ℕ) (state : State) → InOrder (each (revived now state) (in_order (groups_in state)))
in_order-revived now state =
    let P : List (List ℕ) → Type 0 = λ xs. Ascending xs in
    subst P (sym (ids_revived now state (in_order (groups_in state)))) (ascending-in_order (groups_in state))

-- one more group, inserted after those before it

pub before_take : (xs : List (List ℕ)) (n : ℕ) (d : List ℕ) → n < length xs → Ascending xs → ComeBefore (take n xs) (get_or xs n d)
before_take [] n d lt h = absurd (omega arith)
before_take (x ∷ xs) zero d lt h = tt
before_take (x ∷ xs) (suc n) d lt h = (each_to_place (λ y. slice_cmp nat_cmp x y ≡ Less) xs h.0 n d (omega arith), before_take xs n d (omega arith) h.1)

pub revived_next : (now : ℕ) (state : State) (n : ℕ) (x : List ℕ) → n < length (in_order (groups_in state)) → x ≡ get_or (in_order (groups_in state)) n x
    → with_group (revived now state x) (each (revived now state) (take n (in_order (groups_in state)))) ≡ each (revived now state) (take (n + 1) (in_order (groups_in state)))
revived_next now state n x below here =
    let names = in_order (groups_in state) in
    let g : Group = revived now state x in
    let P : List (List ℕ) → Type 0 = λ ids. ComeBefore ids g.id in
    let Q : List ℕ → Type 0 = λ y. ComeBefore (take n names) y in
    let behind = subst P (sym (ids_revived now state (take n names))) (subst Q (sym (id_revived now state x ∙ here)) (before_take names n x below (ascending-in_order (groups_in state)))) in
    with_group-last g (each (revived now state) (take n names)) behind
    ∙ sym (ap (each (revived now state)) (take_more names n x below ∙ ap (λ y. take n names ++ y ∷ []) (sym here)) ∙ map-append (revived now state) (take n names) (x ∷ []))

-- a group with a record is among them

same_by_order : (x y : List ℕ) → eq_by_cmp name_cmp x y ≡ is_same y x
same_by_order x y = is_eq-slice_cmp x y ∙ nat_list_eq_equiv.symm x y

names_marked : (q : List ℕ) (names : List (List ℕ)) → list_any (eq_by_cmp name_cmp q) (each (λ e. e.0) (each marked names)) ≡ list_any (eq_by_cmp name_cmp q) names
names_marked q [] = refl
names_marked q (x ∷ xs) = ap (λ b. eq_by_cmp name_cmp q x || b) (names_marked q xs)

in_order-has : (q : List ℕ) (names : List (List ℕ)) → list_any (eq_by_cmp name_cmp q) (in_order names) ≡ list_any (eq_by_cmp name_cmp q) names
in_order-has q names =
    sym (contains_key-keys (from_entries {R = name_cmp} (each marked names)) q)
    ∙ ap is_some (get-from_entries nat_list_cmp_total (each marked names) q)
    ∙ is_some-find name_cmp q (each marked names)
    ∙ names_marked q names

found_among : (now : ℕ) (state : State) (id : List ℕ) (names : List (List ℕ)) → list_any (eq_by_cmp name_cmp id) names ≡ true → is_some (find_group id (each (revived now state) names)) ≡ true
unfolding find_group
found_among now state id [] h = h
found_among now state id (x ∷ xs) h =
    let P : List ℕ → Type 0 = λ i. is_some (cond (is_same i id) (Some (revived now state x)) (find_group id (each (revived now state) xs))) ≡ true in
    subst P (sym (id_revived now state x))
    ((elim (is_same x id) as (λ b. eq_by_cmp name_cmp id x ≡ b → is_some (cond b (Some (revived now state x)) (find_group id (each (revived now state) xs))) ≡ true) [
      | true ↦ λ e. refl
      | false ↦ λ e. found_among now state id xs (sym (ap (λ b. b || list_any (eq_by_cmp name_cmp id) xs) e) ∙ h)
    ]) (same_by_order id x))

pub held_revived : (now : ℕ) (state : State) (id : List ℕ) → is_some (kept_in state id) ≡ true → is_some (find_group id (each (revived now state) (in_order (groups_in state)))) ≡ true
held_revived now state id h =
    found_among now state id (in_order (groups_in state))
    (in_order-has id (groups_in state)
    ∙ list_any-append (eq_by_cmp name_cmp id) (keys state.records) (each (λ k. k.group) (keys state.offsets))
    ∙ or_left (list_any (eq_by_cmp name_cmp id) (keys state.records)) (list_any (eq_by_cmp name_cmp id) (each (λ k. k.group) (keys state.offsets))) (sym (contains_key-keys state.records id) ∙ h))

-- a group with an offset is among them

-- keys that compare equal have equal groups
same_group : (k x : OffsetKey) → eq_by_cmp key_cmp k x ≡ true → eq_by_cmp name_cmp k.group x.group ≡ true
same_group k x e = first (name_cmp k.group x.group) (partition_cmp k.partition x.partition) e
  where
    first : (a b : Ordering) → is_eq (ordering_then a b) ≡ true → is_eq a ≡ true
    first Less b e = absurd (false≢true e)
    first Equal b e = refl
    first Greater b e = absurd (false≢true e)

group_among : (k : OffsetKey) (ks : List OffsetKey) → list_any (eq_by_cmp key_cmp k) ks ≡ true → list_any (eq_by_cmp name_cmp k.group) (each (λ x. x.group) ks) ≡ true
group_among k [] h = h
group_among k (x ∷ xs) h =
    (elim (eq_by_cmp key_cmp k x) as (λ b. (b ≡ true → eq_by_cmp name_cmp k.group x.group ≡ true) → (b || list_any (eq_by_cmp key_cmp k) xs) ≡ true → (eq_by_cmp name_cmp k.group x.group || list_any (eq_by_cmp name_cmp k.group) (each (λ y. y.group) xs)) ≡ true) [
      | true ↦ λ own _. or_left (eq_by_cmp name_cmp k.group x.group) _ (own refl)
      | false ↦ λ _ h. or_right (eq_by_cmp name_cmp k.group x.group) _ (group_among k xs h)
    ]) (same_group k x) h

pub read_revived : (now : ℕ) (state : State) (key : OffsetKey) → is_some (get state.offsets key) ≡ true → is_some (find_group key.group (each (revived now state) (in_order (groups_in state)))) ≡ true
read_revived now state key h =
    found_among now state key.group (in_order (groups_in state))
    (in_order-has key.group (groups_in state)
    ∙ list_any-append (eq_by_cmp name_cmp key.group) (keys state.records) (each (λ k. k.group) (keys state.offsets))
    ∙ or_right (list_any (eq_by_cmp name_cmp key.group) (keys state.records)) (list_any (eq_by_cmp name_cmp key.group) (each (λ k. k.group) (keys state.offsets)))
    (group_among key (keys state.offsets) (sym (contains_key-keys state.offsets key) ∙ h)))

-- a group among them has a record or an offset

offset_among : (group : List ℕ) (offsets : OffsetMap) (ks : List OffsetKey) → ((k : OffsetKey) → list_any (eq_by_cmp key_cmp k) ks ≡ true → is_some (get offsets k) ≡ true) → list_any (eq_by_cmp name_cmp group) (each (λ k. k.group) ks) ≡ true → HasOffset offsets group
offset_among group offsets [] has e = absurd (false≢true e)
offset_among group offsets (k ∷ ks) has e =
    (elim (eq_by_cmp name_cmp group k.group) as (λ b. eq_by_cmp name_cmp group k.group ≡ b → (b || list_any (eq_by_cmp name_cmp group) (each (λ x. x.group) ks)) ≡ true → HasOffset offsets group) [
      | true ↦ λ same _. record {
        key = k;
        own = same_names k.group group (sym (same_by_order group k.group) ∙ same);
        stored = has k (or_left (eq_by_cmp key_cmp k k) (list_any (eq_by_cmp key_cmp k) ks) ((eq_by_cmp_equiv key_total).refl k));
      }
      | false ↦ λ _ rest. offset_among group offsets ks (λ x h. has x (or_right (eq_by_cmp key_cmp x k) (list_any (eq_by_cmp key_cmp x) ks) h)) rest
    ]) refl e

stored_offset : (state : State) (q : List ℕ) → list_any (eq_by_cmp name_cmp q) (in_order (groups_in state)) ≡ true → kept_in state q ≡ None → HasOffset state.offsets q
stored_offset state q e none =
    let read : Bool = list_any (eq_by_cmp name_cmp q) (each (λ k. k.group) (keys state.offsets)) in
    let split : (list_any (eq_by_cmp name_cmp q) (keys state.records) || read) ≡ true =
    sym (list_any-append (eq_by_cmp name_cmp q) (keys state.records) (each (λ k. k.group) (keys state.offsets))) ∙ sym (in_order-has q (groups_in state)) ∙ e in
    let unkept : list_any (eq_by_cmp name_cmp q) (keys state.records) ≡ false = sym (contains_key-keys state.records q) ∙ ap is_some none in
    offset_among q state.offsets (keys state.offsets) (λ k h. contains_key-keys state.offsets k ∙ h) (sym (ap (λ b. b || read) unkept) ∙ split)

stored_offsets : (state : State) (names : List (List ℕ)) → ((q : List ℕ) → list_any (eq_by_cmp name_cmp q) names ≡ true → list_any (eq_by_cmp name_cmp q) (in_order (groups_in state)) ≡ true) → Each (λ q. kept_in state q ≡ None → HasOffset state.offsets q) names
stored_offsets state [] within = tt
stored_offsets state (x ∷ xs) within = (
  stored_offset state x (within x (or_left (eq_by_cmp name_cmp x x) (list_any (eq_by_cmp name_cmp x) xs) (same_by_order x x ∙ same_self x))),
  stored_offsets state xs (λ q h. within q (or_right (eq_by_cmp name_cmp q x) (list_any (eq_by_cmp name_cmp q) xs) h)),
)

pub offsets_revived : (state : State) → Each (λ q. kept_in state q ≡ None → HasOffset state.offsets q) (in_order (groups_in state))
offsets_revived state = stored_offsets state (in_order (groups_in state)) (λ q h. h)
