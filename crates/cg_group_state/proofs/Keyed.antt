-- The entries of a map in which each member stands under its id.
use Rattle.std.proofs.Common.{cond, find, ◌≡◌, ℕ, suc, zero, ◌+◌, ◌<◌, ◌≤◌, Bool, true, false, not, List, [], ◌∷◌, ◌++◌, append_assoc, append-nil, drop, filter, take, take-append-drop, length, map, nat_lt, slice_get, insert, remove, is_some, IsSome, Ok, Result, Some, None, refl, sym, ap, ◌∙◌, subst, arith}
use Rattle.std.specs.Prelude.{if◌then◌else◌, nat_eq}
use Rattle.std.specs.Cmp.Lexicographic.{pointwise}
use Rattle.std.specs.List.{AllByRecursion, IsDistinct, list_any, position, position_or_len}
use Rattle.std.specs.Map.{keys_of, lookup, values_of}
use Rattle.std.proofs.Math.ListN.{set}
use Rattle.std.proofs.lemmas.Bool.{and_parts, false≢true, not-true, or_from, or_parts}
use Rattle.std.proofs.lemmas.Cmp.{nat_list_eq_equiv}
use Rattle.std.proofs.lemmas.List.{nil_from_length, length-map, map-append, map-set}
use Rattle.std.proofs.lemmas.List.Edits.{length-remove}
use Rattle.std.proofs.lemmas.Map.Made.{is_some-lookup}
use Rattle.std.proofs.lemmas.Option.{get_or_from_slice_get, slice_get-map}
use Rattle.std.specs.Option.{option_map}
use Rattle.std.specs.Result.{OnOk}
use Rattle.cg_request.specs.Names.{are_distinct, is_same}
use Rattle.cg_record.proofs.Keys.{IsDistinct-middle}
use Rattle.indexmap.specs.IndexMap.{IndexMap, insert_all, insert_entry, move_index, set_value_at, values, with_value_at}
use Rattle.indexmap.proofs.CallerLemmas.{keys-with_value_at}
use Rattle.indexmap.proofs.MoveLemmas.{push_moved}
use Rattle.cg_group_state.specs.declared.member.Member.{Member}
use Rattle.cg_group_state.specs.Keyed.{AreKeyed}
use Rattle.cg_group_state.specs.Members.{AreMembers, ids}
use Rattle.cg_group_state.specs.Membership.{find_instance, find_member, has_id, has_instance, with_member, seating}
use Rattle.cg_group_state.proofs.Keeping.{map-with_member}
use Rattle.cg_group_state.proofs.Places.{find_from_no_position, find_from_position, place_is, with_member_from_place}
use Rattle.cg_group_state.proofs.Seats.{back_seated, instance_of, other_way, seating_place}

-- the equality of ids
abbrev pub same : List ℕ → List ℕ → Bool
same = pointwise nat_eq

-- ---- different ids, as a map says it

none_same : (k : List ℕ) (ks : List (List ℕ)) → list_any (is_same k) ks ≡ false → AllByRecursion (λ y. same k y ≡ false) ks
none_same k [] e = tt
none_same k (x ∷ xs) e = let parts = or_parts (is_same k x) (list_any (is_same k) xs) e in (parts.0, none_same k xs parts.1)

pub distinct_keys : (ks : List (List ℕ)) → are_distinct ks ≡ true → IsDistinct same ks
unfolding are_distinct IsDistinct
distinct_keys [] e = tt
distinct_keys (k ∷ ks) e =
    let parts = and_parts (not (list_any (is_same k) ks)) (are_distinct ks) e in
    (none_same k ks (not-true (list_any (is_same k) ks) parts.0), distinct_keys ks parts.1)

-- ---- what comes into an empty map one after the other

module _ {X : Type 0} where
  pub insert_entry-absent : (es : List (List ℕ × X)) (k : List ℕ) (v : X) → list_any (same k) (keys_of es) ≡ false → insert_entry same es k v ≡ es ++ (k, v) ∷ []
  insert_entry-absent [] k v h = refl
  insert_entry-absent (e ∷ es) k v h =
      let parts = or_parts (same k e.0) (list_any (same k) (keys_of es)) h in
      ap (λ b. if b then (e.0, v) ∷ es else e ∷ insert_entry same es k v) parts.0 ∙ ap (λ l. e ∷ l) (insert_entry-absent es k v parts.1)

  insert_all-onto : (done xs : List (List ℕ × X)) → IsDistinct same (keys_of done ++ keys_of xs) → insert_all same done xs ≡ done ++ xs
  insert_all-onto done [] d = sym (append-nil done)
  insert_all-onto done (x ∷ xs) d =
      let absent : list_any (same x.0) (keys_of done) ≡ false = other_way x.0 (keys_of done) (IsDistinct-middle same (keys_of done) x.0 (keys_of xs) d) in
      let keys : keys_of (done ++ x ∷ []) ++ keys_of xs ≡ keys_of done ++ x.0 ∷ keys_of xs =
      ap (λ l. l ++ keys_of xs) (map-append (λ (e : List ℕ × X). e.0) done (x ∷ [])) ∙ append_assoc (keys_of done) (x.0 ∷ []) (keys_of xs) in
      ap (λ l. insert_all same l xs) (insert_entry-absent done x.0 x.1 absent)
      ∙ insert_all-onto (done ++ x ∷ []) xs (subst (IsDistinct same) (sym keys) d)
      ∙ append_assoc done (x ∷ []) xs

  pub insert_all-empty : (xs : List (List ℕ × X)) → IsDistinct same (keys_of xs) → insert_all same [] xs ≡ xs
  insert_all-empty xs d = insert_all-onto [] xs d

-- ---- an entry goes out at a place, and another one comes in there

insert-remove : {X : Type 0} (xs : List X) (i : ℕ) (x : X) → i < length xs → insert (remove xs i) i x ≡ set xs i x
insert-remove [] i x lt = absurd (omega arith)
insert-remove (y ∷ ys) zero x lt = refl
insert-remove (y ∷ ys) (suc i) x lt = ap (λ l. y ∷ l) (insert-remove ys i x (omega arith))

map-remove : {X Y : Type 0} (f : X → Y) (xs : List X) (i : ℕ) → map f (remove xs i) ≡ remove (map f xs) i
map-remove f [] zero = refl
map-remove f [] (suc i) = refl
map-remove f (x ∷ xs) zero = refl
map-remove f (x ∷ xs) (suc i) = ap (λ l. f x ∷ l) (map-remove f xs i)

position-absent : {X : Type 0} (p : X → Bool) (xs : List X) → list_any p xs ≡ false → position_or_len p xs ≡ length xs
position-absent p [] e = refl
position-absent p (x ∷ xs) e =
    let parts = or_parts (p x) (list_any p xs) e in
    ap (λ b. cond (not b) (1 + position_or_len p xs) 0) parts.0 ∙ (let rest : position_or_len p xs ≡ length xs = position-absent p xs parts.1 in omega (arith, rest))

none_there : (x : List ℕ) (ks : List (List ℕ)) (i : ℕ) (y : List ℕ) → i < length ks → list_any (is_same x) (set ks i y) ≡ false → (is_same x y ≡ false) × (list_any (is_same x) (remove ks i) ≡ false)
none_there x [] i y lt e = absurd (omega arith)
none_there x (k ∷ ks) zero y lt e = or_parts (is_same x y) (list_any (is_same x) ks) e
none_there x (k ∷ ks) (suc i) y lt e =
    let parts = or_parts (is_same x k) (list_any (is_same x) (set ks i y)) e in
    let rest = none_there x ks i y (omega arith) parts.1 in
    (rest.0, or_from (is_same x k) (list_any (is_same x) (remove ks i)) parts.0 rest.1)

-- among different ids no other is the one at a place
alone_at : (ks : List (List ℕ)) (i : ℕ) (x : List ℕ) → i < length ks → are_distinct (set ks i x) ≡ true → list_any (is_same x) (remove ks i) ≡ false
unfolding are_distinct
alone_at [] i x lt e = absurd (omega arith)
alone_at (k ∷ ks) zero x lt e = not-true (list_any (is_same x) ks) (and_parts (not (list_any (is_same x) ks)) (are_distinct ks) e).0
alone_at (k ∷ ks) (suc i) x lt e =
    let parts = and_parts (not (list_any (is_same k) (set ks i x))) (are_distinct (set ks i x)) e in
    let first = none_there k ks i x (omega arith) (not-true (list_any (is_same k) (set ks i x)) parts.0) in
    or_from (is_same x k) (list_any (is_same x) (remove ks i)) (nat_list_eq_equiv.symm x k ∙ first.0) (alone_at ks i x (omega arith) parts.1)

-- ---- a new member in the place of the one with its instance

module _ (es : List (List ℕ × Member)) (new : Member) (i : ℕ) (keyed : keys_of es ≡ ids (values_of es)) (before : AreMembers (values_of es)) (after : AreMembers (seating new (values_of es)))
    (at : position (has_instance new.instance) (values_of es) ≡ Some i) where
  abbrev ms : List Member
  ms = values_of es

  pub within : i < length es
  within = let place = place_is (position_or_len (has_instance new.instance) ms) (length ms) i at in omega (arith, place.0, place.1, length-map es (λ (e : List ℕ × Member). e.1))

  seats : set ms i new ≡ seating new ms
  seats = seating_place new ms i before.distinct.1 at

  new_ids : set (keys_of es) i new.id ≡ ids (set ms i new)
  new_ids = ap (λ ks. set ks i new.id) keyed ∙ sym (map-set (λ (m : Member). m.id) ms i new)

  pub absent : list_any (same new.id) (keys_of (remove es i)) ≡ false
  absent =
      let distinct : are_distinct (set (keys_of es) i new.id) ≡ true = ap are_distinct (new_ids ∙ ap ids seats) ∙ after.distinct.0 in
      ap (list_any (is_same new.id)) (map-remove (λ (e : List ℕ × Member). e.0) es i)
      ∙ alone_at (keys_of es) i new.id (let lt = within in omega (arith, lt, length-map es (λ (e : List ℕ × Member). e.0))) distinct

  -- the entries after the removal and the insertion
  pub seated_entries : move_index (insert_entry same (remove es i) new.id new) (position_or_len (same new.id) (keys_of (remove es i))) i ≡ set es i (new.id, new)
  seated_entries =
      let left = remove es i in
      let last : position_or_len (same new.id) (keys_of left) ≡ length left = position-absent (same new.id) (keys_of left) absent ∙ length-map left (λ (e : List ℕ × Member). e.0) in
      let long : i ≤ length left = let lt = within in omega (arith, lt, length-remove es i within) in
      ap (λ n. move_index (insert_entry same left new.id new) n i) last
      ∙ ap (λ l. move_index l (length left) i) (insert_entry-absent left new.id new absent)
      ∙ push_moved left (new.id, new) i long
      ∙ insert-remove es i (new.id, new) within

  module _ (later : List (List ℕ × Member)) (is : later ≡ set es i (new.id, new)) where
    pub seated_values : values_of later ≡ seating new ms
    seated_values = ap values_of is ∙ map-set (λ (e : List ℕ × Member). e.1) es i (new.id, new) ∙ seats

    pub seated_keys : keys_of later ≡ ids (values_of later)
    seated_keys =
        ap keys_of is ∙ map-set (λ (e : List ℕ × Member). e.0) es i (new.id, new) ∙ new_ids
        ∙ ap ids (sym (ap values_of is ∙ map-set (λ (e : List ℕ × Member). e.1) es i (new.id, new)))

    module _ (old : List ℕ × Member) (there : slice_get es i ≡ Some old) where
      old_member : slice_get ms i ≡ Some old.1
      old_member = slice_get-map (λ (e : List ℕ × Member). e.1) es i ∙ ap (λ o. option_map (λ (e : List ℕ × Member). e.1) o) there

      found : find_instance new.instance ms ≡ Some old.1
      unfolding find_instance
      found = find_from_position (has_instance new.instance) ms i old.1 at ∙ ap Some (get_or_from_slice_get ms i old.1 old.1 old_member)

      pub seated_back : seating old.1 (values_of later) ≡ ms
      seated_back = ap (seating old.1) seated_values ∙ back_seated new old.1 (instance_of new.instance ms old.1 found) ms before.distinct.1 found

      pub seated_key : old.0 ≡ old.1.id
      seated_key =
          let own : Some old.0 ≡ Some old.1.id =
          sym (slice_get-map (λ (e : List ℕ × Member). e.0) es i ∙ ap (λ o. option_map (λ (e : List ℕ × Member). e.0) o) there)
          ∙ ap (λ ks. slice_get ks i) keyed
          ∙ slice_get-map (λ (m : Member). m.id) ms i ∙ ap (λ o. option_map (λ (m : Member). m.id) o) old_member in
          cc

-- all entries move into an empty map
pub all_moved : (es done later : List (List ℕ × Member)) {U E : Type 0} (r : Result U E) (u : U) → r ≡ Ok u → OnOk r (later ≡ insert_all same done es) → length done ≡ 0 → keys_of es ≡ ids (values_of es) → AreMembers (values_of es) → later ≡ es
all_moved es done later r u ok moved none keyed members =
    subst (λ x. OnOk x (later ≡ insert_all same done es)) ok moved
    ∙ ap (λ l. insert_all same l es) (nil_from_length done none)
    ∙ insert_all-empty es (distinct_keys (keys_of es) (ap are_distinct keyed ∙ members.distinct.0))

-- a key that the entries do not have is not in the map
pub not_there : {X : Type 0} (es : List (List ℕ × X)) (k : List ℕ) → list_any (same k) (keys_of es) ≡ false → IsSome (lookup (same k) es) → ⊥
not_there es k e there = false≢true (sym (is_some-lookup (same k) es ∙ e) ∙ there)

-- ---- a member is found by its id

same_place : (id : List ℕ) (ms : List Member) → position_or_len (same id) (ids ms) ≡ position_or_len (has_id id) ms
same_place id [] = refl
same_place id (m ∷ ms) =
    ap (λ b. cond (not b) (1 + position_or_len (same id) (ids ms)) 0) (nat_list_eq_equiv.symm id m.id)
    ∙ ap (λ n. cond (not (has_id id m)) (1 + n) 0) (same_place id ms)

pub place_by_id : (id : List ℕ) (ks : List (List ℕ)) (ms : List Member) → ks ≡ ids ms → position (same id) ks ≡ position (has_id id) ms
place_by_id id ks ms keyed =
    ap (position (same id)) keyed
    ∙ ap (λ n. cond (nat_lt n (length (ids ms))) (Some n) None) (same_place id ms)
    ∙ ap (λ k. cond (nat_lt (position_or_len (has_id id) ms) k) (Some (position_or_len (has_id id) ms)) None) (length-map ms (λ (m : Member). m.id))

-- ---- one member changes, and keeps its id

pub values-set : {K X : Type 0} (es : List (K × X)) (i : ℕ) (w : X) → values_of (set_value_at es i w) ≡ set (values_of es) i w
values-set [] i w = refl
values-set (e ∷ es) zero w = refl
values-set (e ∷ es) (suc i) w = ap (λ l. e.1 ∷ l) (values-set es i w)

module _ {S : Type 0} (m : IndexMap (List ℕ) Member S) (keyed : AreKeyed m) (id : List ℕ) (f : Member → Member) (own : (x : Member) → (f x).id ≡ x.id) (i : ℕ) (x w : Member)
    (at : position (has_id id) (values m) ≡ Some i) (there : slice_get (values m) i ≡ Some x) (is : w ≡ f x) where
  pub changed_values : values (with_value_at m i w) ≡ with_member id f (values m)
  changed_values = values-set m.entries i w ∙ with_member_from_place id f (values m) i x w at (sym (get_or_from_slice_get (values m) i x x there)) is

  pub changed_keys : AreKeyed (with_value_at m i w)
  changed_keys = keys-with_value_at m i w ∙ keyed ∙ sym (ap ids changed_values ∙ map-with_member (λ y. y.id) id f own (values m))

pub found_at : (id : List ℕ) (ms : List Member) (i : ℕ) (x : Member) → position (has_id id) ms ≡ Some i → slice_get ms i ≡ Some x → find_member id ms ≡ Some x
unfolding find_member
found_at id ms i x at there = find_from_position (has_id id) ms i x at ∙ ap Some (get_or_from_slice_get ms i x x there)

pub found_nowhere : (id : List ℕ) (ms : List Member) → position (has_id id) ms ≡ None → find_member id ms ≡ None
unfolding find_member
found_nowhere id ms at = find_from_no_position (has_id id) ms at

-- ---- some members stay

values-filter : (stays : Member → Bool) (es : List (List ℕ × Member)) → values_of (filter (λ e. stays e.1) es) ≡ filter stays (values_of es)
values-filter stays [] = refl
values-filter stays (e ∷ es) =
    elim (stays e.1) as (λ b. values_of (cond b (e ∷ filter (λ e. stays e.1) es) (filter (λ e. stays e.1) es)) ≡ cond b (e.1 ∷ filter stays (values_of es)) (filter stays (values_of es))) [
      | true ↦ ap (λ l. e.1 ∷ l) (values-filter stays es)
      | false ↦ values-filter stays es
    ]

keyed-filter : (stays : Member → Bool) (es : List (List ℕ × Member)) → keys_of es ≡ ids (values_of es) → keys_of (filter (λ e. stays e.1) es) ≡ ids (values_of (filter (λ e. stays e.1) es))
keyed-filter stays [] keyed = refl
keyed-filter stays (e ∷ es) keyed =
    let all : e.0 ∷ keys_of es ≡ e.1.id ∷ ids (values_of es) = keyed in
    let first : e.0 ≡ e.1.id = cc in
    let others : keys_of es ≡ ids (values_of es) = cc in
    let rest = keyed-filter stays es others in
    elim (stays e.1) as (λ b. keys_of (cond b (e ∷ filter (λ e. stays e.1) es) (filter (λ e. stays e.1) es)) ≡ ids (values_of (cond b (e ∷ filter (λ e. stays e.1) es) (filter (λ e. stays e.1) es)))) [
      | true ↦ ap (λ k. k ∷ keys_of (filter (λ e. stays e.1) es)) first ∙ ap (λ l. e.1.id ∷ l) rest
      | false ↦ rest
    ]

module _ (stays : Member → Bool) (es later : List (List ℕ × Member)) (is : later ≡ filter (λ e. stays e.1) es) where
  pub kept_values : values_of later ≡ filter stays (values_of es)
  kept_values = ap values_of is ∙ values-filter stays es

  pub kept_keys : keys_of es ≡ ids (values_of es) → keys_of later ≡ ids (values_of later)
  kept_keys keyed = subst (λ l. keys_of l ≡ ids (values_of l)) (sym is) (keyed-filter stays es keyed)

-- ---- each member changes in turn, and keeps its id

pub length-values : (es : List (List ℕ × Member)) → length (values_of es) ≡ length es
length-values es = length-map es (λ (e : List ℕ × Member). e.1)

-- the ids after the first ones have changed
pub ids-halfway : (changed : Member → Member) (all : List Member) (i : ℕ) → ((xs : List Member) → ids (map changed xs) ≡ ids xs) → ids (map changed (take i all) ++ drop i all) ≡ ids all
ids-halfway changed all i keeps =
    map-append (λ (m : Member). m.id) (map changed (take i all)) (drop i all)
    ∙ ap (λ l. l ++ ids (drop i all)) (keeps (take i all))
    ∙ sym (map-append (λ (m : Member). m.id) (take i all) (drop i all))
    ∙ ap ids (take-append-drop i all)

-- ---- a look-up by id, and a new member

pub lookup_keyed : (id : List ℕ) (es : List (List ℕ × Member)) → keys_of es ≡ ids (values_of es) → lookup (same id) es ≡ find_member id (values_of es)
unfolding find_member
lookup_keyed id [] keyed = refl
lookup_keyed id (e ∷ es) keyed =
    let all : e.0 ∷ keys_of es ≡ e.1.id ∷ ids (values_of es) = keyed in
    let first : e.0 ≡ e.1.id = cc in
    let others : keys_of es ≡ ids (values_of es) = cc in
    ap (λ b. cond b (Some e.1) (lookup (same id) es)) (ap (same id) first ∙ nat_list_eq_equiv.symm id e.1.id)
    ∙ ap (λ o. cond (has_id id e.1) (Some e.1) o) (lookup_keyed id es others)

fresh_key : (id : List ℕ) (es : List (List ℕ × Member)) → keys_of es ≡ ids (values_of es) → is_some (find_member id (values_of es)) ≡ false → list_any (same id) (keys_of es) ≡ false
fresh_key id es keyed fresh = sym (is_some-lookup (same id) es) ∙ ap is_some (lookup_keyed id es keyed) ∙ fresh

module _ (es later : List (List ℕ × Member)) (id : List ℕ) (new : Member) (keyed : keys_of es ≡ ids (values_of es)) (own : id ≡ new.id) (fresh : is_some (find_member new.id (values_of es)) ≡ false)
    (is : later ≡ insert_entry same es id new) where
  appended : later ≡ es ++ (id, new) ∷ []
  appended = is ∙ insert_entry-absent es id new (fresh_key id es keyed (ap (λ i. is_some (find_member i (values_of es))) own ∙ fresh))

  pub pushed_values : values_of later ≡ values_of es ++ new ∷ []
  pushed_values = ap values_of appended ∙ map-append (λ (e : List ℕ × Member). e.1) es ((id, new) ∷ [])

  pub pushed_keys : keys_of later ≡ ids (values_of later)
  pushed_keys =
      ap keys_of appended ∙ map-append (λ (e : List ℕ × Member). e.0) es ((id, new) ∷ [])
      ∙ ap (λ ks. ks ++ id ∷ []) keyed
      ∙ ap (λ i. ids (values_of es) ++ i ∷ []) own
      ∙ sym (ap ids pushed_values ∙ map-append (λ (m : Member). m.id) (values_of es) (new ∷ []))

-- ---- members that come one after the other

not_found : (id : List ℕ) (front : List Member) → list_any (λ y. same y id) (ids front) ≡ false → is_some (find_member id front) ≡ false
unfolding find_member
not_found id [] e = refl
not_found id (m ∷ front) e =
    let parts = or_parts (same m.id id) (list_any (λ y. same y id) (ids front)) e in
    ap (λ b. is_some (cond b (Some m) (find (has_id id) front))) parts.0 ∙ not_found id front parts.1

pub next_fresh : (all front more : List Member) (m : Member) → all ≡ front ++ m ∷ more → are_distinct (ids all) ≡ true → is_some (find_member m.id front) ≡ false
next_fresh all front more m is distinct =
    let apart : IsDistinct same (ids front ++ m.id ∷ ids more) =
    subst (IsDistinct same) (map-append (λ (x : Member). x.id) front (m ∷ more)) (distinct_keys (ids (front ++ m ∷ more)) (ap (λ ms. are_distinct (ids ms)) (sym is) ∙ distinct)) in
    not_found m.id front (IsDistinct-middle same (ids front) m.id (ids more) apart)
