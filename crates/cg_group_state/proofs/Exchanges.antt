-- Assignments that are handed out to members, and exchanged with theirs.
use Rattle.std.proofs.Common.{◌≡◌, ℕ, zero, suc, ◌+◌, ◌-◌, ◌<◌, true, false, cond, not, List, [], ◌∷◌, ◌++◌, length, map, take, drop, get_or, Option, Some, None, unwrap_or, add-one, refl, sym, ap, ◌∙◌, append_assoc, arith}
use Rattle.std.specs.Prelude.{find, option_map, if◌then◌else◌}
use Rattle.std.specs.List.{list_any}
use Rattle.std.proofs.lemmas.Bool.{and_parts, or_parts, not-true}
use Rattle.std.proofs.Math.ListN.{set}
use Rattle.std.proofs.lemmas.List.{get_or-map, length-map}
use Rattle.std.proofs.Math.Seq.{take-length}
use Rattle.cg_group_state.specs.declared.member.Member.{Member}
use Rattle.cg_request.specs.declared.request_fields.SyncEntry.{SyncEntry}
use Rattle.cg_request.specs.Names.{are_distinct, is_same}
use Rattle.cg_group_state.specs.Assignments.{after_note, after_notes, with_assignments, assigned, assignment_for}
use Rattle.cg_group_state.specs.Members.{ids}

-- an entry that is added before all others
pub after_last : (entries : List SyncEntry) (entry : SyncEntry) (id : List ℕ) (noted : Option (List ℕ)) → after_notes (entries ++ entry ∷ []) id noted ≡ after_notes entries id (after_note entry id noted)
after_last [] entry id noted = refl
after_last (e ∷ entries) entry id noted = ap (after_note e id) (after_last entries entry id noted)

-- all entries, added to an empty index
pub after_all : (entries : List SyncEntry) (id : List ℕ) → after_notes entries id None ≡ option_map (λ e. e.assignment) (find (λ e. is_same e.member id) entries)
after_all [] id = refl
after_all (e ∷ entries) id =
    elim (is_same e.member id) as (λ b. (if b then Some e.assignment else after_notes entries id None) ≡ option_map (λ x. x.assignment) (cond b (Some e) (find (λ x. is_same x.member id) entries))) [
      | true ↦ refl
      | false ↦ after_all entries id
    ]

-- two look-ups of the members that are the same but for one id, which no member has
pub same_look_ups : (f g : List ℕ → Option (List ℕ)) (id : List ℕ) (ms : List Member) → ((other : List ℕ) → is_same id other ≡ false → f other ≡ g other) → list_any (is_same id) (ids ms) ≡ false → map (λ m. unwrap_or (f m.id) []) ms ≡ map (λ m. unwrap_or (g m.id) []) ms
same_look_ups f g id [] same apart = refl
same_look_ups f g id (m ∷ ms) same apart =
    let parts = or_parts (is_same id m.id) (list_any (is_same id) (ids ms)) apart in
    ap (λ o. unwrap_or o [] ∷ map (λ x. unwrap_or (f x.id) []) ms) (same m.id parts.0)
    ∙ ap (λ xs. unwrap_or (g m.id) [] ∷ xs) (same_look_ups f g id ms same parts.1)

-- the first of distinct members has its id alone, and the others are distinct
pub first_alone : (m : Member) (ms : List Member) → are_distinct (ids (m ∷ ms)) ≡ true → (list_any (is_same m.id) (ids ms) ≡ false) × (are_distinct (ids ms) ≡ true)
unfolding are_distinct
first_alone m ms e =
    let parts = and_parts (not (list_any (is_same m.id) (ids ms))) (are_distinct (ids ms)) e in
    (not-true (list_any (is_same m.id) (ids ms)) parts.0, parts.1)

-- the look-up of the first member, and then those of the others in what is left
pub all_taken : (f g : List ℕ → Option (List ℕ)) (first : Member) (others ms : List Member) (before pushed after : List (List ℕ)) (a : List ℕ) → ms ≡ first ∷ others → are_distinct (ids ms) ≡ true → ((other : List ℕ) → is_same first.id other ≡ false → g other ≡ f other) → a ≡ unwrap_or (f first.id) [] → pushed ≡ before ++ a ∷ [] → after ≡ pushed ++ map (λ m. unwrap_or (g m.id) []) others → after ≡ before ++ map (λ m. unwrap_or (f m.id) []) ms
all_taken f g first others ms before pushed after a is distinct kept value one rest =
    rest
    ∙ ap (λ xs. xs ++ map (λ (m : Member). unwrap_or (g m.id) []) others) (one ∙ ap (λ x. before ++ x ∷ []) value)
    ∙ append_assoc before (unwrap_or (f first.id) [] ∷ []) (map (λ (m : Member). unwrap_or (g m.id) []) others)
    ∙ ap (λ xs. before ++ (unwrap_or (f first.id) [] ∷ xs)) (same_look_ups g f first.id others kept (first_alone first others (ap (λ (xs : List Member). are_distinct (ids xs)) (sym is) ∙ distinct)).0)
    ∙ ap (λ (xs : List Member). before ++ map (λ (m : Member). unwrap_or (f m.id) []) xs) (sym is)

-- the assignments of the entries, handed out
pub handing_entries : (entries : List SyncEntry) (ms : List Member) → with_assignments (map (λ m. assignment_for entries m.id) ms) ms ≡ map (assigned entries) ms
unfolding with_assignments
handing_entries entries [] = refl
handing_entries entries (m ∷ ms) = ap (λ xs. assigned entries m ∷ xs) (handing_entries entries ms)

-- the assignments of the members, exchanged back
pub exchanged_back : (list : List (List ℕ)) (ms : List Member) → length list ≡ length ms → with_assignments (map (λ m. m.assignment) ms) (with_assignments list ms) ≡ ms
unfolding with_assignments
exchanged_back [] [] e = refl
exchanged_back [] (m ∷ ms) e = absurd (omega arith)
exchanged_back (a ∷ list) [] e = refl
exchanged_back (a ∷ list) (m ∷ ms) e = ap (λ xs. m ∷ xs) (exchanged_back list ms (omega arith))

-- what an exchange of assignments keeps
pub map-with_assignments : {A : Type 0} (f : Member → A) → ((m : Member) (a : List ℕ) → f (record m { assignment = a }) ≡ f m) → (list : List (List ℕ)) (ms : List Member) → map f (with_assignments list ms) ≡ map f ms
unfolding with_assignments
map-with_assignments f keeps [] ms = refl
map-with_assignments f keeps (a ∷ list) [] = refl
map-with_assignments f keeps (a ∷ list) (m ∷ ms) = ap (λ x. x ∷ map f (with_assignments list ms)) (keeps m a) ∙ ap (λ xs. f m ∷ xs) (map-with_assignments f keeps list ms)

-- one more assignment is exchanged: the members
pub one_more_member : (list : List (List ℕ)) (ms : List Member) (i : ℕ) (m : Member) (a : List ℕ) → i < length list → i < length ms → set (with_assignments (take i list) ms) i (record (get_or ms i m) { assignment = get_or list i a }) ≡ with_assignments (take (suc i) list) ms
unfolding with_assignments
one_more_member [] ms i m a lt _ = absurd (omega arith)
one_more_member (x ∷ list) [] i m a _ lt = absurd (omega arith)
one_more_member (x ∷ list) (y ∷ ms) zero m a _ _ = refl
one_more_member (x ∷ list) (y ∷ ms) (suc i) m a lt le = ap (λ zs. record y { assignment = x } ∷ zs) (one_more_member list ms i m a (omega arith) (omega arith))

-- a member past the place is as it was
pub member_past : (list : List (List ℕ)) (ms : List Member) (i : ℕ) (m : Member) → get_or (with_assignments (take i list) ms) i m ≡ get_or ms i m
unfolding with_assignments
member_past list ms zero m = refl
member_past [] ms (suc i) m = refl
member_past (x ∷ list) [] (suc i) m = refl
member_past (x ∷ list) (y ∷ ms) (suc i) m = member_past list ms i m

-- one more assignment is exchanged: the list
pub one_more_in_list : (xs ys : List (List ℕ)) (i : ℕ) (a : List ℕ) → i < length xs → i < length ys → set (take i xs ++ drop i ys) i (get_or xs i a) ≡ take (suc i) xs ++ drop (suc i) ys
one_more_in_list [] ys i a lt _ = absurd (omega arith)
one_more_in_list (x ∷ xs) [] i a _ lt = absurd (omega arith)
one_more_in_list (x ∷ xs) (y ∷ ys) zero a _ _ = refl
one_more_in_list (x ∷ xs) (y ∷ ys) (suc i) a lt le = ap (λ zs. x ∷ zs) (one_more_in_list xs ys i a (omega arith) (omega arith))

-- an assignment past the place is as it was
pub assignment_past : (xs ys : List (List ℕ)) (i : ℕ) (a : List ℕ) → i < length xs → i < length ys → get_or (take i xs ++ drop i ys) i a ≡ get_or ys i a
assignment_past [] ys i a lt _ = absurd (omega arith)
assignment_past (x ∷ xs) [] i a _ lt = absurd (omega arith)
assignment_past (x ∷ xs) (y ∷ ys) zero a _ _ = refl
assignment_past (x ∷ xs) (y ∷ ys) (suc i) a lt le = assignment_past xs ys i a (omega arith) (omega arith)

module _ (list : List (List ℕ)) (ms : List Member) (i : ℕ) (held : List Member) (given : List (List ℕ)) (m : Member) (a : List ℕ) where
  -- both lists after the assignments before the place are exchanged
  pub record IsHalfway : Type 0 where
    pub within : i < length ms
    pub as_many : length list ≡ length ms
    pub held_is : held ≡ with_assignments (take i list) ms
    pub given_is : given ≡ take i (map (λ (x : Member). x.assignment) ms) ++ drop i list

  member_is : IsHalfway → get_or held i m ≡ get_or ms i m
  member_is h = ap (λ xs. get_or xs i m) h.held_is ∙ member_past list ms i m

  assignment_is : IsHalfway → get_or given i a ≡ get_or list i a
  assignment_is h =
      let many : length (map (λ (x : Member). x.assignment) ms) ≡ length ms = length-map ms (λ (x : Member). x.assignment) in
      let lt : i < length ms = h.within in
      let same : length list ≡ length ms = h.as_many in
      ap (λ xs. get_or xs i a) h.given_is
      ∙ assignment_past (map (λ (x : Member). x.assignment) ms) list i a (omega arith) (omega arith)

  pub member_exchanged : IsHalfway → (m' : Member) → m' ≡ record (get_or held i m) { assignment = get_or given i a } → set held i m' ≡ with_assignments (take (i + 1) list) ms
  member_exchanged h m' is =
      let lt : i < length ms = h.within in
      let same : length list ≡ length ms = h.as_many in
      ap (λ xs. set xs i m') h.held_is
      ∙ ap (λ x. set (with_assignments (take i list) ms) i x) (is ∙ ap (λ (x : Member). record x { assignment = get_or given i a }) (member_is h) ∙ ap (λ b. record (get_or ms i m) { assignment = b }) (assignment_is h))
      ∙ one_more_member list ms i m a (omega arith) lt
      ∙ ap (λ n. with_assignments (take n list) ms) (sym (add-one i))

  pub assignment_exchanged : IsHalfway → (a' : List ℕ) → a' ≡ (get_or held i m).assignment → set given i a' ≡ take (i + 1) (map (λ (x : Member). x.assignment) ms) ++ drop (i + 1) list
  assignment_exchanged h a' is =
      let many : length (map (λ (x : Member). x.assignment) ms) ≡ length ms = length-map ms (λ (x : Member). x.assignment) in
      let lt : i < length ms = h.within in
      let same : length list ≡ length ms = h.as_many in
      ap (λ xs. set xs i a') h.given_is
      ∙ ap (λ x. set (take i (map (λ (x : Member). x.assignment) ms) ++ drop i list) i x) (is ∙ ap (λ (x : Member). x.assignment) (member_is h) ∙ sym (get_or-map (λ (x : Member). x.assignment) ms i m a lt))
      ∙ one_more_in_list (map (λ (x : Member). x.assignment) ms) list i a (omega arith) (omega arith)
      ∙ ap (λ n. take n (map (λ (x : Member). x.assignment) ms) ++ drop n list) (sym (add-one i))

-- a list is its first element and the slice after it
pub rest_is : {X : Type 0} (xs : List X) (x : X) → 0 < length xs → x ≡ get_or xs 0 x → xs ≡ x ∷ take (length xs - 1) (drop 1 xs)
rest_is [] x some is = absurd (omega arith)
rest_is {X = X} (y ∷ xs) x some is =
    let less : suc (length xs) - 1 ≡ length xs = omega arith in
    ap (λ z. z ∷ xs) (sym is) ∙ ap (λ l. x ∷ l) (sym (ap (λ n. take n xs) less ∙ take-length xs))
