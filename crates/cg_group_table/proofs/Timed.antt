-- The index of deadlines beside the groups: it changes as they do.
use Rattle.std.proofs.Common.{◌≡◌, ℕ, ◌<◌, ◌≤◌, Bool, true, false, ◌||◌, cond, List, [], ◌∷◌, find, is_some, map as each, inl, inr, Option, Some, None, MatchOption, refl, sym, ap, ◌∙◌, subst, arith}
use Rattle.std.specs.Prelude.{if◌then◌else◌, nat_le}
use Rattle.std.specs.List.{filter}
use Rattle.std.proofs.lemmas.Bool.{false≢true, leb-false, or_parts}
use Rattle.std.proofs.lemmas.Cmp.{nat_list_eq_equiv}
use Rattle.std.proofs.lemmas.Map.Text.{is_eq-slice_cmp}
use Rattle.std.specs.BTreeMap.{insert_entry}
use Rattle.std.specs.Cmp.Lexicographic.{slice_cmp}
use Rattle.std.specs.Map.{remove_entry}
use Rattle.std.specs.Ordering.{eq_by_cmp, match_ordering, nat_cmp}
use Rattle.std.specs.declared.cmp.Ordering.TheVariants.{Less, Equal, Greater}
use Rattle.cg_time.specs.Entries.{due_keys, has_key}
use Rattle.cg_group_state.specs.declared.group.Group.{Group}
use Rattle.cg_group_state.specs.Membership.{hearing}
use Rattle.cg_group_rules.specs.Rebalance.{turn_of}
use Rattle.cg_group_rules.specs.Tick.{ticked}
use Rattle.cg_group_rules.specs.TickDeadline.{next_deadline}
use Rattle.cg_group_table.specs.GroupChanges.{IsChanged, KeepsId, OnlyHears, is_one_of}
use Rattle.cg_group_table.specs.GroupTable.{InOrder, find_group, with_group, without_group}
use Rattle.cg_group_table.specs.Kept.{Each}
use Rattle.cg_group_table.specs.DeadlineIndex.{AreTimed}
use Rattle.cg_request.specs.Names.{is_same}
use Rattle.cg_group_table.proofs.InOrder.{before_found, equal_is, found_named, less_greater, same_order, with_group-found}
use Rattle.cg_group_table.proofs.KeptLists.{same_self}
use Rattle.cg_group_table.proofs.Quiet.{deadline-heard, deadline-since, ticked_before}
use Rattle.cg_group_table.proofs.Mapped.{id-hearing}

abbrev Index : Type 0
Index = List (List ℕ × ℕ)

-- a key of the index is at an id if its group has it
at_own : (x k id : List ℕ) → k ≡ id → eq_by_cmp (slice_cmp nat_cmp) x k ≡ is_same id x
at_own x k id e = is_eq-slice_cmp x k ∙ nat_list_eq_equiv.symm x k ∙ ap (λ y. is_same y x) e

pub has_key-timed : (since : ℕ) (x : List ℕ) (es : Index) (gs : List Group) → AreTimed since es gs → has_key (slice_cmp nat_cmp) x es ≡ is_some (find_group x gs)
unfolding find_group
has_key-timed since x [] [] h = refl
has_key-timed since x [] (g ∷ gs) h = absurd h
has_key-timed since x (e ∷ es) [] h = absurd h
has_key-timed since x (e ∷ es) (g ∷ gs) h =
    ap (λ b. b || has_key (slice_cmp nat_cmp) x es) (at_own x e.0 g.id h.0)
    ∙ (elim (is_same g.id x) as (λ b. (b || has_key (slice_cmp nat_cmp) x es) ≡ is_some (cond b (Some g) (find (λ k. is_same k.id x) gs))) [ true ↦ refl | false ↦ has_key-timed since x es gs h.2 ])

pub timed-put : (since deadline : ℕ) (k : List ℕ) (g : Group) (es : Index) (gs : List Group) → k ≡ g.id → deadline ≤ next_deadline since g → AreTimed since es gs → AreTimed since (insert_entry (slice_cmp nat_cmp) es k deadline) (with_group g gs)
unfolding with_group
timed-put since deadline k g [] [] own d h = (own, d, tt)
timed-put since deadline k g [] (x ∷ xs) own d h = absurd h
timed-put since deadline k g (e ∷ es) [] own d h = absurd h
timed-put since deadline k g (e ∷ es) (x ∷ xs) own d h =
    let rest = timed-put since deadline k g es xs own d h.2 in
    let level : slice_cmp nat_cmp k e.0 ≡ slice_cmp nat_cmp g.id x.id = ap (λ y. slice_cmp nat_cmp y e.0) own ∙ ap (slice_cmp nat_cmp g.id) h.0 in
    let P : _ → Type 0 = λ o. AreTimed since (match_ordering o ((k, deadline) ∷ e ∷ es) ((e.0, deadline) ∷ es) (e ∷ insert_entry (slice_cmp nat_cmp) es k deadline)) (match_ordering (slice_cmp nat_cmp g.id x.id) (g ∷ x ∷ xs) (g ∷ xs) (x ∷ with_group g xs)) in
    subst P (sym level) ((elim (slice_cmp nat_cmp g.id x.id) as (λ o. slice_cmp nat_cmp g.id x.id ≡ o → AreTimed since (match_ordering o ((k, deadline) ∷ e ∷ es) ((e.0, deadline) ∷ es) (e ∷ insert_entry (slice_cmp nat_cmp) es k deadline)) (match_ordering o (g ∷ x ∷ xs) (g ∷ xs) (x ∷ with_group g xs))) [
      | Less ↦ λ _. (own, d, h)
      | Equal ↦ λ same. (h.0 ∙ sym (equal_is g.id x.id same), d, h.2)
      | Greater ↦ λ _. (h.0, h.1, rest)
    ]) refl)

pub timed-without : (since : ℕ) (x : List ℕ) (es : Index) (gs : List Group) → AreTimed since es gs → AreTimed since (remove_entry (eq_by_cmp (slice_cmp nat_cmp) x) es) (without_group x gs)
unfolding without_group
timed-without since x [] [] h = tt
timed-without since x [] (g ∷ gs) h = absurd h
timed-without since x (e ∷ es) [] h = absurd h
timed-without since x (e ∷ es) (g ∷ gs) h =
    let P : Bool → Type 0 = λ b. AreTimed since (cond b es (e ∷ remove_entry (eq_by_cmp (slice_cmp nat_cmp) x) es)) (if is_same g.id x then gs else g ∷ without_group x gs) in
    subst P (sym (at_own x e.0 g.id h.0)) (elim (is_same g.id x) as (λ b. AreTimed since (cond b es (e ∷ remove_entry (eq_by_cmp (slice_cmp nat_cmp) x) es)) (if b then gs else g ∷ without_group x gs)) [
      | true ↦ h.2
      | false ↦ (h.0, h.1, timed-without since x es gs h.2)
    ])

pub timed-later : (since later : ℕ) (es : Index) (gs : List Group) → since ≤ later → AreTimed since es gs → AreTimed later es gs
timed-later since later [] [] le h = tt
timed-later since later [] (g ∷ gs) le h = absurd h
timed-later since later (e ∷ es) [] le h = absurd h
timed-later since later (e ∷ es) (g ∷ gs) le h =
    let more = deadline-since since later g le in
    (h.0, omega (arith, more, h.1), timed-later since later es gs le h.2)

-- a group whose deadline is no earlier than the one it replaces
pub timed-there : (since : ℕ) (id : List ℕ) (new g : Group) (es : Index) (gs : List Group) → InOrder gs → find_group id gs ≡ Some g → new.id ≡ g.id → next_deadline since g ≤ next_deadline since new → AreTimed since es gs → AreTimed since es (with_group new gs)
unfolding find_group with_group
timed-there since id new g [] [] o found own more h = cc
timed-there since id new g [] (x ∷ xs) o found own more h = absurd h
timed-there since id new g (e ∷ es) [] o found own more h = absurd h
timed-there since id new g (e ∷ es) (x ∷ xs) o found own more h =
    (elim (is_same x.id id) as (λ b. is_same x.id id ≡ b → cond b (Some x) (find (λ y. is_same y.id id) xs) ≡ Some g → AreTimed since (e ∷ es) (match_ordering (slice_cmp nat_cmp new.id x.id) (new ∷ x ∷ xs) (new ∷ xs) (x ∷ with_group new xs))) [
      | true ↦ λ t f.
          let here : x ≡ g = cc in
          let ids_are : new.id ≡ x.id = own ∙ ap (λ (y : Group). y.id) (sym here) in
          let level : slice_cmp nat_cmp new.id x.id ≡ Equal = ap (λ y. slice_cmp nat_cmp y x.id) ids_are ∙ same_order x.id in
          let P : _ → Type 0 = λ r. AreTimed since (e ∷ es) (match_ordering r (new ∷ x ∷ xs) (new ∷ xs) (x ∷ with_group new xs)) in
          let was : next_deadline since x ≤ next_deadline since new = subst (λ (y : Group). next_deadline since y ≤ next_deadline since new) (sym here) more in
          subst P (sym level) (h.0 ∙ sym ids_are, omega (arith, was, h.1), h.2)
      | false ↦ λ t f.
          let Q : List ℕ → Type 0 = λ y. slice_cmp nat_cmp x.id y ≡ Less in
          let behind = subst Q (sym own) (before_found x.id id xs g o.0 f) in
          let P : _ → Type 0 = λ r. AreTimed since (e ∷ es) (match_ordering r (new ∷ x ∷ xs) (new ∷ xs) (x ∷ with_group new xs)) in
          subst P (sym (less_greater x.id new.id behind)) (h.0, h.1, timed-there since id new g es xs o.1 f own more h.2)
    ]) refl found

pub timed-heard : (since now : ℕ) (own id : List ℕ) (g : Group) (es : Index) (gs : List Group) → since ≤ now → InOrder gs → find_group own gs ≡ Some g → AreTimed since es gs → AreTimed since es (with_group (hearing now id g) gs)
timed-heard since now own id g es gs le o found h = timed-there since own (hearing now id g) g es gs o found (id-hearing now id g) (deadline-heard now id since g le) h

-- the entry of a loaded group is set
pub timed-renewed : (since deadline : ℕ) (id : List ℕ) (g : Group) (es : Index) (gs : List Group) → InOrder gs → find_group id gs ≡ Some g → deadline ≤ next_deadline since g → AreTimed since es gs → AreTimed since (insert_entry (slice_cmp nat_cmp) es id deadline) gs
timed-renewed since deadline id g es gs o found d h =
    let P : List Group → Type 0 = λ ks. AreTimed since (insert_entry (slice_cmp nat_cmp) es id deadline) ks in
    subst P (with_group-found id gs g o found) (timed-put since deadline id g es gs (sym (found_named id gs g found)) d h)

-- a group that is changed in its place, and whose entry is set
pub timed-changed : (since deadline : ℕ) (own : List ℕ) (g after : Group) (es : Index) (gs later : List Group) → find_group own gs ≡ Some g → after.id ≡ g.id → later ≡ with_group after gs → deadline ≤ next_deadline since after
    → AreTimed since es gs → AreTimed since (insert_entry (slice_cmp nat_cmp) es own deadline) later
timed-changed since deadline own g after es gs later found keeps put d h =
    let P : List Group → Type 0 = λ ks. AreTimed since (insert_entry (slice_cmp nat_cmp) es own deadline) ks in
    subst P (sym put) (timed-put since deadline own after es gs (sym (keeps ∙ found_named own gs g found)) d h)

-- a group of which at most a member was heard
pub heard_keeps : {X : Type 0} (now : ℕ) (becomes : Group → Group → X → Type 0) → OnlyHears now becomes → KeepsId becomes
heard_keeps now becomes hears g after x h =
    elim (hears g after x h) as (λ _. after.id ≡ g.id) [
      | inl same ↦ ap (λ (k : Group). k.id) same
      | inr heard ↦ ap (λ (k : Group). k.id) heard.1 ∙ id-hearing now heard.0 g
    ]

pub timed-as_heard : {X : Type 0} (since now : ℕ) (becomes : Group → Group → X → Type 0) → OnlyHears now becomes → since ≤ now → (own : List ℕ) (es : Index) (gs later : List Group) → InOrder gs → (g : Group) → find_group own gs ≡ Some g
    → (r : Option X) → MatchOption r ⊥ (IsChanged becomes gs later g) → AreTimed since es gs → AreTimed since es later
timed-as_heard since now becomes hears le own es gs later o g found None p h = absurd p
timed-as_heard since now becomes hears le own es gs later o g found (Some x) p h =
    let P : List Group → Type 0 = λ ks. AreTimed since es ks in
    let W : Group → Type 0 = λ k. AreTimed since es (with_group k gs) in
    subst P (sym p.put) (elim (hears g p.after x p.became) as (λ _. W p.after) [
      | inl same ↦ subst W (sym same) (subst P (sym (with_group-found own gs g o found)) h)
      | inr heard ↦ subst W (sym heard.1) (timed-heard since now own heard.0 g es gs le o found h)
    ])

-- a tick changes no group that is not due

keys_when : ℕ → Bool → List ℕ × ℕ → Index → List (List ℕ)
keys_when now b e es = each (λ k. k.0) (cond b (e ∷ filter (λ k. nat_le k.1 now) es) (filter (λ k. nat_le k.1 now) es))

not_due : (now : ℕ) (e : List ℕ × ℕ) (es : Index) (x : List ℕ) → is_one_of (due_keys now (e ∷ es)) x ≡ false → is_one_of (due_keys now es) x ≡ false
unfolding keys_when
not_due now e es x h =
    (elim (nat_le e.1 now) as (λ b. is_one_of (keys_when now b e es) x ≡ false → is_one_of (due_keys now es) x ≡ false) [
      | true ↦ λ none. (or_parts (is_same x e.0) (is_one_of (due_keys now es) x) none).1
      | false ↦ λ none. none
    ]) h

due_itself : (now : ℕ) (e : List ℕ × ℕ) (es : Index) (x : List ℕ) → e.0 ≡ x → is_one_of (due_keys now (e ∷ es)) x ≡ false → now < e.1
unfolding keys_when
due_itself now e es x own h =
    (elim (nat_le e.1 now) as (λ b. nat_le e.1 now ≡ b → is_one_of (keys_when now b e es) x ≡ false → now < e.1) [
      | true ↦ λ _ none. absurd (false≢true (sym (or_parts (is_same x e.0) (is_one_of (due_keys now es) x) none).0 ∙ ap (is_same x) own ∙ same_self x))
      | false ↦ λ t none. leb-false e.1 now t
    ]) refl h

pub timed-calm : (since now : ℕ) (es : Index) (gs : List Group) → AreTimed since es gs → Each (λ (g : Group). is_one_of (due_keys now es) g.id ≡ false → ticked now g ≡ turn_of g) gs
timed-calm since now [] [] h = tt
timed-calm since now [] (g ∷ gs) h = absurd h
timed-calm since now (e ∷ es) [] h = absurd h
timed-calm since now (e ∷ es) (g ∷ gs) h = (
  λ none. let later = due_itself now e es g.id h.0 none in ticked_before since now g (omega (arith, later, h.1)),
  more gs (timed-calm since now es gs h.2),
)
  where
    more : (ks : List Group) → Each (λ (k : Group). is_one_of (due_keys now es) k.id ≡ false → ticked now k ≡ turn_of k) ks → Each (λ (k : Group). is_one_of (due_keys now (e ∷ es)) k.id ≡ false → ticked now k ≡ turn_of k) ks
    more [] h = tt
    more (k ∷ ks) h = (λ none. h.0 (not_due now e es k.id none), more ks h.1)
