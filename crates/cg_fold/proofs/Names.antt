-- Names, each once, by bytes.
use Rattle.std.proofs.Common.{◌≡◌, ℕ, Bool, true, false, cond, List, [], ◌∷◌, map as each, Some, None, ap, sym, ◌∙◌, refl, subst}
use Rattle.std.proofs.Math.Dec.{T}
use Rattle.std.specs.Prelude.{◌||◌, bytes_eq, is_some}
use Rattle.std.specs.List.{list_any}
use Rattle.std.specs.Ordering.{eq_by_cmp, is_eq, is_lt}
use Rattle.std.specs.declared.cmp.Ordering.{Ordering}
use Rattle.std.specs.declared.cmp.Ordering.TheVariants.{Less, Equal, Greater}
use Rattle.std.specs.Cmp.{tied_itself}
use Rattle.std.specs.FinMap as map
use Rattle.std.specs.FinMap.{find, is_sorted}
use Rattle.std.specs.FinMap.Entries.{is_some-find}
use Rattle.std.proofs.lemmas.Slice.Eq.{bytes_eq-Decides}
use Rattle.std.proofs.Math.Bool.{or-true}
use Rattle.cg_fold.specs.Key.{name_cmp}
use Rattle.cg_fold.specs.Snapshot.{Ascending, ComesBefore, marked, in_order}
use Rattle.cg_fold.proofs.KeyOrder.{name_total, name_same}
use Rattle.cg_fold.proofs.Place.{and, below_all, both, less}

pub equal : (o : Ordering) → is_eq o ≡ true → o ≡ Equal
equal Less e = absurd cc
equal Equal e = refl
equal Greater e = absurd cc

-- names that compare equal are the same
pub tied : (g h : List ℕ) → eq_by_cmp name_cmp g h ≡ true → g ≡ h
tied g h is = name_same g h (equal (name_cmp g h) is)

pub strange : (g h : List ℕ) → eq_by_cmp name_cmp g h ≡ false → bytes_eq h g ≡ false
strange g h is = step (bytes_eq h g) refl
  where
    step : (b : Bool) → bytes_eq h g ≡ b → b ≡ false
    step false also = refl
    step true also = sym (sym is ∙ ap (eq_by_cmp name_cmp g) ((bytes_eq-Decides h g).0 also) ∙ ap is_eq (tied_itself name_total g))

-- two names compare equal exactly if they are the same
pub tie_is_same : (a b : List ℕ) → eq_by_cmp name_cmp a b ≡ bytes_eq a b
tie_is_same a b = cases (eq_by_cmp name_cmp a b) (bytes_eq a b) refl refl
  where
    cases : (p q : Bool) → eq_by_cmp name_cmp a b ≡ p → bytes_eq a b ≡ q → p ≡ q
    cases true true is also = refl
    cases false false is also = refl
    cases true false is also = sym ((bytes_eq-Decides a b).1 (name_same a b (equal (name_cmp a b) is))) ∙ also
    cases false true is also = sym is ∙ (ap (λ x. eq_by_cmp name_cmp x b) ((bytes_eq-Decides a b).0 also) ∙ ap is_eq (tied_itself name_total b))

pub any_tie : (q : List ℕ) (names : List (List ℕ)) → list_any (eq_by_cmp name_cmp q) names ≡ list_any (bytes_eq q) names
any_tie q [] = refl
any_tie q (n ∷ names) = rw (tie_is_same q n, any_tie q names) refl

pub names_again : (names : List (List ℕ)) → each (λ (e : List ℕ × Unit {0}). e.0) (each marked names) ≡ names
names_again [] = refl
names_again (n ∷ names) = ap (λ l. n ∷ l) (names_again names)

pub any_in_order : (q : List ℕ) (names : List (List ℕ)) → list_any (bytes_eq q) (in_order names) ≡ list_any (bytes_eq q) names
any_in_order q names =
    sym (any_tie q (in_order names))
    ∙ sym (map.contains_key-keys (map.from_entries {R = name_cmp} (each marked names)) q)
    ∙ ap is_some (map.get-from_entries name_total (each marked names) q)
    ∙ is_some-find name_cmp q (each marked names)
    ∙ ap (list_any (eq_by_cmp name_cmp q)) (names_again names)
    ∙ any_tie q names

-- ---- in order

marked_again : (es : List (List ℕ × Unit {0})) → each marked (each (λ (e : List ℕ × Unit {0}). e.0) es) ≡ es
marked_again [] = refl
marked_again (e ∷ es) = ap (λ l. e ∷ l) (marked_again es)

-- `in_order` gives an ascending list
pub in_order_sorted : (names : List (List ℕ)) → T (is_sorted name_cmp (each marked (in_order names)))
in_order_sorted names =
    let m = map.from_entries {R = name_cmp} (each marked names) in
    subst (λ es. T (is_sorted name_cmp es)) (sym (marked_again (map.entries m))) (map.entries_sorted m)

find-marked : (q : List ℕ) (names : List (List ℕ)) → find name_cmp q (each marked names) ≡ cond (list_any (bytes_eq q) names) (Some tt) None
find-marked q [] = refl
find-marked q (n ∷ names) = ap (λ b. cond b (Some tt) (find name_cmp q (each marked names))) (tie_is_same q n) ∙ step (bytes_eq q n) (find-marked q names)
  where
    step : (b : Bool) → find name_cmp q (each marked names) ≡ cond (list_any (bytes_eq q) names) (Some tt) None
        → cond b (Some tt) (find name_cmp q (each marked names)) ≡ cond (b || list_any (bytes_eq q) names) (Some tt) None
    step true rest = refl
    step false rest = rest

-- an ascending list is `in_order` of any names with the same members
pub in_order_is : (ids names : List (List ℕ)) → T (is_sorted name_cmp (each marked ids)) → ((q : List ℕ) → list_any (bytes_eq q) ids ≡ list_any (bytes_eq q) names) → in_order names ≡ ids
in_order_is ids names sorted same =
    let held = map.from_sorted {R = name_cmp} (each marked ids) in
    let maps : map.from_entries {R = name_cmp} (each marked names) ≡ held =
    map.same_map name_total name_same _ _ (λ q.
    map.get-from_entries name_total (each marked names) q ∙ find-marked q names
    ∙ ap (λ b. cond b (Some tt) None) (sym (same q))
    ∙ sym (map.get-from_sorted name_cmp (each marked ids) q sorted ∙ find-marked q ids)) in
    ap map.keys maps ∙ ap (λ es. each (λ (e : List ℕ × Unit {0}). e.0) es) (map.entries-from_sorted name_cmp (each marked ids) sorted) ∙ names_again ids

pub in_order_same : (names others : List (List ℕ)) → ((q : List ℕ) → list_any (bytes_eq q) names ≡ list_any (bytes_eq q) others) → in_order names ≡ in_order others
in_order_same names others same = in_order_is (in_order others) names (in_order_sorted others) (λ q. any_in_order q others ∙ sym (same q))

-- ---- the first of them

-- the name comes before each name of a list
abbrev pub Before : List ℕ → List (List ℕ) → Type 0
Before x names = (q : List ℕ) → list_any (bytes_eq q) names ≡ true → name_cmp x q ≡ Less

or_left : (a b : Bool) → a ≡ true → (a || b) ≡ true
or_left true b e = refl
or_left false b e = absurd cc

pub itself : (x : List ℕ) → bytes_eq x x ≡ true
itself x = (bytes_eq-Decides x x).1 refl

below_all-Before : (x : List ℕ) (names : List (List ℕ)) → Before x names → T (below_all name_cmp x (each marked names))
below_all-Before x [] before = tt
below_all-Before x (n ∷ names) before =
    and (is_lt (name_cmp x n)) (below_all name_cmp x (each marked names))
    (subst (λ r. T (is_lt r)) (sym (before n (or_left (bytes_eq n n) (list_any (bytes_eq n) names) (itself n)))) tt)
    (below_all-Before x names (λ q there. before q (ap (λ b. bytes_eq q n || b) there ∙ or-true (bytes_eq q n))))

-- a name before all others is the first of `in_order`
pub in_order_first : (x : List ℕ) (names rest : List (List ℕ)) → ((q : List ℕ) → list_any (bytes_eq q) names ≡ (bytes_eq q x || list_any (bytes_eq q) rest)) → Before x rest → in_order names ≡ x ∷ in_order rest
in_order_first x names rest members before =
    in_order_is (x ∷ in_order rest) names
    (and (below_all name_cmp x (each marked (in_order rest))) (is_sorted name_cmp (each marked (in_order rest)))
    (below_all-Before x (in_order rest) (λ q there. before q (sym (any_in_order q rest) ∙ there))) (in_order_sorted rest))
    (λ q. ap (λ b. bytes_eq q x || b) (any_in_order q rest) ∙ sym (members q))

-- ---- ascending lists by recursion

ComesBefore-below : (x : List ℕ) (names : List (List ℕ)) → T (below_all name_cmp x (each marked names)) → ComesBefore x names
ComesBefore-below x [] h = tt
ComesBefore-below x (n ∷ names) h =
    let parts = both (is_lt (name_cmp x n)) (below_all name_cmp x (each marked names)) h in
    (less (name_cmp x n) parts.0, ComesBefore-below x names parts.1)

Ascending-sorted : (names : List (List ℕ)) → T (is_sorted name_cmp (each marked names)) → Ascending names
Ascending-sorted [] h = tt
Ascending-sorted (n ∷ names) h =
    let parts = both (below_all name_cmp n (each marked names)) (is_sorted name_cmp (each marked names)) h in
    (ComesBefore-below n names parts.0, Ascending-sorted names parts.1)

-- `in_order` gives names by their bytes, each once
pub in_order_ascending : (names : List (List ℕ)) → Ascending (in_order names)
in_order_ascending names = Ascending-sorted (in_order names) (in_order_sorted names)
