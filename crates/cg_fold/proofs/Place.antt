-- The index of a key in a sorted list.
use Rattle.std.proofs.Common.{◌≡◌, ℕ, zero, suc, ◌+◌, ◌<◌, ◌≤◌, List, [], ◌∷◌, length, get_or, set, zero-le, Some, None, Bool, true, false, cond, refl, ap, sym, ◌∙◌, subst, arith}
use Rattle.std.proofs.Math.Dec.{T}
use Rattle.std.specs.Prelude.{◌&&◌}
use Rattle.std.specs.List.{prefix_len, insert}
use Rattle.std.proofs.lemmas.List.Sums.{prefix_len_is}
use Rattle.std.specs.List.Sorted.{IsPartitionedBy}
use Rattle.std.specs.declared.cmp.Ordering.{Ordering}
use Rattle.std.specs.declared.cmp.Ordering.TheVariants.{Less, Equal, Greater}
use Rattle.std.specs.Ordering.{is_lt, ordering_reverse}
use Rattle.std.specs.Cmp.{IsTotalOrder}
use Rattle.std.specs.FinMap.{find, is_sorted, put}

pub both : (a b : Bool) → T (a && b) → T a × T b
both true b h = (tt, h)
both false b h = absurd h

pub and : (a b : Bool) → T a → T b → T (a && b)
and true b p q = q
and false b p q = p

pub less : (o : Ordering) → T (is_lt o) → o ≡ Less
less Less h = refl
less Equal h = absurd h
less Greater h = absurd h

-- x comes before each entry
abbrev pub below_all : {K X : Type 0} → (K → K → Ordering) → K → List (K × X) → Bool
below_all R x [] = true
below_all R x (e ∷ es) = is_lt (R x e.0) && below_all R x es

-- if each element before n passes, and none from n on does, the prefix that passes has length n
pub prefix_from_point : {X : Type 0} (p : X → Bool) (xs : List X) (n : ℕ) → n ≤ length xs
    → ((k : ℕ) (d : X) → 0 ≤ k → k < n → p (get_or xs k d) ≡ true) × ((k : ℕ) (d : X) → n ≤ k → k < length xs → p (get_or xs k d) ≡ false)
    → n ≡ prefix_len p xs
prefix_from_point p [] n within point = omega arith
prefix_from_point p (x ∷ xs) n within point =
    sym (prefix_len_is p (x ∷ xs) n x within (λ k below. point.0 k x zero-le below) (λ below. point.1 n x (omega arith) below))

turned : {K : Type 0} {R : K → K → Ordering} → IsTotalOrder R → (x y : K) (r : Ordering) → R y x ≡ r → R x y ≡ ordering_reverse r
turned o x y r is = o.antisymm x y ∙ ap ordering_reverse is

pub one-more : (n : ℕ) → 1 + n ≡ suc n
one-more n = omega arith

module _ {K X : Type 0} {R : K → K → Ordering} (o : IsTotalOrder R) where
  pub sorted-tail : (e : K × X) (es : List (K × X)) → T (is_sorted R (e ∷ es)) → T (is_sorted R es)
  sorted-tail e es sorted = (both (below_all R e.0 es) (is_sorted R es) sorted).1

  pub front_below : (x : K) (es : List (K × X)) (k : ℕ) (d : K × X) → T (below_all R x es) → k < length es → R x (get_or es k d).0 ≡ Less
  front_below x [] k d all below = absurd (omega arith)
  front_below x (e ∷ es) zero d all below = less (R x e.0) (both (is_lt (R x e.0)) (below_all R x es) all).0
  front_below x (e ∷ es) (suc k) d all below = front_below x es k d (both (is_lt (R x e.0)) (below_all R x es) all).1 (omega arith)

  -- the entries before a key are a prefix
  pub partitioned : (key : K) (es : List (K × X)) → T (is_sorted R es) → IsPartitionedBy (λ e. is_lt (R e.0 key)) es
  partitioned key [] sorted i j d le below passes = absurd (omega arith)
  partitioned key (e ∷ es) sorted zero zero d le below passes = passes
  partitioned key (e ∷ es) sorted zero (suc j) d le below passes =
      let behind = front_below e.0 es j d (both (below_all R e.0 es) (is_sorted R es) sorted).0 (omega arith) in
      ap is_lt (o.trans e.0 (get_or es j d).0 key behind (less _ (subst T (sym passes) tt)))
  partitioned key (e ∷ es) sorted (suc i) zero d le below passes = absurd (omega arith)
  partitioned key (e ∷ es) sorted (suc i) (suc j) d le below passes = partitioned key es (sorted-tail e es sorted) i j d (omega arith) (omega arith) passes

  -- the number of entries before a key
  abbrev below : K → List (K × X) → ℕ
  below key es = prefix_len (λ e. is_lt (R e.0 key)) es

  -- the insertion of a key that no entry has
  pub put-new : (key : K) (v : X) (es : List (K × X)) (n : ℕ) → n ≡ prefix_len (λ e. is_lt (R e.0 key)) es
      → ((d : K × X) → n < length es → R (get_or es n d).0 key ≡ Equal → ⊥)
      → put R key v es ≡ insert es n (key, v)
  put-new key v [] n is absent = rw is refl
  put-new key v (e ∷ es) n is absent = cases (R e.0 key) refl (put-new key v es (below key es) refl)
    where
      cases : (r : Ordering) → R e.0 key ≡ r → (((d : K × X) → below key es < length es → R (get_or es (below key es) d).0 key ≡ Equal → ⊥) → put R key v es ≡ insert es (below key es) (key, v))
          → put R key v (e ∷ es) ≡ insert (e ∷ es) n (key, v)
      cases Less before later =
          let n-is : n ≡ suc (below key es) = is ∙ ap (λ r. cond (is_lt r) (1 + below key es) 0) before ∙ one-more (below key es) in
          let rest = later (λ d inside same. absent d (rw n-is (omega arith)) (rw n-is same)) in
          rw (n-is, turned o key e.0 Less before) (ap (λ l. e ∷ l) rest)
      cases Equal tie later =
          let n-is : n ≡ 0 = is ∙ ap (λ r. cond (is_lt r) (1 + below key es) 0) tie in
          absurd (absent e (rw n-is (omega arith)) (rw n-is tie))
      cases Greater after later =
          let n-is : n ≡ 0 = is ∙ ap (λ r. cond (is_lt r) (1 + below key es) 0) after in
          rw (n-is, turned o key e.0 Greater after) refl

  -- the insertion of a key that an entry has
  pub put-same : (key : K) (v : X) (es : List (K × X)) (n : ℕ) (d : K × X) → n ≡ prefix_len (λ e. is_lt (R e.0 key)) es
      → n < length es → R (get_or es n d).0 key ≡ Equal → put R key v es ≡ set es n ((get_or es n d).0, v)
  put-same key v [] n d is inside same = absurd (omega arith)
  put-same key v (e ∷ es) n d is inside same = cases (R e.0 key) refl (put-same key v es (below key es) d refl)
    where
      cases : (r : Ordering) → R e.0 key ≡ r → (below key es < length es → R (get_or es (below key es) d).0 key ≡ Equal → put R key v es ≡ set es (below key es) ((get_or es (below key es) d).0, v))
          → put R key v (e ∷ es) ≡ set (e ∷ es) n ((get_or (e ∷ es) n d).0, v)
      cases Less before later =
          let n-is : n ≡ suc (below key es) = is ∙ ap (λ r. cond (is_lt r) (1 + below key es) 0) before ∙ one-more (below key es) in
          let inside' : suc (below key es) < suc (length es) = rw n-is at inside in
          let same' : R (get_or es (below key es) d).0 key ≡ Equal = rw n-is at same in
          let rest = later (omega arith) same' in
          rw (n-is, turned o key e.0 Less before) (ap (λ l. e ∷ l) rest)
      cases Equal tie later =
          let n-is : n ≡ 0 = is ∙ ap (λ r. cond (is_lt r) (1 + below key es) 0) tie in
          rw (n-is, turned o key e.0 Equal tie) refl
      cases Greater after later =
          let n-is : n ≡ 0 = is ∙ ap (λ r. cond (is_lt r) (1 + below key es) 0) after in
          let here : R e.0 key ≡ Equal = rw n-is at same in
          absurd (let clash : Greater ≡ Equal = sym after ∙ here in cc)

  pub above_all : (key x : K) (es : List (K × X)) → R key x ≡ Less → T (below_all R x es) → find R key es ≡ None
  above_all key x [] before all = refl
  above_all key x (e ∷ es) before all =
      let parts = both (is_lt (R x e.0)) (below_all R x es) all in
      rw (o.trans key x e.0 before (less (R x e.0) parts.0)) (above_all key x es before parts.1)

  -- a search for a key that an entry has
  pub find-own : (key : K) (es : List (K × X)) (n : ℕ) (d : K × X) → n ≡ below key es → n < length es → R (get_or es n d).0 key ≡ Equal
      → find R key es ≡ Some (get_or es n d).1
  find-own key [] n d is inside same = absurd (omega arith)
  find-own key (e ∷ es) n d is inside same = cases (R e.0 key) refl (find-own key es (below key es) d refl)
    where
      cases : (r : Ordering) → R e.0 key ≡ r → (below key es < length es → R (get_or es (below key es) d).0 key ≡ Equal → find R key es ≡ Some (get_or es (below key es) d).1)
          → find R key (e ∷ es) ≡ Some (get_or (e ∷ es) n d).1
      cases Less before later =
          let n-is : n ≡ suc (below key es) = is ∙ ap (λ r. cond (is_lt r) (1 + below key es) 0) before ∙ one-more (below key es) in
          let inside' : suc (below key es) < suc (length es) = rw n-is at inside in
          let same' : R (get_or es (below key es) d).0 key ≡ Equal = rw n-is at same in
          rw (n-is, turned o key e.0 Less before) (later (omega arith) same')
      cases Equal tie later =
          let n-is : n ≡ 0 = is ∙ ap (λ r. cond (is_lt r) (1 + below key es) 0) tie in
          rw (n-is, turned o key e.0 Equal tie) refl
      cases Greater after later =
          let n-is : n ≡ 0 = is ∙ ap (λ r. cond (is_lt r) (1 + below key es) 0) after in
          let here : R e.0 key ≡ Equal = rw n-is at same in
          absurd (let clash : Greater ≡ Equal = sym after ∙ here in cc)

  -- a search for a key that no entry has
  pub find-other : (key : K) (es : List (K × X)) (n : ℕ) → T (is_sorted R es) → n ≡ below key es → ((d : K × X) → n < length es → R (get_or es n d).0 key ≡ Equal → ⊥)
      → find R key es ≡ None
  find-other key [] n sorted is absent = refl
  find-other key (e ∷ es) n sorted is absent =
      let parts = both (below_all R e.0 es) (is_sorted R es) sorted in
      cases (R e.0 key) refl parts.0 (find-other key es (below key es) parts.1 refl)
    where
      cases : (r : Ordering) → R e.0 key ≡ r → T (below_all R e.0 es) → (((d : K × X) → below key es < length es → R (get_or es (below key es) d).0 key ≡ Equal → ⊥) → find R key es ≡ None)
          → find R key (e ∷ es) ≡ None
      cases Less before all later =
          let n-is : n ≡ suc (below key es) = is ∙ ap (λ r. cond (is_lt r) (1 + below key es) 0) before ∙ one-more (below key es) in
          rw (turned o key e.0 Less before) (later (λ d inside same. absent d (rw n-is (omega arith)) (rw n-is same)))
      cases Equal tie all later =
          let n-is : n ≡ 0 = is ∙ ap (λ r. cond (is_lt r) (1 + below key es) 0) tie in
          absurd (absent e (rw n-is (omega arith)) (rw n-is tie))
      cases Greater after all later =
          let before : R key e.0 ≡ Less = turned o key e.0 Greater after in
          rw before (above_all key e.0 es before all)

  -- an entry with the key is at the key's place
  pub own-placed : (key : K) (es : List (K × X)) (n : ℕ) (d : K × X) → T (is_sorted R es) → n < length es → R (get_or es n d).0 key ≡ Equal
      → n ≡ below key es
  own-placed key [] n d sorted inside tie = absurd (omega arith)
  own-placed key (e ∷ es) zero d sorted inside tie = sym (ap (λ r. cond (is_lt r) (1 + below key es) 0) tie)
  own-placed key (e ∷ es) (suc n) d sorted inside tie =
      let parts = both (below_all R e.0 es) (is_sorted R es) sorted in
      let x = (get_or es n d).0 in
      let before : R e.0 x ≡ Less = front_below e.0 es n d parts.0 (omega arith) in
      let below_key : R e.0 key ≡ Less = o.antisymm e.0 key ∙ ap ordering_reverse (sym (o.congr x key e.0 tie)) ∙ sym (o.antisymm e.0 x) ∙ before in
      ap suc (own-placed key es n d parts.1 (omega arith) tie) ∙ sym (one-more (below key es)) ∙ sym (ap (λ r. cond (is_lt r) (1 + below key es) 0) below_key)
