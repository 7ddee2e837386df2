-- The entries of an index of deadlines: each key with its moment, in ascending order of the keys.
use Rattle.std.specs.Prelude.{◌≡◌, ℕ, ◌-◌, ◌^◌, Bool, List, [], ◌∷◌, map, min, nat_le}
use Rattle.std.specs.List.{filter, list_any}
use Rattle.std.specs.List.Sorted.{IsStrictlySortedBy}
use Rattle.std.specs.Map.{keys_of}
use Rattle.std.specs.Ordering.{eq_by_cmp}
use Rattle.std.specs.declared.cmp.Ordering.{Ordering}

-- the keys whose moment is at most `now`, in their order
abbrev pub due_keys : {K : Type 0} → ℕ → List (K × ℕ) → List K
due_keys now es = map (λ e. e.0) (filter (λ e. nat_le e.1 now) es)

-- whether an entry has the key k
abbrev pub has_key : {K : Type 0} → (K → K → Ordering) → K → List (K × ℕ) → Bool
has_key cmp k es = list_any (eq_by_cmp cmp k) (keys_of es)

-- the keys ascend, so no key has two entries
abbrev pub IsAscending : {K : Type 0} → (K → K → Ordering) → List (K × ℕ) → Type 0
IsAscending cmp es = IsStrictlySortedBy cmp (keys_of es)

-- the earliest moment of the entries, or the last moment of all
abbrev pub earliest_of : {K : Type 0} → List (K × ℕ) → ℕ
earliest_of [] = 2 ^ 64 - 1
earliest_of (e ∷ es) = min e.1 (earliest_of es)

-- a clone of a key is that key
abbrev pub IsExact : {K : Type 0} → (K → K → Type 0) → Type 0
IsExact {K} is_clone = (x y : K) → is_clone x y → y ≡ x
