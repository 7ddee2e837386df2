-- The earliest moment of entries, and the keys that are due.
use Rattle.std.proofs.Common.{◌≡◌, ℕ, ◌-◌, ◌^◌, ◌<◌, ◌≤◌, true, false, cond, List, [], ◌∷◌, ◌++◌, min, map, refl, ap, ◌∙◌, arith}
use Rattle.std.specs.Prelude.{nat_le}
use Rattle.std.specs.List.{AllByRecursion, filter}
use Rattle.std.specs.List.Sorted.{IsStrictlySortedBy}
use Rattle.std.specs.Map.{keys_of}
use Rattle.std.specs.declared.cmp.Ordering.{Ordering}
use Rattle.std.proofs.lemmas.Bool.Decides.{nat_tests}
use Rattle.cg_time.specs.Entries.{IsAscending, due_keys, earliest_of}

module _ {K : Type 0} where
  earliest_le : (es : List (K × ℕ)) → earliest_of es ≤ 2 ^ 64 - 1
  earliest_le [] = omega arith
  earliest_le (e ∷ es) = omega (arith, earliest_le es)

  pub earliest-fork : (l : List (K × ℕ)) (e : K × ℕ) (r : List (K × ℕ)) → earliest_of (l ++ e ∷ r) ≡ min (earliest_of l) (min e.1 (earliest_of r))
  earliest-fork [] e r = omega (arith, earliest_le r)
  earliest-fork (x ∷ l) e r = ap (min x.1) (earliest-fork l e r) ∙ omega arith

  -- nothing is due before the earliest moment
  pub none_due : (now : ℕ) (es : List (K × ℕ)) → now < earliest_of es → due_keys now es ≡ []
  none_due now [] h = refl
  none_due now (x ∷ es) h =
      let late : now < x.1 = omega arith in
      let later : now < earliest_of es = omega arith in
      let rest = none_due now es later in
      grind (arith, nat_tests, rest)

all_due : {K : Type 0} (P : K → Type 0) (now : ℕ) (es : List (K × ℕ)) → AllByRecursion P (keys_of es) → AllByRecursion P (due_keys now es)
all_due P now [] a = tt
all_due P now (x ∷ es) a = elim (nat_le x.1 now) as (λ b. AllByRecursion P (map (λ e. e.0) (cond b (x ∷ filter (λ e. nat_le e.1 now) es) (filter (λ e. nat_le e.1 now) es)))) [ true ↦ (a.0, all_due P now es a.1) | false ↦ all_due P now es a.1 ]

-- the keys that are due ascend
pub ascending_due : {K : Type 0} (R : K → K → Ordering) (now : ℕ) (es : List (K × ℕ)) → IsAscending R es → IsStrictlySortedBy R (due_keys now es)
unfolding IsStrictlySortedBy
ascending_due R now [] s = tt
ascending_due R now (x ∷ es) s = elim (nat_le x.1 now) as (λ b. IsStrictlySortedBy R (map (λ e. e.0) (cond b (x ∷ filter (λ e. nat_le e.1 now) es) (filter (λ e. nat_le e.1 now) es)))) [ true ↦ (all_due _ now es s.0, ascending_due R now es s.1) | false ↦ ascending_due R now es s.1 ]
