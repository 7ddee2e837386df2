use Rattle.std.proofs.Common.{◌≡◌, ◌<◌, ℕ, List, true, get_or}
use Rattle.std.specs.BTreeMap.{get}
use Rattle.std.specs.Ordering.{nat_cmp}
use Rattle.cg_group_table.specs.SessionIndex.{IfParked, IsFilled, IsSettled, is_certain, is_home}
use Rattle.cg_group_table.proofs.index_cleanup.leave_all.Given as goal

abbrev pub invariant-loop-call : goal.invariant-loop-call
invariant-loop-call g l =
    ((q : ℕ) (x : List ℕ) → (x ≡ l.id → ⊥) → is_home l.initial.homes q x ≡ true → is_home l.homes q x ≡ true)
    × ((q : ℕ) (x : List ℕ) → is_certain l.initial.homes q x ≡ true → is_certain l.homes q x ≡ true)
    × ((q : ℕ) → is_certain l.homes q l.id ≡ true → is_certain l.initial.homes q l.id ≡ true)
    × ((k : ℕ) (d : g.row.P.Denot) → k < l.call-index → IfParked (λ q. IsSettled l.homes q l.id) (g.P.Calling.call (get_or l.parked k d)))
    × ((q : ℕ) (x : List ℕ) → is_home l.homes q x ≡ true → is_home l.initial.homes q x ≡ true)
    × ((q : ℕ) → IsFilled (get nat_cmp l.initial.homes q) → IsFilled (get nat_cmp l.homes q))
