use Rattle.std.proofs.Common.{◌≡◌, ◌<◌, ℕ, List, true, get_or}
use Rattle.std.specs.Prelude.{◌⊎◌}
use Rattle.std.specs.BTreeMap.{get}
use Rattle.std.specs.List.{list_any}
use Rattle.std.specs.Ordering.{nat_cmp}
use Rattle.cg_group_state.specs.declared.calls.Calls.TheVariants.{OfSession}
use Rattle.cg_group_state.specs.Waiting.{is_waiting}
use Rattle.cg_group_state.specs.declared.member.Member.{Member}
use Rattle.cg_group_table.specs.SessionIndex.{IsFilled, is_certain, is_home, is_known}
use Rattle.cg_group_table.proofs.index_cleanup.affirm_all.Given as goal

abbrev pub invariant-loop-member : goal.invariant-loop-member
invariant-loop-member l =
    ((q : ℕ) (x : List ℕ) → is_home l.initial.homes q x ≡ true → is_home l.homes q x ≡ true)
    × ((k : ℕ) (d : Member) → k < l.member-index → is_known (λ q. is_home l.initial.homes q l.id) (get_or l.members k d).waits ≡ true → is_known (λ q. is_certain l.homes q l.id) (get_or l.members k d).waits ≡ true)
    × ((q : ℕ) → is_certain l.homes q l.id ≡ true → (is_certain l.initial.homes q l.id ≡ true) ⊎ (list_any (is_waiting (OfSession q)) l.members ≡ true))
    × ((q : ℕ) (x : List ℕ) → is_home l.homes q x ≡ true → is_home l.initial.homes q x ≡ true)
    × ((q : ℕ) → IsFilled (get nat_cmp l.initial.homes q) → IsFilled (get nat_cmp l.homes q))
    × ((q : ℕ) (x : List ℕ) → is_certain l.initial.homes q x ≡ true → is_certain l.homes q x ≡ true)
