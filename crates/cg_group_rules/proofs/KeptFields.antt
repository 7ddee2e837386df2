-- The fields of a member that no stage of an event changes, as a group passes through its stages.
use Rattle.std.proofs.Common.{◌≡◌, ℕ, true, false, List, map, refl, ◌∙◌}
use Rattle.std.specs.Prelude.{if◌then◌else◌}
use Rattle.cg_group_state.specs.declared.calls.Calls.TheVariants.{Joins, Syncs}
use Rattle.cg_group_state.specs.declared.group.Group.{Group}
use Rattle.cg_group_state.specs.declared.member.Member.{Member}
use Rattle.cg_group_state.specs.declared.member.Waits.{Waits}
use Rattle.cg_group_state.specs.declared.turn.Turn.{Turn}
use Rattle.cg_group_state.specs.Waiting.{waits_with}
use Rattle.cg_group_state.specs.Membership.{is_preparing, is_empty}
use Rattle.cg_group_state.proofs.Keeping.{IsLasting, keep-after_answers, map-with_member}
use Rattle.cg_group_rules.specs.Join.{in_join_phase, waiting}
use Rattle.cg_group_rules.specs.Leave.{after_removal, has_joined}
use Rattle.cg_group_rules.specs.Rebalance.{prepare_rebalance, complete_join, emptied, is_ready, init_next_generation, reply_to_joins, try_complete_join}
use Rattle.cg_group_rules.specs.Sync.{reply_to_syncs}

module _ {A : Type 0} (f : Member → A) (lasts : IsLasting f) where
  pub keep-waiting : (now : ℕ) (id : List ℕ) (waits : Waits) (t : Turn) → map f (waiting now id waits t).group.members ≡ map f t.group.members
  unfolding waiting
  keep-waiting now id waits t = map-with_member f id (waits_with now waits) (λ m. lasts m (waits_with now waits m).heard waits) t.group.members

  pub keep-prepared : (now : ℕ) (t : Turn) → map f (prepare_rebalance now t).group.members ≡ map f t.group.members
  unfolding prepare_rebalance
  keep-prepared now t = keep-after_answers f lasts Syncs now t.group.members

  pub keep-in_join_phase : (now : ℕ) (t : Turn) → map f (in_join_phase now t).group.members ≡ map f t.group.members
  keep-in_join_phase now t = elim (is_preparing t.group.phase) as (λ b. map f (if b then t else prepare_rebalance now t).group.members ≡ map f t.group.members) [ true ↦ refl | false ↦ keep-prepared now t ]

  pub keep-reply_to_joins : (now : ℕ) (t : Turn) → map f (reply_to_joins now t).group.members ≡ map f t.group.members
  unfolding reply_to_joins
  keep-reply_to_joins now t = keep-after_answers f lasts Joins now t.group.members

  pub keep-reply_to_syncs : (now : ℕ) (t : Turn) → map f (reply_to_syncs now t).group.members ≡ map f t.group.members
  unfolding reply_to_syncs
  keep-reply_to_syncs now t = keep-after_answers f lasts Syncs now t.group.members

  pub keep-emptied : (now : ℕ) (t : Turn) → map f (emptied now t).group.members ≡ map f t.group.members
  unfolding emptied
  keep-emptied now t = refl

  pub keep-init_next_generation : (g : Group) → map f (init_next_generation g).members ≡ map f g.members
  unfolding init_next_generation
  keep-init_next_generation g = refl

  pub keep-completed : (now : ℕ) (t : Turn) → map f (complete_join now t).group.members ≡ map f t.group.members
  unfolding complete_join
  keep-completed now t =
      elim (is_empty t.group.members) as (λ b. map f (if b then emptied now t else reply_to_joins now (record t { group = init_next_generation t.group })).group.members ≡ map f t.group.members) [
        | true ↦ keep-emptied now t
        | false ↦ keep-reply_to_joins now (record t { group = init_next_generation t.group }) ∙ keep-init_next_generation t.group
      ]

  pub keep-tried : (now : ℕ) (t : Turn) → map f (try_complete_join now t).group.members ≡ map f t.group.members
  unfolding try_complete_join
  keep-tried now t = elim (is_ready t.group) as (λ b. map f (if b then complete_join now t else t).group.members ≡ map f t.group.members) [ true ↦ keep-completed now t | false ↦ refl ]

  pub keep-after_removal : (now : ℕ) (t : Turn) → map f (after_removal now t).group.members ≡ map f t.group.members
  unfolding after_removal
  keep-after_removal now t =
      keep-tried now _ ∙ elim (has_joined t.group.phase) as (λ b. map f (if b then prepare_rebalance now t else t).group.members ≡ map f t.group.members) [ true ↦ keep-prepared now t | false ↦ refl ]
