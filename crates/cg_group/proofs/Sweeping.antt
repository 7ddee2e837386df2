-- Facts about all commands and all groups of a tick or a drop.
use Rattle.std.proofs.Common.{ℕ, zero, suc, Bool, true, false, not, ◌&&◌, List, [], ◌∷◌, ◌++◌, cond, filter, take, drop, is_some}
use Rattle.std.specs.List.{flat_map}
use Rattle.std.specs.Prelude.{if◌then◌else◌}
use Rattle.cg_record.specs.declared.command.Command.{Command}
use Rattle.cg_record.specs.declared.command.Command.TheVariants as command
use Rattle.cg_record.specs.declared.deleted.Deleted.{Deleted}
use Rattle.cg_record.specs.declared.dropped.Dropped.{Dropped}
use Rattle.cg_record.specs.declared.entries.TheConstants.{ENTRIES_MAX}
use Rattle.cg_record.specs.declared.topic_partition.TopicPartition.{TopicPartition}
use Rattle.cg_fold.specs.Snapshot.{offsets_in}
use Rattle.cg_group_state.specs.declared.group.Group.{Group}
use Rattle.cg_group_state.specs.Offsets.{OffsetMap, offsets_after}
use Rattle.cg_group_rules.specs.Tick.{ticked}
use Rattle.cg_group_table.specs.Expiry.{expiries, expiring, expiring_as, expiring_if, goes, is_nil, is_stale, is_vacant, lasting, stale_of, swept, tick}
use Rattle.cg_group_table.specs.GroupTable.{Machine, without_group}
use Rattle.cg_group_table.specs.Kept.{Each}
use Rattle.cg_group_table.specs.declared.expiry.TheConstants.{EXPIRED_COMMANDS_MAX}
use Rattle.cg_group_table.proofs.Framed.{each-append}
use Rattle.cg_group_table.proofs.Removing.{each-without}
use Rattle.cg_group.specs.Machine.{drop_command, founded_after, is_unfounded}

-- a fact about each element of a list holds for those of them that pass a test
pub each-filter : {X : Type 0} (P : X → Type 0) (q : X → Bool) (xs : List X) → Each P xs → Each P (filter q xs)
each-filter P q [] h = tt
each-filter P q (x ∷ xs) h = elim (q x) as (λ b. Each P (cond b (x ∷ filter q xs) (filter q xs))) [ true ↦ (h.0, each-filter P q xs h.1) | false ↦ each-filter P q xs h.1 ]

-- a fact about each group holds for those of which a tick leaves something
pub each-lasting : (P : Group → Type 0) (loaded now : ℕ) (offsets later : OffsetMap) (groups : List Group) → Each P groups → Each P (lasting loaded now offsets later groups)
each-lasting P loaded now offsets later groups h = each-filter P (λ g. not (goes loaded now offsets later g)) groups h

-- a fact about each group holds after a drop
pub each-founded : (P : Group → Type 0) (offsets : OffsetMap) (commands : List Command) (id : List ℕ) (groups : List Group) → Each P groups → Each P (founded_after offsets commands id groups)
each-founded P offsets commands id groups h =
    elim (not (is_nil commands) && is_unfounded (offsets_after offsets commands) groups id) as (λ b. Each P (if b then without_group id groups else groups)) [ true ↦ each-without P id groups h | false ↦ h ]

-- a fact about the command of a drop
pub each-drop : (P : Command → Type 0) → ((d : Dropped) → P (command.Dropped d)) → (id : List ℕ) (partitions : List TopicPartition) → Each P (drop_command id partitions)
each-drop P dropped_is id [] = tt
each-drop P dropped_is id (p ∷ ps) = (dropped_is (record { group = id; partitions = p ∷ ps }), tt)

module _ (P : Command → Type 0) (deleted_is : (d : Deleted) → P (command.Deleted d)) (expired_is : (group : List ℕ) (partitions : List TopicPartition) → P (command.Expired (record { group = group; partitions = partitions }))) where
  each-expiries : (most : ℕ) (group : List ℕ) (partitions : List TopicPartition) → Each P (expiries most group partitions)
  unfolding expiries
  each-expiries zero group partitions = tt
  each-expiries (suc most) group [] = tt
  each-expiries (suc most) group (p ∷ ps) = (expired_is group (take ENTRIES_MAX (p ∷ ps)), each-expiries most group (drop ENTRIES_MAX (p ∷ ps)))

  each-expiring_as : (b : Bool) (loaded now : ℕ) (offsets : OffsetMap) (g : Group) → Each P (expiring_as b loaded now offsets g)
  unfolding expiring_as
  each-expiring_as true loaded now offsets g = elim (is_stale loaded now g.emptied) as (λ b. Each P (if b then command.Deleted (record { group = g.id }) ∷ [] else [])) [ true ↦ (deleted_is (record { group = g.id }), tt) | false ↦ tt ]
  each-expiring_as false loaded now offsets g = each-expiries EXPIRED_COMMANDS_MAX g.id (stale_of loaded now (offsets_in offsets g.id))

  each-expiring_if : (b : Bool) (loaded now : ℕ) (offsets : OffsetMap) (g : Group) → Each P (expiring_if b loaded now offsets g)
  unfolding expiring_if
  each-expiring_if true loaded now offsets g = each-expiring_as (is_some g.kind) loaded now offsets g
  each-expiring_if false loaded now offsets g = tt

  -- a fact about what expires in a group
  pub each-expiring : (loaded now : ℕ) (offsets : OffsetMap) (g : Group) → Each P (expiring loaded now offsets g)
  each-expiring loaded now offsets g = each-expiring_if (is_vacant g) loaded now offsets g

  each-swept : (loaded now : ℕ) (offsets : OffsetMap) → ((g : Group) → Each P (ticked now g).commands) → (groups : List Group) → Each P (flat_map (λ g. (swept loaded now offsets g).commands) groups)
  each-swept loaded now offsets own [] = tt
  each-swept loaded now offsets own (g ∷ gs) =
      each-append P ((ticked now g).commands ++ expiring loaded now offsets g) (flat_map (λ g. (swept loaded now offsets g).commands) gs)
      (each-append P (ticked now g).commands (expiring loaded now offsets g) (own g) (each-expiring loaded now offsets g)) (each-swept loaded now offsets own gs)

-- a fact about each command of a tick
pub each-tick : (P : Command → Type 0) (s : Machine) → ((g : Group) → Each P (ticked s.last g).commands) → ((d : Deleted) → P (command.Deleted d)) → ((group : List ℕ) (partitions : List TopicPartition) → P (command.Expired (record { group = group; partitions = partitions }))) → Each P (tick s).effects.commands
unfolding tick
each-tick P s own deleted_is expired_is = each-swept P deleted_is expired_is s.loaded s.last s.offsets own s.groups
