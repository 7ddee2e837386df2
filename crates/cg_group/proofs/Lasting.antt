-- The groups of which a tick or a drop leaves something, and their offsets.
use Rattle.std.proofs.Common.{◌≡◌, ℕ, true, false, not, ◌&&◌, List, [], ◌∷◌, cond, is_some, refl, sym, ap, ◌∙◌, Some}
use Rattle.std.specs.FinMap as finmap
use Rattle.std.specs.Prelude.{if◌then◌else◌}
use Rattle.std.proofs.lemmas.Bool.{and_parts, false≢true}
use Rattle.cg_record.specs.declared.command.Command.{Command}
use Rattle.cg_fold.specs.Key.{OffsetKey}
use Rattle.cg_record.specs.declared.topic_partition.TopicPartition.{TopicPartition}
use Rattle.cg_group_state.specs.declared.group.Group.{Group}
use Rattle.cg_group_state.specs.Membership.{is_same}
use Rattle.cg_group_state.specs.Offsets.{OffsetMap, offsets_after}
use Rattle.cg_group_rules.specs.Tick.{ticked}
use Rattle.cg_group_table.specs.Expiry.{expires, expiring, goes, is_bare, is_nil, lasting, tick, tick_effects}
use Rattle.cg_group_table.specs.GroupTable.{Machine, find_group, without_group}
use Rattle.cg_group_table.specs.Kept.{Each}
use Rattle.cg_group_table.proofs.Framed.{framed-ticked}
use Rattle.cg_group_table.proofs.KeptLists.{same_names}
use Rattle.cg_group_table.proofs.Removing.{found-without}
use Rattle.cg_group.specs.Machine.{drop_command, founded_after, is_unfounded, with_offset}
use Rattle.cg_group.proofs.KeptMachine.{found-turns}
use Rattle.cg_group.proofs.Making.{makes-ticked}
use Rattle.cg_group.proofs.Sparing.{IsTaking, bare-none, spared}
use Rattle.cg_group.proofs.Sweeping.{each-drop, each-expiring, each-tick}

-- the commands of a tick and of a drop set no offset

pub takes-expiring : (loaded now : ℕ) (offsets : OffsetMap) (g : Group) → Each IsTaking (expiring loaded now offsets g)
takes-expiring loaded now offsets g = each-expiring IsTaking (λ _. refl) (λ _ _. refl) loaded now offsets g

pub takes-tick : (s : Machine) → Each IsTaking (tick s).effects.commands
takes-tick s = each-tick IsTaking s (makes-ticked IsTaking (λ _ _. refl) (λ _ _. refl) s.last) (λ _. refl) (λ _ _. refl)

pub takes-drop : (id : List ℕ) (offsets : OffsetMap) (partitions : List TopicPartition) → Each IsTaking (drop_command id (with_offset offsets id partitions))
takes-drop id offsets partitions = each-drop IsTaking (λ _. refl) id (with_offset offsets id partitions)

-- a group with an offset in the later ones is one of which something is left
found-lasting : (loaded now : ℕ) (offsets later : OffsetMap) (key : OffsetKey) (gs : List Group) → is_some (finmap.get later key) ≡ true → is_some (find_group key.group gs) ≡ true → is_some (find_group key.group (lasting loaded now offsets later gs)) ≡ true
unfolding find_group
found-lasting loaded now offsets later key [] there found = found
found-lasting loaded now offsets later key (g ∷ gs) there found =
    (elim (goes loaded now offsets later g) as (λ b. goes loaded now offsets later g ≡ b → is_some (find_group key.group (cond (not b) (g ∷ lasting loaded now offsets later gs) (lasting loaded now offsets later gs))) ≡ true) [
      | true ↦ λ gone.
          (elim (is_same g.id key.group) as (λ b. is_same g.id key.group ≡ b → is_some (cond b (Some g) (find_group key.group gs)) ≡ true → is_some (find_group key.group (lasting loaded now offsets later gs)) ≡ true) [
            | true ↦ λ same _.
                let bare : is_bare later g.id ≡ true = (and_parts (expires loaded now offsets g) (is_bare later g.id) gone).1 in
                let none = bare-none later key (ap (is_bare later) (sym (same_names g.id key.group same)) ∙ bare) in
                absurd (false≢true (sym (ap is_some none) ∙ there))
            | false ↦ λ _ h. found-lasting loaded now offsets later key gs there h
          ]) refl found
      | false ↦ λ _.
          (elim (is_same g.id key.group) as (λ b. is_some (cond b (Some g) (find_group key.group gs)) ≡ true → is_some (cond b (Some g) (find_group key.group (lasting loaded now offsets later gs))) ≡ true) [
            | true ↦ λ h. refl
            | false ↦ λ h. found-lasting loaded now offsets later key gs there h
          ]) found
    ]) refl

-- each group with an offset is loaded after a tick, if that was so before
pub covered-tick : (s : Machine) → ((key : OffsetKey) → is_some (finmap.get s.offsets key) ≡ true → is_some (find_group key.group s.groups) ≡ true)
    → (key : OffsetKey) → is_some (finmap.get (offsets_after s.offsets (tick s).effects.commands) key) ≡ true → is_some (find_group key.group (tick s).after.groups) ≡ true
unfolding tick
covered-tick s v key e =
    let later : OffsetMap = offsets_after s.offsets (tick_effects s).commands in
    let parts = spared s.offsets (tick_effects s).commands key (takes-tick s) e in
    found-turns (ticked s.last) (framed-ticked s.last) key.group (lasting s.loaded s.last s.offsets later s.groups)
    ∙ found-lasting s.loaded s.last s.offsets later key s.groups e (v key parts.1)

-- the same after a drop
found-founded : (offsets : OffsetMap) (commands : List Command) (id : List ℕ) (groups : List Group) (key : OffsetKey) → is_some (finmap.get (offsets_after offsets commands) key) ≡ true
    → is_some (find_group key.group groups) ≡ true → is_some (find_group key.group (founded_after offsets commands id groups)) ≡ true
found-founded offsets commands id groups key there found =
    (elim (not (is_nil commands) && is_unfounded (offsets_after offsets commands) groups id) as (λ b. (not (is_nil commands) && is_unfounded (offsets_after offsets commands) groups id) ≡ b → is_some (find_group key.group (if b then without_group id groups else groups)) ≡ true) [
      | true ↦ λ gone.
          let bare : is_bare (offsets_after offsets commands) id ≡ true = (and_parts (is_bare (offsets_after offsets commands) id) _ (and_parts (not (is_nil commands)) (is_unfounded (offsets_after offsets commands) groups id) gone).1).0 in
          (elim (is_same id key.group) as (λ b. is_same id key.group ≡ b → is_some (find_group key.group (without_group id groups)) ≡ true) [
            | true ↦ λ same.
                let none = bare-none (offsets_after offsets commands) key (ap (is_bare (offsets_after offsets commands)) (sym (same_names id key.group same)) ∙ bare) in
                absurd (false≢true (sym (ap is_some none) ∙ there))
            | false ↦ λ apart. found-without id key.group groups apart found
          ]) refl
      | false ↦ λ _. found
    ]) refl

pub covered-drop : (offsets : OffsetMap) (groups : List Group) (id : List ℕ) (partitions : List TopicPartition) → ((key : OffsetKey) → is_some (finmap.get offsets key) ≡ true → is_some (find_group key.group groups) ≡ true)
    → (key : OffsetKey) → is_some (finmap.get (offsets_after offsets (drop_command id (with_offset offsets id partitions))) key) ≡ true → is_some (find_group key.group (founded_after offsets (drop_command id (with_offset offsets id partitions)) id groups)) ≡ true
covered-drop offsets groups id partitions v key e =
    let cs : List Command = drop_command id (with_offset offsets id partitions) in
    found-founded offsets cs id groups key e (v key (spared offsets cs key (takes-drop id offsets partitions) e).1)
