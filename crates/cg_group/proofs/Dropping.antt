-- What a DROP takes away, and what a tick takes away, one command after the other.
use Rattle.std.proofs.Common.{◌≡◌, ◌<◌, ◌≤◌, ◌+◌, ℕ, zero, suc, Bool, true, false, cond, List, [], ◌∷◌, filter, get_or, length, take, refl, sym, ap, ◌∙◌, subst, arith, Ok}
use Rattle.std.specs.List.{AllByRecursion, IsDistinct}
use Rattle.std.specs.FinMap as finmap
use Rattle.std.specs.Prelude.{if◌then◌else◌}
use Rattle.std.proofs.lemmas.Bool.{and_parts, false≢true}
use Rattle.std.proofs.lemmas.List.Sums.{fold_more}
use Rattle.cg_record.specs.declared.command.Command.{Command}
use Rattle.cg_record.specs.declared.command.Command.TheVariants as command
use Rattle.cg_record.specs.declared.deleted.Deleted.{Deleted as Deletion}
use Rattle.cg_record.specs.declared.dropped.Dropped.{Dropped as Drop}
use Rattle.cg_record.specs.declared.expired.Expired.{Expired as Expiry}
use Rattle.cg_record.specs.declared.topic_partition.TopicPartition.{TopicPartition}
use Rattle.cg_record.specs.Partitions.{ArePartitions, are_one}
use Rattle.cg_fold.specs.Durable.{State, after, effect, is_beside, is_of_other}
use Rattle.cg_group_state.specs.declared.effects.Effects.{Effects}
use Rattle.cg_group_state.specs.declared.group.Group.{Group}
use Rattle.cg_group_state.specs.declared.reply.Reply.TheVariants as reply
use Rattle.cg_group_state.specs.Offsets.{OffsetMap, offsets_after}
use Rattle.cg_request.specs.declared.ticket.Ticket.{Ticket}
use Rattle.cg_group_table.specs.Expiry.{are_takings, is_bare, is_taking, without_bare}
use Rattle.cg_group_table.specs.GroupTable.{Machine, Outcome, outcome, standing, without_group}
use Rattle.cg_group.specs.Machine.{drop_command, dropped, founded_after, is_unfounded, reply_alone, with_offset}
use Rattle.cg_group.proofs.OffsetsKept.{IsQuiet, offsets-after, quiet-offsets}

-- ---- some of the partitions

all-filter : {X : Type 0} (P : X → Type 0) (test : X → Bool) (xs : List X) → AllByRecursion P xs → AllByRecursion P (filter test xs)
all-filter P test [] h = tt
all-filter P test (x ∷ xs) h =
    let rest = all-filter P test xs h.1 in
    elim (test x) as (λ b. AllByRecursion P (cond b (x ∷ filter test xs) (filter test xs))) [ true ↦ (h.0, rest) | false ↦ rest ]

distinct-filter : {X : Type 0} (share : X → X → Bool) (test : X → Bool) (xs : List X) → IsDistinct share xs → IsDistinct share (filter test xs)
unfolding IsDistinct
distinct-filter share test [] h = tt
distinct-filter share test (x ∷ xs) h =
    let rest = distinct-filter share test xs h.1 in
    let apart = all-filter (λ y. share x y ≡ false) test xs h.0 in
    elim (test x) as (λ b. IsDistinct share (cond b (x ∷ filter test xs) (filter test xs))) [ true ↦ (apart, rest) | false ↦ rest ]

few-filter : {X : Type 0} (test : X → Bool) (xs : List X) → length (filter test xs) ≤ length xs
few-filter test [] = omega arith
few-filter test (x ∷ xs) =
    let rest : length (filter test xs) ≤ length xs = few-filter test xs in
    elim (test x) as (λ b. length (cond b (x ∷ filter test xs) (filter test xs)) ≤ length (x ∷ xs)) [ true ↦ omega arith | false ↦ omega arith ]

-- some of different partitions are different
pub partitions-filter : (test : TopicPartition → Bool) (all some : List TopicPartition) → some ≡ filter test all → ArePartitions all → 1 ≤ length some → ArePartitions some
partitions-filter test all some e h many =
    let D : List TopicPartition → Type 0 = λ ps. IsDistinct are_one ps in
    record {
      some = many;
      few = omega (arith, ap length e, few-filter test all, h.few);
      distinct = subst D (sym e) (distinct-filter are_one test all h.distinct);
    }

-- ---- a DROP

-- the effect of a DROP of these partitions, each of which has an offset
abbrev drops : Machine → Ticket → List ℕ → List TopicPartition → Outcome
drops s ticket id partitions = record {
  after = record s { groups = founded_after s.offsets (drop_command id partitions) id s.groups };
  effects = record { commands = drop_command id partitions; replies = (ticket, reply.Done) ∷ [] };
}

dropped-drops : (s : Machine) (ticket : Ticket) (partitions kept : List TopicPartition) (id : List ℕ) → kept ≡ with_offset s.offsets id partitions → dropped s ticket partitions (Ok id) ≡ drops s ticket id kept
unfolding dropped
dropped-drops s ticket partitions kept id e = ap (drops s ticket id) (sym e)

-- where no partition has an offset, nothing changes
pub dropped_none : (loaded now : ℕ) (groups : List Group) (offsets : OffsetMap) (ticket : Ticket) (partitions kept : List TopicPartition) (id : List ℕ) (e : Effects) → kept ≡ with_offset offsets id partitions → kept ≡ [] → e ≡ reply_alone ticket reply.Done
    → dropped (standing loaded now groups offsets) ticket partitions (Ok id) ≡ outcome (standing loaded now groups offsets) e
dropped_none loaded now groups offsets ticket partitions kept id e is none made =
    let s : Machine = standing loaded now groups offsets in
    dropped-drops s ticket partitions kept id is
    ∙ ap (drops s ticket id) none
    ∙ ap (outcome s) (sym made)

-- the command of a DROP, and its reply
abbrev pub dropping : Ticket → List ℕ → List TopicPartition → Effects
dropping ticket id partitions = record { commands = command.Dropped (record { group = id; partitions = partitions }) ∷ []; replies = (ticket, reply.Done) ∷ [] }

some-drops : (s : Machine) (ticket : Ticket) (id : List ℕ) (kept : List TopicPartition) → 1 ≤ length kept
    → drops s ticket id kept ≡ outcome (record s { groups = if is_unfounded (finmap.retain_keys s.offsets (is_beside id kept)) s.groups id then without_group id s.groups else s.groups }) (dropping ticket id kept)
unfolding effect
some-drops s ticket id [] many = absurd (omega arith)
some-drops s ticket id (p ∷ ps) many = refl

-- otherwise the group goes if nothing of it is left
pub dropped_some : (loaded now : ℕ) (groups after : List Group) (offsets later : OffsetMap) (ticket : Ticket) (partitions kept : List TopicPartition) (id : List ℕ) (e : Effects) → kept ≡ with_offset offsets id partitions → 1 ≤ length kept
    → later ≡ finmap.retain_keys offsets (is_beside id kept) → after ≡ (if is_unfounded later groups id then without_group id groups else groups) → e ≡ dropping ticket id kept
    → dropped (standing loaded now groups offsets) ticket partitions (Ok id) ≡ outcome (standing loaded now after offsets) e
dropped_some loaded now groups after offsets later ticket partitions kept id e is many thinned left made =
    let s : Machine = standing loaded now groups offsets in
    dropped-drops s ticket partitions kept id is
    ∙ some-drops s ticket id kept many
    ∙ ap (λ m. outcome (record s { groups = if is_unfounded m groups id then without_group id groups else groups }) (dropping ticket id kept)) (sym thinned)
    ∙ ap (λ gs. outcome (standing loaded now gs offsets) (dropping ticket id kept)) (sym left)
    ∙ ap (outcome (standing loaded now after offsets)) (sym made)

-- it makes a command
pub some-command : (loaded now : ℕ) (groups : List Group) (offsets : OffsetMap) (ticket : Ticket) (partitions : List TopicPartition) (id : List ℕ) → 1 ≤ length (with_offset offsets id partitions)
    → 1 ≤ length (dropped (standing loaded now groups offsets) ticket partitions (Ok id)).effects.commands
unfolding dropped
some-command loaded now groups offsets ticket partitions id many = step (with_offset offsets id partitions) many
  where
    step : (kept : List TopicPartition) → 1 ≤ length kept → 1 ≤ length (drop_command id kept)
    step [] many = many
    step (p ∷ ps) many = omega arith

-- the offsets after it
pub offsets-dropped : (offsets later : OffsetMap) (ticket : Ticket) (id : List ℕ) (kept : List TopicPartition) (e : Effects) → later ≡ finmap.retain_keys offsets (is_beside id kept) → e ≡ dropping ticket id kept → later ≡ offsets_after offsets e.commands
unfolding effect
offsets-dropped offsets later ticket id kept e thinned made = thinned ∙ ap (λ x. offsets_after offsets x.commands) (sym made)

-- ---- the commands of a tick, one after the other

abbrev bare : OffsetMap → State
bare offsets = record { records = finmap.empty; offsets = offsets }

-- one command more
taken_more : (offsets now later : OffsetMap) (commands : List Command) (i : ℕ) (c : Command) → i < length commands → c ≡ get_or commands i c → now ≡ offsets_after offsets (take i commands) → later ≡ offsets_after now (c ∷ []) → later ≡ offsets_after offsets (take (i + 1) commands)
taken_more offsets now later commands i c lt is been step =
    let first : State = after (bare offsets) (take i commands) in
    step
    ∙ offsets-after (c ∷ []) (bare now) first been
    ∙ ap (λ d. (effect first d).offsets) is
    ∙ ap (λ (s : State). s.offsets) (sym (fold_more effect (bare offsets) commands i c lt))

pub taken_expired : (offsets now later : OffsetMap) (commands : List Command) (i : ℕ) (c : Command) (x : Expiry) (partitions : List TopicPartition) → i < length commands → c ≡ get_or commands i c → now ≡ offsets_after offsets (take i commands) → c ≡ command.Expired x → partitions ≡ x.partitions
    → later ≡ finmap.retain_keys now (is_beside x.group partitions) → later ≡ offsets_after offsets (take (i + 1) commands)
unfolding effect
taken_expired offsets now later commands i c x partitions lt is been kind same step =
    taken_more offsets now later commands i c lt is been
    (step ∙ ap (λ ps. finmap.retain_keys now (is_beside x.group ps)) same ∙ ap (λ d. offsets_after now (d ∷ [])) (sym kind))

pub taken_dropped : (offsets now later : OffsetMap) (commands : List Command) (i : ℕ) (c : Command) (x : Drop) (partitions : List TopicPartition) → i < length commands → c ≡ get_or commands i c → now ≡ offsets_after offsets (take i commands) → c ≡ command.Dropped x → partitions ≡ x.partitions
    → later ≡ finmap.retain_keys now (is_beside x.group partitions) → later ≡ offsets_after offsets (take (i + 1) commands)
unfolding effect
taken_dropped offsets now later commands i c x partitions lt is been kind same step =
    taken_more offsets now later commands i c lt is been
    (step ∙ ap (λ ps. finmap.retain_keys now (is_beside x.group ps)) same ∙ ap (λ d. offsets_after now (d ∷ [])) (sym kind))

pub taken_deleted : (offsets now later : OffsetMap) (commands : List Command) (i : ℕ) (c : Command) (x : Deletion) → i < length commands → c ≡ get_or commands i c → now ≡ offsets_after offsets (take i commands) → c ≡ command.Deleted x
    → later ≡ finmap.retain_keys now (is_of_other x.group) → later ≡ offsets_after offsets (take (i + 1) commands)
unfolding effect
taken_deleted offsets now later commands i c x lt is been kind step =
    taken_more offsets now later commands i c lt is been (step ∙ ap (λ d. offsets_after now (d ∷ [])) (sym kind))

-- a command that sets records leaves the offsets as they are
pub taken_quiet : (offsets now : OffsetMap) (commands : List Command) (i : ℕ) (c : Command) → i < length commands → c ≡ get_or commands i c → now ≡ offsets_after offsets (take i commands) → IsQuiet c → now ≡ offsets_after offsets (take (i + 1) commands)
taken_quiet offsets now commands i c lt is been quiet = taken_more offsets now now commands i c lt is been (sym (quiet-offsets now (c ∷ []) (quiet, tt)))

-- a command that sets no offset and takes none away leaves them as they are
taking_at : (commands : List Command) (i : ℕ) (c : Command) → i < length commands → c ≡ get_or commands i c → are_takings commands ≡ true → is_taking c ≡ true
taking_at [] i c lt is all = absurd (omega (arith, lt))
taking_at (x ∷ xs) zero c lt is all = ap is_taking is ∙ (and_parts (is_taking x) (are_takings xs) all).0
taking_at (x ∷ xs) (suc i) c lt is all = taking_at xs i c (omega (arith, lt)) is (and_parts (is_taking x) (are_takings xs) all).1

quiet_or : (c : Command) → is_taking c ≡ true → ((x : Deletion) → c ≡ command.Deleted x → ⊥) → ((x : Expiry) → c ≡ command.Expired x → ⊥) → ((x : Drop) → c ≡ command.Dropped x → ⊥) → IsQuiet c
quiet_or (command.Assigned a) takes d e r = refl
quiet_or (command.Emptied e) takes d x r = refl
quiet_or (command.Replaced p) takes d e r = refl
quiet_or (command.Committed k) takes d e r = absurd (false≢true takes)
quiet_or (command.Deleted x) takes d e r = absurd (d x refl)
quiet_or (command.Expired x) takes d e r = absurd (e x refl)
quiet_or (command.Dropped x) takes d e r = absurd (r x refl)

pub takes_quietly : (commands : List Command) (i : ℕ) (c : Command) → i < length commands → c ≡ get_or commands i c → are_takings commands ≡ true → ((x : Deletion) → c ≡ command.Deleted x → ⊥) → ((x : Expiry) → c ≡ command.Expired x → ⊥) → ((x : Drop) → c ≡ command.Dropped x → ⊥) → IsQuiet c
takes_quietly commands i c lt is all d e r = quiet_or c (taking_at commands i c lt is all) d e r

-- ---- the groups that have no offset any more

-- one id more
pub bare_more : (offsets : OffsetMap) (ids : List (List ℕ)) (i : ℕ) (id : List ℕ) (first now later : List Group) → i < length ids → id ≡ get_or ids i id → now ≡ without_bare offsets (take i ids) first
    → later ≡ (if is_bare offsets id then without_group id now else now) → later ≡ without_bare offsets (take (i + 1) ids) first
bare_more offsets ids i id first now later lt is been step =
    let one : List Group → List ℕ → List Group = λ left x. if is_bare offsets x then without_group x left else left in
    step
    ∙ ap (λ x. one now x) is
    ∙ ap (λ gs. one gs (get_or ids i id)) been
    ∙ sym (fold_more one first ids i id lt)
