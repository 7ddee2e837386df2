-- Trails, entry by entry.
use Rattle.std.proofs.Common.{◌≡◌, ◌<◌, List, [], ◌∷◌, ◌++◌, length, refl, ap, sym, ◌∙◌, append_assoc, append-nil, arith}
use Rattle.std.proofs.lemmas.List.{nil_from_length}
use Rattle.cg_group.specs.Laws.{commands_of}
use Rattle.cg_group_table.specs.GroupTable.{Machine}
use Rattle.cg_record.specs.declared.command.Command.{Command}
use Rattle.cg_trail.specs.Entries.{events_of, recorded, replies_of, step_of}
use Rattle.cg_trail.specs.Trails.{AreLawful}
use Rattle.cg_trail.specs.declared.trail_entry.TrailEntry.{TrailEntry}

-- entries from a state are the first, from there, and the others after it
pub record IsFirst (all : List TrailEntry) (s : Machine) (e : TrailEntry) (others : List TrailEntry) (next : Machine) : Type 0 where
  pub entries : all ≡ e ∷ others
  pub after : next ≡ (step_of s e).after

more : (e : TrailEntry) (es : List TrailEntry) (s : Machine) → recorded e ≡ (step_of s e).effects.replies
    → (AreLawful es (step_of s e).after → AreLawful (e ∷ es) s) × (AreLawful (e ∷ es) s → AreLawful es (step_of s e).after)
unfolding AreLawful replies_of
more e es s same = (λ h. cc, λ h. cc)

differs : (e : TrailEntry) (es : List TrailEntry) (s : Machine) → AreLawful (e ∷ es) s → recorded e ≡ (step_of s e).effects.replies
unfolding AreLawful replies_of
differs e es s h = cc

-- the first entry records the replies of its event, so the others decide
pub lawful-keeps : (P : Type 0) (all : List TrailEntry) (s : Machine) (e : TrailEntry) (others : List TrailEntry) (next : Machine)
    → IsFirst all s e others next → recorded e ≡ (step_of s e).effects.replies
    → (AreLawful all s → P) × (P → AreLawful all s) → (AreLawful others next → P) × (P → AreLawful others next)
lawful-keeps P all s e others next first same known =
    let known_first : (AreLawful (e ∷ others) s → P) × (P → AreLawful (e ∷ others) s) = rw first.entries at known in
    rw first.after (λ h. known_first.0 ((more e others s same).0 h), λ p. (more e others s same).1 (known_first.1 p))

-- the first entry records other replies
pub lawful-differs : (all : List TrailEntry) (s : Machine) (e : TrailEntry) (others : List TrailEntry)
    → all ≡ e ∷ others → (recorded e ≡ (step_of s e).effects.replies → ⊥) → AreLawful all s → ⊥
lawful-differs all s e others is other h = other (differs e others s (rw is at h))

-- no entries are lawful
none : (s : Machine) → AreLawful [] s
unfolding AreLawful replies_of
none s = refl

pub lawful-none : (P : Type 0) (all : List TrailEntry) (s : Machine) → length all < 1 → (AreLawful all s → P) × (P → AreLawful all s) → P
lawful-none P all s few known = known.0 (rw (nil_from_length all (omega (arith, few))) (none s))

first_commands : (e : TrailEntry) (es : List TrailEntry) (s : Machine)
    → commands_of (events_of (e ∷ es)) s ≡ (step_of s e).effects.commands ++ commands_of (events_of es) (step_of s e).after
unfolding commands_of
first_commands e es s = refl

-- the commands so far and those to come are the same after one more entry
pub made-keeps : (all : List TrailEntry) (s : Machine) (e : TrailEntry) (others : List TrailEntry) (next : Machine) (made new total : List Command)
    → IsFirst all s e others next → new ≡ made ++ (step_of s e).effects.commands
    → made ++ commands_of (events_of all) s ≡ total → new ++ commands_of (events_of others) next ≡ total
made-keeps all s e others next made new total first is known =
    let before : made ++ commands_of (events_of (e ∷ others)) s ≡ total = rw first.entries at known in
    rw (is, first.after) (append_assoc made (step_of s e).effects.commands (commands_of (events_of others) (step_of s e).after) ∙ sym (ap (λ l. made ++ l) (first_commands e others s)) ∙ before)

no_commands : (s : Machine) → commands_of (events_of []) s ≡ []
unfolding commands_of
no_commands s = refl

pub made-none : (all : List TrailEntry) (s : Machine) (made total : List Command) → length all < 1 → made ++ commands_of (events_of all) s ≡ total → made ≡ total
made-none all s made total few known =
    let last : made ++ commands_of (events_of []) s ≡ total = rw (nil_from_length all (omega (arith, few))) at known in
    sym (append-nil made) ∙ sym (ap (λ l. made ++ l) (no_commands s)) ∙ last
