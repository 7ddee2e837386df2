-- The effect of commands on the offsets.
use Rattle.std.proofs.Common.{◌≡◌, ℕ, Bool, true, false, List, [], ◌∷◌, ◌++◌, refl, sym, ap, ◌∙◌, Option, Some, None}
use Rattle.std.specs.List.{fold}
use Rattle.std.specs.FinMap as finmap
use Rattle.std.proofs.lemmas.Bool.{false≢true}
use Rattle.cg_record.specs.declared.command.Command.{Command}
use Rattle.cg_record.specs.declared.command.Command.TheVariants.{Assigned, Emptied, Replaced, Committed, Deleted, Dropped, Expired}
use Rattle.cg_record.specs.declared.member_record.MemberRecord.{MemberRecord}
use Rattle.cg_fold.specs.declared.group_record.GroupRecord.{GroupRecord}
use Rattle.cg_fold.specs.Durable.{State, after, effect, is_beside, is_of_other, with_entry, with_member}
use Rattle.cg_group_table.specs.Kept.{Each}
use Rattle.cg_group_state.specs.Offsets.{OffsetMap, offsets_after}

-- a command that does not change the offsets
abbrev pub is_quiet : Command → Bool
is_quiet (Assigned a) = true
is_quiet (Emptied e) = true
is_quiet (Replaced r) = true
is_quiet (Committed c) = false
is_quiet (Deleted d) = false
is_quiet (Expired e) = false
is_quiet (Dropped d) = false

abbrev pub IsQuiet : Command → Type 0
IsQuiet c = is_quiet c ≡ true

abbrev pub AreQuiet : List Command → Type 0
AreQuiet commands = Each IsQuiet commands

offsets-with_member : (state : State) (group : List ℕ) (new : MemberRecord) (held : Option GroupRecord) → (with_member state group new held).offsets ≡ state.offsets
offsets-with_member state group new None = refl
offsets-with_member state group new (Some r) = refl

quiet-effect : (state : State) (c : Command) → is_quiet c ≡ true → (effect state c).offsets ≡ state.offsets
unfolding effect
quiet-effect state (Assigned a) q = refl
quiet-effect state (Emptied e) q = refl
quiet-effect state (Replaced r) q = offsets-with_member state r.group r.member (finmap.get state.records r.group)
quiet-effect state (Committed c) q = absurd (false≢true q)
quiet-effect state (Deleted d) q = absurd (false≢true q)
quiet-effect state (Expired e) q = absurd (false≢true q)
quiet-effect state (Dropped d) q = absurd (false≢true q)

-- the effect on the offsets does not depend on the records
offsets-effect : (s t : State) (c : Command) → s.offsets ≡ t.offsets → (effect s c).offsets ≡ (effect t c).offsets
unfolding effect
offsets-effect s t (Assigned a) e = e
offsets-effect s t (Emptied x) e = e
offsets-effect s t (Replaced r) e = offsets-with_member s r.group r.member (finmap.get s.records r.group) ∙ e ∙ sym (offsets-with_member t r.group r.member (finmap.get t.records r.group))
offsets-effect s t (Committed c) e = ap (λ m. fold (with_entry c.group c.moment) m c.entries) e
offsets-effect s t (Expired x) e = ap (λ m. finmap.retain_keys m (is_beside x.group x.partitions)) e
offsets-effect s t (Dropped x) e = ap (λ m. finmap.retain_keys m (is_beside x.group x.partitions)) e
offsets-effect s t (Deleted d) e = ap (λ m. finmap.retain_keys m (is_of_other d.group)) e

pub offsets-after : (cs : List Command) (s t : State) → s.offsets ≡ t.offsets → (after s cs).offsets ≡ (after t cs).offsets
offsets-after [] s t e = e
offsets-after (c ∷ cs) s t e = offsets-after cs (effect s c) (effect t c) (offsets-effect s t c e)

pub after-append : (s : State) (cs ds : List Command) → after s (cs ++ ds) ≡ after (after s cs) ds
after-append s [] ds = refl
after-append s (c ∷ cs) ds = after-append (effect s c) cs ds

quiet-after : (cs : List Command) (s : State) → AreQuiet cs → (after s cs).offsets ≡ s.offsets
quiet-after [] s q = refl
quiet-after (c ∷ cs) s q = quiet-after cs (effect s c) q.1 ∙ quiet-effect s c q.0

-- commands about groups do not change the offsets
pub quiet-offsets : (offsets : OffsetMap) (cs : List Command) → AreQuiet cs → offsets_after offsets cs ≡ offsets
quiet-offsets offsets cs q = quiet-after cs (record { records = finmap.empty; offsets = offsets }) q
