-- The frames that were read so far.
use Rattle.std.proofs.Common.{◌≡◌, ℕ, ◌+◌, ◌-◌, ◌<◌, Bool, true, false, List, [], ◌∷◌, ◌++◌, length, Result, sym, ap, ◌∙◌, subst, arith}
use Rattle.std.proofs.lemmas.List.{length-append}
use Rattle.std.proofs.lemmas.List.Sums.{fold-append}
use Rattle.cg_record.specs.Decoding.{after_front}
use Rattle.cg_record.specs.Lawful.{AreCommands, IsCommand}
use Rattle.cg_record.specs.Reading.{commands_of}
use Rattle.cg_record.specs.declared.command.Command.{Command}
use Rattle.cg_record.specs.declared.fault.RecordFault.{RecordFault}
use Rattle.cg_fold.specs.Durable.{State, after, effect, empty}
use Rattle.cg_log.specs.Segments.{Frames}
use Rattle.cg_store.specs.Carried.{Spell}
use Rattle.cg_store.specs.Loading.{Adds, IsRead}
use Rattle.cg_record.proofs.Steps.{regroup}
use Rattle.cg_store.proofs.Spelled.{both-lawful, Spell-nil, Spell-push, none-at, none-push}

pub IsRead-none : (is : Bool) (state : State) → is ≡ true → state ≡ empty → IsRead is [] state
IsRead-none true state all nothing = subst (Spell []) (sym nothing) Spell-nil
IsRead-none false state all nothing = absurd (cc)

read-push : (is : Bool) (frames : Frames) (count : ℕ) (payload : List ℕ) (before now : State)
    → Spell frames before → Adds is count payload before now → IsRead is (frames ++ (count, payload) ∷ []) now
read-push true frames count payload before now spell adds =
    subst (Spell (frames ++ (count, payload) ∷ [])) (sym adds.2) (Spell-push frames before (count, payload) adds.0 spell adds.1)
read-push false frames count payload before now spell adds = none-at frames count payload adds

pub unread-push : (is : Bool) (frames : Frames) (count : ℕ) (payload : List ℕ) (before now : State)
    → is ≡ false → IsRead is frames before → IsRead false (frames ++ (count, payload) ∷ []) now
unread-push true frames count payload before now not read = absurd (cc)
unread-push false frames count payload before now not read = none-push frames (count, payload) read

pub read-more : (was is : Bool) (frames : Frames) (count : ℕ) (payload : List ℕ) (before now : State)
    → was ≡ true → IsRead was frames before → Adds is count payload before now → IsRead is (frames ++ (count, payload) ∷ []) now
read-more true is frames count payload before now all read adds = read-push is frames count payload before now read adds
read-more false is frames count payload before now all read adds = absurd (cc)

-- ---- the commands of one payload

-- these commands were decoded and applied, and the decoder has the others
pub record HasApplied (payload : List ℕ) (count left : ℕ) (before now : State) (decoder : Result (List Command) RecordFault) : Type 0 where
  pub front : List Command
  pub lawful : AreCommands front
  pub decoded : commands_of payload ≡ after_front front decoder
  pub counted : left + length front ≡ count
  pub state_is : now ≡ after before front

pub applied-more : (payload : List ℕ) (count left : ℕ) (before now : State) (decoder next : Result (List Command) RecordFault) (command : Command)
    → HasApplied payload count left before now decoder → 0 < left → IsCommand command → decoder ≡ after_front (command ∷ []) next → HasApplied payload count (left - 1) before (effect now command) next
applied-more payload count left before now decoder next command applied some is e = record {
  front = applied.front ++ command ∷ [];
  lawful = both-lawful applied.front (command ∷ []) applied.lawful (is, tt);
  decoded = applied.decoded ∙ ap (after_front applied.front) e ∙ regroup applied.front command next;
  counted = omega (arith, applied.counted, length-append applied.front (command ∷ []));
  state_is = ap (λ (s : State). effect s command) applied.state_is ∙ sym (fold-append effect before applied.front (command ∷ []));
}

-- ---- all payloads were decoded, or one was not

pub all-read : (is : Bool) (frames : Frames) (state : State) → is ≡ true → IsRead is frames state → Spell frames state
all-read true frames state all read = read
all-read false frames state all read = absurd (cc)

pub not-all-read : (is : Bool) (frames : Frames) (state other : State) → is ≡ false → IsRead is frames state → Spell frames other → ⊥
not-all-read true frames state other not read spell = absurd (cc)
not-all-read false frames state other not read spell = read spell.batches spell.frames_are
