-- The batches of frames.
use Rattle.std.proofs.Common.{◌≡◌, ℕ, List, [], ◌∷◌, ◌++◌, sym, ap, ◌∙◌, subst, refl, Ok, append-nil, append_assoc}
use Rattle.std.proofs.lemmas.Grind.{flat_map-append}
use Rattle.std.proofs.lemmas.List.Concat.{flat_map-cons}
use Rattle.std.proofs.lemmas.List.Sums.{fold-append}
use Rattle.cg_record.specs.declared.command.Command.{Command}
use Rattle.cg_record.specs.Lawful.{AreCommands}
use Rattle.cg_fold.specs.Durable.{State, after, effect, empty, folded}
use Rattle.cg_log.specs.Segments.{Frames}
use Rattle.cg_store.specs.Carried.{AreMade, AreFramesOf, IsFrameOf, Spell, joined}
use Rattle.cg_store.specs.Loading.{IsNoText}

-- ---- one more batch

pub joined-push : (batches : List (List Command)) (commands : List Command) → joined (batches ++ commands ∷ []) ≡ joined batches ++ commands
joined-push batches commands =
    flat_map-append (λ (c : List Command). c) batches (commands ∷ [])
    ∙ ap (λ l. joined batches ++ l) (flat_map-cons (λ (c : List Command). c) commands [] ∙ append-nil commands)

pub frames-push : (frames : Frames) (batches : List (List Command)) (frame : ℕ × List ℕ) (commands : List Command)
    → AreFramesOf frames batches → IsFrameOf frame commands → AreFramesOf (frames ++ frame ∷ []) (batches ++ commands ∷ [])
frames-push [] [] frame commands are is = (is, tt)
frames-push [] (b ∷ batches) frame commands are is = absurd are
frames-push (f ∷ frames) [] frame commands are is = absurd are
frames-push (f ∷ frames) (b ∷ batches) frame commands are is = (are.0, frames-push frames batches frame commands are.1 is)

pub Spell-nil : Spell [] empty
Spell-nil = record { batches = []; frames_are = tt; state_is = refl }

pub Spell-push : (frames : Frames) (state : State) (frame : ℕ × List ℕ) (commands : List Command) → Spell frames state → IsFrameOf frame commands → Spell (frames ++ frame ∷ []) (after state commands)
Spell-push frames state frame commands spell is = record {
  batches = spell.batches ++ commands ∷ [];
  frames_are = frames-push frames spell.batches frame commands spell.frames_are is;
  state_is = ap (λ s. after s commands) spell.state_is ∙ sym (fold-append effect empty (joined spell.batches) commands) ∙ sym (ap folded (joined-push spell.batches commands));
}

-- one more frame in the tail
pub Spell-tail : (base tail : Frames) (state : State) (frame : ℕ × List ℕ) (commands : List Command)
    → Spell (base ++ tail) state → IsFrameOf frame commands → Spell (base ++ (tail ++ frame ∷ [])) (after state commands)
Spell-tail base tail state frame commands spell is =
    subst (λ (l : Frames). Spell l (after state commands)) (append_assoc base tail (frame ∷ [])) (Spell-push (base ++ tail) state frame commands spell is)

-- ---- a frame that cannot be decoded stays so

-- the last of these frames is one of a batch, and so are the others
record Split (frames : Frames) (frame : ℕ × List ℕ) : Type 0 where
  pub batches : List (List Command)
  pub last : List Command
  pub frames_are : AreFramesOf frames batches
  pub last_is : IsFrameOf frame last

split : (frames : Frames) (frame : ℕ × List ℕ) (batches : List (List Command)) → AreFramesOf (frames ++ frame ∷ []) batches → Split frames frame
split [] frame [] are = absurd are
split [] frame (b ∷ []) are = record { batches = []; last = b; frames_are = tt; last_is = are.0 }
split [] frame (b ∷ c ∷ batches) are = absurd are.1
split (f ∷ frames) frame [] are = absurd are
split (f ∷ frames) frame (b ∷ batches) are =
    let rest = split frames frame batches are.1 in record { batches = b ∷ rest.batches; last = rest.last; frames_are = (are.0, rest.frames_are); last_is = rest.last_is }

-- some frame is not one of a batch
abbrev pub SpellsNone : Frames → Type 0
SpellsNone frames = (batches : List (List Command)) → ¬ AreFramesOf frames batches

pub none-push : (frames : Frames) (frame : ℕ × List ℕ) → SpellsNone frames → SpellsNone (frames ++ frame ∷ [])
none-push frames frame none batches are = let parts = split frames frame batches are in none parts.batches parts.frames_are

pub none-at : (frames : Frames) (count : ℕ) (payload : List ℕ) → IsNoText count payload → SpellsNone (frames ++ (count, payload) ∷ [])
none-at frames count payload no_text batches are = let parts = split frames (count, payload) batches are in no_text parts.last parts.last_is

-- ---- frames have exactly one list of batches

batches-unique : (frames : Frames) (a b : List (List Command)) → AreFramesOf frames a → AreFramesOf frames b → a ≡ b
batches-unique [] [] [] of_a of_b = refl
batches-unique [] [] (y ∷ b) of_a of_b = absurd of_b
batches-unique [] (x ∷ a) b of_a of_b = absurd of_a
batches-unique (f ∷ frames) [] b of_a of_b = absurd of_a
batches-unique (f ∷ frames) (x ∷ a) [] of_a of_b = absurd of_b
batches-unique (f ∷ frames) (x ∷ a) (y ∷ b) of_a of_b =
    let both : Ok x ≡ Ok y = sym of_a.0.decoded ∙ of_b.0.decoded in
    let head : x ≡ y = cc in
    let tail = batches-unique frames a b of_a.1 of_b.1 in
    ap (λ (c : List Command). c ∷ a) head ∙ ap (λ (l : List (List Command)). y ∷ l) tail

pub Spell-unique : (frames : Frames) (state other : State) → Spell frames state → Spell frames other → state ≡ other
Spell-unique frames state other a b = a.state_is ∙ ap folded (ap joined (batches-unique frames a.batches b.batches a.frames_are b.frames_are)) ∙ sym b.state_is

-- ---- all commands of frames are lawful

pub both-lawful : (xs ys : List Command) → AreCommands xs → AreCommands ys → AreCommands (xs ++ ys)
both-lawful [] ys a b = b
both-lawful (x ∷ xs) ys a b = (a.0, both-lawful xs ys a.1 b)

joined-lawful : (frames : Frames) (batches : List (List Command)) → AreFramesOf frames batches → AreCommands (joined batches)
joined-lawful [] [] are = tt
joined-lawful [] (b ∷ batches) are = absurd are
joined-lawful (f ∷ frames) [] are = absurd are
joined-lawful (f ∷ frames) (b ∷ batches) are = both-lawful b (joined batches) are.0.lawful (joined-lawful frames batches are.1)

pub Spell-made : (frames : Frames) (state : State) → Spell frames state → AreMade state
Spell-made frames state spell = record { commands = joined spell.batches; lawful = joined-lawful frames spell.batches spell.frames_are; state_is = spell.state_is }

-- ---- frames in two parts

record Parts (xs ys : Frames) (batches : List (List Command)) : Type 0 where
  pub front : List (List Command)
  pub back : List (List Command)
  pub is : batches ≡ front ++ back
  pub front_are : AreFramesOf xs front
  pub back_are : AreFramesOf ys back

parts-of : (xs ys : Frames) (batches : List (List Command)) → AreFramesOf (xs ++ ys) batches → Parts xs ys batches
parts-of [] ys batches are = record { front = []; back = batches; is = refl; front_are = tt; back_are = are }
parts-of (x ∷ xs) ys [] are = absurd are
parts-of (x ∷ xs) ys (b ∷ batches) are =
    let rest = parts-of xs ys batches are.1 in
    record { front = b ∷ rest.front; back = rest.back; is = ap (λ (l : List (List Command)). b ∷ l) rest.is; front_are = (are.0, rest.front_are); back_are = rest.back_are }

pub frames-join : (xs ys : Frames) (a b : List (List Command)) → AreFramesOf xs a → AreFramesOf ys b → AreFramesOf (xs ++ ys) (a ++ b)
frames-join [] ys [] b of_a of_b = of_b
frames-join [] ys (c ∷ a) b of_a of_b = absurd of_a
frames-join (x ∷ xs) ys [] b of_a of_b = absurd of_a
frames-join (x ∷ xs) ys (c ∷ a) b of_a of_b = (of_a.0, frames-join xs ys a b of_a.1 of_b)

folded-joined : (a b : List (List Command)) → folded (joined (a ++ b)) ≡ after (folded (joined a)) (joined b)
folded-joined a b = ap folded (flat_map-append (λ (c : List Command). c) a b) ∙ fold-append effect empty (joined a) (joined b)

first-of : (frame : ℕ × List ℕ) (left : Frames) (batches : List (List Command)) → AreFramesOf (frame ∷ left) batches → (commands : List Command) × IsFrameOf frame commands
first-of frame left [] are = absurd are
first-of frame left (b ∷ batches) are = (b, are.0)

-- a frame among frames that spell is one of a batch
pub Spell-next : (read left : Frames) (frame : ℕ × List ℕ) (state : State) → Spell (read ++ frame ∷ left) state → (commands : List Command) × IsFrameOf frame commands
Spell-next read left frame state spell =
    let parts = parts-of read (frame ∷ left) spell.batches spell.frames_are in
    first-of frame left parts.back parts.back_are

-- the first frames, or others that make the same state
pub Spell-instead : (xs ys zs : Frames) (before state : State) (batches : List (List Command)) → Spell (xs ++ ys) state → Spell xs before → AreFramesOf zs batches → folded (joined batches) ≡ before → Spell (zs ++ ys) state
Spell-instead xs ys zs before state batches spell front are made =
    let parts = parts-of xs ys spell.batches spell.frames_are in
    let here : before ≡ folded (joined parts.front) = Spell-unique xs before (folded (joined parts.front)) front (record { batches = parts.front; frames_are = parts.front_are; state_is = refl }) in
    record {
      batches = batches ++ parts.back;
      frames_are = frames-join zs ys batches parts.back are parts.back_are;
      state_is = spell.state_is ∙ ap (λ (l : List (List Command)). folded (joined l)) parts.is ∙ folded-joined parts.front parts.back
          ∙ ap (λ (s : State). after s (joined parts.back)) (sym here ∙ sym made) ∙ sym (folded-joined batches parts.back);
    }
