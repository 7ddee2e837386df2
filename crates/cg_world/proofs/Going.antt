-- Runs, step by step.
use Rattle.std.proofs.Common.{◌≡◌, ℕ, ◌+◌, ◌≤◌, Bool, true, false, ◌||◌, List, [], ◌∷◌, ◌++◌, append_assoc, append-nil, length, length-append, drop, refl, sym, ap, ◌∙◌, subst, arith}
use Rattle.std.specs.List.{list_any, zip}
use Rattle.std.proofs.lemmas.Bool.{false≢true}
use Rattle.std.proofs.lemmas.List.Folds.{list_any-append}
use Rattle.std.proofs.lemmas.List.Sums.{fold-append}
use Rattle.cg_disk.specs.Disk.{Image}
use Rattle.cg_fold.specs.Durable.{State as Durable, after, effect}
use Rattle.cg_record.specs.declared.command.Command.{Command}
use Rattle.cg_store.specs.Carried.{Carries}
use Rattle.cg_desk.specs.declared.outgoing.Outgoing.{Outgoing}
use Rattle.cg_world.specs.Carrying.{CarriesFront}
use Rattle.cg_world.specs.Faults.{is_failure}
use Rattle.cg_world.specs.Runs.{AreNotes, after_run, made_by, made_in, outs_of, to_store, unstored}
use Rattle.cg_world.specs.Sights.{Sight, StoreSight}
use Rattle.cg_world.specs.StoreTurns.{AreStoreTurns, IsStoreTurn, is_append, is_read_without_room, last_store}
use Rattle.cg_world.specs.Turns.{IsNoteOf, out_of, turn}
use Rattle.cg_world.specs.declared.step.Step.{Step}
use Rattle.cg_world.specs.declared.step.StepNote.{StepNote}

-- the steps that were taken, and one more

pub zip-none : (steps : List Step) → zip steps (let none : List StepNote = [] in none) ≡ []
zip-none [] = refl
zip-none (s ∷ ss) = refl

pub zip-snoc : (steps rest : List Step) (s : Step) (notes : List StepNote) (note : StepNote) → s ∷ rest ≡ drop (length notes) steps → zip steps (notes ++ note ∷ []) ≡ zip steps notes ++ (s, note) ∷ []
zip-snoc [] rest s [] note is = absurd (cc)
zip-snoc [] rest s (n ∷ ns) note is = absurd (cc)
zip-snoc (x ∷ xs) rest s [] note is =
    let same : x ≡ s = cc in
    ap (λ (l : List (Step × StepNote)). (x, note) ∷ l) (zip-none xs) ∙ ap (λ (y : Step). (y, note) ∷ []) same
zip-snoc (x ∷ xs) rest s (n ∷ ns) note is = ap (λ (l : List (Step × StepNote)). (x, n) ∷ l) (zip-snoc xs rest s ns note is)

pub drop-snoc : (steps rest : List Step) (s : Step) (notes : List StepNote) (note : StepNote) → s ∷ rest ≡ drop (length notes) steps → rest ≡ drop (length (notes ++ note ∷ [])) steps
drop-snoc [] rest s [] note is = absurd (cc)
drop-snoc [] rest s (n ∷ ns) note is = absurd (cc)
drop-snoc (x ∷ xs) rest s [] note is = cc
drop-snoc (x ∷ xs) rest s (n ∷ ns) note is = drop-snoc xs rest s ns note is

pub few-snoc : (steps rest : List Step) (s : Step) (notes : List StepNote) (note : StepNote) → s ∷ rest ≡ drop (length notes) steps → length (notes ++ note ∷ []) ≤ length steps
few-snoc [] rest s [] note is = absurd (cc)
few-snoc [] rest s (n ∷ ns) note is = absurd (cc)
few-snoc (x ∷ xs) rest s [] note is = omega (arith)
few-snoc (x ∷ xs) rest s (n ∷ ns) note is = omega (arith, few-snoc xs rest s ns note is)

pub all-taken : (steps : List Step) (notes : List StepNote) → [] ≡ drop (length notes) steps → length notes ≤ length steps → length notes ≡ length steps
all-taken [] [] is few = refl
all-taken [] (n ∷ ns) is few = omega (arith, few)
all-taken (x ∷ xs) [] is few = absurd (cc)
all-taken (x ∷ xs) (n ∷ ns) is few = omega (arith, all-taken xs ns is (omega (arith, few)))

pub after-snoc : (ps : List (Step × StepNote)) (p : Step × StepNote) (w : Sight) → after_run (ps ++ p ∷ []) w ≡ (turn p.0 p.1 (after_run ps w)).after
unfolding after_run
after-snoc [] p w = refl
after-snoc (q ∷ ps) p w = after-snoc ps p (turn q.0 q.1 w).after

pub outs-snoc : (ps : List (Step × StepNote)) (p : Step × StepNote) (w : Sight) → outs_of (ps ++ p ∷ []) w ≡ outs_of ps w ++ out_of (turn p.0 p.1 (after_run ps w)) ∷ []
unfolding outs_of after_run
outs-snoc [] p w = refl
outs-snoc (q ∷ ps) p w = ap (λ (l : List (List Outgoing)). out_of (turn q.0 q.1 w) ∷ l) (outs-snoc ps p (turn q.0 q.1 w).after)

pub notes-snoc : (ps : List (Step × StepNote)) (p : Step × StepNote) (w : Sight) → AreNotes ps w → IsNoteOf p.0 (after_run ps w) p.1 → AreNotes (ps ++ p ∷ []) w
unfolding AreNotes after_run
notes-snoc [] p w noted is = (is, tt)
notes-snoc (q ∷ ps) p w noted is = (noted.0, notes-snoc ps p (turn q.0 q.1 w).after noted.1 is)

made-snoc : (ps : List (Step × StepNote)) (p : Step × StepNote) (w : Sight) → made_by (ps ++ p ∷ []) w ≡ made_by ps w ++ made_in p.0 (after_run ps w).desk
unfolding made_by after_run
made-snoc [] p w = append-nil (made_in p.0 w.desk)
made-snoc (q ∷ ps) p w =
    ap (λ (l : List Command). made_in q.0 w.desk ++ l) (made-snoc ps p (turn q.0 q.1 w).after)
    ∙ sym (append_assoc (made_in q.0 w.desk) (made_by ps (turn q.0 q.1 w).after) (made_in p.0 (after_run ps (turn q.0 q.1 w).after).desk))

-- what may be stored grows by what a step makes
pub stored-grows : (ps : List (Step × StepNote)) (p : Step × StepNote) (w : Sight) → to_store (ps ++ p ∷ []) w ≡ to_store ps w ++ made_in p.0 (after_run ps w).desk
unfolding to_store
stored-grows ps p w = ap (λ (l : List Command). unstored w ++ l) (made-snoc ps p w) ∙ sym (append_assoc (unstored w) (made_by ps w) (made_in p.0 (after_run ps w).desk))

one-step : (p : Step × StepNote) (w : Sight) → to_store (p ∷ []) w ≡ unstored w ++ made_in p.0 w.desk
unfolding to_store made_by
one-step p w = ap (λ (l : List Command). unstored w ++ l) (append-nil (made_in p.0 w.desk))

pub stored-parts : (ps : List (Step × StepNote)) (p : Step × StepNote) (w : Sight) (front : List Command) → to_store ps w ≡ front ++ unstored (after_run ps w)
    → to_store (ps ++ p ∷ []) w ≡ front ++ to_store (p ∷ []) (after_run ps w)
stored-parts ps p w front whole =
    stored-grows ps p w
    ∙ ap (λ (l : List Command). l ++ made_in p.0 (after_run ps w).desk) whole
    ∙ append_assoc front (unstored (after_run ps w)) (made_in p.0 (after_run ps w).desk)
    ∙ ap (λ (l : List Command). front ++ l) (sym (one-step p (after_run ps w)))

pub nothing-yet : (w : Sight) → to_store [] w ≡ unstored w
unfolding to_store made_by
nothing-yet w = append-nil (unstored w)

-- prefixes of prefixes

pub pair-moves : (P : ℕ → Durable → Type 0) (n : ℕ) (state : Durable) (front more : List Command) → P (n + length front + length more) (after (after state front) more) → P (n + length (front ++ more)) (after state (front ++ more))
pair-moves P n state front more p =
    subst (λ (k : ℕ). P k (after state (front ++ more))) (omega (arith, length-append front more))
    (subst (λ (s : Durable). P (n + length front + length more) s) (sym (fold-append effect state front more)) p)

pub carries-more : (sectors n : ℕ) (state : Durable) (commands more all : List Command) → all ≡ commands ++ more → (image : Image) → CarriesFront sectors n state commands image → CarriesFront sectors n state all image
carries-more sectors n state commands more all is image carries = record {
  front = carries.front;
  rest = carries.rest ++ more;
  whole = is ∙ ap (λ (l : List Command). l ++ more) carries.whole ∙ append_assoc carries.front carries.rest more;
  carried = carries.carried;
}

pub carries-behind : (sectors n : ℕ) (state : Durable) (front commands all : List Command) → all ≡ front ++ commands → (image : Image) → CarriesFront sectors (n + length front) (after state front) commands image → CarriesFront sectors n state all image
carries-behind sectors n state front commands all is image carries = record {
  front = front ++ carries.front;
  rest = carries.rest;
  whole = is ∙ ap (λ (l : List Command). front ++ l) carries.whole ∙ sym (append_assoc front carries.front carries.rest);
  carried = pair-moves (λ k s. Carries image sectors k s) n state front carries.front carries.carried;
}

pub sound-snoc : (notes : List StepNote) (note : StepNote) → list_any is_failure notes ≡ false → is_failure note ≡ false → list_any is_failure (notes ++ note ∷ []) ≡ false
sound-snoc notes note sound is = list_any-append is_failure notes (note ∷ []) ∙ ap (λ (b : Bool). b || list_any is_failure (note ∷ [])) sound ∙ last-sound
  where
    last-sound : list_any is_failure (note ∷ []) ≡ false
    last-sound = search (is)

pub none-left : (steps : List Step) → length steps ≡ 0 → steps ≡ []
none-left [] is = refl
none-left (s ∷ ss) is = absurd (zero-is is)
  where
    zero-is : length (s ∷ ss) ≡ 0 → ⊥
    zero-is e = omega (arith, e)

-- the store, step by step

pub stores-snoc : (ps : List (Step × StepNote)) (p : Step × StepNote) (w : Sight) (s : StoreSight) (ts : List StoreSight) (t : StoreSight)
    → AreStoreTurns ps w s ts → IsStoreTurn p.0 p.1 (after_run ps w) (last_store s ts) t → AreStoreTurns (ps ++ p ∷ []) w s (ts ++ t ∷ [])
unfolding AreStoreTurns after_run last_store
stores-snoc [] p w s [] t are is = (is, tt)
stores-snoc [] p w s (u ∷ ts) t are is = absurd are
stores-snoc (q ∷ ps) p w s [] t are is = absurd are
stores-snoc (q ∷ ps) p w s (u ∷ ts) t are is = (are.0, stores-snoc ps p (turn q.0 q.1 w).after u ts t are.1 is)

pub last-snoc : (s : StoreSight) (ts : List StoreSight) (t : StoreSight) → last_store s (ts ++ t ∷ []) ≡ t
unfolding last_store
last-snoc s [] t = refl
last-snoc s (u ∷ ts) t = last-snoc u ts t

pub no-turns : (w : Sight) (s : StoreSight) → AreStoreTurns [] w s []
unfolding AreStoreTurns
no-turns w s = tt

pub last-none : (s : StoreSight) → last_store s [] ≡ s
unfolding last_store
last-none s = refl

-- of two lists, neither has an append
pub no-append : (ps : List (Step × StepNote)) (p : Step × StepNote) → list_any is_append (ps ++ p ∷ []) ≡ false → (list_any is_append ps ≡ false) × (is_append p ≡ false)
no-append ps p none = both (list_any is_append ps) (is_append p) (sym (list_any-append is_append ps (p ∷ [])) ∙ none)
  where
    both : (a b : Bool) → (a || (b || false)) ≡ false → (a ≡ false) × (b ≡ false)
    both true b e = absurd (false≢true (sym e))
    both false true e = absurd (false≢true (sym e))
    both false false e = (refl, refl)

pub reads-snoc : (ps : List (Step × StepNote)) (p : Step × StepNote) → list_any is_read_without_room ps ≡ false → is_read_without_room p ≡ false → list_any is_read_without_room (ps ++ p ∷ []) ≡ false
reads-snoc ps p sound is = list_any-append is_read_without_room ps (p ∷ []) ∙ ap (λ (b : Bool). b || list_any is_read_without_room (p ∷ [])) sound ∙ last-sound
  where
    last-sound : list_any is_read_without_room (p ∷ []) ≡ false
    last-sound = ap (λ (b : Bool). b || false) is
