-- Held replies in the order of their sequence numbers.
use Rattle.std.proofs.Common.{◌≡◌, ℕ, ◌+◌, ◌≤◌, Bool, true, false, cond, List, [], ◌∷◌, ◌++◌, map, take, drop, append_assoc, refl, sym, ap, ◌∙◌, arith}
use Rattle.std.specs.Prelude.{not, nat_le}
use Rattle.std.specs.List.{filter}
use Rattle.std.proofs.lemmas.Bool.{leb-false, leb-true, le-leb, lt-leb}
use Rattle.std.proofs.lemmas.Grind.{flat_map-append}
use Rattle.std.proofs.lemmas.List.Elements.{filter-append}
use Rattle.std.proofs.Math.Numerals.{one-add}
use Rattle.cg_group_state.specs.declared.reply.Reply.{Reply}
use Rattle.cg_request.specs.declared.ticket.Ticket.{Ticket}
use Rattle.cg_desk.specs.Held.{holding, leaving_of, ready}
use Rattle.cg_desk.specs.Origins.{sent}
use Rattle.cg_desk.specs.declared.pending_replies.HeldStep.{HeldStep}
use Rattle.cg_desk.specs.declared.origin.Origin.{Origin}
use Rattle.cg_world.specs.Orderly.{AreInOrder, due, is_due}

-- the replies that are not due yet
abbrev pub later : ℕ → List HeldStep → List HeldStep
later settled held = filter (λ h. not (is_due settled h)) held

not-due-above : (s low need : ℕ) → nat_le low s ≡ false → low ≤ need → nat_le need s ≡ false
not-due-above s low need misses above = lt-leb need s (omega (arith, leb-false low s misses, above))

-- after one that is not due, no reply is due
none-behind : (s low top : ℕ) (hs : List HeldStep) → nat_le low s ≡ false → AreInOrder low top hs → due s hs ≡ []
unfolding AreInOrder
none-behind s low top [] misses order = refl
none-behind s low top (h ∷ hs) misses order =
    let there : nat_le h.origin.need s ≡ false = not-due-above s low h.origin.need misses order.0 in
    ap (λ (b : Bool). cond b (h ∷ due s hs) (due s hs)) there ∙ none-behind s h.origin.need top hs there order.2

all-behind : (s low top : ℕ) (hs : List HeldStep) → nat_le low s ≡ false → AreInOrder low top hs → later s hs ≡ hs
unfolding AreInOrder
all-behind s low top [] misses order = refl
all-behind s low top (h ∷ hs) misses order =
    let there : nat_le h.origin.need s ≡ false = not-due-above s low h.origin.need misses order.0 in
    ap (λ (b : Bool). cond (not b) (h ∷ later s hs) (later s hs)) there ∙ ap (λ (l : List HeldStep). h ∷ l) (all-behind s h.origin.need top hs there order.2)

-- the replies that are due come first
front-cond : (b : Bool) (n : ℕ) (h : HeldStep) (hs : List HeldStep) → take (cond b (1 + n) 0) (h ∷ hs) ≡ cond b (h ∷ take n hs) []
front-cond true n h hs = ap (λ (k : ℕ). take k (h ∷ hs)) (one-add n)
front-cond false n h hs = refl

back-cond : (b : Bool) (n : ℕ) (h : HeldStep) (hs : List HeldStep) → drop (cond b (1 + n) 0) (h ∷ hs) ≡ cond b (drop n hs) (h ∷ hs)
back-cond true n h hs = ap (λ (k : ℕ). drop k (h ∷ hs)) (one-add n)
back-cond false n h hs = refl

pub due-front : (s low top : ℕ) (hs : List HeldStep) → AreInOrder low top hs → take (ready s hs) hs ≡ due s hs
unfolding AreInOrder
due-front s low top [] order = refl
due-front s low top (h ∷ hs) order = front-cond (nat_le h.origin.need s) (ready s hs) h hs ∙ by-case (due-front s h.origin.need top hs order.2) (nat_le h.origin.need s) refl
  where
    by-case : take (ready s hs) hs ≡ due s hs → (b : Bool) → nat_le h.origin.need s ≡ b → cond b (h ∷ take (ready s hs) hs) [] ≡ cond b (h ∷ due s hs) (due s hs)
    by-case rest true is = ap (λ (l : List HeldStep). h ∷ l) rest
    by-case rest false is = sym (none-behind s h.origin.need top hs is order.2)

pub later-back : (s low top : ℕ) (hs : List HeldStep) → AreInOrder low top hs → drop (ready s hs) hs ≡ later s hs
unfolding AreInOrder
later-back s low top [] order = refl
later-back s low top (h ∷ hs) order = back-cond (nat_le h.origin.need s) (ready s hs) h hs ∙ by-case (later-back s h.origin.need top hs order.2) (nat_le h.origin.need s) refl
  where
    by-case : drop (ready s hs) hs ≡ later s hs → (b : Bool) → nat_le h.origin.need s ≡ b → cond b (drop (ready s hs) hs) (h ∷ hs) ≡ cond (not b) (h ∷ later s hs) (later s hs)
    by-case rest true is = rest
    by-case rest false is = ap (λ (l : List HeldStep). h ∷ l) (sym (all-behind s h.origin.need top hs is order.2))

-- what is due first, then what is due of the rest, is what is due in the end
pub due-twice : (first last low top : ℕ) (hs : List HeldStep) → first ≤ last → AreInOrder low top hs → due first hs ++ due last (later first hs) ≡ due last hs
unfolding AreInOrder
due-twice first last low top [] le order = refl
due-twice first last low top (h ∷ hs) le order = by-case (due-twice first last h.origin.need top hs le order.2) (nat_le h.origin.need first) refl
  where
    by-case : due first hs ++ due last (later first hs) ≡ due last hs → (b : Bool) → nat_le h.origin.need first ≡ b
        → cond b (h ∷ due first hs) (due first hs) ++ due last (cond (not b) (h ∷ later first hs) (later first hs)) ≡ due last (h ∷ hs)
    by-case rest true is =
        ap (λ (l : List HeldStep). h ∷ l) rest
        ∙ ap (λ (b : Bool). cond b (h ∷ due last hs) (due last hs)) (sym (le-leb h.origin.need last (omega (arith, leb-true h.origin.need first is, le))))
    by-case rest false is =
        ap (λ (l : List HeldStep). l ++ due last (h ∷ later first hs)) (none-behind first h.origin.need top hs is order.2)
        ∙ ap (λ (l : List HeldStep). due last (h ∷ l)) (all-behind first h.origin.need top hs is order.2)

pub none-left-due : (s : ℕ) (hs : List HeldStep) → due s (later s hs) ≡ []
none-left-due s [] = refl
none-left-due s (h ∷ hs) = by-case (none-left-due s hs) (nat_le h.origin.need s) refl
  where
    by-case : due s (later s hs) ≡ [] → (b : Bool) → nat_le h.origin.need s ≡ b → due s (cond (not b) (h ∷ later s hs) (later s hs)) ≡ []
    by-case rest true is = rest
    by-case rest false is = ap (λ (b : Bool). cond b (h ∷ due s (later s hs)) (due s (later s hs))) is ∙ rest

pub all-later : (s : ℕ) (hs : List HeldStep) → due s hs ≡ [] → later s hs ≡ hs
all-later s [] none = refl
all-later s (h ∷ hs) none = by-case (all-later s hs) (nat_le h.origin.need s) refl
  where
    by-case : (due s hs ≡ [] → later s hs ≡ hs) → (b : Bool) → nat_le h.origin.need s ≡ b → cond (not b) (h ∷ later s hs) (later s hs) ≡ h ∷ hs
    by-case rest true is = absurd (cc (is, none))
    by-case rest false is = ap (λ (l : List HeldStep). h ∷ l) (rest (ap (λ (b : Bool). cond b (h ∷ due s hs) (due s hs)) (sym is) ∙ none))

-- the order is kept
order-lower : (low under top : ℕ) (hs : List HeldStep) → under ≤ low → AreInOrder low top hs → AreInOrder under top hs
unfolding AreInOrder
order-lower low under top [] le order = tt
order-lower low under top (h ∷ hs) le order = (omega (arith, le, order.0), order.1, order.2)

pub order-later : (s low top : ℕ) (hs : List HeldStep) → AreInOrder low top hs → AreInOrder low top (later s hs)
unfolding AreInOrder
order-later s low top [] order = tt
order-later s low top (h ∷ hs) order = by-case (order-later s h.origin.need top hs order.2) (nat_le h.origin.need s)
  where
    by-case : AreInOrder h.origin.need top (later s hs) → (b : Bool) → AreInOrder low top (cond (not b) (h ∷ later s hs) (later s hs))
    by-case rest true = order-lower h.origin.need low top (later s hs) order.0 rest
    by-case rest false = (order.0, order.1, rest)

pub order-holding : (low top : ℕ) (origin : Origin) (hs : List HeldStep) (replies : List (Ticket × Reply)) → low ≤ origin.need → top ≤ origin.need → AreInOrder low top hs
    → AreInOrder low origin.need (hs ++ holding origin replies)
unfolding AreInOrder
order-holding low top origin [] [] le above order = tt
order-holding low top origin [] (r ∷ rs) le above order = (le, omega (arith), tt)
order-holding low top origin (h ∷ hs) replies le above order = (order.0, omega (arith, order.1, above), order-holding h.origin.need top origin hs replies (omega (arith, order.1, above)) above order.2)

-- replies as they leave
leaving-append : (a b : List HeldStep) → leaving_of (a ++ b) ≡ leaving_of a ++ leaving_of b
leaving-append a b = flat_map-append (λ (step : HeldStep). map (sent step.origin) step.replies) a b

-- what leaves first, then what leaves of the rest and of what is made later
pub chain : (first last low top : ℕ) (hs made : List HeldStep) → first ≤ last → AreInOrder low top hs
    → leaving_of (due first hs) ++ leaving_of (due last (later first hs ++ made)) ≡ leaving_of (due last (hs ++ made))
chain first last low top hs made le order =
    sym (leaving-append (due first hs) (due last (later first hs ++ made)))
    ∙ ap (λ (l : List HeldStep). leaving_of l)
    (ap (λ (l : List HeldStep). due first hs ++ l) (filter-append (is_due last) (later first hs) made)
    ∙ sym (append_assoc (due first hs) (due last (later first hs)) (due last made))
    ∙ ap (λ (l : List HeldStep). l ++ due last made) (due-twice first last low top hs le order)
    ∙ sym (filter-append (is_due last) hs made))
