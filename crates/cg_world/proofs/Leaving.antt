-- Replies leave in the first step after which their sequence number is settled.
use Rattle.std.proofs.Common.{◌≡◌, ℕ, ◌+◌, ◌≤◌, Bool, true, false, List, [], ◌∷◌, ◌++◌, append_assoc, append-nil, length, Option, None, Some, refl, sym, ap, ◌∙◌, subst, arith}
use Rattle.std.specs.Prelude.{if◌then◌else◌, is_some, Result, Ok, Err, IfOk, OnOk, OnErr}
use Rattle.std.proofs.lemmas.Bool.{false≢true}
use Rattle.cg_fold.specs.Durable.{State as Durable}
use Rattle.cg_request.specs.declared.request.Request.{Request as Asked}
use Rattle.cg_request.specs.declared.request.Request.TheVariants as asking
use Rattle.cg_request.specs.declared.event.Event.{Event}
use Rattle.cg_request.specs.declared.event.Event.TheVariants as event
use Rattle.cg_group_state.specs.declared.reply.Reply.TheVariants.{Refused}
use Rattle.cg_request.specs.declared.ticket.Ticket.{Ticket}
use Rattle.cg_request.specs.Request.{asked}
use Rattle.cg_group.specs.Machine.{step}
use Rattle.cg_group_table.specs.Recovery.{revive}
use Rattle.cg_names.specs.declared.code.Code.TheVariants.{CoordinatorNotAvailable}
use Rattle.cg_store.specs.Carried.{AreMade}
use Rattle.cg_desk.specs.Balanced.{IsBalanced}
use Rattle.cg_desk.specs.Books.{Books, Served, IsTake, is_short, letting_go, returning, served, settling, taking}
use Rattle.cg_desk.specs.Desks.{Answer, State, Loading, Serving, Failed, IsTakenFrom, at_rest, gone_on, held_of, opened, request_on, return_to, serving, settle_on, settled_of, tick_on}
use Rattle.cg_desk.specs.Held.{holding, leaving_of}
use Rattle.cg_desk.specs.Origins.{origin_of, own_of}
use Rattle.cg_desk.specs.Outgoings.{answer}
use Rattle.cg_desk.specs.Owed.{KeepsCalls}
use Rattle.cg_desk.specs.Tokens.{call_of}
use Rattle.cg_store.specs.declared.batch.Batch.{Batch}
use Rattle.cg_desk.specs.declared.pending_replies.HeldStep.{HeldStep}
use Rattle.cg_desk.specs.declared.outgoing.Outgoing.{Outgoing}
use Rattle.cg_desk.specs.declared.token.ReplyToken.{ReplyToken}
use Rattle.cg_desk.proofs.Balanced.{desks_stay_balanced}
use Rattle.cg_desk.proofs.CalledEverywhere.{gone-keeps, tick-keeps}
use Rattle.cg_desk.proofs.Living.{events_keep_calls, made-step}
use Rattle.cg_desk.proofs.Owing.{leave-served, leave-settled, owed-served, owed-settled}
use Rattle.cg_world.specs.Agreeing.{is_serving}
use Rattle.cg_world.specs.Orderly.{AreInOrder, IsOrderlyAt, IsOrderlyDesk, due}
use Rattle.cg_world.specs.Replying.{IsOrderly, LeavesWhenSettled, RepliesLeaveWhenSettled, asker, left_by}
use Rattle.cg_world.specs.Runs.{AreNotes, after_run}
use Rattle.cg_world.specs.Sights.{Sight}
use Rattle.cg_world.specs.Turns.{Turn, answered, compacted, in_flight, settled, turn}
use Rattle.cg_world.specs.declared.step.Step.{Step}
use Rattle.cg_world.specs.declared.step.Step.TheVariants.{Request, Gone, Tick, Take, Append, Settle, CompactStart, CompactRead, CompactWrite, CompactSwitch}
use Rattle.cg_world.specs.declared.step.StepNote.{StepNote}
use Rattle.cg_world.specs.declared.step.StepNote.TheVariants.{Done, Full, Device}
use Rattle.cg_world.proofs.Ordered.{all-later, chain, due-front, later, later-back, none-left-due, order-holding, order-later}
use Rattle.cg_world.proofs.Histories.{replies-made}
use Rattle.cg_world.proofs.Recorded.{made-lawful}
use Rattle.cg_world.proofs.Replied.{replies_by, replies_in, replies_to}
use Rattle.cg_world.proofs.Resting.{turn-stays-failed}

-- what one step does to the replies
pub record Leaves (s after : State) (made : List HeldStep) (left : List Outgoing) : Type 0 where
  pub left_is : left ≡ leaving_of (due (settled_of after) (held_of s ++ made))
  pub held_is : held_of after ≡ later (settled_of after) (held_of s ++ made)
  pub orderly : IsOrderlyAt after
  pub grows : settled_of s ≤ settled_of after
  pub top : ℕ
  pub in_order : AreInOrder 0 top (held_of s ++ made)

-- a step that releases no reply
quiet-leaves : (b c : Books) → IsOrderlyDesk b → IsBalanced c → c.held ≡ b.held → c.numbered ≡ b.numbered → c.settled ≡ b.settled → Leaves (Serving b) (Serving c) [] []
quiet-leaves b c h balanced held numbered settled = record {
  left_is = ap (λ (l : List HeldStep). leaving_of l) (sym (ap (λ (l : List HeldStep). due c.settled l) (append-nil b.held) ∙ none));
  held_is = held ∙ sym (ap (λ (l : List HeldStep). later c.settled l) (append-nil b.held) ∙ all-later c.settled b.held none);
  orderly = record {
    balanced = balanced;
    in_order = subst (λ (n : ℕ). AreInOrder 0 n c.held) (sym numbered) (subst (λ (l : List HeldStep). AreInOrder 0 b.numbered l) (sym held) h.in_order);
    none_due = ap (λ (l : List HeldStep). due c.settled l) held ∙ none;
  };
  grows = omega (arith, settled);
  top = b.numbered;
  in_order = subst (λ (l : List HeldStep). AreInOrder 0 b.numbered l) (sym (append-nil b.held)) h.in_order;
}
  where
    none : due c.settled b.held ≡ []
    none = ap (λ (n : ℕ). due n b.held) settled ∙ h.none_due

-- the replies of a step, as they are held
abbrev held_by : Books → Option Ticket → Event → ℕ → List HeldStep
held_by b own e now = holding (origin_of b.numbered own (step b.machine e now).effects) (step b.machine e now).effects.replies

asker-asked : (r : Asked) (ticket : Ticket) (fresh : List ℕ) → Some ticket ≡ asker (asked r ticket fresh)
asker-asked (asking.Join r) ticket fresh = refl
asker-asked (asking.Sync r) ticket fresh = refl
asker-asked (asking.Beat r) ticket fresh = refl
asker-asked (asking.Leave r) ticket fresh = refl
asker-asked (asking.Commit r) ticket fresh = refl
asker-asked (asking.Fetch r) ticket fresh = refl
asker-asked (asking.Delete id) ticket fresh = refl
asker-asked (asking.Drop r) ticket fresh = refl
asker-asked (asking.Describe id) ticket fresh = refl
asker-asked asking.List ticket fresh = refl

-- an event is handled
served-leaves : (b : Books) (handed : List ReplyToken) (e : Event) (now : ℕ) → KeepsCalls b.machine handed e now → IsOrderlyDesk b
    → Leaves (Serving b) (Serving (served b handed e now).books) (held_by b (own_of handed) e now) (served b handed e now).out
unfolding served letting_go
served-leaves b handed e now keeps h = record {
  left_is = leave-served b handed e now h.balanced.owed keeps ∙ ap (λ (l : List HeldStep). leaving_of l) (due-front b.settled 0 number all ordered);
  held_is = later-back b.settled 0 number all ordered;
  orderly = record {
    balanced = record { made = made-step b.machine e now h.balanced.made; owed = owed-served b handed e now h.balanced.owed keeps };
    in_order = subst (λ (l : List HeldStep). AreInOrder 0 number l) (sym (later-back b.settled 0 number all ordered)) (order-later b.settled 0 number all ordered);
    none_due = ap (λ (l : List HeldStep). due b.settled l) (later-back b.settled 0 number all ordered) ∙ none-left-due b.settled all;
  };
  grows = omega arith;
  top = number;
  in_order = ordered;
}
  where
    number : ℕ
    number = b.numbered + length (step b.machine e now).effects.commands

    all : List HeldStep
    all = b.held ++ held_by b (own_of handed) e now

    ordered : AreInOrder 0 number all
    ordered = order-holding 0 b.numbered (origin_of b.numbered (own_of handed) (step b.machine e now).effects) b.held (step b.machine e now).effects.replies (omega arith) (omega arith) h.in_order

-- a batch is settled
settled-leaves : (b : Books) (count : ℕ) → IsOrderlyDesk b → Leaves (Serving b) (Serving (settling b count).books) [] (settling b count).out
unfolding settling letting_go
settled-leaves b count h = record {
  left_is = leave-settled b count h.balanced.owed ∙ ap (λ (l : List HeldStep). leaving_of l) (due-front (b.settled + count) 0 b.numbered b.held h.in_order ∙ ap (λ (l : List HeldStep). due (b.settled + count) l) (sym (append-nil b.held)));
  held_is = later-back (b.settled + count) 0 b.numbered b.held h.in_order ∙ ap (λ (l : List HeldStep). later (b.settled + count) l) (sym (append-nil b.held));
  orderly = record {
    balanced = record { made = h.balanced.made; owed = owed-settled b count h.balanced.owed };
    in_order = subst (λ (l : List HeldStep). AreInOrder 0 b.numbered l) (sym (later-back (b.settled + count) 0 b.numbered b.held h.in_order)) (order-later (b.settled + count) 0 b.numbered b.held h.in_order);
    none_due = ap (λ (l : List HeldStep). due (b.settled + count) l) (later-back (b.settled + count) 0 b.numbered b.held h.in_order) ∙ none-left-due (b.settled + count) b.held;
  };
  grows = omega arith;
  top = b.numbered;
  in_order = subst (λ (l : List HeldStep). AreInOrder 0 b.numbered l) (sym (append-nil b.held)) h.in_order;
}

same-leaves : (b : Books) → IsOrderlyDesk b → Leaves (Serving b) (Serving b) [] []
same-leaves b h = quiet-leaves b b h h.balanced refl refl refl

-- each step of a world that serves, up to a failure of its disk
request-leaves : (short : Bool) (b : Books) (stored : Bool) (ticket : Ticket) (r : Asked) (now : ℕ) (fresh : List ℕ) → KeepsCalls b.machine (record { ticket = ticket } ∷ []) (asked r ticket fresh) now → IsOrderlyDesk b
    → let o : Option (Event × ℕ) = if short then None else Some (asked r ticket fresh, now) in
    let a : Answer = if short then record { after = Serving b; out = answer ticket (Refused CoordinatorNotAvailable) 0 ∷ [] } else serving (served b (record { ticket = ticket } ∷ []) (asked r ticket fresh) now) in
    let t : Turn = answered (is_some o) (record { desk = Serving b; appended = stored }) a in
    Leaves (Serving b) t.after.desk (replies_to o b) t.left
request-leaves true b stored ticket r now fresh keeps h = same-leaves b h
request-leaves false b stored ticket r now fresh keeps h =
    let token : ReplyToken = record { ticket = ticket } in
    let s : Served = served b (token ∷ []) (asked r ticket fresh) now in
    subst (λ (own : Option Ticket). Leaves (Serving b) (Serving s.books) (held_by b own (asked r ticket fresh) now) s.out) (asker-asked r ticket fresh) (served-leaves b (token ∷ []) (asked r ticket fresh) now keeps h)

tick-leaves : (short : Bool) (b : Books) (now : ℕ) → IsOrderlyDesk b
    → let o : Option (Event × ℕ) = if short then None else Some (event.Tick, now) in
    let a : Answer = if short then at_rest (Serving b) else serving (served b [] event.Tick now) in
    Leaves (Serving b) a.after (replies_to o b) a.out
tick-leaves true b now h = same-leaves b h
tick-leaves false b now h = served-leaves b [] event.Tick now (tick-keeps b.machine now) h

taking-leaves : (b : Books) → IsOrderlyDesk b → Leaves (Serving b) (Serving (taking b)) [] []
unfolding taking
taking-leaves b h = quiet-leaves b (taking b) h (record { made = h.balanced.made; owed = h.balanced.owed }) refl refl refl

returning-leaves : (b : Books) → IsOrderlyDesk b → Leaves (Serving b) (Serving (returning b)) [] []
returning-leaves b h = quiet-leaves b (returning b) h (record { made = h.balanced.made; owed = h.balanced.owed }) refl refl refl

compact-leaves : (note : StepNote) (b : Books) (stored : Bool) → IsOrderlyDesk b → let w : Sight = record { desk = Serving b; appended = stored } in
    is_serving (compacted note w).after.desk ≡ true → Leaves (Serving b) (compacted note w).after.desk [] (compacted note w).left
compact-leaves Device b stored h is = absurd (false≢true is)
compact-leaves note b stored h is = same-leaves b h

pub turn-leaves : (s : Step) (note : StepNote) (b : Books) (stored : Bool) → IsOrderlyDesk b
    → let w : Sight = record { desk = Serving b; appended = stored } in
    is_serving (turn s note w).after.desk ≡ true → Leaves (Serving b) (turn s note w).after.desk (replies_in s (Serving b)) (turn s note w).left
unfolding turn request_on tick_on gone_on settle_on
turn-leaves (Request ticket r now fresh) note b stored h is =
    request-leaves (is_short b) b stored ticket r now fresh (events_keep_calls.request b.machine r (record { ticket = ticket }) fresh now h.balanced.made) h
turn-leaves (Gone session now) note b stored h is = served-leaves b [] (event.Gone session) now (gone-keeps b.machine session now) h
turn-leaves (Tick now) note b stored h is = tick-leaves (is_short b) b now h
turn-leaves Take Done b stored h is = taking-leaves b h
turn-leaves Take note b stored h is = same-leaves b h
turn-leaves Append Full b stored h is = returning-leaves b h
turn-leaves Append Device b stored h is = absurd (false≢true is)
turn-leaves Append note b stored h is = same-leaves b h
turn-leaves Settle Done b stored h is = settled-leaves b (length (in_flight (Serving b))) h
turn-leaves Settle note b stored h is = same-leaves b h
turn-leaves CompactStart note b stored h is = compact-leaves note b stored h is
turn-leaves CompactRead note b stored h is = compact-leaves note b stored h is
turn-leaves CompactWrite note b stored h is = compact-leaves note b stored h is
turn-leaves CompactSwitch note b stored h is = compact-leaves note b stored h is

-- a desk that does not serve is orderly
rests-orderly : (s : State) → is_serving s ≡ false → IsOrderlyAt s
rests-orderly Loading is = tt
rests-orderly (Failed n m) is = tt
rests-orderly (Serving b) is = absurd (false≢true (sym is))

turn-orderly : (s : Step) (note : StepNote) (w : Sight) → IsOrderly w → IsOrderly (turn s note w).after
turn-orderly s note w h = by-state w.desk refl
  where
    by-after : (b : Books) → w.desk ≡ Serving b → (serves : Bool) → is_serving (turn s note w).after.desk ≡ serves → IsOrderly (turn s note w).after
    by-after b is false rests = rests-orderly (turn s note w).after.desk rests
    by-after b is true serves =
        let same : w ≡ (let v : Sight = record { desk = Serving b; appended = w.appended } in v) = ap (λ (d : State). let v : Sight = record { desk = d; appended = w.appended } in v) is in
        subst (λ (v : Sight). IsOrderly (turn s note v).after) (sym same)
        (turn-leaves s note b w.appended (subst (λ (d : State). IsOrderlyAt d) is h) (subst (λ (v : Sight). is_serving (turn s note v).after.desk ≡ true) same serves)).orderly

    by-state : (d : State) → w.desk ≡ d → IsOrderly (turn s note w).after
    by-state Loading is = rests-orderly (turn s note w).after.desk (turn-stays-failed s note w (ap is_serving is))
    by-state (Failed n m) is = rests-orderly (turn s note w).after.desk (turn-stays-failed s note w (ap is_serving is))
    by-state (Serving b) is = by-after b is (is_serving (turn s note w).after.desk) refl

pub stays : (ps : List (Step × StepNote)) (w : Sight) → IsOrderly w → AreNotes ps w → IsOrderly (after_run ps w)
unfolding after_run AreNotes
stays [] w h noted = h
stays (p ∷ ps) w h noted = stays ps (turn p.0 p.1 w).after (turn-orderly p.0 p.1 w h) noted.1

run-rests : (ps : List (Step × StepNote)) (w : Sight) → is_serving w.desk ≡ false → is_serving (after_run ps w).desk ≡ false
unfolding after_run
run-rests [] w is = is
run-rests (p ∷ ps) w is = run-rests ps (turn p.0 p.1 w).after (turn-stays-failed p.0 p.1 w is)

serves-before : (ps : List (Step × StepNote)) (w : Sight) → is_serving (after_run ps w).desk ≡ true → is_serving w.desk ≡ true
serves-before ps w is = by-case (is_serving w.desk) refl
  where
    by-case : (b : Bool) → is_serving w.desk ≡ b → is_serving w.desk ≡ true
    by-case true e = e
    by-case false e = absurd (false≢true (sym (run-rests ps w e) ∙ is))

-- one step after which the world still serves
step-leaves : (s : Step) (note : StepNote) (w : Sight) → IsOrderly w → is_serving (turn s note w).after.desk ≡ true → Leaves w.desk (turn s note w).after.desk (replies_in s w.desk) (turn s note w).left
step-leaves s note w h serves = by-state w.desk refl
  where
    by-state : (d : State) → w.desk ≡ d → Leaves w.desk (turn s note w).after.desk (replies_in s w.desk) (turn s note w).left
    by-state Loading is = absurd (false≢true (sym (turn-stays-failed s note w (ap is_serving is)) ∙ serves))
    by-state (Failed n m) is = absurd (false≢true (sym (turn-stays-failed s note w (ap is_serving is)) ∙ serves))
    by-state (Serving b) is =
        let same : w ≡ (let v : Sight = record { desk = Serving b; appended = w.appended } in v) = ap (λ (d : State). let v : Sight = record { desk = d; appended = w.appended } in v) is in
        subst (λ (v : Sight). Leaves v.desk (turn s note v).after.desk (replies_in s v.desk) (turn s note v).left) (sym same)
        (turn-leaves s note b w.appended (subst (λ (d : State). IsOrderlyAt d) is h) (subst (λ (v : Sight). is_serving (turn s note v).after.desk ≡ true) same serves))

grows : (ps : List (Step × StepNote)) (w : Sight) → IsOrderly w → is_serving (after_run ps w).desk ≡ true → settled_of w.desk ≤ settled_of (after_run ps w).desk
unfolding after_run
grows [] w h serves = omega arith
grows (p ∷ ps) w h serves =
    let one = step-leaves p.0 p.1 w h (serves-before ps (turn p.0 p.1 w).after serves) in
    omega (arith, one.grows, grows ps (turn p.0 p.1 w).after one.orderly serves)

none-at-end : (s : State) → is_serving s ≡ true → IsOrderlyAt s → [] ≡ leaving_of (due (settled_of s) (held_of s ++ []))
none-at-end Loading serves h = absurd (false≢true serves)
none-at-end (Failed n m) serves h = absurd (false≢true serves)
none-at-end (Serving b) serves h = ap (λ (l : List HeldStep). leaving_of l) (sym (ap (λ (l : List HeldStep). due b.settled l) (append-nil b.held) ∙ h.none_due))

leave : (ps : List (Step × StepNote)) (w : Sight) → IsOrderly w → AreNotes ps w → is_serving (after_run ps w).desk ≡ true
    → left_by ps w ≡ leaving_of (due (settled_of (after_run ps w).desk) (held_of w.desk ++ replies_by ps w))
unfolding after_run AreNotes left_by replies_by
leave [] w h noted serves = none-at-end w.desk serves h
leave (p ∷ ps) w h noted serves =
    let next : Sight = (turn p.0 p.1 w).after in
    let last : ℕ = settled_of (after_run ps next).desk in
    let one = step-leaves p.0 p.1 w h (serves-before ps next serves) in
    let hs : List HeldStep = held_of w.desk ++ replies_in p.0 w.desk in
    ap (λ (l : List Outgoing). l ++ left_by ps next) one.left_is
    ∙ ap (λ (l : List Outgoing). leaving_of (due (settled_of next.desk) hs) ++ l) (leave ps next one.orderly noted.1 serves)
    ∙ ap (λ (l : List HeldStep). leaving_of (due (settled_of next.desk) hs) ++ leaving_of (due last (l ++ replies_by ps next))) one.held_is
    ∙ chain (settled_of next.desk) last 0 one.top hs (replies_by ps next) (grows ps next one.orderly serves) one.in_order
    ∙ ap (λ (l : List HeldStep). leaving_of (due last l)) (append_assoc (held_of w.desk) (replies_in p.0 w.desk) (replies_by ps next))

pub opened-orderly : (n : ℕ) (state : Durable) (now : ℕ) → AreMade state → IsOrderlyAt (Serving (opened n (revive state now)))
unfolding AreInOrder
opened-orderly n state now made = record { balanced = desks_stay_balanced.loaded n state now (made-lawful state made).records; in_order = tt; none_due = refl }

pub leaves : (ps : List (Step × StepNote)) (w : Sight) → IsOrderly w → AreNotes ps w → LeavesWhenSettled ps w
leaves ps w h noted serves =
    leave ps w h noted serves ∙ ap (λ (l : List HeldStep). leaving_of (due (settled_of (after_run ps w).desk) (held_of w.desk ++ l))) (replies-made ps w)

pub replies_leave_when_settled : RepliesLeaveWhenSettled
replies_leave_when_settled = record { opened = opened-orderly; stays = stays; leave = leaves }

-- Each call of an orderly desk leaves it orderly.

asked-orderly : (short : Bool) (b : Books) (token : ReplyToken) (e : Event) (now : ℕ) → KeepsCalls b.machine (token ∷ []) e now → IsOrderlyDesk b
    → let a : Answer = if short then record { after = Serving b; out = answer (call_of token) (Refused CoordinatorNotAvailable) 0 ∷ [] } else serving (served b (token ∷ []) e now) in IsOrderlyAt a.after
asked-orderly true b token e now keeps h = h
asked-orderly false b token e now keeps h = (served-leaves b (token ∷ []) e now keeps h).orderly

request-orderly : (s : State) (r : Asked) (token : ReplyToken) (fresh : List ℕ) (now : ℕ) → IsOrderlyAt s → IsOrderlyAt (request_on s token (asked r (call_of token) fresh) now).after
unfolding request_on
request-orderly Loading r token fresh now h = tt
request-orderly (Failed n m) r token fresh now h = tt
request-orderly (Serving b) r token fresh now h = asked-orderly (is_short b) b token (asked r (call_of token) fresh) now (events_keep_calls.request b.machine r token fresh now h.balanced.made) h

ticked-orderly : (short : Bool) (b : Books) (now : ℕ) → IsOrderlyDesk b
    → let a : Answer = if short then at_rest (Serving b) else serving (served b [] event.Tick now) in IsOrderlyAt a.after
ticked-orderly true b now h = h
ticked-orderly false b now h = (served-leaves b [] event.Tick now (tick-keeps b.machine now) h).orderly

tick-orderly : (s : State) (now : ℕ) → IsOrderlyAt s → IsOrderlyAt (tick_on s now).after
unfolding tick_on
tick-orderly Loading now h = tt
tick-orderly (Failed n m) now h = tt
tick-orderly (Serving b) now h = ticked-orderly (is_short b) b now h

gone-orderly : (s : State) (session now : ℕ) → IsOrderlyAt s → IsOrderlyAt (gone_on s session now).after
unfolding gone_on
gone-orderly Loading session now h = tt
gone-orderly (Failed n m) session now h = tt
gone-orderly (Serving b) session now h = (served-leaves b [] (event.Gone session) now (gone-keeps b.machine session now) h).orderly

settle-orderly : (s : State) (count : ℕ) → IsOrderlyAt s → IsOrderlyAt (settle_on s count).after
unfolding settle_on
settle-orderly Loading count h = tt
settle-orderly (Failed n m) count h = tt
settle-orderly (Serving b) count h = (settled-leaves b count h).orderly

pub return-orderly : (s : State) → IsOrderlyAt s → IsOrderlyAt (return_to s)
return-orderly Loading h = tt
return-orderly (Failed n m) h = tt
return-orderly (Serving b) h = (returning-leaves b h).orderly

taken-orderly : (b c : Books) (o : Option Batch) → IsTake b o c → IsOrderlyDesk b → IsOrderlyAt (Serving c)
taken-orderly b c None is h = subst IsOrderlyDesk (sym is.2) h
taken-orderly b c (Some batch) is h = subst IsOrderlyDesk (sym is.2) (taking-leaves b h).orderly

pub take-orderly : (s after : State) (o : Option Batch) → IsTakenFrom s o after → IsOrderlyAt s → IsOrderlyAt after
take-orderly Loading after o is h = subst IsOrderlyAt (sym is.1) h
take-orderly (Failed n m) after o is h = subst IsOrderlyAt (sym is.1) h
take-orderly (Serving b) Loading o is h = tt
take-orderly (Serving b) (Failed n m) o is h = tt
take-orderly (Serving b) (Serving c) o is h = taken-orderly b c o is h

-- a batch was given back, or not
pub returned-kept : {V E : Type 0} (r : Result V E) (s after : State) → OnOk r (after ≡ return_to s) → OnErr r (after ≡ s) → IsOrderlyAt s → IsOrderlyAt after
returned-kept (Ok v) s after ok err h = subst IsOrderlyAt (sym ok) (return-orderly s h)
returned-kept (Err e) s after ok err h = subst IsOrderlyAt (sym err) h

pub failed-orderly : (s : State) (n m : ℕ) → s ≡ Failed n m → IsOrderlyAt s
failed-orderly s n m is = subst IsOrderlyAt (sym is) tt

-- a call of the desk returned this answer, or failed and changed nothing
module _ {V E : Type 0} (items : V → List Outgoing) (s after : State) (r : Result V E) (h : IsOrderlyAt s) where
  kept : (a : Answer) → IfOk r (λ v. a ≡ record { after = after; out = items v }) → OnErr r (after ≡ s) → IsOrderlyAt a.after → IsOrderlyAt after
  kept a ok err is = by-result r ok err
    where
      by-result : (q : Result V E) → IfOk q (λ v. a ≡ record { after = after; out = items v }) → OnErr q (after ≡ s) → IsOrderlyAt after
      by-result (Ok v) ok err = subst (λ (x : Answer). IsOrderlyAt x.after) ok is
      by-result (Err e) ok err = subst IsOrderlyAt (sym err) h

  pub request-kept : (token : ReplyToken) (q : Asked) (fresh : List ℕ) (now : ℕ) → IfOk r (λ v. request_on s token (asked q (call_of token) fresh) now ≡ record { after = after; out = items v }) → OnErr r (after ≡ s) → IsOrderlyAt after
  request-kept token q fresh now ok err = kept (request_on s token (asked q (call_of token) fresh) now) ok err (request-orderly s q token fresh now h)

  pub tick-kept : (now : ℕ) → IfOk r (λ v. tick_on s now ≡ record { after = after; out = items v }) → OnErr r (after ≡ s) → IsOrderlyAt after
  tick-kept now ok err = kept (tick_on s now) ok err (tick-orderly s now h)

  pub gone-kept : (session now : ℕ) → IfOk r (λ v. gone_on s session now ≡ record { after = after; out = items v }) → OnErr r (after ≡ s) → IsOrderlyAt after
  gone-kept session now ok err = kept (gone_on s session now) ok err (gone-orderly s session now h)

pub settle-kept : (s after : State) (count : ℕ) (out : List Outgoing) → IsOrderlyAt s → settle_on s count ≡ record { after = after; out = out } → IsOrderlyAt after
settle-kept s after count out h is = subst (λ (x : Answer). IsOrderlyAt x.after) is (settle-orderly s count h)
