-- What is settled grows, and each image since then has it.
use Rattle.std.proofs.Common.{◌≡◌, inl, inr, ℕ, ◌+◌, ◌≤◌, Bool, true, false, List, [], ◌∷◌, ◌++◌, length, refl, sym, ◌∙◌, subst, arith}
use Rattle.std.specs.Prelude.{if◌then◌else◌, is_some, IfSome}
use Rattle.std.proofs.lemmas.Bool.{cases_lt, false≢true}
use Rattle.cg_disk.specs.Disk.{History, IsImage, LeavesOnly, Moment}
use Rattle.cg_group_state.specs.declared.reply.Reply.TheVariants.{Refused}
use Rattle.cg_names.specs.declared.code.Code.TheVariants.{CoordinatorNotAvailable}
use Rattle.cg_request.specs.declared.event.Event.{Event}
use Rattle.cg_request.specs.declared.event.Event.TheVariants as event
use Rattle.cg_request.specs.Request.{asked}
use Rattle.cg_desk.specs.Books.{Books, is_short, letting_go, served, settling, taking}
use Rattle.cg_desk.specs.Desks.{Answer, State, Loading, Serving, Failed, at_rest, gone_on, request_on, return_to, serving, settle_on, settled_of, tick_on}
use Rattle.cg_desk.specs.Outgoings.{answer}
use Rattle.cg_desk.specs.Tokens.{call_of}
use Rattle.cg_desk.specs.declared.token.ReplyToken.{ReplyToken}
use Rattle.cg_world.specs.Agreeing.{is_serving}
use Rattle.cg_world.specs.Carrying.{CarriesAtLeast, CarriesSince, HoldsAtLeast}
use Rattle.cg_world.specs.Running.{KeepsSettled}
use Rattle.cg_world.specs.Runs.{after_run}
use Rattle.cg_world.specs.Sights.{Sight, StoreSight}
use Rattle.cg_world.specs.StoreTurns.{calls_in, last_store}
use Rattle.cg_world.specs.Turns.{answered, compacted, event_at, in_flight, take_from, turn}
use Rattle.cg_world.specs.declared.step.Step.{Step}
use Rattle.cg_world.specs.declared.step.Step.TheVariants.{Request, Gone, Tick, Take, Append, Settle, CompactStart, CompactRead, CompactWrite, CompactSwitch}
use Rattle.cg_world.specs.declared.step.StepNote.{StepNote}
use Rattle.cg_world.specs.declared.step.StepNote.TheVariants.{Done, Full, Device}
use Rattle.cg_world.proofs.Resting.{turn-stays-failed}

-- a step settles commands, or leaves what is settled; it does the latter if the desk does not serve
record Settles (before after : State) : Type 0 where
  pub grows : settled_of before ≤ settled_of after
  pub rests : is_serving before ≡ false → settled_of after ≡ settled_of before

same-settles : (s t : State) → settled_of t ≡ settled_of s → Settles s t
same-settles s t is = record { grows = omega (arith, is); rests = λ _. is }

served-same : (b : Books) (handed : List ReplyToken) (e : Event) (now : ℕ) → (served b handed e now).books.settled ≡ b.settled
unfolding served letting_go
served-same b handed e now = refl

asked-same : (short : Bool) (b : Books) (token : ReplyToken) (e : Event) (now : ℕ)
    → let a : Answer = if short then record { after = Serving b; out = answer (call_of token) (Refused CoordinatorNotAvailable) 0 ∷ [] } else serving (served b (token ∷ []) e now) in
    settled_of a.after ≡ b.settled
asked-same true b token e now = refl
asked-same false b token e now = served-same b (token ∷ []) e now

request-same : (s : State) (token : ReplyToken) (e : Event) (now : ℕ) → settled_of (request_on s token e now).after ≡ settled_of s
unfolding request_on
request-same Loading token e now = refl
request-same (Failed n m) token e now = refl
request-same (Serving b) token e now = asked-same (is_short b) b token e now

answered-same : (met : Bool) (w : Sight) (a : Answer) → settled_of a.after ≡ settled_of w.desk → settled_of (answered met w a).after.desk ≡ settled_of w.desk
answered-same true w a is = is
answered-same false w a is = is

ticked-same : (short : Bool) (b : Books) (now : ℕ) → let a : Answer = if short then at_rest (Serving b) else serving (served b [] event.Tick now) in settled_of a.after ≡ b.settled
ticked-same true b now = refl
ticked-same false b now = served-same b [] event.Tick now

tick-same : (s : State) (now : ℕ) → settled_of (tick_on s now).after ≡ settled_of s
unfolding tick_on
tick-same Loading now = refl
tick-same (Failed n m) now = refl
tick-same (Serving b) now = ticked-same (is_short b) b now

gone-same : (s : State) (session now : ℕ) → settled_of (gone_on s session now).after ≡ settled_of s
unfolding gone_on
gone-same Loading session now = refl
gone-same (Failed n m) session now = refl
gone-same (Serving b) session now = served-same b [] (event.Gone session) now

take-same : (s : State) → settled_of (take_from s) ≡ settled_of s
unfolding taking
take-same Loading = refl
take-same (Failed n m) = refl
take-same (Serving b) = refl

return-same : (s : State) → settled_of (return_to s) ≡ settled_of s
return-same Loading = refl
return-same (Failed n m) = refl
return-same (Serving b) = refl

settle-settles : (s : State) (count : ℕ) → Settles s (settle_on s count).after
unfolding settle_on settling letting_go
settle-settles Loading count = same-settles Loading Loading refl
settle-settles (Failed n m) count = same-settles (Failed n m) (Failed n m) refl
settle-settles (Serving b) count = record { grows = omega arith; rests = λ is. absurd (false≢true (sym is)) }

compact-settles : (note : StepNote) (w : Sight) → Settles w.desk (compacted note w).after.desk
compact-settles Device w = same-settles w.desk _ refl
compact-settles note w = same-settles w.desk w.desk refl

turn-settles : (s : Step) (note : StepNote) (w : Sight) → Settles w.desk (turn s note w).after.desk
unfolding turn
turn-settles (Request ticket r now fresh) note w =
    same-settles w.desk _ (answered-same (is_some (event_at (Request ticket r now fresh) w.desk)) w (request_on w.desk (record { ticket = ticket }) (asked r ticket fresh) now) (request-same w.desk (record { ticket = ticket }) (asked r ticket fresh) now))
turn-settles (Gone session now) note w = same-settles w.desk _ (gone-same w.desk session now)
turn-settles (Tick now) note w = same-settles w.desk _ (tick-same w.desk now)
turn-settles Take Done w = same-settles w.desk _ (take-same w.desk)
turn-settles Take note w = same-settles w.desk w.desk refl
turn-settles Append Full w = same-settles w.desk _ (return-same w.desk)
turn-settles Append Device w = same-settles w.desk _ refl
turn-settles Append note w = same-settles w.desk w.desk refl
turn-settles Settle Done w = settle-settles w.desk (length (in_flight w.desk))
turn-settles Settle note w = same-settles w.desk w.desk refl
turn-settles CompactStart note w = compact-settles note w
turn-settles CompactRead note w = compact-settles note w
turn-settles CompactWrite note w = compact-settles note w
turn-settles CompactSwitch note w = compact-settles note w

pub run-grows : (ps : List (Step × StepNote)) (w : Sight) → settled_of w.desk ≤ settled_of (after_run ps w).desk
unfolding after_run
run-grows [] w = omega arith
run-grows (p ∷ ps) w = omega (arith, (turn-settles p.0 p.1 w).grows, run-grows ps (turn p.0 p.1 w).after)

pub run-rests : (ps : List (Step × StepNote)) (w : Sight) → is_serving w.desk ≡ false → (settled_of (after_run ps w).desk ≡ settled_of w.desk) × (is_serving (after_run ps w).desk ≡ false)
unfolding after_run
run-rests [] w is = (refl, is)
run-rests (p ∷ ps) w is =
    let rest = run-rests ps (turn p.0 p.1 w).after (turn-stays-failed p.0 p.1 w is) in (rest.0 ∙ (turn-settles p.0 p.1 w).rests is, rest.1)

-- images of later moments

since-grows : (sectors : ℕ) (mid new : History) (since count more : ℕ) → count ≤ more → LeavesOnly mid new (CarriesAtLeast sectors more) → CarriesSince sectors mid since count → CarriesSince sectors new since count
since-grows sectors mid new since count more le run has k from to image is = elim (cases_lt k mid.now) [
  | inl before ↦ has k from (omega arith) image (subst (λ (m : Moment). IsImage m image) (run.keeps k (omega arith)) is)
  | inr after ↦ less (run.each k after to image is)
]
  where
    less : CarriesAtLeast sectors more image → CarriesAtLeast sectors count image
    less carries = record { number = carries.number; state = carries.state; enough = omega (arith, le, carries.enough); carried = carries.carried }

-- what every image has now, it has from now on
pub since-now : (sectors : ℕ) (h : History) (since count : ℕ) → since ≡ h.now → HoldsAtLeast sectors count h → CarriesSince sectors h since count
since-now sectors h since count here holds k from to image is = holds image (subst (λ (j : ℕ). IsImage (h.at j) image) (let e : k ≡ h.now = omega (arith, here) in e) is)

pub settled-start : (sectors : ℕ) (h : History) (w : Sight) (s : StoreSight) → s.clock ≡ h.now → HoldsAtLeast sectors (settled_of w.desk) h → KeepsSettled sectors h [] w s []
unfolding KeepsSettled
settled-start sectors h w s here holds = since-now sectors h s.clock (settled_of w.desk) here holds

-- time goes on after the last step
pub settled-later : (sectors : ℕ) (mid new : History) (ps : List (Step × StepNote)) (w : Sight) (s : StoreSight) (ts : List StoreSight)
    → LeavesOnly mid new (CarriesAtLeast sectors (settled_of (after_run ps w).desk)) → KeepsSettled sectors mid ps w s ts → KeepsSettled sectors new ps w s ts
unfolding KeepsSettled after_run
settled-later sectors mid new [] w s [] run kept = since-grows sectors mid new s.clock (settled_of w.desk) (settled_of w.desk) (omega (arith)) run kept
settled-later sectors mid new [] w s (t ∷ ts) run kept = absurd kept
settled-later sectors mid new (q ∷ ps) w s [] run kept = absurd kept
settled-later sectors mid new (q ∷ ps) w s (t ∷ ts) run kept = (
  since-grows sectors mid new s.clock (settled_of w.desk) (settled_of (after_run ps (turn q.0 q.1 w).after).desk) (omega (arith, (turn-settles q.0 q.1 w).grows, run-grows ps (turn q.0 q.1 w).after)) run kept.0,
  kept.1,
  kept.2,
  settled-later sectors mid new ps (turn q.0 q.1 w).after t ts run kept.3,
)

-- one more step
pub settled-snoc : (sectors : ℕ) (mid new : History) (ps : List (Step × StepNote)) (p : Step × StepNote) (w : Sight) (s : StoreSight) (ts : List StoreSight) (t : StoreSight)
    → LeavesOnly mid new (CarriesAtLeast sectors (settled_of (after_run ps w).desk))
    → (last_store s ts).clock ≤ t.clock → IfSome (calls_in p.0 (after_run ps w) (last_store s ts).room) (λ (calls : ℕ). t.clock ≤ (last_store s ts).clock + calls) → t.clock ≡ new.now
    → HoldsAtLeast sectors (settled_of (turn p.0 p.1 (after_run ps w)).after.desk) new → KeepsSettled sectors mid ps w s ts → KeepsSettled sectors new (ps ++ p ∷ []) w s (ts ++ t ∷ [])
unfolding KeepsSettled after_run last_store
settled-snoc sectors mid new [] p w s [] t run later calls here holds kept = (
  since-grows sectors mid new s.clock (settled_of w.desk) (settled_of w.desk) (omega (arith)) run kept,
  later,
  calls,
  settled-start sectors new (turn p.0 p.1 w).after t here holds,
)
settled-snoc sectors mid new [] p w s (u ∷ ts) t run later calls here holds kept = absurd kept
settled-snoc sectors mid new (q ∷ ps) p w s [] t run later calls here holds kept = absurd kept
settled-snoc sectors mid new (q ∷ ps) p w s (u ∷ ts) t run later calls here holds kept = (
  since-grows sectors mid new s.clock (settled_of w.desk) (settled_of (after_run ps (turn q.0 q.1 w).after).desk) (omega (arith, (turn-settles q.0 q.1 w).grows, run-grows ps (turn q.0 q.1 w).after)) run kept.0,
  kept.1,
  kept.2,
  settled-snoc sectors mid new ps p (turn q.0 q.1 w).after u ts t run later calls here holds kept.3,
)
