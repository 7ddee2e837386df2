-- The commands that are numbered and not in the store, step by step.
use Rattle.std.proofs.Common.{◌≡◌, ℕ, Bool, true, false, List, [], ◌∷◌, ◌++◌, append_assoc, append-nil, ◌≢◌, length, Option, None, Some, refl, sym, ap, ◌∙◌}
use Rattle.std.specs.Prelude.{if◌then◌else◌, is_some}
use Rattle.std.specs.Option.{option_to_list}
use Rattle.std.proofs.lemmas.Bool.{false≢true}
use Rattle.std.proofs.lemmas.List.{take-append-drop}
use Rattle.cg_request.specs.declared.request.Request.{Request as Asked}
use Rattle.cg_request.specs.declared.event.Event.{Event}
use Rattle.cg_request.specs.declared.event.Event.TheVariants as event
use Rattle.cg_request.specs.declared.ticket.Ticket.{Ticket}
use Rattle.cg_request.specs.Request.{asked}
use Rattle.cg_group.specs.Laws.{commands_of}
use Rattle.cg_group.specs.Machine.{step}
use Rattle.cg_record.specs.declared.command.Command.{Command}
use Rattle.cg_desk.specs.Books.{Books, is_short, letting_go, next_batch, queue_after, served, settling, taking}
use Rattle.cg_desk.specs.Desks.{Answer, State, Loading, Serving, Failed, at_rest, gone_on, is_out, request_on, return_to, serving, settle_on, tick_on}
use Rattle.cg_desk.specs.Flights.{Course, Idle, Away, Returned, is_away, unsettled}
use Rattle.cg_desk.specs.Fronts.{in_frame}
use Rattle.cg_desk.specs.Outgoings.{answer}
use Rattle.cg_desk.specs.Tokens.{call_of}
use Rattle.cg_group_state.specs.declared.reply.Reply.TheVariants.{Refused}
use Rattle.cg_names.specs.declared.code.Code.TheVariants.{CoordinatorNotAvailable}
use Rattle.cg_desk.specs.declared.token.ReplyToken.{ReplyToken}
use Rattle.cg_world.specs.Runs.{made_by, made_in, to_store, unstored, unstored_at, unstored_in}
use Rattle.cg_world.specs.Sights.{Sight}
use Rattle.cg_world.specs.StoreTurns.{wanted_phase}
use Rattle.cg_world.specs.Turns.{IsSettleNote, IsTakeNote, answered, event_at, in_flight, is_taken, settled, take_from, taken, turn}
use Rattle.cg_world.specs.declared.step.Step.{Step}
use Rattle.cg_world.specs.declared.step.Step.TheVariants.{Request, Gone, Tick, Take, Append, Settle, CompactStart, CompactRead, CompactWrite, CompactSwitch}
use Rattle.cg_world.specs.declared.step.StepNote.{StepNote}
use Rattle.cg_world.specs.declared.step.StepNote.TheVariants.{Done, Nothing, Full}

-- a batch that was appended is still in flight
abbrev pub IsSound : Sight → Type 0
IsSound w = w.appended ≡ true → is_out w.desk ≡ true

-- the commands of an event come after those that wait
met-behind : (stored : Bool) (b : Books) (handed : List ReplyToken) (e : Event) (now : ℕ)
    → unstored_in stored b ++ commands_of ((e, now) ∷ []) b.machine ≡ unstored_in stored (served b handed e now).books
unfolding served letting_go commands_of
met-behind true b handed e now = ap (λ (l : List Command). b.queue ++ l) (append-nil (step b.machine e now).effects.commands)
met-behind false b handed e now =
    ap (λ (l : List Command). (unsettled b.course ++ b.queue) ++ l) (append-nil (step b.machine e now).effects.commands)
    ∙ append_assoc (unsettled b.course) b.queue (step b.machine e now).effects.commands

none-behind : (stored : Bool) (b : Books) → unstored_in stored b ++ commands_of [] b.machine ≡ unstored_in stored b
unfolding commands_of
none-behind stored b = append-nil (unstored_in stored b)

answered-after : (met : Bool) (w : Sight) (a : Answer) → unstored (answered met w a).after ≡ unstored_at w.appended a.after
answered-after true w a = refl
answered-after false w a = refl

-- what a request, a Tick and a closed session leave unstored: what was unstored before, and the commands of the event
request-at : (short stored : Bool) (b : Books) (token : ReplyToken) (e : Event) (now : ℕ)
    → let a : Answer = if short then record { after = Serving b; out = answer (call_of token) (Refused CoordinatorNotAvailable) 0 ∷ [] } else serving (served b (token ∷ []) e now) in
    unstored_in stored b ++ commands_of (option_to_list (if short then None else Some (e, now))) b.machine ≡ unstored_at stored a.after
request-at true stored b token e now = none-behind stored b
request-at false stored b token e now = met-behind stored b (token ∷ []) e now

request-desk : (s : State) (stored : Bool) (ticket : Ticket) (r : Asked) (fresh : List ℕ) (now : ℕ)
    → unstored_at stored s ++ made_in (Request ticket r now fresh) s ≡ unstored_at stored (request_on s (record { ticket = ticket }) (asked r ticket fresh) now).after
unfolding request_on
request-desk Loading stored ticket r fresh now = refl
request-desk (Failed n m) stored ticket r fresh now = refl
request-desk (Serving b) stored ticket r fresh now = request-at (is_short b) stored b (record { ticket = ticket }) (asked r ticket fresh) now

pub after-request : (w : Sight) (note : StepNote) (ticket : Ticket) (r : Asked) (now : ℕ) (fresh : List ℕ) → to_store ((Request ticket r now fresh, note) ∷ []) w ≡ unstored (turn (Request ticket r now fresh) note w).after
unfolding to_store made_by turn
after-request w note ticket r now fresh =
    ap (λ (l : List Command). unstored w ++ l) (append-nil (made_in (Request ticket r now fresh) w.desk))
    ∙ request-desk w.desk w.appended ticket r fresh now
    ∙ sym (answered-after (is_some (event_at (Request ticket r now fresh) w.desk)) w (request_on w.desk (record { ticket = ticket }) (asked r ticket fresh) now))

tick-at : (short stored : Bool) (b : Books) (now : ℕ) → let a : Answer = if short then at_rest (Serving b) else serving (served b [] event.Tick now) in
    unstored_in stored b ++ commands_of (option_to_list (if short then None else Some (event.Tick, now))) b.machine ≡ unstored_at stored a.after
tick-at true stored b now = none-behind stored b
tick-at false stored b now = met-behind stored b [] event.Tick now

tick-desk : (s : State) (stored : Bool) (now : ℕ) → unstored_at stored s ++ made_in (Tick now) s ≡ unstored_at stored (tick_on s now).after
unfolding tick_on
tick-desk Loading stored now = refl
tick-desk (Failed n m) stored now = refl
tick-desk (Serving b) stored now = tick-at (is_short b) stored b now

pub after-tick : (w : Sight) (note : StepNote) (now : ℕ) → to_store ((Tick now, note) ∷ []) w ≡ unstored (turn (Tick now) note w).after
unfolding to_store made_by turn
after-tick w note now = ap (λ (l : List Command). unstored w ++ l) (append-nil (made_in (Tick now) w.desk)) ∙ tick-desk w.desk w.appended now

gone-desk : (s : State) (stored : Bool) (session now : ℕ) → unstored_at stored s ++ made_in (Gone session now) s ≡ unstored_at stored (gone_on s session now).after
unfolding gone_on
gone-desk Loading stored session now = refl
gone-desk (Failed n m) stored session now = refl
gone-desk (Serving b) stored session now = met-behind stored b [] (event.Gone session) now

pub after-gone : (w : Sight) (note : StepNote) (session now : ℕ) → to_store ((Gone session now, note) ∷ []) w ≡ unstored (turn (Gone session now) note w).after
unfolding to_store made_by turn
after-gone w note session now = ap (λ (l : List Command). unstored w ++ l) (append-nil (made_in (Gone session now) w.desk)) ∙ gone-desk w.desk w.appended session now

-- a step that is no event makes no command
none-at-take : (s : State) (l : List Command) → l ++ (made_in Take s ++ []) ≡ l
unfolding commands_of
none-at-take Loading l = append-nil l
none-at-take (Failed n m) l = append-nil l
none-at-take (Serving b) l = append-nil l

none-at-append : (s : State) (l : List Command) → l ++ (made_in Append s ++ []) ≡ l
unfolding commands_of
none-at-append Loading l = append-nil l
none-at-append (Failed n m) l = append-nil l
none-at-append (Serving b) l = append-nil l

none-at-settle : (s : State) (l : List Command) → l ++ (made_in Settle s ++ []) ≡ l
unfolding commands_of
none-at-settle Loading l = append-nil l
none-at-settle (Failed n m) l = append-nil l
none-at-settle (Serving b) l = append-nil l

taking-keeps : (c : Course) (queue : List Command) → is_away c ≡ false → unsettled c ++ queue ≡ next_batch c queue ++ queue_after c queue
taking-keeps Idle queue home = sym (take-append-drop (in_frame queue) queue)
taking-keeps (Away commands) queue home = absurd (false≢true (sym home))
taking-keeps (Returned commands) queue home = refl

taken-desk : (s : State) (stored : Bool) → (stored ≡ true → is_out s ≡ true) → is_out s ≡ false → unstored_at stored s ≡ unstored_at stored (take_from s)
unfolding taking
taken-desk Loading stored sound home = refl
taken-desk (Failed n m) stored sound home = refl
taken-desk (Serving b) true sound home = absurd (false≢true (sym home ∙ sound refl))
taken-desk (Serving b) false sound home = taking-keeps b.course b.queue home

pub after-take : (w : Sight) (note : StepNote) → IsSound w → IsTakeNote w note → to_store ((Take, note) ∷ []) w ≡ unstored (turn Take note w).after
unfolding to_store made_by turn
after-take w note sound noted = none-at-take w.desk (unstored w) ∙ by-note note noted
  where
    by-note : (note : StepNote) → IsTakeNote w note → unstored w ≡ unstored (taken note w).after
    by-note Done noted = taken-desk w.desk w.appended sound noted.0
    by-note other noted = refl

settling-keeps : (s : State) (count : ℕ) → unstored_at true s ≡ unstored_at false (settle_on s count).after
unfolding settle_on settling letting_go
settling-keeps Loading count = refl
settling-keeps (Failed n m) count = refl
settling-keeps (Serving b) count = refl

pub after-settle : (w : Sight) (note : StepNote) → IsSettleNote w note → to_store ((Settle, note) ∷ []) w ≡ unstored (turn Settle note w).after
unfolding to_store made_by turn
after-settle w note noted = none-at-settle w.desk (unstored w) ∙ by-note note noted
  where
    by-note : (note : StepNote) → IsSettleNote w note → unstored w ≡ unstored (settled note w).after
    by-note Done noted = ap (λ (b : Bool). unstored_at b w.desk) noted ∙ settling-keeps w.desk (length (in_flight w.desk))
    by-note other noted = refl

-- what is to be stored when a batch is appended
pub to-append : (w : Sight) (note : StepNote) → to_store ((Append, note) ∷ []) w ≡ unstored w
unfolding to_store made_by
to-append w note = none-at-append w.desk (unstored w)

-- the batch that was taken is a prefix of it
taken-false : (stored out : Bool) → (if stored then false else out) ≡ true → stored ≡ false
taken-false true out is = absurd (false≢true is)
taken-false false out is = refl

flight-front : (s : State) → unstored_at false s ≡ in_flight s ++ unstored_at true s
flight-front Loading = refl
flight-front (Failed n m) = refl
flight-front (Serving b) = refl

pub flight-first : (w : Sight) → is_taken w ≡ true → unstored w ≡ in_flight w.desk ++ unstored_at true w.desk
flight-first w taken = ap (λ (b : Bool). unstored_at b w.desk) (taken-false w.appended (is_out w.desk) taken) ∙ flight-front w.desk

-- giving a batch back leaves the same commands unstored
returned-desk : (s : State) (stored : Bool) → unstored_at stored s ≡ unstored_at stored (return_to s)
returned-desk Loading stored = refl
returned-desk (Failed n m) stored = refl
returned-desk (Serving b) true = refl
returned-desk (Serving b) false = refl

pub after-full : (w : Sight) → to_store ((Append, Full) ∷ []) w ≡ unstored (turn Append Full w).after
unfolding turn
after-full w = to-append w Full ∙ returned-desk w.desk w.appended

pub after-nothing : (w : Sight) → to_store ((Append, Nothing) ∷ []) w ≡ unstored (turn Append Nothing w).after
unfolding turn
after-nothing w = to-append w Nothing

-- a step of a compaction makes no command
unmade : (w : Sight) (d : State) (s : Step) → event_at s d ≡ None → unstored w ++ (made_in s d ++ []) ≡ unstored w
unfolding commands_of
unmade w Loading s none = append-nil (unstored w)
unmade w (Failed n m) s none = append-nil (unstored w)
unmade w (Serving b) s none = ap (λ (o : Option (Event × ℕ)). unstored w ++ (commands_of (option_to_list o) b.machine ++ [])) none ∙ append-nil (unstored w)

no-event : (s : Step) (d : State) → wanted_phase s ≢ None → event_at s d ≡ None
no-event (Request ticket r now fresh) d is = absurd (is refl)
no-event (Gone session now) d is = absurd (is refl)
no-event (Tick now) d is = absurd (is refl)
no-event Take d is = absurd (is refl)
no-event Append d is = absurd (is refl)
no-event Settle d is = absurd (is refl)
no-event CompactStart d is = none-here d
  where
    none-here : (d : State) → event_at CompactStart d ≡ None
    none-here Loading = refl
    none-here (Failed n m) = refl
    none-here (Serving b) = refl
no-event CompactRead d is = none-here d
  where
    none-here : (d : State) → event_at CompactRead d ≡ None
    none-here Loading = refl
    none-here (Failed n m) = refl
    none-here (Serving b) = refl
no-event CompactWrite d is = none-here d
  where
    none-here : (d : State) → event_at CompactWrite d ≡ None
    none-here Loading = refl
    none-here (Failed n m) = refl
    none-here (Serving b) = refl
no-event CompactSwitch d is = none-here d
  where
    none-here : (d : State) → event_at CompactSwitch d ≡ None
    none-here Loading = refl
    none-here (Failed n m) = refl
    none-here (Serving b) = refl

-- what is to be stored at a step of a compaction
pub to-compact : (w : Sight) (s : Step) (note : StepNote) → wanted_phase s ≢ None → to_store ((s, note) ∷ []) w ≡ unstored w
unfolding to_store made_by
to-compact w s note is = unmade w w.desk s (no-event s w.desk is)
