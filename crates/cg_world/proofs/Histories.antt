-- The commands, the replies and the machine of a run are those of its events.
use Rattle.std.proofs.Common.{◌≡◌, ◌⊎◌, inl, inr, ℕ, ◌+◌, add-zero, length, length-append, arith, Bool, true, false, List, [], ◌∷◌, ◌++◌, append_assoc, append-nil, Option, None, Some, refl, sym, ap, ◌∙◌, subst}
use Rattle.std.specs.Prelude.{if◌then◌else◌, is_some}
use Rattle.std.specs.Option.{option_to_list}
use Rattle.std.proofs.lemmas.Bool.{false≢true}
use Rattle.cg_request.specs.declared.event.Event.{Event}
use Rattle.cg_request.specs.declared.event.Event.TheVariants as event
use Rattle.cg_group_state.specs.declared.reply.Reply.TheVariants.{Refused}
use Rattle.cg_request.specs.Request.{asked}
use Rattle.cg_group.specs.Laws.{after_all, commands_of}
use Rattle.cg_group.specs.Machine.{step}
use Rattle.cg_group_table.specs.GroupTable.{Machine}
use Rattle.cg_names.specs.declared.code.Code.TheVariants.{CoordinatorNotAvailable}
use Rattle.cg_record.specs.declared.command.Command.{Command}
use Rattle.cg_desk.specs.Books.{Books, is_short, letting_go, returning, served, settling, taking}
use Rattle.cg_desk.specs.Desks.{Answer, State, Loading, Serving, Failed, at_rest, gone_on, request_on, serving, settle_on, tick_on}
use Rattle.cg_desk.specs.Outgoings.{answer}
use Rattle.cg_desk.specs.declared.pending_replies.HeldStep.{HeldStep}
use Rattle.cg_desk.specs.declared.outgoing.Outgoing.{Outgoing}
use Rattle.cg_desk.specs.declared.token.ReplyToken.{ReplyToken}
use Rattle.cg_world.specs.Agreeing.{is_serving}
use Rattle.cg_world.specs.Replying.{RunsMakeHistories, replies_at, replies_made}
use Rattle.cg_world.specs.Runs.{after_run, events_of, made_by, made_in}
use Rattle.cg_world.specs.Sights.{Sight}
use Rattle.cg_world.specs.Turns.{Turn, answered, compacted, event_at, event_of, in_flight, turn}
use Rattle.cg_world.specs.declared.step.Step.{Step}
use Rattle.cg_world.specs.declared.step.Step.TheVariants.{Request, Gone, Tick, Take, Append, Settle, CompactStart, CompactRead, CompactWrite, CompactSwitch}
use Rattle.cg_world.specs.declared.step.StepNote.{StepNote}
use Rattle.cg_world.specs.declared.step.StepNote.TheVariants.{Done, Full, Device}
use Rattle.cg_world.proofs.Replied.{replies_by, replies_in, replies_to}
use Rattle.cg_world.proofs.Resting.{turn-stays-failed}

-- the desk still serves, with this machine and this number of commands
pub IsNext : State → Machine → ℕ → Type 0
IsNext Loading m k = ⊥
IsNext (Failed n s) m k = ⊥
IsNext (Serving b) m k = (b.machine ≡ m) × (b.numbered ≡ k)

-- the machine after the event of a step, if there is one, and the number of commands then
IsAfter : State → Option (Event × ℕ) → Books → Type 0
IsAfter d o b = IsNext d (after_all (option_to_list o) b.machine) (b.numbered + length (commands_of (option_to_list o) b.machine))

none-after : (b c : Books) → c.machine ≡ b.machine → c.numbered ≡ b.numbered → IsAfter (Serving c) None b
unfolding IsAfter IsNext after_all commands_of
none-after b c machine numbered = (machine, numbered ∙ sym (add-zero b.numbered))

event-after : (b : Books) (handed : List ReplyToken) (e : Event) (now : ℕ) → IsAfter (Serving (served b handed e now).books) (Some (e, now)) b
unfolding IsAfter IsNext after_all commands_of served letting_go
event-after b handed e now = (refl, ap (λ (l : List Command). b.numbered + length l) (sym (append-nil (step b.machine e now).effects.commands)))

request-next : (short : Bool) (b : Books) (stored : Bool) (token : ReplyToken) (e : Event) (now : ℕ) (out : List Outgoing)
    → let o : Option (Event × ℕ) = if short then None else Some (e, now) in
    let a : Answer = if short then record { after = Serving b; out = out } else serving (served b (token ∷ []) e now) in
    let t : Turn = answered (is_some o) (record { desk = Serving b; appended = stored }) a in
    IsAfter t.after.desk o b
request-next true b stored token e now out = none-after b b refl refl
request-next false b stored token e now out = event-after b (token ∷ []) e now

tick-next : (short : Bool) (b : Books) (now : ℕ) → let o : Option (Event × ℕ) = if short then None else Some (event.Tick, now) in
    let a : Answer = if short then at_rest (Serving b) else serving (served b [] event.Tick now) in
    IsAfter a.after o b
tick-next true b now = none-after b b refl refl
tick-next false b now = event-after b [] event.Tick now

settling-next : (b : Books) (count : ℕ) → IsAfter (Serving (settling b count).books) None b
unfolding settling letting_go
settling-next b count = none-after b (settling b count).books refl refl

taking-next : (b : Books) → IsAfter (Serving (taking b)) None b
unfolding taking
taking-next b = none-after b (taking b) refl refl

compact-next : (note : StepNote) (b : Books) (stored : Bool) → let w : Sight = record { desk = Serving b; appended = stored } in
    IsAfter (compacted note w).after.desk None b ⊎ (is_serving (compacted note w).after.desk ≡ false)
compact-next Device b stored = inr refl
compact-next note b stored = inl (none-after b b refl refl)

-- a step brings its event to the machine, or the disk fails
turn-next : (s : Step) (note : StepNote) (b : Books) (stored : Bool) → let w : Sight = record { desk = Serving b; appended = stored } in
    IsAfter (turn s note w).after.desk (event_of s b) b ⊎ (is_serving (turn s note w).after.desk ≡ false)
unfolding turn request_on tick_on gone_on settle_on
turn-next (Request ticket r now fresh) note b stored =
    inl (request-next (is_short b) b stored (record { ticket = ticket }) (asked r ticket fresh) now (answer ticket (Refused CoordinatorNotAvailable) 0 ∷ []))
turn-next (Gone session now) note b stored = inl (event-after b [] (event.Gone session) now)
turn-next (Tick now) note b stored = inl (tick-next (is_short b) b now)
turn-next Take Done b stored = inl (taking-next b)
turn-next Take note b stored = inl (none-after b b refl refl)
turn-next Append Full b stored = inl (none-after b (returning b) refl refl)
turn-next Append Device b stored = inr refl
turn-next Append note b stored = inl (none-after b b refl refl)
turn-next Settle Done b stored = inl (settling-next b (length (in_flight (Serving b))))
turn-next Settle note b stored = inl (none-after b b refl refl)
turn-next CompactStart note b stored = compact-next note b stored
turn-next CompactRead note b stored = compact-next note b stored
turn-next CompactWrite note b stored = compact-next note b stored
turn-next CompactSwitch note b stored = compact-next note b stored

-- a desk that does not serve brings no event
none-of : (s : Step) (d : State) → is_serving d ≡ false → (option_to_list (event_at s d) ≡ []) × (made_in s d ≡ []) × (replies_in s d ≡ [])
none-of s Loading is = (refl, refl, refl)
none-of s (Failed n m) is = (refl, refl, refl)
none-of s (Serving b) is = absurd (false≢true (sym is))

pub nothing : (ps : List (Step × StepNote)) (w : Sight) → is_serving w.desk ≡ false → (events_of ps w ≡ []) × (made_by ps w ≡ []) × (replies_by ps w ≡ [])
unfolding events_of made_by replies_by
nothing [] w is = (refl, refl, refl)
nothing (p ∷ ps) w is =
    let here = none-of p.0 w.desk is in
    let rest = nothing ps (turn p.0 p.1 w).after (turn-stays-failed p.0 p.1 w is) in (
      ap (λ l. l ++ events_of ps (turn p.0 p.1 w).after) here.0 ∙ rest.0,
      ap (λ l. l ++ made_by ps (turn p.0 p.1 w).after) here.1 ∙ rest.1,
      ap (λ l. l ++ replies_by ps (turn p.0 p.1 w).after) here.2 ∙ rest.2,
    )

commands-append : (es fs : List (Event × ℕ)) (m : Machine) → commands_of (es ++ fs) m ≡ commands_of es m ++ commands_of fs (after_all es m)
unfolding commands_of after_all
commands-append [] fs m = refl
commands-append (e ∷ es) fs m =
    ap (λ (l : List Command). (step m e.0 e.1).effects.commands ++ l) (commands-append es fs (step m e.0 e.1).after)
    ∙ sym (append_assoc (step m e.0 e.1).effects.commands (commands_of es (step m e.0 e.1).after) (commands_of fs (after_all es (step m e.0 e.1).after)))

after-append : (es fs : List (Event × ℕ)) (m : Machine) → after_all (es ++ fs) m ≡ after_all fs (after_all es m)
unfolding after_all
after-append [] fs m = refl
after-append (e ∷ es) fs m = after-append es fs (step m e.0 e.1).after

-- the replies of an event and then of others
replies-first : (o : Option (Event × ℕ)) (fs : List (Event × ℕ)) (b : Books)
    → replies_made b.numbered (option_to_list o ++ fs) b.machine ≡ replies_to o b ++ replies_made (b.numbered + length (commands_of (option_to_list o) b.machine)) fs (after_all (option_to_list o) b.machine)
unfolding replies_made commands_of after_all
replies-first None fs b = ap (λ (k : ℕ). replies_made k fs b.machine) (sym (add-zero b.numbered))
replies-first (Some e) fs b =
    ap (λ (l : List Command). replies_to (Some e) b ++ replies_made (b.numbered + length l) fs (step b.machine e.0 e.1).after) (sym (append-nil (step b.machine e.0 e.1).effects.commands))

-- what events make from a machine, whose desk has numbered k commands
record Makes (ps : List (Step × StepNote)) (w : Sight) (m : Machine) (k : ℕ) : Type 0 where
  pub commands : made_by ps w ≡ commands_of (events_of ps w) m
  pub replies : replies_by ps w ≡ replies_made k (events_of ps w) m
  pub last : (c : Books) → (after_run ps w).desk ≡ Serving c → (c.machine ≡ after_all (events_of ps w) m) × (c.numbered ≡ k + length (commands_of (events_of ps w) m))

next-none : (d : State) (m : Machine) (k : ℕ) → is_serving d ≡ false → IsNext d m k → ⊥
unfolding IsNext
next-none Loading m k is h = h
next-none (Failed n s) m k is h = h
next-none (Serving b) m k is h = false≢true (sym is)

next-is : (b : Books) (m : Machine) (k : ℕ) → IsNext (Serving b) m k → (b.machine ≡ m) × (b.numbered ≡ k)
unfolding IsNext
next-is b m k h = h

next-here : (b : Books) → IsNext (Serving b) b.machine b.numbered
unfolding IsNext
next-here b = (refl, refl)

after-is : (d : State) (o : Option (Event × ℕ)) (b : Books) → IsAfter d o b → IsNext d (after_all (option_to_list o) b.machine) (b.numbered + length (commands_of (option_to_list o) b.machine))
unfolding IsAfter
after-is d o b h = h

makes-none : (w : Sight) (m : Machine) (k : ℕ) → IsNext w.desk m k → Makes [] w m k
unfolding made_by events_of commands_of replies_by replies_made after_run after_all
makes-none w m k is = record {
  commands = refl;
  replies = refl;
  last = λ c desk. let h = next-is c m k (subst (λ (d : State). IsNext d m k) desk is) in (h.0, h.1 ∙ sym (add-zero k));
}

-- the rest of a run of a desk that does not serve any more
rested : (ps : List (Step × StepNote)) (w : Sight) → is_serving w.desk ≡ false → (c : Books) → (after_run ps w).desk ≡ Serving c → ⊥
unfolding after_run
rested [] w is c desk = false≢true (sym is ∙ ap is_serving desk)
rested (p ∷ ps) w is c desk = rested ps (turn p.0 p.1 w).after (turn-stays-failed p.0 p.1 w is) c desk

replies-none : (k : ℕ) (m : Machine) → replies_made k [] m ≡ []
unfolding replies_made
replies-none k m = refl

-- a step, and then the others
module _ (p : Step × StepNote) (ps : List (Step × StepNote)) (w next : Sight) (b : Books) where
  es : List (Event × ℕ)
  es = option_to_list (event_of p.0 b)

  makes-on : IsAfter next.desk (event_of p.0 b) b
      → ((m : Machine) (k : ℕ) → IsNext next.desk m k → Makes ps next m k)
      → (made_in p.0 (Serving b) ++ made_by ps next ≡ commands_of (option_to_list (event_of p.0 b) ++ events_of ps next) b.machine)
      × (replies_in p.0 (Serving b) ++ replies_by ps next ≡ replies_made b.numbered (option_to_list (event_of p.0 b) ++ events_of ps next) b.machine)
      × ((c : Books) → (after_run ps next).desk ≡ Serving c
      → (c.machine ≡ after_all (option_to_list (event_of p.0 b) ++ events_of ps next) b.machine) × (c.numbered ≡ b.numbered + length (commands_of (option_to_list (event_of p.0 b) ++ events_of ps next) b.machine)))
  unfolding es
  makes-on on rest =
      let m : Machine = after_all es b.machine in
      let k : ℕ = b.numbered + length (commands_of es b.machine) in
      let more = rest m k (after-is next.desk (event_of p.0 b) b on) in
      let all = commands-append es (events_of ps next) b.machine in (
        ap (λ (l : List Command). made_in p.0 (Serving b) ++ l) more.commands ∙ sym all,
        ap (λ (l : List HeldStep). replies_in p.0 (Serving b) ++ l) more.replies ∙ sym (replies-first (event_of p.0 b) (events_of ps next) b),
        λ c desk.
            let end = more.last c desk in (
              end.0 ∙ sym (after-append es (events_of ps next) b.machine),
              end.1 ∙ omega (arith, ap length all, length-append (commands_of es b.machine) (commands_of (events_of ps next) m)),
            ),
      )

  makes-off : is_serving next.desk ≡ false
      → (made_in p.0 (Serving b) ++ made_by ps next ≡ commands_of (option_to_list (event_of p.0 b) ++ events_of ps next) b.machine)
      × (replies_in p.0 (Serving b) ++ replies_by ps next ≡ replies_made b.numbered (option_to_list (event_of p.0 b) ++ events_of ps next) b.machine)
  makes-off rests =
      let none = nothing ps next rests in (
        ap (λ (l : List Command). made_in p.0 (Serving b) ++ l) none.1 ∙ append-nil (made_in p.0 (Serving b))
            ∙ sym (ap (λ (l : List (Event × ℕ)). commands_of (option_to_list (event_of p.0 b) ++ l) b.machine) none.0 ∙ ap (λ (l : List (Event × ℕ)). commands_of l b.machine) (append-nil (option_to_list (event_of p.0 b)))),
        ap (λ (l : List HeldStep). replies_in p.0 (Serving b) ++ l) none.2
            ∙ sym (ap (λ (l : List (Event × ℕ)). replies_made b.numbered (option_to_list (event_of p.0 b) ++ l) b.machine) none.0 ∙ replies-first (event_of p.0 b) [] b
            ∙ ap (λ (l : List HeldStep). replies_to (event_of p.0 b) b ++ l) (replies-none (b.numbered + length (commands_of (option_to_list (event_of p.0 b)) b.machine)) (after_all (option_to_list (event_of p.0 b)) b.machine))),
      )

makes-step : (p : Step × StepNote) (ps : List (Step × StepNote)) (w : Sight) (b : Books) → w.desk ≡ Serving b
    → ((m : Machine) (k : ℕ) → IsNext (turn p.0 p.1 w).after.desk m k → Makes ps (turn p.0 p.1 w).after m k) → Makes (p ∷ ps) w b.machine b.numbered
unfolding made_by events_of replies_by after_run
makes-step p ps w b desk rest = by-turn (subst (λ (v : Sight). IsAfter (turn p.0 p.1 v).after.desk (event_of p.0 b) b ⊎ (is_serving (turn p.0 p.1 v).after.desk ≡ false)) (sym whole) (turn-next p.0 p.1 b w.appended))
  where
    next : Sight
    next = (turn p.0 p.1 w).after

    whole : w ≡ (let v : Sight = record { desk = Serving b; appended = w.appended } in v)
    whole = ap (λ (d : State). let v : Sight = record { desk = d; appended = w.appended } in v) desk

    by-turn : IsAfter (turn p.0 p.1 w).after.desk (event_of p.0 b) b ⊎ (is_serving (turn p.0 p.1 w).after.desk ≡ false) → Makes (p ∷ ps) w b.machine b.numbered
    by-turn (inl on) =
        let h = makes-on p ps w (turn p.0 p.1 w).after b on rest in
        record {
          commands = ap (λ (d : State). made_in p.0 d ++ made_by ps (turn p.0 p.1 w).after) desk ∙ h.0 ∙ ap (λ (d : State). commands_of (option_to_list (event_at p.0 d) ++ events_of ps (turn p.0 p.1 w).after) b.machine) (sym desk);
          replies = ap (λ (d : State). replies_in p.0 d ++ replies_by ps (turn p.0 p.1 w).after) desk ∙ h.1 ∙ ap (λ (d : State). replies_made b.numbered (option_to_list (event_at p.0 d) ++ events_of ps (turn p.0 p.1 w).after) b.machine) (sym desk);
          last = λ c end. (
            (h.2 c end).0 ∙ ap (λ (d : State). after_all (option_to_list (event_at p.0 d) ++ events_of ps (turn p.0 p.1 w).after) b.machine) (sym desk),
            (h.2 c end).1 ∙ ap (λ (d : State). b.numbered + length (commands_of (option_to_list (event_at p.0 d) ++ events_of ps (turn p.0 p.1 w).after) b.machine)) (sym desk),
          );
        }
    by-turn (inr rests) =
        let h = makes-off p ps w (turn p.0 p.1 w).after b rests in
        record {
          commands = ap (λ (d : State). made_in p.0 d ++ made_by ps (turn p.0 p.1 w).after) desk ∙ h.0 ∙ ap (λ (d : State). commands_of (option_to_list (event_at p.0 d) ++ events_of ps (turn p.0 p.1 w).after) b.machine) (sym desk);
          replies = ap (λ (d : State). replies_in p.0 d ++ replies_by ps (turn p.0 p.1 w).after) desk ∙ h.1 ∙ ap (λ (d : State). replies_made b.numbered (option_to_list (event_at p.0 d) ++ events_of ps (turn p.0 p.1 w).after) b.machine) (sym desk);
          last = λ c end. absurd (rested ps (turn p.0 p.1 w).after rests c end);
        }

histories : (ps : List (Step × StepNote)) (w : Sight) (m : Machine) (k : ℕ) → IsNext w.desk m k → Makes ps w m k
histories [] w m k is = makes-none w m k is
histories (p ∷ ps) w m k is = by-state (λ q j. histories ps (turn p.0 p.1 w).after q j) w.desk refl
  where
    by-state : ((q : Machine) (j : ℕ) → IsNext (turn p.0 p.1 w).after.desk q j → Makes ps (turn p.0 p.1 w).after q j) → (d : State) → w.desk ≡ d → Makes (p ∷ ps) w m k
    by-state rest Loading desk = absurd (next-none Loading m k refl (subst (λ (d : State). IsNext d m k) desk is))
    by-state rest (Failed n s) desk = absurd (next-none (Failed n s) m k refl (subst (λ (d : State). IsNext d m k) desk is))
    by-state rest (Serving b) desk =
        let same = next-is b m k (subst (λ (d : State). IsNext d m k) desk is) in
        subst (λ (q : Machine). Makes (p ∷ ps) w q k) same.0 (subst (λ (j : ℕ). Makes (p ∷ ps) w b.machine j) same.1 (makes-step p ps w b desk rest))

-- the replies of the steps of a run are those of its events
pub replies-made : (ps : List (Step × StepNote)) (w : Sight) → replies_by ps w ≡ replies_at (events_of ps w) w.desk
replies-made ps w = by-state w.desk refl
  where
    by-state : (d : State) → w.desk ≡ d → replies_by ps w ≡ replies_at (events_of ps w) w.desk
    by-state Loading desk = (nothing ps w (ap is_serving desk)).2 ∙ sym (ap (replies_at (events_of ps w)) desk)
    by-state (Failed n m) desk = (nothing ps w (ap is_serving desk)).2 ∙ sym (ap (replies_at (events_of ps w)) desk)
    by-state (Serving b) desk =
        (histories ps w b.machine b.numbered (subst (λ (d : State). IsNext d b.machine b.numbered) (sym desk) (next-here b))).replies ∙ sym (ap (replies_at (events_of ps w)) desk)

pub runs_make_histories : RunsMakeHistories
runs_make_histories = record {
  commands = λ ps b stored. (histories ps (record { desk = Serving b; appended = stored }) b.machine b.numbered (next-here b)).commands;
  machine = λ ps b c stored desk. ((histories ps (record { desk = Serving b; appended = stored }) b.machine b.numbered (next-here b)).last c desk).0;
  numbered = λ ps b c stored desk. ((histories ps (record { desk = Serving b; appended = stored }) b.machine b.numbered (next-here b)).last c desk).1;
}
