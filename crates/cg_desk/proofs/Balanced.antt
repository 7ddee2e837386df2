-- A desk that serves is balanced from recovery on.
use Rattle.std.proofs.Common.{ℕ, Bool, true, false, List, [], ◌∷◌, ◌++◌, refl, sym, subst}
use Rattle.std.specs.Prelude.{Option, Some, None, if◌then◌else◌}
use Rattle.cg_fold.specs.Durable.{State as Durable}
use Rattle.cg_request.specs.declared.request.Request.{Request}
use Rattle.cg_request.specs.declared.event.Event.{Event}
use Rattle.cg_request.specs.declared.event.Event.TheVariants.{Gone, Tick}
use Rattle.cg_group_state.specs.declared.reply.Reply.TheVariants.{Refused}
use Rattle.cg_request.specs.Request.{asked}
use Rattle.cg_group_table.specs.Kept.{AreRecords, Each}
use Rattle.cg_group.specs.Laws.{after_all}
use Rattle.cg_group_table.specs.GroupTable.{Machine}
use Rattle.cg_group_state.specs.Members.{AreDistinct}
use Rattle.cg_group_table.specs.Recovery.{revive}
use Rattle.cg_names.specs.declared.code.Code.TheVariants.{CoordinatorNotAvailable}
use Rattle.cg_store.specs.declared.batch.Batch.{Batch}
use Rattle.cg_desk.specs.Books.{Books, IsTake, is_short, letting_go, returning, served, settling, taking}
use Rattle.cg_desk.specs.Desks.{Answer, State, Failed, Loading, Serving, IsTakenFrom, at_rest, gone_on, opened, request_on, return_to, serving, settle_on, tick_on}
use Rattle.cg_desk.specs.Balanced.{IsBalanced, IsBalancedAt}
use Rattle.cg_desk.specs.Laws.{AreRefusedOnce, DesksHaveDistinctMembers, DesksStayBalanced, RepliesFindTheirCalls}
use Rattle.cg_desk.specs.Outgoings.{answer}
use Rattle.cg_desk.specs.Owed.{KeepsCalls}
use Rattle.cg_desk.specs.Tokens.{call_of}
use Rattle.cg_desk.specs.declared.token.ReplyToken.{ReplyToken}
use Rattle.cg_group.proofs.DistinctMachine.{members_stay_distinct}
use Rattle.cg_desk.proofs.CalledEverywhere.{gone-keeps, loaded-idle, tick-keeps}
use Rattle.cg_desk.proofs.Failing.{by_tokens-once, by_tokens-order}
use Rattle.cg_desk.proofs.Living.{events_keep_calls, made-step}
use Rattle.cg_desk.proofs.Owing.{begins, leave-served, leave-settled, owed-served, owed-settled}

pub loaded : (number : ℕ) (durable : Durable) (now : ℕ) → AreRecords durable → IsBalanced (opened number (revive durable now))
unfolding after_all
loaded number durable now lawful = record {
  made = record { state = durable; began = now; events = []; lawful = lawful; is = refl };
  owed = begins number (revive durable now) (loaded-idle durable now);
}

-- an event that keeps its requests
pub served-balanced : (b : Books) (handed : List ReplyToken) (e : Event) (now : ℕ) → KeepsCalls b.machine handed e now → IsBalanced b → IsBalanced (served b handed e now).books
unfolding served letting_go
served-balanced b handed e now keeps h = record { made = made-step b.machine e now h.made; owed = owed-served b handed e now h.owed keeps }

asked-keeps : (b : Books) (r : Request) (token : ReplyToken) (fresh : List ℕ) (now : ℕ) → IsBalanced b → KeepsCalls b.machine (token ∷ []) (asked r (call_of token) fresh) now
asked-keeps b r token fresh now h = events_keep_calls.request b.machine r token fresh now h.made

request-at : (short : Bool) (b : Books) (token : ReplyToken) (e : Event) (now : ℕ) → KeepsCalls b.machine (token ∷ []) e now → IsBalanced b
    → let a : Answer = if short then record { after = Serving b; out = answer (call_of token) (Refused CoordinatorNotAvailable) 0 ∷ [] } else serving (served b (token ∷ []) e now) in
    IsBalancedAt a.after
request-at true b token e now keeps h = h
request-at false b token e now keeps h = served-balanced b (token ∷ []) e now keeps h

tick-at : (short : Bool) (b : Books) (now : ℕ) → IsBalanced b → let a : Answer = if short then at_rest (Serving b) else serving (served b [] Tick now) in IsBalancedAt a.after
tick-at true b now h = h
tick-at false b now h = served-balanced b [] Tick now (tick-keeps b.machine now) h

pub request-balanced : (s : State) (r : Request) (token : ReplyToken) (fresh : List ℕ) (now : ℕ) → IsBalancedAt s → IsBalancedAt (request_on s token (asked r (call_of token) fresh) now).after
unfolding request_on
request-balanced Loading r token fresh now h = tt
request-balanced (Failed n m) r token fresh now h = tt
request-balanced (Serving b) r token fresh now h = request-at (is_short b) b token (asked r (call_of token) fresh) now (asked-keeps b r token fresh now h) h

tick-balanced : (s : State) (now : ℕ) → IsBalancedAt s → IsBalancedAt (tick_on s now).after
unfolding tick_on
tick-balanced Loading now h = tt
tick-balanced (Failed n m) now h = tt
tick-balanced (Serving b) now h = tick-at (is_short b) b now h

gone-balanced : (s : State) (session now : ℕ) → IsBalancedAt s → IsBalancedAt (gone_on s session now).after
unfolding gone_on
gone-balanced Loading session now h = tt
gone-balanced (Failed n m) session now h = tt
gone-balanced (Serving b) session now h = served-balanced b [] (Gone session) now (gone-keeps b.machine session now) h

-- taking a batch or giving it back moves no request
taking-balanced : (b : Books) → IsBalanced b → IsBalanced (taking b)
unfolding taking
taking-balanced b h = record { made = h.made; owed = h.owed }

pub taken-balanced : (b c : Books) (o : Option Batch) → IsTake b o c → IsBalanced b → IsBalanced c
taken-balanced b c None is h = subst (λ (d : Books). IsBalanced d) (sym is.2) h
taken-balanced b c (Some batch) is h = subst (λ (d : Books). IsBalanced d) (sym is.2) (taking-balanced b h)

take-balanced : (s after : State) (o : Option Batch) → IsTakenFrom s o after → IsBalancedAt s → IsBalancedAt after
take-balanced Loading after o is h = subst (λ (d : State). IsBalancedAt d) (sym is.1) h
take-balanced (Failed n m) after o is h = subst (λ (d : State). IsBalancedAt d) (sym is.1) h
take-balanced (Serving b) Loading o is h = tt
take-balanced (Serving b) (Failed n m) o is h = tt
take-balanced (Serving b) (Serving c) o is h = taken-balanced b c o is h

pub returning-balanced : (b : Books) → IsBalanced b → IsBalanced (returning b)
returning-balanced b h = record { made = h.made; owed = h.owed }

give-back-balanced : (s : State) → IsBalancedAt s → IsBalancedAt (return_to s)
give-back-balanced Loading h = tt
give-back-balanced (Failed n m) h = tt
give-back-balanced (Serving b) h = returning-balanced b h

pub settling-balanced : (b : Books) (count : ℕ) → IsBalanced b → IsBalanced (settling b count).books
unfolding settling letting_go
settling-balanced b count h = record { made = h.made; owed = owed-settled b count h.owed }

settle-balanced : (s : State) (count : ℕ) → IsBalancedAt s → IsBalancedAt (settle_on s count).after
unfolding settle_on
settle-balanced Loading count h = tt
settle-balanced (Failed n m) count h = tt
settle-balanced (Serving b) count h = settling-balanced b count h

pub desks_stay_balanced : DesksStayBalanced
desks_stay_balanced = record {
  loaded = loaded;
  request = request-balanced;
  tick = tick-balanced;
  gone = gone-balanced;
  take = take-balanced;
  give_back = give-back-balanced;
  settle = settle-balanced;
}

pub replies_find_their_calls : RepliesFindTheirCalls
replies_find_their_calls = record {
  request = λ b r token fresh now h. leave-served b (token ∷ []) (asked r (call_of token) fresh) now h.owed (asked-keeps b r token fresh now h);
  tick = λ b now h. leave-served b [] Tick now h.owed (tick-keeps b.machine now);
  gone = λ b session now h. leave-served b [] (Gone session) now h.owed (gone-keeps b.machine session now);
  settle = λ b count h. leave-settled b count h.owed;
  fail = λ b h. subst (AreRefusedOnce (b.replied ++ b.parked)) (by_tokens-order b h.owed) (by_tokens-once b);
}

pub desks_have_distinct_members : DesksHaveDistinctMembers
desks_have_distinct_members b h =
    subst (λ (m : Machine). Each (λ g. AreDistinct g.members) m.groups) (sym h.made.is) (members_stay_distinct h.made.state h.made.began h.made.events h.made.lawful)
