-- Tickets by their weights.
use Rattle.std.proofs.Common.{◌≡◌, ℕ, ◌+◌, Bool, true, false, List, [], ◌∷◌, ◌++◌, get_or, map, refl, ap, ◌∙◌, arith}
use Rattle.std.specs.Prelude.{Option, Some, None, is_some, if◌then◌else◌}
use Rattle.std.specs.List.{position, remove, sum_by}
use Rattle.std.proofs.lemmas.List.{get_or_default}
use Rattle.std.proofs.lemmas.List.Quantifiers.{position-Some}
use Rattle.std.proofs.lemmas.List.Sorted.{IsPermutation-remove, sum_by-IsPermutation}
use Rattle.std.proofs.lemmas.List.Sums.{sum_by-append, sum_by-cons}
use Rattle.cg_request.specs.declared.event.Event.{Event}
use Rattle.cg_request.specs.declared.event.Event.TheVariants as event
use Rattle.cg_group_state.specs.declared.reply.Reply.TheVariants.{Refused}
use Rattle.cg_names.specs.declared.code.Code.TheVariants.{CoordinatorNotAvailable}
use Rattle.cg_request.specs.declared.ticket.Ticket.{Ticket}
use Rattle.cg_group.specs.Machine.{step}
use Rattle.cg_group_state.specs.Waiting.{waiting_calls}
use Rattle.cg_store.specs.declared.batch.Batch.{Batch}
use Rattle.cg_desk.specs.Answering.{after_answering, answering, answering_one, refusal, refused}
use Rattle.cg_desk.specs.Books.{Books, IsTake, is_short, letting_go, served, settling, stepped, taking}
use Rattle.cg_desk.specs.Desks.{Answer, State, Loading, Serving, Failed, IsTakenFrom, at_rest, gone_on, request_on, return_to, serving, settle_on, tick_on}
use Rattle.cg_desk.specs.Held.{calls_of, released, replies_of}
use Rattle.cg_desk.specs.Laws.{AreKept, AreRefusedOnce, TicketsAreKept, tokens_of}
use Rattle.cg_desk.proofs.Sums.{weight_of, weight_out}
use Rattle.cg_desk.specs.Flights.{Idle}
use Rattle.cg_desk.specs.Outgoings.{answer, ticket_of}
use Rattle.cg_desk.specs.Tokens.{call_of, has_token, is_for, token_for, token_of, tokens_for, without, without_all, without_place}
use Rattle.cg_desk.specs.declared.outgoing.Outgoing.{Outgoing}
use Rattle.cg_desk.specs.declared.token.ReplyToken.{ReplyToken}
use Rattle.cg_desk.proofs.Found.{for_call}

-- one token and the rest weigh as much as all tokens
taken-weight : (weight : Ticket → ℕ) (tokens : List ReplyToken) (ticket : Ticket) (at : ℕ) → position (is_for ticket) tokens ≡ Some at → weight ticket + weight_of weight (remove tokens at) ≡ weight_of weight tokens
taken-weight weight tokens ticket at found =
    let none : ReplyToken = record { ticket = ticket } in
    let there = position-Some (is_for ticket) tokens at none found in
    let token : ReplyToken = get_or tokens at none in
    let value : token ≡ get_or tokens at token = get_or_default tokens at none token there.0 in
    let call : call_of token ≡ ticket = for_call tokens ticket at token found value in
    let moved = sum_by-IsPermutation (λ (t : ReplyToken). weight (call_of t)) tokens (token ∷ remove tokens at) (IsPermutation-remove tokens at token there.0 value) in
    let front = sum_by-append (λ (t : ReplyToken). weight (call_of t)) (token ∷ []) (remove tokens at) in
    let one : weight (call_of token) ≡ weight ticket = ap weight call in
    omega arith

one-at : (weight : Ticket → ℕ) (r : Outgoing) (tokens : List ReplyToken) (at : Option ℕ) → position (is_for (ticket_of r)) tokens ≡ at
    → weight_out weight (if is_some at then r ∷ [] else []) + weight_of weight (without_place at tokens) ≡ weight_of weight tokens
one-at weight r tokens None missed = omega arith
one-at weight r tokens (Some at) found = let taken = taken-weight weight tokens (ticket_of r) at found in omega arith

pub one-weight : (weight : Ticket → ℕ) (r : Outgoing) (tokens : List ReplyToken) → weight_out weight (answering_one r tokens) + weight_of weight (without (ticket_of r) tokens) ≡ weight_of weight tokens
unfolding has_token without
one-weight weight r tokens = one-at weight r tokens (position (is_for (ticket_of r)) tokens) refl

answering-weight : (weight : Ticket → ℕ) (rs : List Outgoing) (tokens : List ReplyToken) → weight_out weight (answering rs tokens) + weight_of weight (after_answering rs tokens) ≡ weight_of weight tokens
unfolding answering after_answering
answering-weight weight [] tokens = omega arith
answering-weight weight (r ∷ rs) tokens =
    let both = sum_by-append (λ (o : Outgoing). weight (ticket_of o)) (answering_one r tokens) (answering rs (without (ticket_of r) tokens)) in
    let one = one-weight weight r tokens in
    let rest = answering-weight weight rs (without (ticket_of r) tokens) in
    omega arith

moved-at : (weight : Ticket → ℕ) (ticket : Ticket) (tokens : List ReplyToken) (at : Option ℕ) → position (is_for ticket) tokens ≡ at
    → weight_of weight (if is_some at then token_of ticket ∷ [] else []) + weight_of weight (without_place at tokens) ≡ weight_of weight tokens
moved-at weight ticket tokens None missed = omega arith
moved-at weight ticket tokens (Some at) found = let taken = taken-weight weight tokens ticket at found in omega arith

pub one-moved : (weight : Ticket → ℕ) (ticket : Ticket) (tokens : List ReplyToken) → weight_of weight (token_for ticket tokens) + weight_of weight (without ticket tokens) ≡ weight_of weight tokens
unfolding has_token without
one-moved weight ticket tokens = moved-at weight ticket tokens (position (is_for ticket) tokens) refl

-- the tokens that move and those that stay weigh as much as all
moved-weight : (weight : Ticket → ℕ) (ts : List Ticket) (tokens : List ReplyToken) → weight_of weight (tokens_for ts tokens) + weight_of weight (without_all ts tokens) ≡ weight_of weight tokens
unfolding tokens_for without_all
moved-weight weight [] tokens = omega arith
moved-weight weight (t ∷ ts) tokens =
    let both = sum_by-append (λ (k : ReplyToken). weight (call_of k)) (token_for t tokens) (tokens_for ts (without t tokens)) in
    let one = one-moved weight t tokens in
    let rest = moved-weight weight ts (without t tokens) in
    omega arith

-- the tokens of all pending requests
abbrev all_of : Books → List ReplyToken
all_of b = b.replied ++ b.parked

going-weight : (weight : Ticket → ℕ) (b : Books) → weight_out weight (letting_go b).out + weight_of weight (all_of (letting_go b).books) ≡ weight_of weight (all_of b)
unfolding letting_go
going-weight weight b =
    let f : ReplyToken → ℕ = λ (t : ReplyToken). weight (call_of t) in
    let before = sum_by-append f b.replied b.parked in
    let after = sum_by-append f (after_answering (released b.settled b.held) b.replied) b.parked in
    let gone = answering-weight weight (released b.settled b.held) b.replied in
    omega arith

served-kept : (b : Books) (handed : List ReplyToken) (e : Event) (now : ℕ) → AreKept (all_of b) handed (served b handed e now).out (all_of (served b handed e now).books)
unfolding served
served-kept b handed e now weight =
    let f : ReplyToken → ℕ = λ (t : ReplyToken). weight (call_of t) in
    let calls : List Ticket = calls_of (step b.machine e now).effects.replies in
    let before = sum_by-append f b.replied b.parked in
    let with_handed = sum_by-append f handed b.parked in
    let replied = sum_by-append f b.replied (tokens_for calls (handed ++ b.parked)) in
    let between = sum_by-append f (b.replied ++ tokens_for calls (handed ++ b.parked)) (without_all calls (handed ++ b.parked)) in
    let moved = moved-weight weight calls (handed ++ b.parked) in
    let gone = going-weight weight (stepped b (step b.machine e now) handed) in
    omega arith

settled-kept : (b : Books) (count : ℕ) → AreKept (all_of b) [] (settling b count).out (all_of (settling b count).books)
unfolding settling
settled-kept b count weight = let gone = going-weight weight (let c : Books = record b { settled = b.settled + count; course = Idle } in c) in omega arith

refused-weight : (weight : Ticket → ℕ) (tokens : List ReplyToken) → weight_out weight (map refused tokens) ≡ weight_of weight tokens
refused-weight weight [] = refl
refused-weight weight (token ∷ tokens) =
    let one = sum_by-cons (λ (o : Outgoing). weight (ticket_of o)) (refused token) (map refused tokens) in
    let same = sum_by-cons (λ (t : ReplyToken). weight (call_of t)) token tokens in
    let rest = refused-weight weight tokens in
    omega arith

-- what a failure sends, by the tokens: the requests of held replies are refused in their order, then the parked ones, then
-- the rest of both
abbrev pub by_tokens : Books → List Outgoing
by_tokens b =
    let held : List Outgoing = map refusal (calls_of (replies_of b.held)) in
    let waiting : List Outgoing = map refusal (waiting_calls b.machine.groups) in
    answering held b.replied ++ answering waiting b.parked ++ map refused (after_answering held b.replied) ++ map refused (after_answering waiting b.parked)

pub failed-kept : (b : Books) → AreKept (b.replied ++ b.parked) [] (by_tokens b) []
failed-kept b weight =
    let f : Outgoing → ℕ = λ (o : Outgoing). weight (ticket_of o) in
    let held : List Outgoing = map refusal (calls_of (replies_of b.held)) in
    let waiting : List Outgoing = map refusal (waiting_calls b.machine.groups) in
    let replied : List ReplyToken = after_answering held b.replied in
    let parked : List ReplyToken = after_answering waiting b.parked in
    let all = sum_by-append (λ (t : ReplyToken). weight (call_of t)) b.replied b.parked in
    let outer = sum_by-append f (answering held b.replied ++ answering waiting b.parked ++ map refused replied) (map refused parked) in
    let middle = sum_by-append f (answering held b.replied ++ answering waiting b.parked) (map refused replied) in
    let inner = sum_by-append f (answering held b.replied) (answering waiting b.parked) in
    let first = answering-weight weight held b.replied in
    let second = answering-weight weight waiting b.parked in
    let third = refused-weight weight replied in
    let fourth = refused-weight weight parked in
    omega arith

asked-kept : (short : Bool) (b : Books) (token : ReplyToken) (e : Event) (now : ℕ)
    → let a : Answer = if short then record { after = Serving b; out = answer (call_of token) (Refused CoordinatorNotAvailable) 0 ∷ [] } else serving (served b (token ∷ []) e now) in
    AreKept (all_of b) (token ∷ []) a.out (tokens_of a.after)
asked-kept true b token e now weight = omega arith
asked-kept false b token e now weight = served-kept b (token ∷ []) e now weight

ticked-kept : (short : Bool) (b : Books) (e : Event) (now : ℕ) → let a : Answer = if short then at_rest (Serving b) else serving (served b [] e now) in AreKept (all_of b) [] a.out (tokens_of a.after)
ticked-kept true b e now weight = omega arith
ticked-kept false b e now weight = served-kept b [] e now weight

request-kept : (s : State) (token : ReplyToken) (e : Event) (now : ℕ) → AreKept (tokens_of s) (token ∷ []) (request_on s token e now).out (tokens_of (request_on s token e now).after)
unfolding request_on
request-kept Loading token e now weight = omega arith
request-kept (Failed n m) token e now weight = omega arith
request-kept (Serving b) token e now weight = asked-kept (is_short b) b token e now weight

tick-kept : (s : State) (now : ℕ) → AreKept (tokens_of s) [] (tick_on s now).out (tokens_of (tick_on s now).after)
unfolding tick_on
tick-kept Loading now weight = omega arith
tick-kept (Failed n m) now weight = omega arith
tick-kept (Serving b) now weight = ticked-kept (is_short b) b event.Tick now weight

gone-kept : (s : State) (session now : ℕ) → AreKept (tokens_of s) [] (gone_on s session now).out (tokens_of (gone_on s session now).after)
unfolding gone_on
gone-kept Loading session now weight = omega arith
gone-kept (Failed n m) session now weight = omega arith
gone-kept (Serving b) session now weight = served-kept b [] (event.Gone session) now weight

settle-kept : (s : State) (count : ℕ) → AreKept (tokens_of s) [] (settle_on s count).out (tokens_of (settle_on s count).after)
unfolding settle_on
settle-kept Loading count weight = omega arith
settle-kept (Failed n m) count weight = omega arith
settle-kept (Serving b) count weight = settled-kept b count weight

-- the tokens stay, and no reply leaves
same-kept : (before after : List ReplyToken) → after ≡ before → AreKept before [] [] after
same-kept before after is weight = let same = ap (weight_of weight) is in omega arith

taking-tokens : (b : Books) → all_of (taking b) ≡ all_of b
unfolding taking
taking-tokens b = refl

taken-kept : (b c : Books) (o : Option Batch) → IsTake b o c → AreKept (all_of b) [] [] (all_of c)
taken-kept b c None is = same-kept (all_of b) (all_of c) (ap all_of is.2)
taken-kept b c (Some batch) is = same-kept (all_of b) (all_of c) (ap all_of is.2 ∙ taking-tokens b)

take-kept : (s after : State) (o : Option Batch) → IsTakenFrom s o after → AreKept (tokens_of s) [] [] (tokens_of after)
take-kept Loading after o is = same-kept [] (tokens_of after) (ap tokens_of is.1)
take-kept (Failed n m) after o is = same-kept [] (tokens_of after) (ap tokens_of is.1)
take-kept (Serving b) Loading o is = absurd is
take-kept (Serving b) (Failed n m) o is = absurd is
take-kept (Serving b) (Serving c) o is = taken-kept b c o is

give-back-kept : (s : State) → AreKept (tokens_of s) [] [] (tokens_of (return_to s))
give-back-kept Loading = same-kept [] [] refl
give-back-kept (Failed n m) = same-kept [] [] refl
give-back-kept (Serving b) = same-kept (all_of b) (all_of b) refl

pub refusals-weight : (weight : Ticket → ℕ) (calls : List Ticket) → weight_out weight (map refusal calls) ≡ sum_by weight calls
refusals-weight weight [] = refl
refusals-weight weight (t ∷ calls) =
    let out = sum_by-cons (λ (o : Outgoing). weight (ticket_of o)) (refusal t) (map refusal calls) in
    let one = sum_by-cons weight t calls in
    let rest = refusals-weight weight calls in
    omega arith

-- all leave, each once
once-kept : (tokens : List ReplyToken) (out : List Outgoing) → AreRefusedOnce tokens out → AreKept tokens [] out []
once-kept tokens out once weight =
    let left = ap (weight_out weight) once.refused in
    let sum = refusals-weight weight once.calls in
    let same = once.once weight in
    omega arith

pub tickets_are_kept : TicketsAreKept
tickets_are_kept = record {
  request = request-kept;
  tick = tick-kept;
  gone = gone-kept;
  take = take-kept;
  give_back = give-back-kept;
  settle = settle-kept;
  fail = λ s out once. once-kept (tokens_of s) out once;
  close = λ s out once. once-kept (tokens_of s) out once;
}
