-- Each pending request has one token.
use Rattle.std.proofs.Common.{◌≡◌, ℕ, suc, ◌+◌, ◌≤◌, Bool, true, false, not, List, [], ◌∷◌, ◌++◌, length, map, take, cond, refl, ap, sym, ◌∙◌, arith, eq-eqb}
use Rattle.std.specs.Prelude.{Option, Some, None, is_some, nat_eq, nat_lt, ◌&&◌, if◌then◌else◌}
use Rattle.std.specs.List.{position, position_or_len}
use Rattle.std.proofs.lemmas.Bool.{ltb-false}
use Rattle.std.proofs.lemmas.List.{append-nil, map-append, nil_from_length, take-append-drop}
use Rattle.std.proofs.lemmas.List.Concat.{flat_map-append}
use Rattle.std.proofs.lemmas.List.Sums.{sum_by-append, sum_by-cons}
use Rattle.cg_request.specs.declared.event.Event.{Event}
use Rattle.cg_group_state.specs.declared.reply.Reply.{Reply}
use Rattle.cg_request.specs.declared.ticket.Ticket.{Ticket}
use Rattle.cg_group.specs.Machine.{step}
use Rattle.cg_group_table.specs.GroupTable.{Machine}
use Rattle.cg_group_state.specs.Waiting.{waiting_calls}
use Rattle.cg_desk.specs.Answering.{after_answering, answering, answering_one, refusal, refused}
use Rattle.cg_desk.specs.Books.{Books, letting_go, served, settling, stepped}
use Rattle.cg_desk.specs.Desks.{opened}
use Rattle.cg_desk.specs.Flights.{Idle}
use Rattle.cg_desk.specs.Held.{calls_of, holding, leaving_of, ready, released, replies_of, still_held}
use Rattle.cg_desk.specs.Origins.{origin_of, own_of, sent}
use Rattle.cg_desk.specs.Outgoings.{ticket_of}
use Rattle.cg_desk.proofs.Sums.{weight_of, weight_out}
use Rattle.cg_desk.specs.Owed.{IsOwed, KeepsCalls, weight_calls}
use Rattle.cg_desk.specs.Tokens.{call_of, has_token, is_for, is_ticket, token_for, token_of, tokens_for, without, without_all}
use Rattle.cg_desk.specs.declared.pending_replies.HeldStep.{HeldStep}
use Rattle.cg_desk.specs.declared.origin.Origin.{Origin}
use Rattle.cg_desk.specs.declared.outgoing.Outgoing.{Outgoing}
use Rattle.cg_desk.specs.declared.token.ReplyToken.{ReplyToken}
use Rattle.cg_desk.proofs.Weights.{by_tokens, one-moved, one-weight}
use Rattle.cg_desk.proofs.Called.{calls-append}

-- the weight that is one for this ticket and zero for every other
abbrev pub alone : Ticket → Ticket → ℕ
alone ticket other = cond (is_ticket ticket other) 1 0

pub alone-self : (ticket : Ticket) → alone ticket ticket ≡ 1
alone-self ticket =
    ap (λ b. cond (b && nat_eq ticket.number ticket.number) 1 0) (eq-eqb ticket.session ticket.session refl) ∙ ap (λ b. cond b 1 0) (eq-eqb ticket.number ticket.number refl)

none-step : (b : Bool) (token : ReplyToken) (ticket : Ticket) (tokens : List ReplyToken) → is_for ticket token ≡ b → suc (length tokens) ≤ cond (not b) (1 + position_or_len (is_for ticket) tokens) 0
    → (length tokens ≤ position_or_len (is_for ticket) tokens → weight_of (alone ticket) tokens ≡ 0) → cond b 1 0 + weight_of (alone ticket) tokens ≡ 0
none-step true token ticket tokens is past rest = absurd (omega arith)
none-step false token ticket tokens is past rest = let none = rest (omega arith) in omega arith

none-weighs : (ticket : Ticket) (tokens : List ReplyToken) → length tokens ≤ position_or_len (is_for ticket) tokens → weight_of (alone ticket) tokens ≡ 0
none-weighs ticket [] past = refl
none-weighs ticket (token ∷ tokens) past =
    let one = sum_by-cons (λ (t : ReplyToken). alone ticket (call_of t)) token tokens in
    let rest = none-step (is_for ticket token) token ticket tokens refl past (none-weighs ticket tokens) in
    omega arith

missed : (b : Bool) (n : ℕ) → (let o : Option ℕ = cond b (Some n) None in o) ≡ None → b ≡ false
missed true n is = absurd (cc)
missed false n is = refl

found-at : (ticket : Ticket) (tokens : List ReplyToken) (at : Option ℕ) → position (is_for ticket) tokens ≡ at → 1 ≤ weight_of (alone ticket) tokens → is_some at ≡ true
found-at ticket tokens None is some =
    let past = ltb-false (position_or_len (is_for ticket) tokens) (length tokens) (missed (nat_lt (position_or_len (is_for ticket) tokens) (length tokens)) (position_or_len (is_for ticket) tokens) is) in
    let none = none-weighs ticket tokens past in
    absurd (omega arith)
found-at ticket tokens (Some at) is some = refl

pub found : (ticket : Ticket) (tokens : List ReplyToken) → 1 ≤ weight_of (alone ticket) tokens → has_token ticket tokens ≡ true
unfolding has_token
found ticket tokens some = found-at ticket tokens (position (is_for ticket) tokens) refl some

-- each of the replies leaves, and the other tokens stay
record AllLeave (rs : List Outgoing) (tokens : List ReplyToken) (rest : (Ticket → ℕ) → ℕ) : Type 0 where
  gone : answering rs tokens ≡ rs
  stay : (weight : Ticket → ℕ) → weight_of weight (after_answering rs tokens) ≡ rest weight

all-leave : (rs : List Outgoing) (tokens : List ReplyToken) (rest : (Ticket → ℕ) → ℕ)
    → ((weight : Ticket → ℕ) → weight_of weight tokens ≡ weight_out weight rs + rest weight) → AllLeave rs tokens rest
unfolding answering after_answering
all-leave [] tokens rest owes = record { gone = refl; stay = λ weight. let all = owes weight in omega arith }
all-leave (r ∷ rs) tokens rest owes =
    let ticket = ticket_of r in
    let own = owes (alone ticket) in
    let front = sum_by-cons (λ (o : Outgoing). alone ticket (ticket_of o)) r rs in
    let self = alone-self ticket in
    let has : has_token ticket tokens ≡ true = found ticket tokens (omega arith) in
    let one : answering_one r tokens ≡ r ∷ [] = ap (λ b. let l : List Outgoing = if b then r ∷ [] else [] in l) has in
    let less : (weight : Ticket → ℕ) → weight_of weight (without ticket tokens) ≡ weight_out weight rs + rest weight = λ weight.
    let all = owes weight in
    let taken = one-weight weight r tokens in
    let left = ap (weight_out weight) one in
    let first = sum_by-cons (λ (o : Outgoing). weight (ticket_of o)) r rs in
    omega arith in
    let more = all-leave rs (without ticket tokens) rest less in
    record {
      gone = ap (λ l. l ++ answering rs (without ticket tokens)) one ∙ ap (λ l. r ∷ l) more.gone;
      stay = more.stay;
    }

-- each of the tickets has its token, and the other tokens stay
record AllFound (ts : List Ticket) (tokens : List ReplyToken) (rest : (Ticket → ℕ) → ℕ) : Type 0 where
  found : (weight : Ticket → ℕ) → weight_of weight (tokens_for ts tokens) ≡ weight_calls weight ts
  stay : (weight : Ticket → ℕ) → weight_of weight (without_all ts tokens) ≡ rest weight

all-found : (ts : List Ticket) (tokens : List ReplyToken) (rest : (Ticket → ℕ) → ℕ)
    → ((weight : Ticket → ℕ) → weight_of weight tokens ≡ weight_calls weight ts + rest weight) → AllFound ts tokens rest
unfolding tokens_for without_all
all-found [] tokens rest owes = record { found = λ weight. refl; stay = λ weight. let all = owes weight in omega arith }
all-found (t ∷ ts) tokens rest owes =
    let own = owes (alone t) in
    let front = sum_by-cons (alone t) t ts in
    let self = alone-self t in
    let has : has_token t tokens ≡ true = found t tokens (omega arith) in
    let one : token_for t tokens ≡ token_of t ∷ [] = ap (λ b. let l : List ReplyToken = if b then token_of t ∷ [] else [] in l) has in
    let less : (weight : Ticket → ℕ) → weight_of weight (without t tokens) ≡ weight_calls weight ts + rest weight = λ weight.
    let all = owes weight in
    let taken = one-moved weight t tokens in
    let left = ap (weight_of weight) one in
    let first = sum_by-cons weight t ts in
    omega arith in
    let more = all-found ts (without t tokens) rest less in
    record {
      found = λ weight.
          let both = sum_by-append (λ (k : ReplyToken). weight (call_of k)) (token_for t tokens) (tokens_for ts (without t tokens)) in
          let left = ap (weight_of weight) one in
          let first = sum_by-cons weight t ts in
          let rest = more.found weight in
          omega arith;
      stay = more.stay;
    }

-- replies as they leave have their tickets
sent-weight : (weight : Ticket → ℕ) (origin : Origin) (rs : List (Ticket × Reply)) → weight_out weight (map (sent origin) rs) ≡ weight_calls weight (calls_of rs)
sent-weight weight origin [] = refl
sent-weight weight origin (r ∷ rs) =
    let one = sum_by-cons (λ (o : Outgoing). weight (ticket_of o)) (sent origin r) (map (sent origin) rs) in
    let same = sum_by-cons weight r.0 (calls_of rs) in
    let rest = sent-weight weight origin rs in
    omega arith

leaving-weight : (weight : Ticket → ℕ) (held : List HeldStep) → weight_out weight (leaving_of held) ≡ weight_calls weight (calls_of (replies_of held))
leaving-weight weight [] = refl
leaving-weight weight (h ∷ hs) =
    let out = sum_by-append (λ (o : Outgoing). weight (ticket_of o)) (map (sent h.origin) h.replies) (leaving_of hs) in
    let calls = ap (weight_calls weight) (calls-append h.replies (replies_of hs)) in
    let both = sum_by-append weight (calls_of h.replies) (calls_of (replies_of hs)) in
    let one = sent-weight weight h.origin h.replies in
    let rest = leaving-weight weight hs in
    omega arith

-- held replies are those that leave and those that stay held
split-held : (settled : ℕ) (held : List HeldStep) → replies_of held ≡ replies_of (take (ready settled held) held) ++ replies_of (still_held settled held)
split-held settled held = ap replies_of (sym (take-append-drop (ready settled held) held)) ∙ flat_map-append (λ (s : HeldStep). s.replies) (take (ready settled held) held) (still_held settled held)

record Goes (c : Books) : Type 0 where
  gone : (letting_go c).out ≡ released c.settled c.held
  owed : IsOwed (letting_go c).books

goes : (c : Books) → IsOwed c → Goes c
unfolding letting_go
goes c owed =
    let first : List HeldStep = take (ready c.settled c.held) c.held in
    let rest : (Ticket → ℕ) → ℕ = λ weight. weight_calls weight (calls_of (replies_of (still_held c.settled c.held))) in
    let all = all-leave (released c.settled c.held) c.replied rest (λ weight.
    let total = owed.0 weight in
    let split = ap (λ rs. weight_calls weight (calls_of rs)) (split-held c.settled c.held) in
    let calls = ap (weight_calls weight) (calls-append (replies_of first) (replies_of (still_held c.settled c.held))) in
    let both = sum_by-append weight (calls_of (replies_of first)) (calls_of (replies_of (still_held c.settled c.held))) in
    let out = leaving-weight weight first in
    omega arith) in
    record { gone = all.gone; owed = (all.stay, owed.1) }

held-more : (origin : Origin) (held : List HeldStep) (rs : List (Ticket × Reply)) → replies_of (held ++ holding origin rs) ≡ replies_of held ++ rs
held-more origin held [] = flat_map-append (λ (s : HeldStep). s.replies) held []
held-more origin held (r ∷ rs) =
    let step : HeldStep = record { origin = origin; replies = r ∷ rs } in
    flat_map-append (λ (s : HeldStep). s.replies) held (step ∷ []) ∙ ap (λ l. replies_of held ++ l) (append-nil (r ∷ rs))

stepped-owed : (b : Books) (handed : List ReplyToken) (e : Event) (now : ℕ) → IsOwed b → KeepsCalls b.machine handed e now → IsOwed (stepped b (step b.machine e now) handed)
stepped-owed b handed e now owed keeps =
    let rs = (step b.machine e now).effects.replies in
    let tokens : List ReplyToken = handed ++ b.parked in
    let rest : (Ticket → ℕ) → ℕ = λ weight. weight_calls weight (waiting_calls (step b.machine e now).after.groups) in
    let moved = all-found (calls_of rs) tokens rest (λ weight.
    let before = owed.1 weight in
    let kept = keeps weight in
    let both = sum_by-append (λ (t : ReplyToken). weight (call_of t)) handed b.parked in
    omega arith) in
    let replied : (weight : Ticket → ℕ) → weight_of weight (b.replied ++ tokens_for (calls_of rs) tokens)
    ≡ weight_calls weight (calls_of (replies_of (b.held ++ holding (origin_of b.numbered (own_of handed) (step b.machine e now).effects) rs))) = λ weight.
    let before = owed.0 weight in
    let found = moved.found weight in
    let grown = sum_by-append (λ (t : ReplyToken). weight (call_of t)) b.replied (tokens_for (calls_of rs) tokens) in
    let held = ap (λ l. weight_calls weight (calls_of l)) (held-more (origin_of b.numbered (own_of handed) (step b.machine e now).effects) b.held rs) in
    let calls = ap (weight_calls weight) (calls-append (replies_of b.held) rs) in
    let both = sum_by-append weight (calls_of (replies_of b.held)) (calls_of rs) in
    omega arith in
    (replied, moved.stay)

pub begins : (number : ℕ) (s : Machine) → waiting_calls s.groups ≡ [] → IsOwed (opened number s)
begins number s none = ((λ weight. refl), (λ weight. let waiting = ap (weight_calls weight) none in omega arith))

pub owed-served : (b : Books) (handed : List ReplyToken) (e : Event) (now : ℕ) → IsOwed b → KeepsCalls b.machine handed e now → IsOwed (served b handed e now).books
unfolding served
owed-served b handed e now owed keeps = (goes (stepped b (step b.machine e now) handed) (stepped-owed b handed e now owed keeps)).owed

pub leave-served : (b : Books) (handed : List ReplyToken) (e : Event) (now : ℕ) → IsOwed b → KeepsCalls b.machine handed e now
    → (served b handed e now).out ≡ released b.settled (stepped b (step b.machine e now) handed).held
unfolding served
leave-served b handed e now owed keeps = (goes (stepped b (step b.machine e now) handed) (stepped-owed b handed e now owed keeps)).gone

pub owed-settled : (b : Books) (count : ℕ) → IsOwed b → IsOwed (settling b count).books
unfolding settling
owed-settled b count owed = (goes (let c : Books = record b { settled = b.settled + count; course = Idle } in c) owed).owed

pub leave-settled : (b : Books) (count : ℕ) → IsOwed b → (settling b count).out ≡ released (b.settled + count) b.held
unfolding settling
leave-settled b count owed = (goes (let c : Books = record b { settled = b.settled + count; course = Idle } in c) owed).gone

refusals-weight : (weight : Ticket → ℕ) (calls : List Ticket) → weight_out weight (map refusal calls) ≡ weight_calls weight calls
refusals-weight weight [] = refl
refusals-weight weight (t ∷ calls) =
    let one = sum_by-cons (λ (o : Outgoing). weight (ticket_of o)) (refusal t) (map refusal calls) in
    let same = sum_by-cons weight t calls in
    let rest = refusals-weight weight calls in
    omega arith

tokens-count : (tokens : List ReplyToken) → weight_of (λ t. 1) tokens ≡ length tokens
tokens-count [] = refl
tokens-count (token ∷ tokens) = let one = sum_by-cons (λ (t : ReplyToken). 1) token tokens in let rest = tokens-count tokens in omega arith

pub failed : (b : Books) → IsOwed b → by_tokens b ≡ map refusal (calls_of (replies_of b.held) ++ waiting_calls b.machine.groups)
failed b owed =
    let held = calls_of (replies_of b.held) in
    let waiting = waiting_calls b.machine.groups in
    let first = all-leave (map refusal held) b.replied (λ weight. 0) (λ weight. let all = owed.0 weight in let calls = refusals-weight weight held in omega arith) in
    let second = all-leave (map refusal waiting) b.parked (λ weight. 0) (λ weight. let all = owed.1 weight in let calls = refusals-weight weight waiting in omega arith) in
    let replied = after_answering (map refusal held) b.replied in
    let parked = after_answering (map refusal waiting) b.parked in
    let no_replied : replied ≡ [] = none-left replied first.stay in
    let no_parked : parked ≡ [] = none-left parked second.stay in
    let both = answering (map refusal held) b.replied ++ answering (map refusal waiting) b.parked in
    ap (λ ts. both ++ map refused ts ++ map refused parked) no_replied
    ∙ ap (λ ts. both ++ [] ++ map refused ts) no_parked
    ∙ append-nil (both ++ [])
    ∙ append-nil both
    ∙ ap (λ l. l ++ answering (map refusal waiting) b.parked) first.gone
    ∙ ap (λ l. map refusal held ++ l) second.gone
    ∙ sym (map-append refusal held waiting)
  where
    none-left : (tokens : List ReplyToken) → ((weight : Ticket → ℕ) → weight_of weight tokens ≡ 0) → tokens ≡ []
    none-left tokens weightless =
        let none = weightless (λ t. 1) in
        let count = tokens-count tokens in
        nil_from_length tokens (omega arith)
