-- Each command is counted by at most one reply.
use Rattle.std.proofs.Common.{◌≡◌, ℕ, zero, suc, ◌+◌, ◌≤◌, Bool, true, false, List, [], ◌∷◌, ◌++◌, length, map, cond, refl, sym, ◌∙◌, arith}
use Rattle.std.specs.Prelude.{Option, None, Some}
use Rattle.std.specs.List.{sum_by}
use Rattle.std.proofs.lemmas.Bool.{false≢true}
use Rattle.std.proofs.lemmas.List.Sums.{sum_by-append, sum_by-cons}
use Rattle.cg_group_state.specs.declared.effects.Effects.{Effects}
use Rattle.cg_group_state.specs.declared.reply.Reply.{Reply}
use Rattle.cg_request.specs.declared.event.Event.{Event}
use Rattle.cg_request.specs.declared.event.Event.TheVariants.{Gone, Tick}
use Rattle.cg_request.specs.declared.ticket.Ticket.{Ticket}
use Rattle.cg_request.specs.Request.{asked}
use Rattle.cg_group.specs.Machine.{step}
use Rattle.cg_desk.specs.Laws.{CommandsAreCountedOnce, made_in}
use Rattle.cg_desk.specs.Books.{Books}
use Rattle.cg_desk.specs.Held.{calls_of}
use Rattle.cg_desk.specs.Origins.{sent}
use Rattle.cg_desk.specs.Outgoings.{made_of}
use Rattle.cg_desk.specs.Owed.{IsOwed, KeepsCalls, weight_calls}
use Rattle.cg_desk.specs.Tokens.{call_of, has_token, is_ticket}
use Rattle.cg_desk.specs.declared.origin.Origin.{Origin}
use Rattle.cg_desk.specs.declared.token.ReplyToken.{ReplyToken}
use Rattle.cg_desk.proofs.Living.{events_keep_calls}
use Rattle.cg_desk.proofs.Owing.{alone, alone-self, found}
use Rattle.cg_desk.proofs.Sums.{weight_of}

-- the step of this request, or of none
abbrev from : Option Ticket → ℕ → ℕ → Origin
from own need made = record { need = need; own = own; made = made }

-- the numbers of replies together
abbrev sum_of : Origin → List (Ticket × Reply) → ℕ
sum_of origin rs = sum_by made_of (map (sent origin) rs)

none-own : (need made : ℕ) (rs : List (Ticket × Reply)) → sum_of (from None need made) rs ≡ 0
none-own need made [] = refl
none-own need made (r ∷ rs) =
    let one = sum_by-cons made_of (sent (from None need made) r) (map (sent (from None need made)) rs) in
    let rest = none-own need made rs in
    omega arith

-- with at most one reply to the ticket, the numbers are those of that reply
none-step : (b : Bool) (made calls sum : ℕ) → cond b 1 0 + calls ≤ 0 → (calls ≤ 0 → sum ≤ 0) → cond b made 0 + sum ≤ 0
none-step true made calls sum few none = absurd (omega arith)
none-step false made calls sum few none = let rest = none (omega arith) in omega arith

none-for : (ticket : Ticket) (need made : ℕ) (rs : List (Ticket × Reply)) → weight_calls (alone ticket) (calls_of rs) ≤ 0 → sum_of (from (Some ticket) need made) rs ≤ 0
none-for ticket need made [] few = omega arith
none-for ticket need made (r ∷ rs) few =
    let one = sum_by-cons made_of (sent (from (Some ticket) need made) r) (map (sent (from (Some ticket) need made)) rs) in
    let calls = sum_by-cons (alone ticket) r.0 (calls_of rs) in
    let rest = none-step (is_ticket ticket r.0) made (weight_calls (alone ticket) (calls_of rs)) (sum_of (from (Some ticket) need made) rs) (omega arith) (none-for ticket need made rs) in
    omega arith

once-step : (b : Bool) (made calls sum : ℕ) → cond b 1 0 + calls ≤ 1 → (calls ≤ 1 → sum ≤ made) → (calls ≤ 0 → sum ≤ 0) → cond b made 0 + sum ≤ made
once-step true made calls sum few once none = let rest = none (omega arith) in omega arith
once-step false made calls sum few once none = let rest = once (omega arith) in omega arith

once-for : (ticket : Ticket) (need made : ℕ) (rs : List (Ticket × Reply)) → weight_calls (alone ticket) (calls_of rs) ≤ 1 → sum_of (from (Some ticket) need made) rs ≤ made
once-for ticket need made [] few = omega arith
once-for ticket need made (r ∷ rs) few =
    let one = sum_by-cons made_of (sent (from (Some ticket) need made) r) (map (sent (from (Some ticket) need made)) rs) in
    let calls = sum_by-cons (alone ticket) r.0 (calls_of rs) in
    let rest = once-step (is_ticket ticket r.0) made (weight_calls (alone ticket) (calls_of rs)) (sum_of (from (Some ticket) need made) rs) (omega arith) (once-for ticket need made rs) (none-for ticket need made rs) in
    omega arith

-- no pending request has the ticket
none-pending : (ticket : Ticket) (tokens : List ReplyToken) → has_token ticket tokens ≡ false → weight_of (alone ticket) tokens ≡ 0
none-pending ticket tokens none = by-weight (weight_of (alone ticket) tokens) refl
  where
    by-weight : (w : ℕ) → weight_of (alone ticket) tokens ≡ w → weight_of (alone ticket) tokens ≡ 0
    by-weight zero is = is
    by-weight (suc n) is = absurd (false≢true (sym none ∙ found ticket tokens (omega arith)))

-- so the request gets at most one reply in its step
answered-once : (b : Books) (token : ReplyToken) (e : Event) (now : ℕ) → IsOwed b → KeepsCalls b.machine (token ∷ []) e now → has_token (call_of token) (b.replied ++ b.parked) ≡ false
    → weight_calls (alone (call_of token)) (calls_of (step b.machine e now).effects.replies) ≤ 1
answered-once b token e now owed keeps none =
    let pending = none-pending (call_of token) (b.replied ++ b.parked) none in
    let both = sum_by-append (λ (t : ReplyToken). alone (call_of token) (call_of t)) b.replied b.parked in
    let total = owed.1 (alone (call_of token)) in
    let kept = keeps (alone (call_of token)) in
    let self = alone-self (call_of token) in
    omega arith

counted-once : (b : Books) (token : ReplyToken) (e : Event) (now : ℕ) → IsOwed b → KeepsCalls b.machine (token ∷ []) e now → has_token (call_of token) (b.replied ++ b.parked) ≡ false
    → sum_by made_of (made_in b (token ∷ []) e now) ≤ length (step b.machine e now).effects.commands
counted-once b token e now owed keeps none =
    let o : Effects = (step b.machine e now).effects in
    once-for (call_of token) (b.numbered + length o.commands) (length o.commands) o.replies (answered-once b token e now owed keeps none)

none-counted : (b : Books) (e : Event) (now : ℕ) → sum_by made_of (made_in b [] e now) ≡ 0
none-counted b e now =
    let o : Effects = (step b.machine e now).effects in
    none-own (b.numbered + length o.commands) (length o.commands) o.replies

pub commands_are_counted_once : CommandsAreCountedOnce
commands_are_counted_once = record {
  request = λ b r token fresh now h none. counted-once b token (asked r (call_of token) fresh) now h.owed (events_keep_calls.request b.machine r token fresh now h.made) none;
  tick = λ b now. none-counted b Tick now;
  gone = λ b session now. none-counted b (Gone session) now;
}
