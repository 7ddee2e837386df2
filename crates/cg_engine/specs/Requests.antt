-- The requests of calls that were begun, and what the desk does with them.
use Rattle.std.specs.Prelude.{◌≡◌, ◌⊎◌, ℕ, false, List, [], ◌∷◌, map}
use Rattle.cg_request.specs.Request.{asked}
use Rattle.cg_request.specs.declared.event.Event.{Event}
use Rattle.cg_desk.specs.Desks.{State, is_serving, request_on}
use Rattle.cg_desk.specs.Tokens.{call_of}
use Rattle.cg_desk.specs.declared.token.ReplyToken.{ReplyToken}
use Rattle.cg_engine.specs.declared.requests.Requests.{Requests}
use Rattle.cg_engine.specs.declared.requests.Submission.{Submission}

-- the requests that wait, in their order
abbrev pub waiting_in : {L : Type 0} → Requests L → List (Submission L)
waiting_in requests = requests.waiting.items

-- the event of a request for the machine, and its moment
abbrev pub event_of : {L : Type 0} → Submission L → Event × ℕ
event_of submission = (asked submission.request submission.ticket submission.fresh, submission.now)

-- the events of the requests that wait
abbrev pub events_in : {L : Type 0} → Requests L → List (Event × ℕ)
events_in requests = map event_of (waiting_in requests)

-- the desk handled this request, with the token of its call; or it stays as it was, since an allocation failed; or it has failed
abbrev pub IsServed : {L : Type 0} → State → Submission L → State → Type 0
IsServed before submission after =
    ((token : ReplyToken) × ((call_of token ≡ submission.ticket) × (after ≡ (request_on before token (event_of submission).0 (event_of submission).1).after))) ⊎ (after ≡ before) ⊎ (is_serving after ≡ false)

-- the same of some requests, in their order
unfoldable pub AreServed : {L : Type 0} → State → List (Submission L) → State → Type 0
AreServed before [] after = after ≡ before
AreServed before (submission ∷ rest) after = (between : State) × (IsServed before submission between × AreServed between rest after)
