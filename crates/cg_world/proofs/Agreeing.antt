-- The desk, the batch on its way and the store keep agreeing.
use Rattle.std.proofs.Common.{◌≡◌, ℕ, Bool, true, false, List, [], ◌∷◌, sym, subst}
use Rattle.std.specs.Prelude.{if◌then◌else◌, Result, Ok, Err, IfOk, OnErr}
use Rattle.cg_request.specs.declared.event.Event.{Event}
use Rattle.cg_request.specs.declared.event.Event.TheVariants.{Gone, Tick}
use Rattle.cg_group_state.specs.declared.reply.Reply.TheVariants.{Refused}
use Rattle.cg_names.specs.declared.code.Code.TheVariants.{CoordinatorNotAvailable}
use Rattle.cg_desk.specs.Books.{Books, is_short, letting_go, served}
use Rattle.cg_desk.specs.Desks.{Answer, State, Loading, Serving, Failed, at_rest, gone_on, request_on, serving, tick_on}
use Rattle.cg_desk.specs.Outgoings.{answer}
use Rattle.cg_desk.specs.Tokens.{call_of}
use Rattle.cg_desk.specs.declared.outgoing.Outgoing.{Outgoing}
use Rattle.cg_desk.specs.declared.token.ReplyToken.{ReplyToken}
use Rattle.cg_world.specs.Agreeing.{Agree}
use Rattle.cg_world.specs.declared.transit.Transit.{Transit}

module _ (t : Transit) (front : ℕ) (failed : Bool) where
  -- an event changes neither the batch in flight nor what is settled
  served-agrees : (b : Books) (handed : List ReplyToken) (e : Event) (now : ℕ) → Agree (Serving b) t front failed → Agree (Serving (served b handed e now).books) t front failed
  unfolding served letting_go
  served-agrees b handed e now h = record { way = h.way; stored = h.stored; enough = h.enough; serves = h.serves; rests = h.rests }

  request-at : (short : Bool) (b : Books) (token : ReplyToken) (e : Event) (now : ℕ) → Agree (Serving b) t front failed
      → let a : Answer = if short then record { after = Serving b; out = answer (call_of token) (Refused CoordinatorNotAvailable) 0 ∷ [] } else serving (served b (token ∷ []) e now) in
      Agree a.after t front failed
  request-at true b token e now h = h
  request-at false b token e now h = served-agrees b (token ∷ []) e now h

  tick-at : (short : Bool) (b : Books) (now : ℕ) → Agree (Serving b) t front failed → let a : Answer = if short then at_rest (Serving b) else serving (served b [] Tick now) in Agree a.after t front failed
  tick-at true b now h = h
  tick-at false b now h = served-agrees b [] Tick now h

  request-agrees : (s : State) (token : ReplyToken) (e : Event) (now : ℕ) → Agree s t front failed → Agree (request_on s token e now).after t front failed
  unfolding request_on
  request-agrees Loading token e now h = h
  request-agrees (Failed n m) token e now h = h
  request-agrees (Serving b) token e now h = request-at (is_short b) b token e now h

  tick-agrees : (s : State) (now : ℕ) → Agree s t front failed → Agree (tick_on s now).after t front failed
  unfolding tick_on
  tick-agrees Loading now h = h
  tick-agrees (Failed n m) now h = h
  tick-agrees (Serving b) now h = tick-at (is_short b) b now h

  gone-agrees : (s : State) (session now : ℕ) → Agree s t front failed → Agree (gone_on s session now).after t front failed
  unfolding gone_on
  gone-agrees Loading session now h = h
  gone-agrees (Failed n m) session now h = h
  gone-agrees (Serving b) session now h = served-agrees b [] (Gone session) now h

  -- a call of the desk returned this answer, or failed
  module _ {V E : Type 0} (items : V → List Outgoing) (a : Answer) (s after : State) where
    kept : (r : Result V E) → IfOk r (λ v. a ≡ record { after = after; out = items v }) → OnErr r (after ≡ s) → Agree a.after t front failed → Agree s t front failed → Agree after t front failed
    kept (Ok v) ok err h g = subst (λ (x : Answer). Agree x.after t front failed) ok h
    kept (Err e) ok err h g = subst (λ (x : State). Agree x t front failed) (sym err) g

  module _ {V E : Type 0} (items : V → List Outgoing) (s after : State) (r : Result V E) where
    pub request-kept : (token : ReplyToken) (e : Event) (now : ℕ) → IfOk r (λ v. request_on s token e now ≡ record { after = after; out = items v }) → OnErr r (after ≡ s) → Agree s t front failed → Agree after t front failed
    request-kept token e now ok err h = kept items (request_on s token e now) s after r ok err (request-agrees s token e now h) h

    pub tick-kept : (now : ℕ) → IfOk r (λ v. tick_on s now ≡ record { after = after; out = items v }) → OnErr r (after ≡ s) → Agree s t front failed → Agree after t front failed
    tick-kept now ok err h = kept items (tick_on s now) s after r ok err (tick-agrees s now h) h

    pub gone-kept : (session now : ℕ) → IfOk r (λ v. gone_on s session now ≡ record { after = after; out = items v }) → OnErr r (after ≡ s) → Agree s t front failed → Agree after t front failed
    gone-kept session now ok err h = kept items (gone_on s session now) s after r ok err (gone-agrees s session now h) h
