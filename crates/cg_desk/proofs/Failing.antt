-- What a failure of a desk sends.
use Rattle.std.proofs.Common.{◌≡◌, Bool, true, false, List, [], ◌∷◌, ◌++◌, map, refl, ap, sym, ◌∙◌, arith}
use Rattle.std.specs.Prelude.{if◌then◌else◌}
use Rattle.std.proofs.lemmas.List.{map-append}
use Rattle.cg_request.specs.declared.ticket.Ticket.{Ticket}
use Rattle.cg_group_state.specs.Waiting.{waiting_calls}
use Rattle.cg_desk.specs.Answering.{after_answering, answering, answering_one, refusal, refused}
use Rattle.cg_desk.specs.Books.{Books, failing}
use Rattle.cg_desk.specs.Held.{calls_of, replies_of}
use Rattle.cg_desk.specs.Laws.{AreKept, AreRefusedOnce}
use Rattle.cg_desk.proofs.Sums.{weight_out}
use Rattle.cg_desk.specs.Owed.{IsOwed}
use Rattle.cg_desk.specs.Tokens.{call_of, has_token, without}
use Rattle.cg_desk.specs.declared.outgoing.Outgoing.{Outgoing}
use Rattle.cg_desk.specs.declared.token.ReplyToken.{ReplyToken}
use Rattle.cg_desk.proofs.Leaving.{answering-cons, answering-nil}
use Rattle.cg_desk.proofs.Owing.{failed}
use Rattle.cg_desk.proofs.Weights.{by_tokens, failed-kept, refusals-weight}

-- these replies are refusals with 15
record Refuses (out : List Outgoing) : Type 0 where
  pub calls : List Ticket
  pub is : out ≡ map refusal calls

refuses-both : (a b : List Outgoing) → Refuses a → Refuses b → Refuses (a ++ b)
refuses-both a b one two = record {
  calls = one.calls ++ two.calls;
  is = ap (λ (l : List Outgoing). l ++ b) one.is ∙ ap (λ (l : List Outgoing). map refusal one.calls ++ l) two.is ∙ sym (map-append refusal one.calls two.calls);
}

refuses-one : (ticket : Ticket) (has : Bool) → Refuses (if has then refusal ticket ∷ [] else [])
refuses-one ticket true = record { calls = ticket ∷ []; is = refl }
refuses-one ticket false = record { calls = []; is = refl }

refuses-answering : (calls : List Ticket) (tokens : List ReplyToken) → Refuses (answering (map refusal calls) tokens)
refuses-answering [] tokens = record { calls = []; is = answering-nil tokens }
refuses-answering (t ∷ calls) tokens =
    let rest = refuses-both (answering_one (refusal t) tokens) (answering (map refusal calls) (without t tokens)) (refuses-one t (has_token t tokens)) (refuses-answering calls (without t tokens)) in
    record { calls = rest.calls; is = answering-cons (refusal t) (map refusal calls) tokens ∙ rest.is }

refuses-rest : (tokens : List ReplyToken) → Refuses (map refused tokens)
refuses-rest [] = record { calls = []; is = refl }
refuses-rest (token ∷ tokens) =
    let rest = refuses-rest tokens in record { calls = call_of token ∷ rest.calls; is = ap (λ (l : List Outgoing). refused token ∷ l) rest.is }

-- refusals that weigh as much as the tokens
once : (tokens : List ReplyToken) (out : List Outgoing) → Refuses out → AreKept tokens [] out [] → AreRefusedOnce tokens out
once tokens out refuses kept = record {
  calls = refuses.calls;
  refused = refuses.is;
  once = λ weight. let all = kept weight in let same = ap (weight_out weight) refuses.is in let sum = refusals-weight weight refuses.calls in omega arith;
}

-- whatever the desk, each token's request is refused once
pub by_tokens-once : (b : Books) → AreRefusedOnce (b.replied ++ b.parked) (by_tokens b)
by_tokens-once b =
    let held : List Ticket = calls_of (replies_of b.held) in
    let waiting : List Ticket = waiting_calls b.machine.groups in
    let replied : List ReplyToken = after_answering (map refusal held) b.replied in
    let parked : List ReplyToken = after_answering (map refusal waiting) b.parked in
    let both : List Outgoing = answering (map refusal held) b.replied ++ answering (map refusal waiting) b.parked in
    once (b.replied ++ b.parked) (by_tokens b)
    (refuses-both (both ++ map refused replied) (map refused parked)
    (refuses-both both (map refused replied)
    (refuses-both (answering (map refusal held) b.replied) (answering (map refusal waiting) b.parked) (refuses-answering held b.replied) (refuses-answering waiting b.parked))
    (refuses-rest replied))
    (refuses-rest parked))
    (failed-kept b)

-- each token is that of a held reply or of a parked request
pub by_tokens-order : (b : Books) → IsOwed b → by_tokens b ≡ failing b
unfolding failing
by_tokens-order b owed = failed b owed

-- no request is pending
pub none_refused : AreRefusedOnce [] []
none_refused = record { calls = []; refused = refl; once = λ weight. refl }
