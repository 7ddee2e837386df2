-- Tokens that go from the parked requests to those with a held reply.
use Rattle.std.proofs.Common.{◌≡◌, ℕ, suc, ◌+◌, ◌<◌, Bool, true, false, List, [], ◌∷◌, ◌++◌, length, get_or, map, drop, refl, ap, sym, ◌∙◌, add-one, append_assoc, drop-cons}
use Rattle.std.proofs.lemmas.List.{append-nil}
use Rattle.std.specs.Prelude.{if◌then◌else◌}
use Rattle.cg_group_state.specs.declared.reply.Reply.{Reply}
use Rattle.cg_request.specs.declared.ticket.Ticket.{Ticket}
use Rattle.cg_desk.specs.Held.{calls_of}
use Rattle.cg_desk.specs.Tokens.{call_of, has_token, token_for, token_of, tokens_for, without, without_all}
use Rattle.cg_desk.specs.declared.token.ReplyToken.{ReplyToken}

-- the loop has moved the tokens of the requests before the remaining ones
pub record Moved (ts : List Ticket) (parked replied : List ReplyToken) (us : List Ticket) (left more : List ReplyToken) : Type 0 where
  pub moved : more ++ tokens_for us left ≡ replied ++ tokens_for ts parked
  pub left_is : without_all us left ≡ without_all ts parked

-- the token with this ticket is what its ticket says
token-is : (token : ReplyToken) (ticket : Ticket) → call_of token ≡ ticket → token ≡ token_of ticket
token-is token ticket is = ap token_of is

for-cons : (t : Ticket) (ts : List Ticket) (tokens : List ReplyToken) → tokens_for (t ∷ ts) tokens ≡ token_for t tokens ++ tokens_for ts (without t tokens)
unfolding tokens_for
for-cons t ts tokens = refl

all-cons : (t : Ticket) (ts : List Ticket) (tokens : List ReplyToken) → without_all (t ∷ ts) tokens ≡ without_all ts (without t tokens)
unfolding without_all
all-cons t ts tokens = refl

for-nil : (tokens : List ReplyToken) → tokens_for [] tokens ≡ []
unfolding tokens_for
for-nil tokens = refl

all-nil : (tokens : List ReplyToken) → without_all [] tokens ≡ tokens
unfolding without_all
all-nil tokens = refl

-- the next request has its token
pub moved_one : (ts us vs : List Ticket) (u : Ticket) (token : ReplyToken) (parked replied left more least most : List ReplyToken) → us ≡ u ∷ vs → Moved ts parked replied us left more
    → call_of token ≡ u → has_token u left ≡ true → least ≡ without u left → most ≡ more ++ token ∷ [] → Moved ts parked replied vs least most
moved_one ts us vs u token parked replied left more least most is so for has taken put =
    let one : token_for u left ≡ token ∷ [] = ap (λ b. let l : List ReplyToken = if b then token_of u ∷ [] else [] in l) has ∙ ap (λ (k : ReplyToken). let l : List ReplyToken = k ∷ [] in l) (sym (token-is token u for)) in
    record {
      moved =
          ap (λ l. l ++ tokens_for vs least) put
          ∙ ap (λ l. (more ++ token ∷ []) ++ tokens_for vs l) taken
          ∙ append_assoc more (token ∷ []) (tokens_for vs (without u left))
          ∙ ap (λ l. more ++ (l ++ tokens_for vs (without u left))) (sym one)
          ∙ ap (λ l. more ++ l) (sym (for-cons u vs left))
          ∙ ap (λ (l : List Ticket). more ++ tokens_for l left) (sym is)
          ∙ so.moved;
      left_is = ap (without_all vs) taken ∙ sym (all-cons u vs left) ∙ ap (λ (l : List Ticket). without_all l left) (sym is) ∙ so.left_is;
    }

-- the next request has none
pub moved_none : (ts us vs : List Ticket) (u : Ticket) (parked replied left more least most : List ReplyToken) → us ≡ u ∷ vs → Moved ts parked replied us left more
    → has_token u left ≡ false → least ≡ without u left → most ≡ more → Moved ts parked replied vs least most
moved_none ts us vs u parked replied left more least most is so has taken put =
    let none : token_for u left ≡ [] = ap (λ b. let l : List ReplyToken = if b then token_of u ∷ [] else [] in l) has in
    record {
      moved =
          ap (λ l. l ++ tokens_for vs least) put
          ∙ ap (λ l. more ++ tokens_for vs l) taken
          ∙ ap (λ l. more ++ (l ++ tokens_for vs (without u left))) (sym none)
          ∙ ap (λ l. more ++ l) (sym (for-cons u vs left))
          ∙ ap (λ (l : List Ticket). more ++ tokens_for l left) (sym is)
          ∙ so.moved;
      left_is = ap (without_all vs) taken ∙ sym (all-cons u vs left) ∙ ap (λ (l : List Ticket). without_all l left) (sym is) ∙ so.left_is;
    }

-- all have moved
pub moved_out : (ts all us : List Ticket) (parked replied left more : List ReplyToken) → ts ≡ all → us ≡ [] → Moved ts parked replied us left more → more ≡ replied ++ tokens_for all parked
moved_out ts all us parked replied left more is none so =
    sym (append-nil more)
    ∙ ap (λ l. more ++ l) (sym (for-nil left))
    ∙ ap (λ (l : List Ticket). more ++ tokens_for l left) (sym none)
    ∙ so.moved
    ∙ ap (λ (l : List Ticket). replied ++ tokens_for l parked) is

pub moved_left : (ts all us : List Ticket) (parked replied left more : List ReplyToken) → ts ≡ all → us ≡ [] → Moved ts parked replied us left more → left ≡ without_all all parked
moved_left ts all us parked replied left more is none so =
    sym (all-nil left) ∙ ap (λ (l : List Ticket). without_all l left) (sym none) ∙ so.left_is ∙ ap (λ (l : List Ticket). without_all l parked) is

-- the tickets from a reply on begin with its own
pub calls_from : (replies : List (Ticket × Reply)) (n : ℕ) (r : Ticket × Reply) → n < length replies → r ≡ get_or replies n r → calls_of (drop n replies) ≡ r.0 ∷ calls_of (drop (n + 1) replies)
calls_from replies n r within here =
    ap calls_of (drop-cons replies n r within ∙ ap (λ (x : Ticket × Reply). x ∷ drop (suc n) replies) (sym here) ∙ ap (λ k. r ∷ drop k replies) (sym (add-one n)))
