-- Replies leave in their order.
use Rattle.std.proofs.Common.{◌≡◌, ℕ, suc, ◌+◌, ◌-◌, ◌<◌, ◌≤◌, List, [], ◌∷◌, ◌++◌, length, get_or, map, take, drop, cond, true, false, refl, ap, sym, ◌∙◌, arith, leb, append_assoc}
use Rattle.std.proofs.lemmas.List.{append-nil}
use Rattle.std.specs.Prelude.{nat_lt}
use Rattle.std.proofs.lemmas.Bool.{le-leb, lt-leb, ltb-true}
use Rattle.cg_group_state.specs.declared.reply.Reply.{Reply}
use Rattle.cg_request.specs.declared.ticket.Ticket.{Ticket}
use Rattle.cg_desk.specs.declared.pending_replies.HeldStep.{HeldStep}
use Rattle.cg_desk.specs.declared.outgoing.Outgoing.{Outgoing}
use Rattle.cg_desk.specs.declared.token.ReplyToken.{ReplyToken}
use Rattle.cg_desk.specs.Answering.{after_answering, answering, answering_one, refusal, refused}
use Rattle.cg_desk.specs.Books.{Books, Served, letting_go}
use Rattle.cg_desk.specs.Held.{calls_of, is_waiting, last_replies, leaving_of, ready, released, still_held}
use Rattle.cg_desk.specs.Origins.{sent}
use Rattle.cg_desk.specs.Outgoings.{ticket_of}
use Rattle.cg_desk.specs.Tokens.{without}

pub answering-nil : (tokens : List ReplyToken) → answering [] tokens ≡ []
unfolding answering
answering-nil tokens = refl

pub answering-cons : (r : Outgoing) (rs : List Outgoing) (tokens : List ReplyToken) → answering (r ∷ rs) tokens ≡ answering_one r tokens ++ answering rs (without (ticket_of r) tokens)
unfolding answering
answering-cons r rs tokens = refl

pub after-nil : (tokens : List ReplyToken) → after_answering [] tokens ≡ tokens
unfolding after_answering
after-nil tokens = refl

pub after-cons : (r : Outgoing) (rs : List Outgoing) (tokens : List ReplyToken) → after_answering (r ∷ rs) tokens ≡ after_answering rs (without (ticket_of r) tokens)
unfolding after_answering
after-cons r rs tokens = refl

pub after-append : (rs qs : List Outgoing) (tokens : List ReplyToken) → after_answering (rs ++ qs) tokens ≡ after_answering qs (after_answering rs tokens)
unfolding after_answering
after-append [] qs tokens = refl
after-append (r ∷ rs) qs tokens = after-append rs qs (without (ticket_of r) tokens)

pub answering-append : (rs qs : List Outgoing) (tokens : List ReplyToken) → answering (rs ++ qs) tokens ≡ answering rs tokens ++ answering qs (after_answering rs tokens)
unfolding answering after_answering
answering-append [] qs tokens = refl
answering-append (r ∷ rs) qs tokens =
    ap (λ out. answering_one r tokens ++ out) (answering-append rs qs (without (ticket_of r) tokens))
    ∙ sym (append_assoc (answering_one r tokens) (answering rs (without (ticket_of r) tokens)) (answering qs (after_answering rs (without (ticket_of r) tokens))))

-- the loop has sent the replies before the remaining ones
pub record Told (rs : List Outgoing) (tokens : List ReplyToken) (out : List Outgoing) (qs : List Outgoing) (left : List ReplyToken) (more : List Outgoing) : Type 0 where
  pub told : more ++ answering qs left ≡ out ++ answering rs tokens
  pub kept : after_answering qs left ≡ after_answering rs tokens

pub told_then : {rs qs ps : List Outgoing} {tokens left last : List ReplyToken} {out more most : List Outgoing} → Told rs tokens out qs left more → Told qs left more ps last most → Told rs tokens out ps last most
told_then a b = record { told = b.told ∙ a.told; kept = b.kept ∙ a.kept }

-- the first replies are sent
pub told_many : (items rs qs : List Outgoing) (tokens left : List ReplyToken) (out more : List Outgoing) → items ≡ rs ++ qs → left ≡ after_answering rs tokens → more ≡ out ++ answering rs tokens
    → Told items tokens out qs left more
told_many items rs qs tokens left out more is taken grown = record {
  told =
      ap (λ l. l ++ answering qs left) grown
      ∙ ap (λ t. (out ++ answering rs tokens) ++ answering qs t) taken
      ∙ append_assoc out (answering rs tokens) (answering qs (after_answering rs tokens))
      ∙ ap (λ l. out ++ l) (sym (answering-append rs qs tokens))
      ∙ ap (λ l. out ++ answering l tokens) (sym is);
  kept = ap (after_answering qs) taken ∙ sym (after-append rs qs tokens) ∙ ap (λ l. after_answering l tokens) (sym is);
}

answering-single : (r : Outgoing) (tokens : List ReplyToken) → answering (r ∷ []) tokens ≡ answering_one r tokens
answering-single r tokens = answering-cons r [] tokens ∙ ap (λ l. answering_one r tokens ++ l) (answering-nil (without (ticket_of r) tokens)) ∙ append-nil (answering_one r tokens)

after-single : (r : Outgoing) (tokens : List ReplyToken) → after_answering (r ∷ []) tokens ≡ without (ticket_of r) tokens
after-single r tokens = after-cons r [] tokens ∙ after-nil (without (ticket_of r) tokens)

-- the first reply is sent
pub told_one : (items rs : List Outgoing) (r : Outgoing) (tokens left : List ReplyToken) (out more : List Outgoing) → items ≡ r ∷ rs → left ≡ without (ticket_of r) tokens → more ≡ out ++ answering_one r tokens
    → Told items tokens out rs left more
told_one items rs r tokens left out more is taken grown =
    told_many items (r ∷ []) rs tokens left out more is (taken ∙ sym (after-single r tokens)) (grown ∙ ap (λ l. out ++ l) (sym (answering-single r tokens)))

-- all replies are sent
pub told_out : {rs all qs out more : List Outgoing} {tokens left : List ReplyToken} → rs ≡ all → qs ≡ [] → Told rs tokens out qs left more → more ≡ out ++ answering all tokens
told_out {out = out} {more = more} {tokens = tokens} {left = left} is none told =
    sym (append-nil more)
    ∙ ap (λ l. more ++ l) (sym (answering-nil left))
    ∙ ap (λ l. more ++ answering l left) (sym none)
    ∙ told.told
    ∙ ap (λ l. out ++ answering l tokens) is

pub told_tokens : {rs all qs out more : List Outgoing} {tokens left : List ReplyToken} → rs ≡ all → qs ≡ [] → Told rs tokens out qs left more → left ≡ after_answering all tokens
told_tokens {tokens = tokens} {left = left} is none told =
    sym (after-nil left) ∙ ap (λ l. after_answering l left) (sym none) ∙ told.kept ∙ ap (λ l. after_answering l tokens) is

pub front_is : {X : Type 0} (items rest : List X) (x : X) → 0 < length items → x ≡ get_or items 0 x → rest ≡ drop 1 items → items ≡ x ∷ rest
front_is [] rest x some front behind = absurd (omega arith)
front_is (y ∷ ys) rest x some front behind = cc

ready-front : (settled : ℕ) (step : HeldStep) (rest : List HeldStep) → step.origin.need ≤ settled → ready settled (step ∷ rest) ≡ suc (ready settled rest)
ready-front settled step rest passes = ap (λ b. cond b (1 + ready settled rest) 0) (le-leb step.origin.need settled passes) ∙ omega arith

pub released-front : (settled : ℕ) (step : HeldStep) (rest items : List HeldStep) → items ≡ step ∷ rest → step.origin.need ≤ settled → released settled items ≡ map (sent step.origin) step.replies ++ released settled rest
released-front settled step rest items is passes =
    ap (released settled) is ∙ ap (λ n. leaving_of (take n (step ∷ rest))) (ready-front settled step rest passes)

pub still-front : (settled : ℕ) (step : HeldStep) (rest items : List HeldStep) → items ≡ step ∷ rest → step.origin.need ≤ settled → still_held settled items ≡ still_held settled rest
still-front settled step rest items is passes =
    ap (still_held settled) is ∙ ap (λ n. drop n (step ∷ rest)) (ready-front settled step rest passes)

-- if the first held step has to wait, no reply leaves
pub ready-none : (settled : ℕ) (step : HeldStep) (items : List HeldStep) → 0 < length items → step ≡ get_or items 0 step → settled < step.origin.need → ready settled items ≡ 0
ready-none settled step [] some front waits = absurd (omega arith)
ready-none settled step (s ∷ items) some front waits =
    ap (λ (h : HeldStep). cond (leb h.origin.need settled) (1 + ready settled items) 0) (sym front)
    ∙ ap (λ b. cond b (1 + ready settled items) 0) (lt-leb step.origin.need settled waits)

pub none-released : (settled : ℕ) (items : List HeldStep) → ready settled items ≡ 0 → released settled items ≡ []
none-released settled items none = ap (λ n. leaving_of (take n items)) none

pub all-held : (settled : ℕ) (items : List HeldStep) → ready settled items ≡ 0 → still_held settled items ≡ items
all-held settled items none = ap (λ n. drop n items) none

-- the refusals of two lists of replies
pub refusals-append : (rs qs : List (Ticket × Reply)) → map refusal (calls_of (rs ++ qs)) ≡ map refusal (calls_of rs) ++ map refusal (calls_of qs)
refusals-append [] qs = refl
refusals-append (r ∷ rs) qs = ap (λ l. refusal r.0 ∷ l) (refusals-append rs qs)

-- the requests of held replies are refused, then the parked ones, then the rest of both
pub all_refused : (calls waiting : List Ticket) (r0 r1 p0 p1 : List ReplyToken) (out0 out1 out2 out3 out4 : List Outgoing) → out0 ≡ []
    → out1 ≡ out0 ++ answering (map refusal calls) r0 → r1 ≡ after_answering (map refusal calls) r0
    → out2 ≡ out1 ++ answering (map refusal waiting) p0 → p1 ≡ after_answering (map refusal waiting) p0
    → out3 ≡ out2 ++ map refused r1 → out4 ≡ out3 ++ map refused p1
    → out4 ≡ answering (map refusal calls) r0 ++ answering (map refusal waiting) p0 ++ map refused (after_answering (map refusal calls) r0) ++ map refused (after_answering (map refusal waiting) p0)
all_refused calls waiting r0 r1 p0 p1 out0 out1 out2 out3 out4 empty o1 k1 o2 k2 o3 o4 =
    let both : List Outgoing = answering (map refusal calls) r0 ++ answering (map refusal waiting) p0 in
    o4
    ∙ ap (λ l. l ++ map refused p1) (o3 ∙ ap (λ l. l ++ map refused r1) (o2 ∙ ap (λ l. l ++ answering (map refusal waiting) p0) (o1 ∙ ap (λ l. l ++ answering (map refusal calls) r0) empty)))
    ∙ ap (λ t. both ++ map refused t ++ map refused p1) k1
    ∙ ap (λ t. both ++ map refused (after_answering (map refusal calls) r0) ++ map refused t) k2

pub front_waits : (settled : ℕ) (items : List HeldStep) (next : HeldStep) → 0 < length items → next ≡ get_or items 0 next → is_waiting settled items ≡ nat_lt settled next.origin.need
front_waits settled [] next some front = absurd (omega arith)
front_waits settled (x ∷ xs) next some front = ap (λ (h : HeldStep). nat_lt settled h.origin.need) (sym front)

-- if held replies do not wait after more were appended, they did not wait before
pub was_waiting : (settled : ℕ) (items more : List HeldStep) → is_waiting settled (items ++ more) ≡ false → is_waiting settled items ≡ false
was_waiting settled [] more free = refl
was_waiting settled (x ∷ xs) more free = free

waiting-ready : (settled : ℕ) (items : List HeldStep) → is_waiting settled items ≡ true → ready settled items ≡ 0
waiting-ready settled [] waits = refl
waiting-ready settled (x ∷ xs) waits = ap (λ b. cond b (1 + ready settled xs) 0) (lt-leb x.origin.need settled (ltb-true settled x.origin.need waits))

-- if the first held step has to wait, the desk is unchanged and no reply leaves
pub nothing_leaves : (b : Books) → is_waiting b.settled b.held ≡ true → letting_go b ≡ (let s : Served = record { books = b; out = [] } in s)
unfolding letting_go answering after_answering
nothing_leaves b waits =
    let none = waiting-ready b.settled b.held waits in
    ap (λ (rs : List Outgoing). let s : Served = record { books = record b { held = still_held b.settled b.held; replied = after_answering rs b.replied }; out = answering rs b.replied } in s) (none-released b.settled b.held none)
    ∙ ap (λ (hs : List HeldStep). let s : Served = record { books = record b { held = hs }; out = [] } in s) (all-held b.settled b.held none)

-- the replies of the last held step
last-front : (x y : HeldStep) (ys : List HeldStep) → last_replies (x ∷ y ∷ ys) ≡ last_replies (y ∷ ys)
unfolding last_replies
last-front x y ys = refl

pub last-one : (x : HeldStep) → last_replies (x ∷ []) ≡ x.replies
unfolding last_replies
last-one x = refl

pub last_none : (items : List HeldStep) → length items ≡ 0 → last_replies items ≡ []
unfolding last_replies
last_none [] none = refl
last_none (x ∷ xs) none = absurd (omega arith)

pub last_is : (items : List HeldStep) (last : HeldStep) → 0 < length items → last ≡ get_or items (length items - 1) last → last_replies items ≡ last.replies
last_is [] last some is = absurd (omega arith)
last_is (x ∷ []) last some is = last-one x ∙ ap (λ (h : HeldStep). h.replies) (sym is)
last_is (x ∷ y ∷ ys) last some is =
    let behind : length (x ∷ y ∷ ys) - 1 ≡ suc (length (y ∷ ys) - 1) = omega arith in
    last-front x y ys ∙ last_is (y ∷ ys) last (omega arith) (is ∙ ap (λ i. get_or (x ∷ y ∷ ys) i last) behind)
