-- Each call of a desk that serves keeps it balanced, so a failure refuses the pending requests in the order of the rule.
use Rattle.std.proofs.Common.{◌≡◌, ℕ, List, [], length, sym, ◌∙◌, ap, subst}
use Rattle.std.specs.Prelude.{Option, Result, Ok, Err, IfOk, OnOk, OnErr, Vec}
use Rattle.std.specs.declared.alloc.Global.{Global}
use Rattle.std.proofs.Math.Logic.{∥∥₁_elim, ∥∥₁_map}
use Rattle.std.proofs.Math.Nat.{ℕ_set}
use Rattle.cg_fold.specs.Durable.{State as Durable}
use Rattle.cg_request.specs.declared.request.Request.{Request}
use Rattle.cg_request.specs.declared.event.Event.TheVariants.{Gone, Tick}
use Rattle.cg_request.specs.Request.{asked}
use Rattle.cg_group_table.specs.GroupTable.{Machine}
use Rattle.cg_group_table.specs.Kept.{AreRecords}
use Rattle.cg_group_table.specs.Recovery.{revive}
use Rattle.cg_store.specs.declared.batch.Batch.{Batch}
use Rattle.cg_desk.specs.Balanced.{IsBalanced, IsBalancedAt}
use Rattle.cg_desk.specs.Books.{Books, Served, IsInFlight, IsTake, failing, returning, served, settling}
use Rattle.cg_desk.specs.Desks.{Answer, Serving, failing_on, opened, request_on}
use Rattle.cg_desk.specs.Owed.{IsOwed}
use Rattle.cg_desk.specs.Serving.{books}
use Rattle.cg_desk.specs.States.{phase_state}
use Rattle.cg_desk.specs.Tokens.{call_of}
use Rattle.cg_desk.specs.declared.desk.Phase.{Phase}
use Rattle.cg_desk.specs.declared.desk.Phase.TheVariants as phase
use Rattle.cg_desk.specs.declared.outgoing.Outgoing.{Outgoing}
use Rattle.cg_desk.specs.declared.serving.Serving.{Serving as ServingDesk}
use Rattle.cg_desk.specs.declared.token.ReplyToken.{ReplyToken}
use Rattle.cg_desk.proofs.Balanced.{loaded, request-balanced, returning-balanced, served-balanced, settling-balanced, taken-balanced}
use Rattle.cg_desk.proofs.CalledEverywhere.{gone-keeps, tick-keeps}

-- a desk that serves is balanced
pub in-serving : (p : Phase) (s : ServingDesk) → p ≡ phase.Serving s → ∥ IsBalancedAt (phase_state p) ∥₁ → ∥ IsBalanced (books s) ∥₁
in-serving p s is h = subst (λ (q : Phase). ∥ IsBalancedAt (phase_state q) ∥₁) is h

owed-prop : (b : Books) → IsProp (IsOwed b)
owed-prop b = hlevel ℕ_set

-- each pending request of a balanced desk has one token
pub owed-in : (b : Books) → ∥ IsBalanced b ∥₁ → IsOwed b
owed-in b h = ∥∥₁_elim h (owed-prop b) (λ (k : IsBalanced b). k.owed)

-- what a failure of a desk sends, if the desk serves
pub failing-in : (p : Phase) (s : ServingDesk) (out : List Outgoing) → p ≡ phase.Serving s → ∥ IsBalancedAt (phase_state p) ∥₁ → (IsOwed (books s) → out ≡ failing (books s)) → out ≡ failing_on (phase_state p)
unfolding failing_on
failing-in p s out is h sends = sends (owed-in (books s) (in-serving p s is h)) ∙ ap (λ (q : Phase). failing_on (phase_state q)) (sym is)

-- a desk that begins to serve
pub loaded-stays : (number : ℕ) (durable : Durable) (now : ℕ) (m : Machine) (s : ServingDesk) (p : Phase) → AreRecords durable → m ≡ revive durable now → books s ≡ opened number m → p ≡ phase.Serving s
    → ∥ IsBalancedAt (phase_state p) ∥₁
loaded-stays number durable now m s p lawful machine is phase_is =
    subst (λ (q : Phase). ∥ IsBalancedAt (phase_state q) ∥₁) (sym phase_is) (∣ subst IsBalanced (sym (is ∙ ap (opened number) machine)) (loaded number durable now lawful) ∣₁)

-- a call that failed changed nothing
stays : {V E : Type 0} (P : V → Type 0) (r : Result V E) (b c : Books) → IfOk r P → OnErr r (c ≡ b) → ((v : V) → P v → IsBalanced b → IsBalanced c) → ∥ IsBalanced b ∥₁ → ∥ IsBalanced c ∥₁
stays P (Ok v) b c ok err keeps h = ∥∥₁_map h (λ (k : IsBalanced b). keeps v ok k)
stays P (Err e) b c ok err keeps h = subst (λ (d : Books). ∥ IsBalanced d ∥₁) (sym err) h

pub request-stays : {E : Type 0} (r : Result (Vec Outgoing Global) E) (b c : Books) (q : Request) (token : ReplyToken) (fresh : List ℕ) (now : ℕ)
    → IfOk r (λ out. request_on (Serving b) token (asked q (call_of token) fresh) now ≡ record { after = Serving c; out = out.items }) → OnErr r (c ≡ b) → ∥ IsBalanced b ∥₁ → ∥ IsBalanced c ∥₁
request-stays r b c q token fresh now ok err h =
    stays (λ (out : Vec Outgoing Global). request_on (Serving b) token (asked q (call_of token) fresh) now ≡ record { after = Serving c; out = out.items }) r b c ok err
    (λ out is k. subst (λ (a : Answer). IsBalancedAt a.after) is (request-balanced (Serving b) q token fresh now k)) h

pub tick-stays : {E : Type 0} (r : Result (Vec Outgoing Global) E) (b c : Books) (now : ℕ)
    → IfOk r (λ out. served b [] Tick now ≡ record { books = c; out = out.items }) → OnErr r (c ≡ b) → ∥ IsBalanced b ∥₁ → ∥ IsBalanced c ∥₁
tick-stays r b c now ok err h =
    stays (λ (out : Vec Outgoing Global). served b [] Tick now ≡ record { books = c; out = out.items }) r b c ok err
    (λ out is k. subst (λ (s : Served). IsBalanced s.books) is (served-balanced b [] Tick now (tick-keeps b.machine now) k)) h

pub gone-stays : {E : Type 0} (r : Result (Vec Outgoing Global) E) (b c : Books) (session now : ℕ)
    → IfOk r (λ out. served b [] (Gone session) now ≡ record { books = c; out = out.items }) → OnErr r (c ≡ b) → ∥ IsBalanced b ∥₁ → ∥ IsBalanced c ∥₁
gone-stays r b c session now ok err h =
    stays (λ (out : Vec Outgoing Global). served b [] (Gone session) now ≡ record { books = c; out = out.items }) r b c ok err
    (λ out is k. subst (λ (s : Served). IsBalanced s.books) is (served-balanced b [] (Gone session) now (gone-keeps b.machine session now) k)) h

pub take-stays : {E : Type 0} (r : Result (Option Batch) E) (b c : Books) → IfOk r (λ o. IsTake b o c) → OnErr r (c ≡ b) → ∥ IsBalanced b ∥₁ → ∥ IsBalanced c ∥₁
take-stays r b c ok err h = stays (λ (o : Option Batch). IsTake b o c) r b c ok err (λ o is k. taken-balanced b c o is k) h

pub give-back-stays : {V E : Type 0} (r : Result V E) (b c : Books) (batch : Batch) → OnOk r (IsInFlight b batch × (c ≡ returning b)) → OnErr r (c ≡ b) → ∥ IsBalanced b ∥₁ → ∥ IsBalanced c ∥₁
give-back-stays (Ok v) b c batch ok err h = ∥∥₁_map h (λ (k : IsBalanced b). subst IsBalanced (sym ok.1) (returning-balanced b k))
give-back-stays (Err e) b c batch ok err h = subst (λ (d : Books). ∥ IsBalanced d ∥₁) (sym err) h

pub settle-stays : {E : Type 0} (r : Result (Vec Outgoing Global) E) (b c : Books) (batch : Batch)
    → IfOk r (λ out. IsInFlight b batch × (settling b (length batch.commands) ≡ record { books = c; out = out.items })) → OnErr r (c ≡ b) → ∥ IsBalanced b ∥₁ → ∥ IsBalanced c ∥₁
settle-stays r b c batch ok err h =
    stays (λ (out : Vec Outgoing Global). IsInFlight b batch × (settling b (length batch.commands) ≡ record { books = c; out = out.items })) r b c ok err
    (λ out is k. subst (λ (s : Served). IsBalanced s.books) is.1 (settling-balanced b (length batch.commands) k)) h
