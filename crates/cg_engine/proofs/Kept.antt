-- An append keeps the book and what every crash image carries.
use Rattle.std.proofs.Common.{◌≡◌, ℕ, ◌+◌, length, Bool, Option, Some, None, Result, Ok, Err, MatchResult, OnOk, OnErr, sym, ◌∙◌, ap, subst, arith}
use Rattle.cg_fold.specs.Durable.{State, after}
use Rattle.cg_record.specs.declared.command.Command.{Command}
use Rattle.cg_store.specs.Store.{disk_of, front_of, sectors_of}
use Rattle.cg_store.specs.declared.store.Store.{Store}
use Rattle.std.specs.Prelude.{List}
use Rattle.cg_engine.specs.Appended.{AreAsMany, appended_in, state_in}
use Rattle.cg_engine.specs.Left.{HasLeft}
use Rattle.cg_engine.specs.Stored.{AllCarryOr, IsKept, Stores}
use Rattle.cg_engine.specs.declared.trail.appended.Appended.{Appended}
use Rattle.cg_disk.specs.Disk.{History}

-- the book and the number of the store grow by the same
pub booked-still : {R E : Type 0} (r : Result R E) (opening old_total new_total old_front new_front k : ℕ) → opening + old_total ≡ old_front
    → MatchResult r (λ _. (new_front ≡ old_front + k) × (new_total ≡ old_total + k)) (λ _. (new_front ≡ old_front) × (new_total ≡ old_total)) → opening + new_total ≡ new_front
booked-still (Ok r) opening old_total new_total old_front new_front k was now = let a = now.0 in let b = now.1 in omega arith
booked-still (Err e) opening old_total new_total old_front new_front k was now = let a = now.0 in let b = now.1 in omega arith

-- the noted commands are as many as the book has units
pub counted-still : {R E : Type 0} (r : Result R E) (was now old_total new_total old_front new_front k : ℕ)
    → MatchResult r (λ _. (new_front ≡ old_front + k) × (new_total ≡ old_total + k)) (λ _. (new_front ≡ old_front) × (new_total ≡ old_total))
    → MatchResult r (λ _. now ≡ was + k) (λ _. now ≡ was)
    → was ≡ old_total → now ≡ new_total
counted-still (Ok r) was now old_total new_total old_front new_front k booked noted counted = let b = booked.1 in omega arith
counted-still (Err e) was now old_total new_total old_front new_front k booked noted counted = let b = booked.1 in omega arith

pub counted-some : (now : Appended) (total : ℕ) → length (appended_in now) ≡ total → AreAsMany (Some now) total
counted-some now total is a same = let e : a ≡ now = cc in ap (λ x. length (appended_in x)) e ∙ is

pub counted-none : (total : ℕ) → AreAsMany None total
counted-none total a same = absurd (cc)

module _ {D : Type 0} {g : _} (honest : D → Bool) (history : D → History) where
  -- where no batch is noted
  pub kept-none : {R E : Type 0} (r : Result R E) (old new : Store D g) (batch : List Command)
      → ((state : State) → Stores honest history old state → OnOk r (Stores honest history new (after state batch)))
      → ((state : State) → Stores honest history old state → OnErr r (Stores honest history new state))
      → IsKept honest history old None → IsKept honest history new None
  kept-none (Ok r) old new batch ok err kept = record { state = after kept.state batch; known = tt; stored = ok kept.state kept.stored }
  kept-none (Err e) old new batch ok err kept = record { state = kept.state; known = tt; stored = err kept.state kept.stored }

  -- where each batch is noted
  pub kept-some : {R E : Type 0} (r : Result R E) (old new : Store D g) (batch : List Command) (was now : Appended)
      → MatchResult r (λ _. state_in now ≡ after (state_in was) batch) (λ _. state_in now ≡ state_in was)
      → ((state : State) → Stores honest history old state → OnOk r (Stores honest history new (after state batch)))
      → ((state : State) → Stores honest history old state → OnErr r (Stores honest history new state))
      → IsKept honest history old (Some was) → IsKept honest history new (Some now)
  kept-some (Ok r) old new batch was now noted ok err kept = record {
    state = after kept.state batch;
    known = noted ∙ ap (λ (s : State). after s batch) kept.known;
    stored = ok kept.state kept.stored;
  }
  kept-some (Err e) old new batch was now noted ok err kept = record { state = kept.state; known = noted ∙ kept.known; stored = err kept.state kept.stored }

  -- what a store leaves on its disk
  pub left-of : (size : D → ℕ) (store : Store D g) (front : ℕ) (disk : D) (appended : Option Appended) → sectors_of store ≡ size (disk_of store) → front ≡ front_of store → disk ≡ disk_of store
      → IsKept honest history store appended → HasLeft honest history size appended disk front
  left-of size store front disk appended size_is front_is disk_is kept =
      let same_disk = sym disk_is in
      let same_front = sym front_is in
      coe 0 1 (i. HasLeft honest history size appended (same_disk i) (same_front i)) (record {
        state = kept.state;
        known = kept.known;
        images = λ now. let stored = kept.stored now in
            (stored.failing, subst (λ (n : ℕ). AllCarryOr (history (disk_of store)) n (front_of store) kept.state stored.failing) size_is stored.images);
      })
