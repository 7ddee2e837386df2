-- A switch: what its root names, and what a crash leaves.
use Rattle.std.proofs.Common.{◌≡◌, ◌⊎◌, inl, inr, ℕ, zero, suc, ◌+◌, ◌-◌, ◌<◌, ◌≤◌, Bool, true, List, [], ◌∷◌, length, take, drop, get_or, refl, sym, ap, ◌∙◌, subst, arith}
use Rattle.std.proofs.lemmas.List.{drop-append-le, length-append, take-append-drop}
use Rattle.cg_disk.specs.Disk.{Image, Moment, History, AllBut, Changes, LeavesOnly, present}
use Rattle.cg_disk.proofs.Moments.{AllBut-disturbed, Changes-present, IsImage-content, LeavesOnly-both, LeavesOnly-changes, LeavesOnly-starts, LeavesOnly-weaker}
use Rattle.cg_gate.specs.Layout.{first_sector}
use Rattle.cg_root.specs.Roots.{CountingRoot, IsOldOrNew, KeepsRoot}
use Rattle.cg_root.specs.Slots.{gate_of, other_slot}
use Rattle.cg_root.specs.declared.root.Root.{Root}
use Rattle.cg_log.specs.Carried.{AllCarry, Carries, Content, HoldsContent, KeepsLog, LogAt, tails}
use Rattle.cg_log.specs.Cursors.{index_of, tails_from}
use Rattle.cg_log.specs.Free.{is_among}
use Rattle.cg_log.specs.Fresh.{HoldsFresh}
use Rattle.cg_log.specs.Ready.{AllClosed, AllOpen, IsReady, last_id}
use Rattle.cg_log.specs.Segments.{AreStored, Filled, counted, frames_of, ids_of}
use Rattle.cg_log.specs.Switched.{CarriesEither, IsSwitchedRoot, number_switched, switched}
use Rattle.cg_log.specs.declared.numbers.TheConstants.{COMMAND_NUMBER_MAX}
use Rattle.cg_log.proofs.Filled.{AreApart-slots, AreStored-apart, AreStored-back, length-ids}
use Rattle.cg_log.proofs.Images.{AllCarry-holds, Carries-at}
use Rattle.cg_log.proofs.Moves.{AllClosed-kept, LogAt-counting}
use Rattle.cg_log.proofs.Taken.{index_of-below}

ids_of-drop : (k : ℕ) (segments : List Filled) → ids_of (drop k segments) ≡ drop k (ids_of segments)
ids_of-drop zero segments = refl
ids_of-drop (suc k) [] = refl
ids_of-drop (suc k) (s ∷ segments) = ids_of-drop k segments

-- the last of the ids from an index on
last_id-drop : (k : ℕ) (xs : List ℕ) → k < length xs → last_id (drop k xs) ≡ last_id xs
last_id-drop zero xs lt = refl
last_id-drop (suc k) [] lt = absurd (omega arith)
last_id-drop (suc k) (x ∷ []) lt = absurd (omega arith)
last_id-drop (suc k) (x ∷ y ∷ xs) lt =
    let next : suc (length (y ∷ xs) - 1) ≡ length (x ∷ y ∷ xs) - 1 = omega arith in
    last_id-drop k (y ∷ xs) (omega arith) ∙ ap (λ (i : ℕ). get_or (x ∷ y ∷ xs) i 0) next

module _ (m : Moment) (sectors : ℕ) (current next : Root) (has : Content) (fresh : List Filled) (ids : List ℕ) (cut base_number end : ℕ) (is : IsSwitchedRoot current ids cut base_number next) (among : is_among cut current.tail ≡ true) (keeps : KeepsLog m sectors current has) (new : HoldsFresh m ids end fresh) where
  abbrev k : ℕ
  k = index_of cut (ids_of (tails has))

  first : LogAt m.content sectors current has
  first = keeps m.content (IsImage-content m)

  k-inside : k ≤ length has.sealed
  k-inside =
      omega (arith, index_of-below cut (ids_of (tails has)) (ap (is_among cut) (sym first.tail_ids) ∙ among), length-ids (tails has), length-append has.sealed (has.last ∷ []))

  pub tails-switched : tails (switched has fresh cut) ≡ tails_from cut has
  tails-switched = sym (drop-append-le k has.sealed (has.last ∷ []) k-inside)

  tail-ids : next.tail ≡ ids_of (tails (switched has fresh cut))
  tail-ids = is.tail ∙ ap (λ (l : List ℕ). drop (index_of cut l) l) first.tail_ids ∙ sym (ids_of-drop k (tails has)) ∙ ap ids_of (sym tails-switched)

  pub LogAt-switched : (image : Image) → AllBut 0 4 m image → CountingRoot image sectors next → LogAt image sectors next (switched has fresh cut)
  LogAt-switched image but counting =
      let was = keeps but.base but.was in
      let front = AreStored-apart but.base image 0 4 (tails has) but.below but.above (AreApart-slots 0 4 (tails has) (omega arith)) was.tail in
      record {
        counting = counting;
        base_ids = is.base ∙ new.ids_are;
        tail_ids = tail-ids;
        base = AreStored-apart but.base image 0 4 fresh but.below but.above (AreApart-slots 0 4 fresh (omega arith)) (new.stored but.base but.was);
        tail = subst (AreStored image) (sym tails-switched) (AreStored-back image (take k (tails has)) (drop k (tails has)) (subst (AreStored image) (sym (take-append-drop k (tails has))) front));
      }

  pub LogAt-either : (image : Image) → AllBut 0 4 m image → IsOldOrNew sectors current next image → LogAt image sectors current has ⊎ LogAt image sectors next (switched has fresh cut)
  LogAt-either image but (inl old) = inl (LogAt-counting m sectors current has 0 4 image keeps but (AreApart-slots 0 4 has.base (omega arith)) (AreApart-slots 0 4 (tails has) (omega arith)) old)
  LogAt-either image but (inr later) = inr (LogAt-switched image but later)

module _ (old new : History) (sectors : ℕ) (current next : Root) (has : Content) (fresh : List Filled) (ids : List ℕ) (cut base_number end fresh_end number : ℕ) (is : IsSwitchedRoot current ids cut base_number next) (among : is_among cut current.tail ≡ true) (holds : HoldsContent (present old) sectors current end number has) (kept : HoldsFresh (present old) ids fresh_end fresh) (change : Changes 0 4 old new) where
  same_tails : tails (switched has fresh cut) ≡ tails_from cut has
  same_tails = tails-switched (present old) sectors current next has fresh ids cut base_number fresh_end is among holds.keeps kept

  number_is : number_switched has cut base_number ≡ next.base_number + counted (frames_of (tails (switched has fresh cut)))
  number_is = omega (arith, is.number, ap (λ (l : List Filled). counted (frames_of l)) same_tails)

  keeps-switched : KeepsRoot (present new) sectors next → KeepsLog (present new) sectors next (switched has fresh cut)
  keeps-switched published image left = LogAt-switched (present old) sectors current next has fresh ids cut base_number fresh_end is among holds.keeps kept image
      (AllBut-disturbed 0 4 (present old) (present new) image (Changes-present 0 4 old new change) left) (published image left)

  -- what an image with the next root carries
  carries-switched : number_switched has cut base_number ≤ COMMAND_NUMBER_MAX → (image : Image) → LogAt image sectors next (switched has fresh cut) → Carries image sectors (number_switched has cut base_number) (frames_of fresh) (frames_of (tails_from cut has))
  carries-switched in_range image at = subst (λ (l : List Filled). Carries image sectors (number_switched has cut base_number) (frames_of fresh) (frames_of l)) same_tails
      (Carries-at image sectors (number_switched has cut base_number) next (switched has fresh cut) at number_is in_range)

  pub content-switched : number_switched has cut base_number ≡ number → KeepsRoot (present new) sectors next → HoldsContent (present new) sectors next end number (switched has fresh cut)
  content-switched sum published = record {
    keeps = keeps-switched published;
    end_is = holds.end_is;
    number_is = sym sum ∙ number_is;
  }

  pub after-switched : number_switched has cut base_number ≤ COMMAND_NUMBER_MAX → KeepsRoot (present new) sectors next → AllCarry (present new) sectors (number_switched has cut base_number) (frames_of fresh) (frames_of (tails_from cut has))
  after-switched in_range published image left = carries-switched in_range image (keeps-switched published image left)

  pub images-switched : number ≤ COMMAND_NUMBER_MAX → number_switched has cut base_number ≤ COMMAND_NUMBER_MAX → LeavesOnly old new (IsOldOrNew sectors current next) → LeavesOnly old new (CarriesEither sectors number has fresh cut base_number)
  images-switched small in_range run = LeavesOnly-weaker old new _ _ (λ image both. elim (LogAt-either (present old) sectors current next has fresh ids cut base_number fresh_end is among holds.keeps kept image both.0 both.1) [
    | inl at ↦ inl (Carries-at image sectors number current has at holds.number_is small)
    | inr at ↦ inr (carries-switched in_range image at)
  ]) (LeavesOnly-both old new _ _ (LeavesOnly-changes 0 4 old new change) run)

pub ready-switched : (old new : History) (sectors : ℕ) (current next : Root) (ids : List ℕ) (cut base_number end : ℕ) (is_other_open : Bool) → IsSwitchedRoot current ids cut base_number next → is_among cut current.tail ≡ true → Changes 0 4 old new → KeepsRoot (present new) sectors next → AllOpen (present new) (gate_of (other_slot next.slot)) → IsReady (present old) sectors current end is_other_open → IsReady (present new) sectors next end true
ready-switched old new sectors current next ids cut base_number end is_other_open is among change published other ready =
    let last : last_id next.tail ≡ last_id current.tail = ap last_id is.tail ∙ last_id-drop (index_of cut current.tail) current.tail (index_of-below cut current.tail among) in
    record {
      root_counts = published;
      closed = subst (λ (k : ℕ). AllClosed (present new) (first_sector k + end)) (sym last)
          (AllClosed-kept 0 4 old new change (first_sector (last_id current.tail) + end) (inr (omega arith)) ready.closed);
      other_open = λ _. other;
      other_closed = λ shut. absurd cc;
    }

-- no call of the device
pub still-switch : (h : History) (sectors : ℕ) (root : Root) (end number : ℕ) (has : Content) (fresh : List Filled) (cut base_number : ℕ) → number ≤ COMMAND_NUMBER_MAX → HoldsContent (present h) sectors root end number has → LeavesOnly h h (CarriesEither sectors number has fresh cut base_number)
still-switch h sectors root end number has fresh cut base_number small holds = LeavesOnly-starts h _ (λ image left. inl (AllCarry-holds (present h) sectors root end number has small holds image left))
