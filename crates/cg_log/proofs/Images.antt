-- What images carry: that it is one thing, and what agreeing images carry.
use Rattle.std.proofs.Common.{◌≡◌, inl, inr, ℕ, ◌+◌, ◌≤◌, Bool, true, false, List, [], ◌∷◌, sym, ap, ◌∙◌, subst, refl, get_or}
use Rattle.cg_disk.specs.Disk.{Image, Moment, IsImage}
use Rattle.cg_disk.proofs.Moments.{IsImage-content}
use Rattle.cg_gate.specs.Gates.{IsOpen, IsClosed}
use Rattle.cg_gate.specs.Layout.{first_sector}
use Rattle.cg_root.specs.Slots.{gate_of, other_slot}
use Rattle.std.specs.Prelude.{IsTrue, ◌↔◌}
use Rattle.cg_root.specs.declared.root.Root.{Root}
use Rattle.cg_root.proofs.Stored.{CountingRoot-same, HasNoRoot-same, HasBadRoot-same}
use Rattle.cg_root.proofs.Unique.{CountingRoot-unique, CountingRoot-some, CountingRoot-good}
use Rattle.cg_log.specs.Carried.{Content, LogAt, Carries, AllCarry, HoldsContent, tails}
use Rattle.cg_log.specs.Faults.{Tells, IsOutOfReach}
use Rattle.cg_log.specs.Ready.{IsReady, last_id}
use Rattle.cg_log.specs.Segments.{Frames, ids_of, frames_of, counted, end_of_frames, segment_of}
use Rattle.cg_log.specs.declared.fault.LogFault.{LogFault}
use Rattle.cg_log.specs.declared.fault.LogFault.TheVariants as log_fault
use Rattle.cg_log.specs.declared.numbers.TheConstants.{COMMAND_NUMBER_MAX}
use Rattle.cg_log.proofs.Filled.{AreStored-back, AreStored-same, AreStored-unique, HasFramesTo-end, ids_of-push, last_id-push}

-- Images with the same sectors

pub LogAt-same : (a b : Image) (sectors : ℕ) (root : Root) (has : Content) → ((s : ℕ) → b s ≡ a s) → LogAt a sectors root has → LogAt b sectors root has
LogAt-same a b sectors root has same at = record {
  counting = CountingRoot-same a b sectors root (λ slot. record { gate = same _; body = same _ }) at.counting;
  base_ids = at.base_ids;
  tail_ids = at.tail_ids;
  base = AreStored-same a b has.base same at.base;
  tail = AreStored-same a b (tails has) same at.tail;
}

pub Carries-same : (a b : Image) (sectors n : ℕ) (base tail : Frames) → ((s : ℕ) → b s ≡ a s) → Carries a sectors n base tail → Carries b sectors n base tail
Carries-same a b sectors n base tail same c = record {
  root = c.root;
  has = c.has;
  stored = LogAt-same a b sectors c.root c.has same c.stored;
  base_frames = c.base_frames;
  tail_frames = c.tail_frames;
  number = c.number;
  in_range = c.in_range;
}

-- An image carries one thing

pub Carries-unique : (image : Image) (sectors n m : ℕ) (base base' tail tail' : Frames) → Carries image sectors n base tail → Carries image sectors m base' tail' → (n ≡ m) × (base ≡ base') × (tail ≡ tail')
Carries-unique image sectors n m base base' tail tail' c d =
    let root : c.root ≡ d.root = CountingRoot-unique image sectors c.root d.root c.stored.counting d.stored.counting in
    let bases : c.has.base ≡ d.has.base = AreStored-unique image c.has.base d.has.base (sym c.stored.base_ids ∙ ap (λ (r : Root). r.base) root ∙ d.stored.base_ids) c.stored.base d.stored.base in
    let all : tails c.has ≡ tails d.has = AreStored-unique image (tails c.has) (tails d.has) (sym c.stored.tail_ids ∙ ap (λ (r : Root). r.tail) root ∙ d.stored.tail_ids) c.stored.tail d.stored.tail in
    let base_same : base ≡ base' = c.base_frames ∙ ap frames_of bases ∙ sym d.base_frames in
    let tail_same : tail ≡ tail' = c.tail_frames ∙ ap frames_of all ∙ sym d.tail_frames in
    let number : n ≡ m = c.number ∙ (λ i. (root i).base_number + counted (tail_same i)) ∙ sym d.number in
    (number, base_same, tail_same)

-- Why an image carries nothing

pub Tells-same : (a b : Image) (sectors : ℕ) (fault : LogFault) → ((s : ℕ) → b s ≡ a s) → Tells a sectors fault → Tells b sectors fault
Tells-same a b sectors log_fault.Memory same told = tt
Tells-same a b sectors log_fault.Device same told = tt
Tells-same a b sectors log_fault.Full same told = told
Tells-same a b sectors log_fault.BadRoot same told = HasBadRoot-same a b sectors (λ slot. record { gate = same _; body = same _ }) told
Tells-same a b sectors log_fault.BadFrame same told = record {
  root = told.root;
  counting = CountingRoot-same a b sectors told.root (λ slot. record { gate = same _; body = same _ }) told.counting;
  none = λ n base tail c. told.none n base tail (Carries-same b a sectors n base tail (λ s. sym (same s)) c);
}
Tells-same a b sectors log_fault.NoRoot same told = HasNoRoot-same a b sectors (λ slot. record { gate = same _; body = same _ }) told
Tells-same a b sectors log_fault.Failed same told = told

-- A log that was read of a synced disk

-- the gate after the last frame is closed
pub IsClosed-last : (image : Image) (sectors : ℕ) (root : Root) (has : Content) → LogAt image sectors root has → IsClosed image (first_sector (last_id root.tail) + end_of_frames 0 has.last.1)
IsClosed-last image sectors root has at =
    let id : last_id root.tail ≡ has.last.0 = ap last_id at.tail_ids ∙ ap last_id (ids_of-push has.sealed has.last.0 has.last.1) ∙ last_id-push (ids_of has.sealed) has.last.0 in
    let last = (AreStored-back image has.sealed (has.last ∷ []) at.tail).0 in
    subst (λ (k : ℕ). IsClosed image (first_sector k + end_of_frames 0 has.last.1)) (sym id) (HasFramesTo-end image (segment_of has.last.0) has.last.1 last).closed

module _ (m : Moment) (sectors : ℕ) (content : Image) (images : (image : Image) → IsImage m image → (s : ℕ) → image s ≡ content s) (root : Root) (end : ℕ) (has : Content) (stored : LogAt content sectors root has) (end_is : end ≡ end_of_frames 0 has.last.1) where
  pub HoldsContent-read : (number : ℕ) → number ≡ root.base_number + counted (frames_of (tails has)) → HoldsContent m sectors root end number has
  HoldsContent-read number number_is = record {
    keeps = λ image is_image. LogAt-same content image sectors root has (images image is_image) stored;
    end_is = end_is;
    number_is = number_is;
  }

  pub IsReady-read : (is_other_open : Bool) → (IsTrue is_other_open ↔ IsOpen content (gate_of (other_slot root.slot))) → IsReady m sectors root end is_other_open
  IsReady-read is_other_open other = record {
    root_counts = λ image is_image. (LogAt-same content image sectors root has (images image is_image) stored).counting;
    closed = λ image is_image. subst (λ (e : ℕ). IsClosed image (first_sector (last_id root.tail) + e)) (sym end_is) (IsClosed-last image sectors root has (LogAt-same content image sectors root has (images image is_image) stored));
    other_open = λ opened image is_image. ap (λ (l : List ℕ). get_or l 0 0) (images image is_image _) ∙ other.0 opened;
    other_closed = λ shut image is_image opened. absurd (not_both is_other_open shut (other.1 (ap (λ (l : List ℕ). get_or l 0 0) (sym (images image is_image _)) ∙ opened)));
  }
    where
      not_both : (b : Bool) → b ≡ false → b ≡ true → ⊥
      not_both b shut opened = cc

-- What a log that is open, or is not opened, says of images

pub IsOutOfReach-carries : (image : Image) (sectors n : ℕ) (base tail : Frames) (fault : LogFault) → Carries image sectors n base tail → Tells image sectors fault → IsOutOfReach fault
IsOutOfReach-carries image sectors n base tail log_fault.Memory c told = inl refl
IsOutOfReach-carries image sectors n base tail log_fault.Device c told = inr refl
IsOutOfReach-carries image sectors n base tail log_fault.Full c told = absurd told
IsOutOfReach-carries image sectors n base tail log_fault.BadRoot c told = absurd (CountingRoot-good image sectors c.root c.stored.counting told)
IsOutOfReach-carries image sectors n base tail log_fault.BadFrame c told = absurd (told.none n base tail c)
IsOutOfReach-carries image sectors n base tail log_fault.NoRoot c told = absurd (CountingRoot-some image sectors c.root c.stored.counting told)
IsOutOfReach-carries image sectors n base tail log_fault.Failed c told = absurd told

pub Carries-at : (image : Image) (sectors number : ℕ) (root : Root) (has : Content) → LogAt image sectors root has → number ≡ root.base_number + counted (frames_of (tails has)) → number ≤ COMMAND_NUMBER_MAX → Carries image sectors number (frames_of has.base) (frames_of (tails has))
Carries-at image sectors number root has at number_is small = record { root = root; has = has; stored = at; base_frames = refl; tail_frames = refl; number = number_is; in_range = small }

pub AllCarry-holds : (m : Moment) (sectors : ℕ) (root : Root) (end number : ℕ) (has : Content) → number ≤ COMMAND_NUMBER_MAX → HoldsContent m sectors root end number has → AllCarry m sectors number (frames_of has.base) (frames_of (tails has))
AllCarry-holds m sectors root end number has small holds image is = Carries-at image sectors number root has (holds.keeps image is) holds.number_is small

-- a log that was opened has what the content carried
pub carried-opened : (m : Moment) (content : Image) (sectors : ℕ) (root : Root) (end number : ℕ) (has : Content) → ((s : ℕ) → m.content s ≡ content s) → number ≤ COMMAND_NUMBER_MAX → HoldsContent m sectors root end number has → (n : ℕ) (base tail : Frames) → Carries content sectors n base tail → (number ≡ n) × AllCarry m sectors n base tail
carried-opened m content sectors root end number has same small holds n base tail c =
    let all = AllCarry-holds m sectors root end number has small holds in
    let one = Carries-unique m.content sectors number n (frames_of has.base) base (frames_of (tails has)) tail (all m.content (IsImage-content m)) (Carries-same content m.content sectors n base tail same c) in
    (one.0, λ image is. transport_to image (one.0) (one.1) (one.2) (all image is))
  where
    transport_to : (image : Image) → number ≡ n → frames_of has.base ≡ base → frames_of (tails has) ≡ tail → Carries image sectors number (frames_of has.base) (frames_of (tails has)) → Carries image sectors n base tail
    transport_to image a b d c = coe 0 1 (i. Carries image sectors (a i) (b i) (d i)) c
