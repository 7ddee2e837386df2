-- What a gate that is written, and a guarded write, leave.
use Rattle.std.proofs.Common.{◌≡◌, ℕ, zero, ◌+◌, ◌<◌, List, length, get_or, set, replicate, length-set, get_or-set_same, get_or-set_other, sym, ◌∙◌, ap, subst, inl, inr, arith, add-zero}
use Rattle.std.proofs.lemmas.Bool.{cases_eq}
use Rattle.std.proofs.lemmas.List.{get_or-take, length-replicate, take_all}
use Rattle.cg_disk.specs.Disk.{Image, Moment, History, Changes, LeavesOnly, Holds, IsImage, IsSynced, present, sector}
use Rattle.cg_disk.proofs.Bytes.{get_or-zeros}
use Rattle.cg_disk.proofs.Moments.{Changes-present, IsDisturbed-wider, IsSynced-image, AllBut-wider, AllBut-then, LeavesOnly-starts, LeavesOnly-goes_on, AllBut-image}
use Rattle.cg_gate.specs.Gates.{IsClosed, IsOpenGate, IsClosedGate, IsGuarded, GuardedWrite}

first_of_sector : (bytes : List ℕ) → get_or (sector bytes 0) 0 0 ≡ get_or bytes 0 0
unfolding sector
first_of_sector bytes = get_or-take 512 bytes 0 0 (omega arith)

-- the first byte of what was written is the first of the gate
pub first_byte : (image : Image) (at n : ℕ) (bytes : List ℕ) → Holds image at n bytes → 0 < n → get_or (image at) 0 0 ≡ get_or bytes 0 0
first_byte image at n bytes holds some = ap (λ (s : ℕ). get_or (image s) 0 0) (sym (add-zero at)) ∙ ap (λ (l : List ℕ). get_or l 0 0) (holds 0 some) ∙ first_of_sector bytes

-- a sector that was written has the bytes of a buffer of one sector
pub one_sector : (image : Image) (at : ℕ) (bytes : List ℕ) → Holds image at 1 bytes → length bytes ≡ 512 → image at ≡ bytes
unfolding sector
one_sector image at bytes holds long = ap image (sym (add-zero at)) ∙ holds 0 (omega arith) ∙ take_all 512 bytes (omega arith)

-- a synced disk has in each image the gate that it has
pub gate_written : (m : Moment) (at n : ℕ) (bytes : List ℕ) → IsSynced m → Holds m.content at n bytes → 0 < n → (image : Image) → IsImage m image → get_or (image at) 0 0 ≡ get_or bytes 0 0
gate_written m at n bytes synced holds some image is = ap (λ (l : List ℕ). get_or l 0 0) (IsSynced-image m image synced is at) ∙ first_byte m.content at n bytes holds some

pub IsClosed-written : (m : Moment) (at n : ℕ) (bytes : List ℕ) → IsSynced m → Holds m.content at n bytes → 0 < n → IsClosedGate bytes → (image : Image) → IsImage m image → IsClosed image at
IsClosed-written m at n bytes synced holds some closed image is opened = absurd (omega (arith, gate_written m at n bytes synced holds some image is, closed.zeros 0, opened))

pub IsClosedGate-written : (image : Image) (at : ℕ) (bytes : List ℕ) → Holds image at 1 bytes → IsClosedGate bytes → IsClosedGate (image at)
IsClosedGate-written image at bytes holds closed = subst IsClosedGate (sym (one_sector image at bytes holds closed.long)) closed

pub IsOpenGate-written : (image : Image) (at : ℕ) (bytes : List ℕ) → Holds image at 1 bytes → IsOpenGate bytes → IsOpenGate (image at)
IsOpenGate-written image at bytes holds opened = subst IsOpenGate (sym (one_sector image at bytes holds opened.long)) opened

module _ (h0 h1 : History) (gate n : ℕ) (sectors : List ℕ) (first : Changes (gate + 1) n h0 h1) where
  -- while the sectors are written the gate stays closed
  pub GuardedWrite-first : ((image : Image) → IsImage (present h0) image → IsClosed image gate) → LeavesOnly h0 h1 (GuardedWrite (present h0) gate n sectors)
  GuardedWrite-first closed =
      LeavesOnly-goes_on (gate + 1) n h0 h0 h1 (GuardedWrite (present h0) gate n sectors)
      (LeavesOnly-starts h0 (GuardedWrite (present h0) gate n sectors) (λ image is. record { elsewhere = AllBut-image gate (n + 1) (present h0) image is; outcome = inl (closed image is) }))
      first
      (λ image but. record {
        elsewhere = AllBut-wider (gate + 1) n gate (n + 1) (present h0) image (omega arith) (omega arith) but;
        outcome = inl (λ opened. closed but.base but.was (ap (λ (l : List ℕ). get_or l 0 0) (sym (but.below gate (omega arith))) ∙ opened));
      })

  -- while the gate is opened the sectors are as they were written
  pub GuardedWrite-second : (h2 : History) → LeavesOnly h0 h1 (GuardedWrite (present h0) gate n sectors) → Holds (present h1).content (gate + 1) n sectors → IsSynced (present h1) → Changes gate 1 h1 h2 → LeavesOnly h0 h2 (GuardedWrite (present h0) gate n sectors)
  GuardedWrite-second h2 so_far holds synced second =
      LeavesOnly-goes_on gate 1 h0 h1 h2 (GuardedWrite (present h0) gate n sectors) so_far second
      (λ image but. record {
        elsewhere =
            AllBut-then gate (n + 1) (present h0) (present h1) image
            (IsDisturbed-wider (gate + 1) n gate (n + 1) (present h0) (present h1) (omega arith) (omega arith) (Changes-present (gate + 1) n h0 h1 first))
            (AllBut-wider gate 1 gate (n + 1) (present h1) image (omega arith) (omega arith) but);
        outcome = elim (cases_eq (get_or (image gate) 0 0) 1) [
          | inl opened ↦ inr record {
            is_open = opened;
            holds = λ i lt. but.above (gate + 1 + i) (omega arith) ∙ IsSynced-image (present h1) but.base synced but.was (gate + 1 + i) ∙ holds i lt;
          }
          | inr shut ↦ inl shut
        ];
      })

  -- once the gate is open and synced the sectors are in each image
  pub IsGuarded-second : (h2 : History) (bytes : List ℕ) → Holds (present h1).content (gate + 1) n sectors → Changes gate 1 h1 h2 → Holds (present h2).content gate 1 bytes → IsSynced (present h2) → IsOpenGate bytes → (image : Image) → IsImage (present h2) image → IsGuarded image gate n sectors
  IsGuarded-second h2 bytes holds second gate_holds synced opened image is = record {
    is_open = gate_written (present h2) gate 1 bytes synced gate_holds (omega arith) image is ∙ opened.first;
    holds = λ i lt. IsSynced-image (present h2) image synced is (gate + 1 + i) ∙ ((Changes-present gate 1 h1 h2 second).above (gate + 1 + i) (omega arith)).content ∙ holds i lt;
  }

-- The sectors of gates

pub IsClosedGate-zeros : IsClosedGate (replicate 512 0)
IsClosedGate-zeros = record { long = length-replicate {A = ℕ} 512 0; zeros = get_or-zeros 512 }

pub IsOpenGate-set : IsOpenGate (set (replicate 512 0) 0 1)
IsOpenGate-set = record {
  long = length-set {A = ℕ} (replicate 512 0) 0 1 ∙ length-replicate {A = ℕ} 512 0;
  first = get_or-set_same {A = ℕ} (replicate 512 0) 0 1 0 (omega (arith, length-replicate 512 zero));
  zeros = λ i some. get_or-set_other {A = ℕ} (replicate 512 0) 0 i 1 0 (λ same. absurd (omega arith)) ∙ get_or-zeros 512 i;
}
