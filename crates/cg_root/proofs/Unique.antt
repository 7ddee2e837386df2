-- A disk has one counting root at most, and then neither no root nor a bad one: for the crates above.
use Rattle.std.proofs.Common.{◌≡◌, ℕ, ◌+◌, ◌<◌, sym, ◌∙◌, ap, subst, inl, inr, arith}
use Rattle.cg_disk.specs.Disk.{Image}
use Rattle.cg_gate.specs.Gates.{IsOpen, IsClosed}
use Rattle.cg_root.specs.Slots.{gate_of, other_slot}
use Rattle.cg_root.specs.Roots.{RootAt, CountingRoot, HasNoRoot, IsBroken, HaveOneEpoch, HasBadRoot}
use Rattle.cg_root.specs.Decoding.{root_in}
use Rattle.cg_root.specs.declared.root.Root.{Root}
use Rattle.cg_root.specs.declared.slot.Slot.{Slot}
use Rattle.cg_root.specs.declared.slot.Slot.TheVariants.{Zero, One}
use Rattle.cg_root.proofs.Bodies.{root_in-stored}
use Rattle.cg_root.proofs.Stored.{other_other, slot_cases}

-- a slot has one root
pub RootAt-unique : (image : Image) (sectors : ℕ) (a b : Root) → a.slot ≡ b.slot → RootAt image sectors a → RootAt image sectors b → a ≡ b
RootAt-unique image sectors a b same at bt =
    root_in-stored sectors (image (gate_of a.slot + 1)) a at.body
    ∙ ap (λ (slot : Slot). root_in slot (image (gate_of slot + 1))) same
    ∙ sym (root_in-stored sectors (image (gate_of b.slot + 1)) b bt.body)

-- a root in the other slot than the counting one is older
older_than : (image : Image) (sectors : ℕ) (root other : Root) → CountingRoot image sectors root → other.slot ≡ other_slot root.slot → RootAt image sectors other → other.epoch < root.epoch
older_than image sectors root other counts slot stored = elim counts.newest [
  | inl closed ↦ absurd (closed (subst (λ (s : Slot). IsOpen image (gate_of s)) slot stored.is_open))
  | inr has ↦ subst (λ (r : Root). r.epoch < root.epoch) (RootAt-unique image sectors has.older other (has.slot ∙ sym slot) has.stored stored) has.epoch
]

pub CountingRoot-unique : (image : Image) (sectors : ℕ) (a b : Root) → CountingRoot image sectors a → CountingRoot image sectors b → a ≡ b
CountingRoot-unique image sectors a b ca cb = elim (slot_cases a.slot b.slot) [
  | inl same ↦ RootAt-unique image sectors a b same ca.stored cb.stored
  | inr other ↦
      let less : a.epoch < b.epoch = older_than image sectors b a cb other ca.stored in
      let more : b.epoch < a.epoch = older_than image sectors a b ca (sym (other_other b.slot) ∙ ap other_slot (sym other)) cb.stored in
      absurd (omega arith)
]

open_not_closed : (image : Image) (slot : Slot) → IsOpen image (gate_of slot) → IsClosed image (gate_of Zero) × IsClosed image (gate_of One) → ⊥
open_not_closed image Zero opened closed = closed.0 opened
open_not_closed image One opened closed = closed.1 opened

pub CountingRoot-some : (image : Image) (sectors : ℕ) (root : Root) → CountingRoot image sectors root → HasNoRoot image sectors → ⊥
CountingRoot-some image sectors root counts none = elim none [
  | inl few ↦ absurd (omega (arith, counts.room, few))
  | inr closed ↦ open_not_closed image root.slot counts.stored.is_open closed
]

-- a slot of a disk with a counting root is not broken
not_broken : (image : Image) (sectors : ℕ) (root : Root) (slot : Slot) → CountingRoot image sectors root → IsBroken image sectors slot → ⊥
not_broken image sectors root slot counts broken = elim (slot_cases slot root.slot) [
  | inl same ↦ broken.none root (sym same) counts.stored
  | inr other ↦ elim counts.newest [
    | inl closed ↦ closed (subst (λ (s : Slot). IsOpen image (gate_of s)) other broken.is_open)
    | inr has ↦ broken.none has.older (has.slot ∙ sym other) has.stored
  ]
]

-- nor have both roots one epoch
not_one_epoch : (image : Image) (sectors : ℕ) (root : Root) → CountingRoot image sectors root → HaveOneEpoch image sectors → ⊥
not_one_epoch image sectors root counts have = at root.slot refl_slot
  where
    refl_slot : root.slot ≡ root.slot
    refl_slot = λ i. root.slot

    at : (slot : Slot) → root.slot ≡ slot → ⊥
    at Zero is =
        let same : have.zero_root ≡ root = RootAt-unique image sectors have.zero_root root (have.zero_slot ∙ sym is) have.zero_stored counts.stored in
        let less : have.one_root.epoch < root.epoch = older_than image sectors root have.one_root counts (have.one_slot ∙ ap other_slot (sym is)) have.one_stored in
        let epoch : have.zero_root.epoch ≡ root.epoch = ap (λ (r : Root). r.epoch) same in
        omega (arith, less, epoch, have.one_epoch)
    at One is =
        let same : have.one_root ≡ root = RootAt-unique image sectors have.one_root root (have.one_slot ∙ sym is) have.one_stored counts.stored in
        let less : have.zero_root.epoch < root.epoch = older_than image sectors root have.zero_root counts (have.zero_slot ∙ ap other_slot (sym is)) have.zero_stored in
        let epoch : have.one_root.epoch ≡ root.epoch = ap (λ (r : Root). r.epoch) same in
        omega (arith, less, epoch, have.one_epoch)

pub CountingRoot-good : (image : Image) (sectors : ℕ) (root : Root) → CountingRoot image sectors root → HasBadRoot image sectors → ⊥
CountingRoot-good image sectors root counts has = elim has.bad [
  | inl broken ↦ elim broken [ inl z ↦ not_broken image sectors root Zero counts z | inr o ↦ not_broken image sectors root One counts o ]
  | inr have ↦ not_one_epoch image sectors root counts have
]

pub HasNoRoot-good : (image : Image) (sectors : ℕ) → HasNoRoot image sectors → HasBadRoot image sectors → ⊥
HasNoRoot-good image sectors none has = elim none [
  | inl few ↦ absurd (omega (arith, has.room, few))
  | inr closed ↦ elim has.bad [
    | inl broken ↦ elim broken [ inl z ↦ closed.0 z.is_open | inr o ↦ closed.1 o.is_open ]
    | inr have ↦ closed.0 (subst (λ (s : Slot). IsOpen image (gate_of s)) have.zero_slot have.zero_stored.is_open)
  ]
]
