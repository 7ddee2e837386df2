-- Facts with one proof at most.
use Rattle.std.proofs.Common.{◌≡◌, ℕ, ◌<◌, Bool, true, false, List, sym, ◌∙◌, ap, subst, inl, inr}
use mathlib.Core.HLevel.{is_prop→PathP}
use Rattle.std.proofs.Props.{props}
use Rattle.std.specs.List.{IsDistinct-prop}
use Rattle.cg_disk.specs.Disk.{Image, Moment}
use Rattle.cg_gate.specs.Gates.{IsOpen, IsClosed}
use Rattle.cg_root.specs.Roots.{AreSegments, RootAt, HasOlder, IsNewest, CountingRoot, IsLawful}
use Rattle.cg_root.specs.Slots.{gate_of, other_slot}
use Rattle.cg_root.specs.declared.root.Root.{Root}
use Rattle.cg_root.specs.declared.slot.Slot.{Slot}
use Rattle.cg_log.specs.Fresh.{IsFreshReady}
use Rattle.cg_log.specs.Ready.{IsReady}
use Rattle.cg_root.proofs.Unique.{RootAt-unique}

IsClosed-prop : (image : Image) (gate : ℕ) → IsProp (IsClosed image gate)
IsClosed-prop image gate = hlevel props

RootAt-prop : (image : Image) (sectors : ℕ) (root : Root) → IsProp (RootAt image sectors root)
RootAt-prop image sectors root = hlevel (props, IsDistinct-prop)

-- what is known of an older root
abbrev IsOlder : Image → ℕ → Root → Root → Type 0
IsOlder image sectors root older = (older.slot ≡ other_slot root.slot) × RootAt image sectors older × (older.epoch < root.epoch)

IsOlder-prop : (image : Image) (sectors : ℕ) (root older : Root) → IsProp (IsOlder image sectors root older)
IsOlder-prop image sectors root older = hlevel (props, IsDistinct-prop)

HasOlder-prop : (image : Image) (sectors : ℕ) (root : Root) → IsProp (HasOlder image sectors root)
HasOlder-prop image sectors root a b =
    let same : a.older ≡ b.older = RootAt-unique image sectors a.older b.older (a.slot ∙ sym b.slot) a.stored b.stored in
    let rest = is_prop→PathP (λ i. IsOlder image sectors root (same i)) (λ i. IsOlder-prop image sectors root (same i)) (a.slot, a.stored, a.epoch) (b.slot, b.stored, b.epoch) in
    λ i. record { older = same i; slot = (rest i).0; stored = (rest i).1; epoch = (rest i).2 }

not_both : (image : Image) (sectors : ℕ) (root : Root) → IsClosed image (gate_of (other_slot root.slot)) → HasOlder image sectors root → ⊥
not_both image sectors root closed has = closed (subst (λ (s : Slot). IsOpen image (gate_of s)) has.slot has.stored.is_open)

IsNewest-prop : (image : Image) (sectors : ℕ) (root : Root) → IsProp (IsNewest image sectors root)
IsNewest-prop image sectors root (inl a) (inl b) = ap inl (IsClosed-prop image (gate_of (other_slot root.slot)) a b)
IsNewest-prop image sectors root (inl a) (inr b) = absurd (not_both image sectors root a b)
IsNewest-prop image sectors root (inr a) (inl b) = absurd (not_both image sectors root b a)
IsNewest-prop image sectors root (inr a) (inr b) = ap inr (HasOlder-prop image sectors root a b)

pub CountingRoot-prop : (image : Image) (sectors : ℕ) (root : Root) → IsProp (CountingRoot image sectors root)
CountingRoot-prop image sectors root = hlevel (props, RootAt-prop, IsNewest-prop)

pub IsReady-prop : (m : Moment) (sectors : ℕ) (root : Root) (end : ℕ) (is_other_open : Bool) → IsProp (IsReady m sectors root end is_other_open)
IsReady-prop m sectors root end is_other_open = hlevel (props, CountingRoot-prop)

pub IsLawful-prop : (sectors : ℕ) (root : Root) → IsProp (IsLawful sectors root)
IsLawful-prop sectors root = hlevel (props, IsDistinct-prop)

-- the same of a log that has not failed, on an honest disk
pub ready-prop : (has_failed is_honest : Bool) (m : Moment) (sectors : ℕ) (root : Root) (end : ℕ) (is_other_open : Bool) → IsProp (has_failed ≡ false → is_honest ≡ true → IsReady m sectors root end is_other_open)
ready-prop has_failed is_honest m sectors root end is_other_open = hlevel (IsReady-prop m sectors root end is_other_open)

pub AreSegments-prop : (n : ℕ) (ids : List ℕ) → IsProp (AreSegments n ids)
AreSegments-prop n ids = hlevel (props, IsDistinct-prop)

pub fresh_ready-prop : (has_failed is_honest : Bool) (m : Moment) (ids : List ℕ) (end : ℕ) → IsProp (has_failed ≡ false → is_honest ≡ true → IsFreshReady m ids end)
fresh_ready-prop has_failed is_honest m ids end = hlevel props
