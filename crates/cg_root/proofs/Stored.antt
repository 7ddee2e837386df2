-- Roots in images that agree, and what a closed gate and a published root leave: for the crates above.
use Rattle.std.proofs.Common.{◌≡◌, ◌<◌, ◌⊎◌, ℕ, ◌+◌, ◌≤◌, List, length, take, get_or, refl, sym, ◌∙◌, ap, subst, inl, inr, arith, add-zero}
use Rattle.std.proofs.lemmas.Bool.{cases_eq}
use Rattle.std.proofs.lemmas.List.{take_all}
use Rattle.cg_disk.specs.Disk.{Image, Moment, AllBut, Holds, IsImage, sector}
use Rattle.cg_gate.specs.Gates.{IsOpen, IsClosed, IsGuarded, GuardedWrite}
use Rattle.cg_root.specs.Slots.{gate_of, other_slot}
use Rattle.cg_root.specs.Roots.{root_body, HasBody, HasOlder, IsLawful, IsNewest, RootAt, CountingRoot, HasNoRoot, IsBroken, HaveOneEpoch, HasBadRoot, KeepsRoot, Published, IsOldOrNew}
use Rattle.cg_root.specs.declared.root.Root.{Root}
use Rattle.cg_root.specs.declared.slot.Slot.{Slot}
use Rattle.cg_root.specs.declared.slot.Slot.TheVariants.{Zero, One}

-- Slots

pub other_other : (slot : Slot) → other_slot (other_slot slot) ≡ slot
other_other Zero = refl
other_other One = refl

pub gate_of-small : (slot : Slot) → gate_of slot ≤ 2
gate_of-small Zero = omega arith
gate_of-small One = omega arith

-- a slot is this one or the other
pub slot_cases : (a b : Slot) → (a ≡ b) ⊎ (a ≡ other_slot b)
slot_cases Zero Zero = inl refl
slot_cases Zero One = inr refl
slot_cases One Zero = inr refl
slot_cases One One = inl refl

-- two images have one slot
pub record SameSlot (a b : Image) (slot : Slot) : Type 0 where
  pub gate : b (gate_of slot) ≡ a (gate_of slot)
  pub body : b (gate_of slot + 1) ≡ a (gate_of slot + 1)

-- the other slot is as it was
pub SameSlot-other : (slot : Slot) (n : ℕ) (m : Moment) (image : Image) → n ≤ 2 → (but : AllBut (gate_of slot) n m image) → SameSlot but.base image (other_slot slot)
SameSlot-other Zero n m image le but = record { gate = but.above 2 (omega arith); body = but.above 3 (omega arith) }
SameSlot-other One n m image le but = record { gate = but.below 0 (omega arith); body = but.below 1 (omega arith) }

-- Roots in slots that agree

pub IsOpen-same : (a b : Image) (slot : Slot) → SameSlot a b slot → IsOpen a (gate_of slot) → IsOpen b (gate_of slot)
IsOpen-same a b slot same opened = ap (λ (l : List ℕ). get_or l 0 0) same.gate ∙ opened

pub IsClosed-same : (a b : Image) (slot : Slot) → SameSlot a b slot → IsClosed a (gate_of slot) → IsClosed b (gate_of slot)
IsClosed-same a b slot same closed opened = closed (ap (λ (l : List ℕ). get_or l 0 0) (sym same.gate) ∙ opened)

pub RootAt-same : (a b : Image) (sectors : ℕ) (root : Root) → SameSlot a b root.slot → RootAt a sectors root → RootAt b sectors root
RootAt-same a b sectors root same stored = record {
  is_open = IsOpen-same a b root.slot same stored.is_open;
  body = subst (λ (l : List ℕ). HasBody sectors l root) (sym same.body) stored.body;
}

pub HasOlder-same : (a b : Image) (sectors : ℕ) (root : Root) → SameSlot a b (other_slot root.slot) → HasOlder a sectors root → HasOlder b sectors root
HasOlder-same a b sectors root same has = record {
  older = has.older;
  slot = has.slot;
  stored = RootAt-same a b sectors has.older (subst (SameSlot a b) (sym has.slot) same) has.stored;
  epoch = has.epoch;
}

pub IsNewest-same : (a b : Image) (sectors : ℕ) (root : Root) → SameSlot a b (other_slot root.slot) → IsNewest a sectors root → IsNewest b sectors root
IsNewest-same a b sectors root same newest = elim newest [
  | inl closed ↦ inl (IsClosed-same a b (other_slot root.slot) same closed)
  | inr older ↦ inr (HasOlder-same a b sectors root same older)
]

-- images that agree in both slots have one counting root
pub CountingRoot-same : (a b : Image) (sectors : ℕ) (root : Root) → ((slot : Slot) → SameSlot a b slot) → CountingRoot a sectors root → CountingRoot b sectors root
CountingRoot-same a b sectors root same counts = record {
  room = counts.room;
  stored = RootAt-same a b sectors root (same root.slot) counts.stored;
  newest = IsNewest-same a b sectors root (same (other_slot root.slot)) counts.newest;
}

-- the next root is newer than the one that counts
pub IsNewest-next : (image : Image) (sectors : ℕ) (root next : Root) → CountingRoot image sectors root → next.slot ≡ other_slot root.slot → root.epoch < next.epoch → IsNewest image sectors next
IsNewest-next image sectors root next counts slot less = inr record { older = root; slot = sym (other_other root.slot) ∙ ap other_slot (sym slot); stored = counts.stored; epoch = less }

-- Closing the other gate

module _ (m : Moment) (sectors : ℕ) (root : Root) (image : Image) (keeps : KeepsRoot m sectors root) (but : AllBut (gate_of (other_slot root.slot)) 1 m image) where
  -- its body is as it was
  other_body : image (gate_of (other_slot root.slot) + 1) ≡ but.base (gate_of (other_slot root.slot) + 1)
  other_body = but.above (gate_of (other_slot root.slot) + 1) (omega arith)

  -- the older root is still stored there where the gate is open
  HasOlder-open : IsOpen image (gate_of (other_slot root.slot)) → HasOlder but.base sectors root → HasOlder image sectors root
  HasOlder-open opened has = record {
    older = has.older;
    slot = has.slot;
    stored = record {
      is_open = subst (λ (slot : Slot). IsOpen image (gate_of slot)) (sym has.slot) opened;
      body = subst (λ (l : List ℕ). HasBody sectors l has.older) (sym (subst (λ (slot : Slot). image (gate_of slot + 1) ≡ but.base (gate_of slot + 1)) (sym has.slot) other_body)) has.stored.body;
    };
    epoch = has.epoch;
  }

  pub CountingRoot-closing : ((base : Image) → IsImage m base → IsOpen base (gate_of (other_slot root.slot))) → CountingRoot image sectors root
  CountingRoot-closing were_open =
      let counts = keeps but.base but.was in
      let same : SameSlot but.base image root.slot = subst (SameSlot but.base image) (other_other root.slot) (SameSlot-other (other_slot root.slot) 1 m image (omega arith) but) in
      record {
        room = counts.room;
        stored = RootAt-same but.base image sectors root same counts.stored;
        newest = elim (cases_eq (get_or (image (gate_of (other_slot root.slot))) 0 0) 1) [
          | inl opened ↦ elim counts.newest [
            | inl closed ↦ absurd (closed (were_open but.base but.was))
            | inr older ↦ inr (HasOlder-open opened older)
          ]
          | inr shut ↦ inl shut
        ];
      }

-- Publishing

-- a body that was written is that of its root
pub RootAt-guarded : (sectors : ℕ) (next : Root) (body : List ℕ) (image : Image) → length body ≡ 512 → take (length (root_body next)) body ≡ root_body next → IsLawful sectors next → IsGuarded image (gate_of next.slot) 1 body → RootAt image sectors next
unfolding sector
RootAt-guarded sectors next body image long begins lawful guarded =
    let stored : image (gate_of next.slot + 1) ≡ body = ap image (sym (add-zero (gate_of next.slot + 1))) ∙ guarded.holds 0 (omega arith) ∙ take_all 512 body (omega arith) in
    record { is_open = guarded.is_open; body = subst (λ (l : List ℕ). HasBody sectors l next) (sym stored) record { body_is = begins; lawful = lawful } }

pub Published-guarded : (m : Moment) (sectors : ℕ) (next : Root) (body : List ℕ) (image : Image) → length body ≡ 512 → take (length (root_body next)) body ≡ root_body next → IsLawful sectors next → GuardedWrite m (gate_of next.slot) 1 body image → Published m sectors next image
Published-guarded m sectors next body image long begins lawful write = record {
  elsewhere = write.elsewhere;
  outcome = elim write.outcome [ inl closed ↦ inl closed | inr guarded ↦ inr (RootAt-guarded sectors next body image long begins lawful guarded) ];
}

-- the new root counts in each image that has it, if none was newer
pub CountingRoot-published : (m : Moment) (sectors : ℕ) (next : Root) (image : Image) → 4 ≤ sectors → ((base : Image) → IsImage m base → IsNewest base sectors next) → AllBut (gate_of next.slot) 2 m image → RootAt image sectors next → CountingRoot image sectors next
CountingRoot-published m sectors next image room newest but stored = record {
  room = room;
  stored = stored;
  newest = IsNewest-same but.base image sectors next (SameSlot-other next.slot 2 m image (omega arith) but) (newest but.base but.was);
}

-- the old root is in the other slot, since this one's gate was closed
slot_of_old : (base : Image) (sectors : ℕ) (old next : Root) → IsClosed base (gate_of next.slot) → RootAt base sectors old → old.slot ≡ other_slot next.slot
slot_of_old base sectors old next closed stored = elim (slot_cases old.slot next.slot) [
  | inl same ↦ absurd (closed (subst (λ (slot : Slot). IsOpen base (gate_of slot)) same stored.is_open))
  | inr other ↦ other
]

pub IsOldOrNew-published : (m : Moment) (sectors : ℕ) (old next : Root) (image : Image) → 4 ≤ sectors → ((base : Image) → IsImage m base → IsClosed base (gate_of next.slot)) → ((base : Image) → IsImage m base → IsNewest base sectors next) → KeepsRoot m sectors old → Published m sectors next image → IsOldOrNew sectors old next image
IsOldOrNew-published m sectors old next image room closed newest keeps published =
    let but = published.elsewhere in
    let counts = keeps but.base but.was in
    let slot : old.slot ≡ other_slot next.slot = slot_of_old but.base sectors old next (closed but.base but.was) counts.stored in
    let same : SameSlot but.base image old.slot = subst (SameSlot but.base image) (sym slot) (SameSlot-other next.slot 2 m image (omega arith) but) in
    let back : next.slot ≡ other_slot old.slot = sym (other_other next.slot) ∙ ap other_slot (sym slot) in
    elim published.outcome [
      | inl shut ↦ inl record {
        room = room;
        stored = RootAt-same but.base image sectors old same counts.stored;
        newest = inl (subst (λ (s : Slot). IsClosed image (gate_of s)) back shut);
      }
      | inr stored ↦ inr (CountingRoot-published m sectors next image room newest but stored)
    ]

-- Disks that agree in both slots

pub SameSlot-sym : (a b : Image) (slot : Slot) → SameSlot a b slot → SameSlot b a slot
SameSlot-sym a b slot same = record { gate = sym same.gate; body = sym same.body }

-- sectors that were read
pub SameSlot-read : (content : Image) (slots : List ℕ) → Holds content 0 4 slots → (slot : Slot) → SameSlot (sector slots) content slot
SameSlot-read content slots holds Zero = record { gate = holds 0 (omega arith); body = holds 1 (omega arith) }
SameSlot-read content slots holds One = record { gate = holds 2 (omega arith); body = holds 3 (omega arith) }

module _ (a b : Image) (sectors : ℕ) (same : (slot : Slot) → SameSlot a b slot) where
  pub HasNoRoot-same : HasNoRoot a sectors → HasNoRoot b sectors
  HasNoRoot-same none = elim none [ inl few ↦ inl few | inr closed ↦ inr (IsClosed-same a b Zero (same Zero) closed.0, IsClosed-same a b One (same One) closed.1) ]

  IsBroken-same : (slot : Slot) → IsBroken a sectors slot → IsBroken b sectors slot
  IsBroken-same slot broken = record {
    is_open = IsOpen-same a b slot (same slot) broken.is_open;
    none = λ root at stored. broken.none root at (RootAt-same b a sectors root (SameSlot-sym a b root.slot (same root.slot)) stored);
  }

  HaveOneEpoch-same : HaveOneEpoch a sectors → HaveOneEpoch b sectors
  HaveOneEpoch-same have = record {
    zero_root = have.zero_root;
    one_root = have.one_root;
    zero_slot = have.zero_slot;
    one_slot = have.one_slot;
    zero_stored = RootAt-same a b sectors have.zero_root (same have.zero_root.slot) have.zero_stored;
    one_stored = RootAt-same a b sectors have.one_root (same have.one_root.slot) have.one_stored;
    one_epoch = have.one_epoch;
  }

  pub HasBadRoot-same : HasBadRoot a sectors → HasBadRoot b sectors
  HasBadRoot-same has = record {
    room = has.room;
    bad = elim has.bad [
      | inl broken ↦ inl (elim broken [ inl zero_slot ↦ inl (IsBroken-same Zero zero_slot) | inr one_slot ↦ inr (IsBroken-same One one_slot) ])
      | inr have ↦ inr (HaveOneEpoch-same have)
    ];
  }
