-- What the slots of a disk hold, and which root counts.
use Rattle.std.proofs.Common.{◌≡◌, ◌≢◌, ◌⊎◌, ℕ, ◌+◌, ◌*◌, ◌<◌, ◌≤◌, Bool, true, false, List, length, drop, get_or, Ok, refl, sym, ◌∙◌, ap, subst, inl, inr, arith, add-zero}
use Rattle.std.specs.Prelude.{◌==◌, nat_lt}
use Rattle.std.proofs.lemmas.Bool.Decides.{nat_tests}
use Rattle.std.proofs.lemmas.List.{length-take, length-drop, get_or-take, get_or-drop}
use Rattle.cg_disk.specs.Disk.{Image, sector}
use Rattle.cg_gate.specs.Gates.{IsClosed}
use Rattle.cg_root.specs.Slots.{gate_of}
use Rattle.cg_root.specs.Roots.{CountingRoot, IsBroken}
use Rattle.cg_root.specs.Decoding.{head_in, root_in, IsRootBody, IsState, greater_epoch, counting_slot}
use Rattle.cg_root.specs.declared.root.Root.{Root}
use Rattle.cg_root.specs.declared.slot.Slot.{Slot}
use Rattle.cg_root.specs.declared.slot.Slot.TheVariants.{Zero, One}
use Rattle.cg_root.specs.declared.slot_state.SlotState.{SlotState}
use Rattle.cg_root.specs.declared.slot_state.SlotState.TheVariants.{Closed, Broken, Stored}
use Rattle.cg_root.proofs.Words.{AreBytes, AreBytes-part}
use Rattle.cg_root.proofs.Bodies.{HasBody-read, IsRootBody-stored}
use Rattle.cg_root.proofs.Stored.{gate_of-small}

-- One slot

module _ (slots : List ℕ) (long : length slots ≡ 2048) (are : AreBytes slots) (sectors : ℕ) (slot : Slot) where
  gate_byte : get_or (sector slots (gate_of slot)) 0 0 ≡ get_or slots (512 * gate_of slot) 0
  unfolding sector
  gate_byte =
      get_or-take 512 (drop (512 * gate_of slot) slots) 0 0 (omega arith) ∙ get_or-drop (512 * gate_of slot) slots 0 0
      ∙ ap (λ (k : ℕ). get_or slots k 0) (add-zero (512 * gate_of slot))

  pub length-body : length (sector slots (gate_of slot + 1)) ≡ 512
  unfolding sector
  length-body = simp (length-take, length-drop) (omega (arith, gate_of-small slot))

  body_bytes : AreBytes (sector slots (gate_of slot + 1))
  unfolding sector
  body_bytes = AreBytes-part slots 512 (512 * (gate_of slot + 1)) are

  pub IsState-closed : get_or slots (512 * gate_of slot) 0 ≢ 1 → IsClosed (sector slots) (gate_of slot)
  IsState-closed shut opened = shut (sym gate_byte ∙ opened)

  pub IsState-stored : get_or slots (512 * gate_of slot) 0 ≡ 1 → IsRootBody sectors (sector slots (gate_of slot + 1)) → IsState (sector slots) sectors slot (Stored (head_in (sector slots (gate_of slot + 1))).epoch)
  IsState-stored opened is = (record { is_open = gate_byte ∙ opened; body = HasBody-read sectors slot (sector slots (gate_of slot + 1)) length-body body_bytes is }, is, refl)

  pub IsState-broken : get_or slots (512 * gate_of slot) 0 ≡ 1 → (IsRootBody sectors (sector slots (gate_of slot + 1)) → ⊥) → IsBroken (sector slots) sectors slot
  IsState-broken opened not = record {
    is_open = gate_byte ∙ opened;
    none = λ root same stored. not (subst (λ (s : Slot). IsRootBody sectors (sector slots (gate_of s + 1))) same (IsRootBody-stored sectors (sector slots (gate_of root.slot + 1)) root stored.body));
  }

-- The greater epoch

pub record Greater (zero_epoch one_epoch : ℕ) (slot : Slot) : Type 0 where
  pub cases : ((slot ≡ One) × (zero_epoch < one_epoch)) ⊎ ((slot ≡ Zero) × (one_epoch < zero_epoch))

greater_cases : (a b : ℕ) (slot : Slot) (same less : Bool) → (a == b) ≡ same → nat_lt a b ≡ less → greater_epoch a b ≡ Ok slot → Greater a b slot
greater_cases a b slot true less is_same is_less ok = absurd (cc ok)
greater_cases a b slot false true is_same is_less ok = record { cases = inl (let e : slot ≡ One = cc in e, let lt : a < b = grind (arith, nat_tests) in lt) }
greater_cases a b slot false false is_same is_less ok = record { cases = inr (let e : slot ≡ Zero = cc in e, let lt : b < a = grind (arith, nat_tests) in lt) }

-- Both slots

module _ (image : Image) (sectors : ℕ) (room : 4 ≤ sectors) where
  abbrev stored_in : Slot → Root
  stored_in slot = root_in slot (image (gate_of slot + 1))

  -- a slot holds the root that counts
  pub record Counts (slot : Slot) : Type 0 where
    pub counting : CountingRoot image sectors (stored_in slot)
    pub body : IsRootBody sectors (image (gate_of slot + 1))

  greater_counts : (a b : ℕ) (slot : Slot) → IsState image sectors Zero (Stored a) → IsState image sectors One (Stored b) → Greater a b slot → Counts slot
  greater_counts a b slot zero_state one_state greater = elim greater.cases [
    | inl one ↦ subst Counts (sym one.0) record {
      counting = record { room = room; stored = one_state.0; newest = inr record { older = stored_in Zero; slot = refl; stored = zero_state.0; epoch = omega (arith, one.1, zero_state.2, one_state.2) } };
      body = one_state.1;
    }
    | inr zero_one ↦ subst Counts (sym zero_one.0) record {
      counting = record { room = room; stored = zero_state.0; newest = inr record { older = stored_in One; slot = refl; stored = one_state.0; epoch = omega (arith, zero_one.1, zero_state.2, one_state.2) } };
      body = zero_state.1;
    }
  ]

  pub counting-counts : (z o : SlotState) (slot : Slot) → IsState image sectors Zero z → IsState image sectors One o → counting_slot z o ≡ Ok slot → Counts slot
  counting-counts Closed Closed slot zs os ok = absurd (cc ok)
  counting-counts Closed Broken slot zs os ok = absurd (cc ok)
  counting-counts Closed (Stored b) slot zs os ok =
      let same : One ≡ slot = cc in
      subst Counts same record { counting = record { room = room; stored = os.0; newest = inl zs }; body = os.1 }
  counting-counts Broken o slot zs os ok = absurd (cc ok)
  counting-counts (Stored a) Closed slot zs os ok =
      let same : Zero ≡ slot = cc in
      subst Counts same record { counting = record { room = room; stored = zs.0; newest = inl os }; body = zs.1 }
  counting-counts (Stored a) Broken slot zs os ok = absurd (cc ok)
  counting-counts (Stored a) (Stored b) slot zs os ok = greater_counts a b slot zs os (greater_cases a b slot (a == b) (nat_lt a b) refl refl ok)
