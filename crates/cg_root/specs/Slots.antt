-- Where roots are stored.
use Rattle.std.specs.Prelude.{ℕ}
use Rattle.cg_root.specs.declared.slot.Slot.{Slot}
use Rattle.cg_root.specs.declared.slot.Slot.TheVariants.{Zero, One}

-- the sector of a slot's gate; the body is the sector after it
abbrev pub gate_of : Slot → ℕ
gate_of Zero = 0
gate_of One = 2

abbrev pub other_slot : Slot → Slot
other_slot Zero = One
other_slot One = Zero
