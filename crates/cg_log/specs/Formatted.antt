-- A formatted disk: the first root, and a tail without frames.
use Rattle.std.specs.Prelude.{[], ◌∷◌}
use Rattle.cg_root.specs.declared.root.Root.{Root}
use Rattle.cg_root.specs.declared.slot.Slot.TheVariants.{Zero}
use Rattle.cg_log.specs.Carried.{Content}

-- epoch 1 in slot 0, base number 0, no base, and segment 0 as the tail
abbrev pub first_root : Root
first_root = record { slot = Zero; epoch = 1; base_number = 0; base = []; tail = 0 ∷ [] }

-- no frame
abbrev pub nothing : Content
nothing = record { base = []; sealed = []; last = (0, []) }
