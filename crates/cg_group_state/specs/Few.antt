-- The model of the list type `Few`.
use Rattle.std.specs.Prelude.{◌≡◌, List, length, take}
use Rattle.cg_group_state.specs.declared.few.Items.{Items}
use Rattle.cg_group_state.specs.declared.few.Items.TheVariants.{One, Many}

-- the values in their order
abbrev pub items_of : {T : Type 0} → Items T → List T
items_of (One values) = values
items_of (Many values) = values.items

-- the first list is a prefix of the second
abbrev pub AreFirst : {T : Type 0} → List T → List T → Type 0
AreFirst values all = take (length values) all ≡ values
