-- What contracts see of a tree.
use Rattle.std.specs.Prelude.{◌≡◌, ℕ, List, [], ◌∷◌, ◌++◌, None, Some, Option, Box, ⊤}
use Rattle.std.specs.declared.alloc.Global.{Global}
use Rattle.std.specs.declared.cmp.Ordering.{Ordering}
use Rattle.cg_time.specs.Entries.{earliest_of, IsAscending}
use Rattle.cg_time.specs.declared.tree.Branch.{Branch}

-- the entries of a branch, in order
abbrev pub branch_entries : {K : Type 0} → Branch K → List (K × ℕ)
branch_entries b = b.left ++ b.entry ∷ b.right

-- the entries below a box, if there is a box
abbrev pub entries : {K : Type 0} → Option (Box (Option (Branch K)) Global) → List (K × ℕ)
entries None = []
entries (Some b) = elim b.value [ None ↦ [] | Some branch ↦ branch_entries branch ]

-- the keys ascend, and the branch knows the earliest moment
abbrev pub IsTree : {K : Type 0} → (K → K → Ordering) → Option (Box (Option (Branch K)) Global) → Type 0
IsTree cmp None = ⊤
IsTree cmp (Some b) = elim b.value [ None ↦ ⊤ | Some branch ↦ IsAscending cmp (branch_entries branch) × (branch.earliest ≡ earliest_of (branch_entries branch)) ]

-- the branch has the entries of the tree, which ascend, and knows the earliest moment
pub record IsBranchOf {K : Type 0} (cmp : K → K → Ordering) (tree : List (K × ℕ)) (branch : Branch K) : Type 0 where
  pub same_entries : tree ≡ branch_entries branch
  pub ascending : IsAscending cmp tree
  pub earliest : branch.earliest ≡ earliest_of tree
