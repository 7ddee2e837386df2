-- A balanced desk: each pending request has one token, so each reply that leaves finds its token.
use Rattle.cg_desk.specs.Books.{Books}
use Rattle.cg_desk.specs.Made.{IsMade}
use Rattle.cg_desk.specs.Owed.{IsOwed}
use Rattle.cg_desk.specs.States.{State, Failed, Loading, Serving}

-- events made the machine after recovery, and the tokens are those of the pending requests
pub record IsBalanced (b : Books) : Type 0 where
  pub made : IsMade b.machine
  pub owed : IsOwed b

-- a desk that serves is balanced; the others have no pending request
abbrev pub IsBalancedAt : State → Type 0
IsBalancedAt Loading = Unit {0}
IsBalancedAt (Failed numbered settled) = Unit {0}
IsBalancedAt (Serving b) = IsBalanced b
