-- One value alone repeats no key.
use Rattle.std.proofs.Common.{Bool, [], ◌∷◌}
use Rattle.std.specs.List.{IsDistinct}

pub alone : {A : Type 0} (share : A → A → Bool) (x : A) → IsDistinct share (x ∷ [])
unfolding IsDistinct
alone share x = (tt, tt)
