-- Lists in which no key comes twice.
use Rattle.std.specs.Prelude.{ℕ, ◌≤◌, Bool, List, length}
use Rattle.std.specs.List.{IsDistinct}

-- `least` to `most` values, no two of which share a key
pub record AreDistinct {A : Type 0} (share : A → A → Bool) (least most : ℕ) (items : List A) : Type 0 where
  pub some : least ≤ length items
  pub few : length items ≤ most
  pub distinct : IsDistinct share items
