-- Calls that may fail.
use Rattle.std.proofs.Common.{◌≡◌, true, false, Result, Ok, Err, is_ok, is_err, OnOk, refl}

-- a fact if a call did not fail
pub OnOk-from : {T E : Type 0} (r : Result T E) (P : Type 0) → (is_err r ≡ false → P) → OnOk r P
OnOk-from (Ok x) P there = there refl
OnOk-from (Err e) P there = tt

pub is_ok-from_is_err : {T E : Type 0} (r : Result T E) → is_err r ≡ false → is_ok r ≡ true
is_ok-from_is_err (Ok x) same = refl
is_ok-from_is_err (Err e) same = cc
