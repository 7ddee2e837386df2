-- What `strip_prefix` says of the text after a prefix.
use Rattle.std.proofs.Common.{◌≡◌, ℕ, ◌+◌, List, length, take, drop, Some, None, true, false, sym, ap, ◌∙◌, Option, cond}
use Rattle.std.specs.Option.{option_map, MatchOption}
use Rattle.std.specs.Borrow.{Bor}
use Rattle.std.specs.Str.{bytes_eq}
use Rattle.cg_sim.specs.Text.{behind_of}

pub stripped : (front text : List ℕ) (r : Option (Bor (List ℕ)))
    → MatchOption r (bytes_eq (take (length front) text) front ≡ false)
    (λ x. (bytes_eq (take (length front) text) front ≡ true) × (x.now ≡ drop (length front) text) × (length x.now + length front ≡ length text))
    → option_map (λ rest. rest.now) r ≡ behind_of front text
unfolding behind_of
stripped front text None differs = sym (ap (λ b. cond b (Some (drop (length front) text)) None) differs)
stripped front text (Some x) same = ap Some same.1 ∙ sym (ap (λ b. cond b (Some (drop (length front) text)) None) same.0)
