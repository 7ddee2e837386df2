-- What contracts see of an index of deadlines.
use Rattle.std.specs.Prelude.{ℕ, List, refl}
use Rattle.std.specs.Coded.{Coded, code_by, coded×, coded_ℕ, coded_list}

-- the entries in ascending order of the keys, and the number of keys that can be added without an allocation
pub record Schedule (K : Type 0) : Type 0 where
  pub entries : List (K × ℕ)
  pub spare : ℕ

-- a schedule is stored as the pair of its fields
abbrev pub schedule_code : {K : Type 0} → Coded K → Coded (Schedule K)
schedule_code {K} k = code_by (List (K × ℕ) × ℕ) (coded× (coded_list (coded× k coded_ℕ)) coded_ℕ) (λ s. (s.entries, s.spare)) (λ p. record { entries = p.0; spare = p.1 }) (λ _. refl)
