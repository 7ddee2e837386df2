-- What ends a script, but for a failed read or write.
use Rattle.std.proofs.Common.{◌≡◌, ℕ, inl, inr, List, [], Option, None, Some, Result, Ok, Err, IfErr, sym, subst, append-nil}
use Rattle.std.specs.Io.KnownBytes.{Appends}
use Rattle.cg_sim.specs.Ending.{IsCause}
use Rattle.cg_sim.specs.declared.stop.Stop.{Stop}
use Rattle.cg_sim.specs.declared.stop.Stop.TheVariants.{Io, Memory}

-- no line ends a script by a failed read or write
no_cause : (number : ℕ) → IsCause number Io → ⊥
no_cause number (inl is) = cc is
no_cause number (inr (inl is)) = cc is
no_cause number (inr (inr is)) = cc is

pub not_io : {A : Type 0} (r : Result A Stop) (number : ℕ) → IfErr r (λ stop. IsCause number stop) → r ≡ Err Io → ⊥
not_io r number cause is = no_cause number (subst (λ q. IfErr q (λ stop. IsCause number stop)) is cause)

pub memory_cause : {A : Type 0} (r : Result A Stop) (number : ℕ) → IfErr r (λ stop. stop ≡ Memory) → IfErr r (λ stop. IsCause number stop)
memory_cause (Ok x) number memory = tt
memory_cause (Err stop) number memory = inl memory

-- nothing was written
pub appends_nothing : (a : Option (List ℕ)) → Appends a a []
appends_nothing None = tt
appends_nothing (Some xs) = sym (append-nil xs)
