-- What a loading finds, and what its faults say.
use Rattle.std.proofs.Common.{◌≡◌, ◌≢◌, ◌⊎◌, ℕ, ◌∙◌, ap, inl, inr}
use Rattle.cg_fold.specs.Durable.{State, counts_of}
use Rattle.cg_store.specs.declared.fault.OpenFault.{OpenFault}
use Rattle.cg_store.specs.declared.fault.OpenFault.TheVariants as opening
use Rattle.cg_engine.specs.Faults.{of_opening}
use Rattle.cg_engine.specs.Loads.{IsPassing, found}
use Rattle.cg_engine.specs.declared.fault.LoadFault.{LoadFault}
use Rattle.cg_engine.specs.declared.fault.LoadFault.TheVariants.{Loaded}

pub passing-of : (fault : OpenFault) (told : LoadFault) → told ≡ of_opening fault → (fault ≡ opening.Memory) ⊎ (fault ≡ opening.Device) → IsPassing told
passing-of fault told is (inl e) = inl (is ∙ ap of_opening e)
passing-of fault told is (inr e) = inr (is ∙ ap of_opening e)

not-loaded : (fault : OpenFault) → of_opening fault ≢ Loaded
not-loaded opening.Memory = λ e. cc
not-loaded opening.Device = λ e. cc
not-loaded opening.NoRoot = λ e. cc
not-loaded opening.BadRoot = λ e. cc
not-loaded opening.BadFrame = λ e. cc
not-loaded opening.BadRecord = λ e. cc

pub never-loaded : (fault : OpenFault) (told : LoadFault) → told ≡ of_opening fault → told ≢ Loaded
never-loaded fault told is = λ e. let no = not-loaded fault in no (cc)

pub found-is : (a n : ℕ) (s state : State) (r : ℕ × ℕ) → a ≡ n → s ≡ state → r ≡ counts_of s → (a, r.0, r.1) ≡ found n state
found-is a n s state r e f h i = (e i, ((h ∙ ap counts_of f) i).0, ((h ∙ ap counts_of f) i).1)
