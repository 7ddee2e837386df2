-- The one content of an image, and what a fault says of it.
use Rattle.std.proofs.Common.{◌≡◌, ◌⊎◌, inl, inr, ℕ, ◌≤◌, ◌++◌, subst, refl}
use Rattle.cg_disk.specs.Disk.{Image}
use Rattle.cg_fold.specs.Durable.{State}
use Rattle.cg_log.specs.Faults.{Tells as LogTells}
use Rattle.cg_log.specs.Segments.{Frames}
use Rattle.cg_log.specs.declared.fault.LogFault.{LogFault}
use Rattle.cg_log.specs.declared.fault.LogFault.TheVariants as log_fault
use Rattle.cg_log.specs.declared.numbers.TheConstants.{COMMAND_NUMBER_MAX}
use Rattle.cg_log.proofs.Images as log
use Rattle.cg_root.proofs.Unique.{CountingRoot-good, CountingRoot-some}
use Rattle.cg_store.specs.Carried.{AreMade, Carries, Spell}
use Rattle.cg_store.specs.Faults.{Tells, of_log}
use Rattle.cg_store.specs.declared.fault.OpenFault.{OpenFault}
use Rattle.cg_store.specs.declared.fault.OpenFault.TheVariants as open_fault
use Rattle.cg_store.proofs.Spelled.{Spell-made, Spell-unique}

-- images with the same sectors carry the same
pub Carries-same : (a b : Image) (sectors n : ℕ) (state : State) → ((s : ℕ) → b s ≡ a s) → Carries a sectors n state → Carries b sectors n state
Carries-same a b sectors n state same c = record { base = c.base; tail = c.tail; log = log.Carries-same a b sectors n c.base c.tail same c.log; spelled = c.spelled }

-- an image has exactly one number and state
pub Carries-unique : (image : Image) (sectors n m : ℕ) (state other : State) → Carries image sectors n state → Carries image sectors m other → (n ≡ m) × (state ≡ other)
Carries-unique image sectors n m state other a b =
    let one = log.Carries-unique image sectors n m a.base b.base a.tail b.tail a.log b.log in
    let frames : a.base ++ a.tail ≡ b.base ++ b.tail = λ i. (one.1) i ++ (one.2) i in
    (one.0, Spell-unique (b.base ++ b.tail) state other (subst (λ (l : Frames). Spell l state) frames a.spelled) b.spelled)

-- the state of an image is made by lawful commands
pub Carries-commands : (image : Image) (sectors n : ℕ) (state : State) → Carries image sectors n state → AreMade state × (n ≤ COMMAND_NUMBER_MAX)
Carries-commands image sectors n state c = (Spell-made (c.base ++ c.tail) state c.spelled, c.log.in_range)

-- an image with content has no damage
pub carried-fault : (image : Image) (sectors n : ℕ) (state : State) (fault : OpenFault) → Carries image sectors n state → Tells image sectors fault → (fault ≡ open_fault.Memory) ⊎ (fault ≡ open_fault.Device)
carried-fault image sectors n state open_fault.Memory c told = inl refl
carried-fault image sectors n state open_fault.Device c told = inr refl
carried-fault image sectors n state open_fault.NoRoot c told = absurd (CountingRoot-some image sectors c.log.root c.log.stored.counting told)
carried-fault image sectors n state open_fault.BadRoot c told = absurd (CountingRoot-good image sectors c.log.root c.log.stored.counting told)
carried-fault image sectors n state open_fault.BadFrame c told = absurd (told.none n c.base c.tail c.log)
carried-fault image sectors n state open_fault.BadRecord c told = absurd (told.none n state c)

-- the fault of a log says the same of an image
pub Tells-of_log : (image : Image) (sectors : ℕ) (fault : LogFault) → LogTells image sectors fault → Tells image sectors (of_log fault)
Tells-of_log image sectors log_fault.Memory told = tt
Tells-of_log image sectors log_fault.Device told = tt
Tells-of_log image sectors log_fault.Full told = absurd told
Tells-of_log image sectors log_fault.BadRoot told = told
Tells-of_log image sectors log_fault.BadFrame told = told
Tells-of_log image sectors log_fault.NoRoot told = told
Tells-of_log image sectors log_fault.Failed told = absurd told
