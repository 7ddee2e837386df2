-- The cut of a compaction, and what a store says of it.
use Rattle.std.proofs.Common.{◌≡◌, sym, ap, ◌∙◌, refl, None, Result, Ok, Err}
use Rattle.std.specs.Prelude.{OnOk, OnErr}
use Rattle.std.specs.Option.{ForSome}
use Rattle.cg_store.specs.Compacting.{cut_in, phase_in}
use Rattle.cg_store.specs.Phases.{phase_after}
use Rattle.cg_store.specs.declared.compaction.Compaction.{Compaction}
use Rattle.cg_store.specs.declared.compaction.Compaction.TheVariants as is
use Rattle.cg_store.specs.declared.compaction.Cut.{Cut}
use Rattle.cg_store.specs.declared.fault.CompactFault.{CompactFault}
use Rattle.cg_store.specs.declared.phase.Phase.{Phase}
use Rattle.cg_store.specs.declared.phase.Phase.TheVariants as phase
use Rattle.cg_store.specs.declared.phase.Progress.{Progress}
use Rattle.cg_store.specs.declared.phase.Progress.TheVariants.{More, Done}

-- no compaction has no cut
pub none-cut : (compaction : Compaction) → phase_in compaction ≡ phase.Idle → cut_in compaction ≡ None
none-cut is.Idle idle = refl
none-cut (is.Reading reading) idle = absurd (cc)
none-cut (is.Writing writing) idle = absurd (cc)
none-cut (is.Ready cut) idle = absurd (cc)

pub cut-begun : {T E : Type 0} (r : Result T E) (old new : Compaction) (P : Cut → Type 0) → OnOk r (ForSome (cut_in new) P) → OnErr r (new ≡ old) → phase_in old ≡ phase.Idle → ForSome (cut_in new) P
cut-begun (Ok x) old new P begun same idle = begun
cut-begun (Err e) old new P begun same idle = λ cut some.
    let none : cut_in new ≡ None = ap cut_in same ∙ none-cut old idle in
    absurd (cc)

-- where it stays, what is said of it may change
pub cut-kept : {T E : Type 0} (r : Result T E) (old new : Compaction) (P Q : Cut → Type 0) → OnOk r (cut_in new ≡ cut_in old) → OnErr r (new ≡ is.Idle) → ((cut : Cut) → P cut → Q cut)
    → ForSome (cut_in old) P → ForSome (cut_in new) Q
cut-kept (Ok x) old new P Q same over weaker known = λ cut some. weaker cut (known cut (sym same ∙ some))
cut-kept (Err e) old new P Q same over weaker known = λ cut some.
    let none : cut_in new ≡ None = ap cut_in over in
    absurd (cc)

-- ---- a compaction that wrote on

pub write-idle : (r : Result Progress CompactFault) (p : Phase) (T : Type 0) → p ≡ phase_after phase.Ready phase.Writing r → OnErr r T → p ≡ phase.Idle → T
write-idle (Ok More) p T is over idle = absurd (cc)
write-idle (Ok Done) p T is over idle = absurd (cc)
write-idle (Err fault) p T is over idle = over

pub write-reading : (r : Result Progress CompactFault) (p : Phase) (T : Type 0) → p ≡ phase_after phase.Ready phase.Writing r → OnErr r T → p ≡ phase.Reading → T
write-reading (Ok More) p T is over reading = absurd (cc)
write-reading (Ok Done) p T is over reading = absurd (cc)
write-reading (Err fault) p T is over reading = over
