-- A world after its opening.
use Rattle.std.proofs.Common.{◌≡◌, ℕ, Bool, subst}
use Rattle.cg_disk.specs.Disk.{History}
use Rattle.cg_fold.specs.Durable.{State}
use Rattle.cg_world.specs.Opening.{IsOpened}
use Rattle.cg_world.specs.declared.world.World.{World}

pub same-opened : {D : Type 0} {g : _} (honest : D → Bool) (history : D → History) (now : ℕ) (world : World D g) (m n : ℕ) (s state : State) → m ≡ n → s ≡ state
    → IsOpened honest history now world m s → IsOpened honest history now world n state
same-opened honest history now world m n s state same alike is =
    subst (λ (k : ℕ). IsOpened honest history now world k state) same (subst (λ (t : State). IsOpened honest history now world m t) alike is)
