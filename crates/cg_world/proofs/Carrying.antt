-- What images carry after a step.
use Rattle.std.proofs.Common.{◌≡◌, inl, inr, ℕ, ◌≤◌, Bool, List, [], ◌++◌, refl, sym, subst, arith}
use Rattle.cg_disk.specs.Disk.{History, Image, LeavesOnly}
use Rattle.cg_disk.proofs.Moments.{LeavesOnly-starts}
use Rattle.cg_fold.specs.Durable.{State}
use Rattle.cg_record.specs.declared.command.Command.{Command}
use Rattle.cg_store.specs.Carried.{Carries, CarriesBeforeOrAfter}
use Rattle.cg_store.specs.Store.{StandsAt, disk_of, front_of, sectors_of}
use Rattle.cg_store.specs.declared.store.Store.{Store}
use Rattle.cg_store.proofs.Standing.{StandsAt-carry}
use Rattle.cg_world.specs.Carrying.{CarriesAtLeast, CarriesFront, HasStored, HoldsAtLeast}

-- the pair plus no commands is the pair
pub carries-none : (sectors n : ℕ) (state : State) (commands : List Command) (image : Image) → Carries image sectors n state → CarriesFront sectors n state commands image
carries-none sectors n state commands image carries = record {
  front = [];
  rest = commands;
  whole = refl;
  carried = subst (λ (k : ℕ). Carries image sectors k state) (sym (omega arith)) carries;
}

-- and as many commands as the pair
pub carries-least : (sectors n : ℕ) (state : State) (count : ℕ) (image : Image) → count ≤ n → Carries image sectors n state → CarriesAtLeast sectors count image
carries-least sectors n state count image enough carries = record { number = n; state = state; enough = enough; carried = carries }

pub carries-either : (sectors n : ℕ) (state : State) (batch rest commands : List Command) → commands ≡ batch ++ rest → (image : Image) → CarriesBeforeOrAfter sectors n state batch image → CarriesFront sectors n state commands image
carries-either sectors n state batch rest commands whole image (inl before) = carries-none sectors n state commands image before
carries-either sectors n state batch rest commands whole image (inr later) = record { front = batch; rest = rest; whole = whole; carried = later }

module _ {D : Type 0} {g : _} (honest : D → Bool) (history : D → History) where
  pub images-stay : (old new : Store D g) (commands : List Command) → disk_of new ≡ disk_of old → (n : ℕ) (state : State) → StandsAt honest history old n state
      → LeavesOnly (history (disk_of old)) (history (disk_of new)) (CarriesFront (sectors_of old) n state commands)
  images-stay old new commands same n state stands =
      subst (λ (d : D). LeavesOnly (history (disk_of old)) (history d) (CarriesFront (sectors_of old) n state commands)) (sym same)
      (LeavesOnly-starts (history (disk_of old)) (CarriesFront (sectors_of old) n state commands) (λ image left. carries-none (sectors_of old) n state commands image (StandsAt-carry honest history old n state stands image left)))

  pub pair-stays : (old new : Store D g) → disk_of new ≡ disk_of old → (n : ℕ) (state : State) → StandsAt honest history old n state
      → LeavesOnly (history (disk_of old)) (history (disk_of new)) (λ image. Carries image (sectors_of old) n state)
  pair-stays old new same n state stands =
      subst (λ (d : D). LeavesOnly (history (disk_of old)) (history d) (λ image. Carries image (sectors_of old) n state)) (sym same)
      (LeavesOnly-starts (history (disk_of old)) (λ image. Carries image (sectors_of old) n state) (λ image left. StandsAt-carry honest history old n state stands image left))

  pub stored-none : (new : Store D g) (commands rest : List Command) → commands ≡ rest → (n : ℕ) (state : State) → StandsAt honest history new n state → HasStored honest history new n state commands rest
  stored-none new commands rest same n state stands = record { front = []; whole = same; stands = subst (λ (k : ℕ). StandsAt honest history new k state) (sym (omega arith)) stands }

  pub holds-at : (new : Store D g) (sectors count n : ℕ) (state : State) → sectors_of new ≡ sectors → count ≤ front_of new → StandsAt honest history new n state → HoldsAtLeast sectors count (history (disk_of new))
  holds-at new sectors count n state same enough stands image left = record {
    number = n;
    state = state;
    enough = omega (arith, enough, stands.front_is);
    carried = subst (λ (k : ℕ). Carries image k n state) same (StandsAt-carry honest history new n state stands image left);
  }
