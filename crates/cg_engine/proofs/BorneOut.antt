-- What the end of an engine shows of its trail.
use Rattle.std.proofs.Common.{◌≡◌, ◌+◌, ◌∙◌, ℕ, Bool, List, Option, Some, None, MatchOption, ap, length, refl, subst, sym}
use Rattle.std.proofs.Math.Logic.{∥∥₁_map}
use Rattle.cg_disk.specs.Disk.{History}
use Rattle.cg_fold.specs.Durable.{State, after, folded}
use Rattle.cg_record.specs.declared.command.Command.{Command}
use Rattle.cg_trail.specs.Trails.{TrailParts}
use Rattle.cg_engine.specs.Appended.{AreAsMany, appended_in}
use Rattle.cg_engine.specs.BorneOut.{AreCounted, IsBorneOut, IsTested, IsTestedBy}
use Rattle.cg_engine.specs.Left.{Leaves, LeftIn}
use Rattle.cg_engine.specs.Recorders.{trail_of}
use Rattle.cg_engine.specs.declared.trail.appended.Appended.{Appended}
use Rattle.cg_engine.specs.declared.pass.SessionPass.{SessionPass}
use Rattle.cg_engine.specs.declared.trail.recorder.Recorder.{Recorder}
use Rattle.cg_engine.specs.declared.trail.recorder.Recorder.TheVariants.{Off, Waiting, On, Lost}

module _ {D : Type 0} (honest : D → Bool) (history : D → History) (size : D → ℕ) where
  -- without the commands that were noted
  pub forgot : (appended : Option Appended) (disk : Option D) (front : ℕ) → Leaves honest history size appended disk front → Leaves honest history size None disk front
  forgot appended None front leaves = leaves
  forgot appended (Some disk) front leaves = record { state = leaves.state; known = tt; images = leaves.images }

  module _ {L : Type 0} (appended : Option Appended) (passes : List (SessionPass L)) (opening since unpaid : ℕ) where
    borne : (t : TrailParts) (disk : Option D) (front : ℕ) → front ≡ opening + since → AreAsMany appended since → IsTested t appended since passes unpaid
        → Leaves honest history size appended disk front → IsBorneOut honest history size t passes disk front
    borne = by-noted appended
      where
        counted : (a : Appended) → length (appended_in a) ≡ since → AreCounted since passes unpaid → AreCounted (length (appended_in a)) passes unpaid
        counted a long is = long ∙ is

        number : (a : Appended) (front : ℕ) → length (appended_in a) ≡ since → front ≡ opening + since → front ≡ opening + length (appended_in a)
        number a front long is = is ∙ ap (λ n. opening + n) (sym long)

        by-noted : (noted : Option Appended) (t : TrailParts) (disk : Option D) (front : ℕ) → front ≡ opening + since → AreAsMany noted since → IsTested t noted since passes unpaid
            → Leaves honest history size noted disk front → IsBorneOut honest history size t passes disk front
        by-noted None t disk front is many tested leaves = absurd tested.1
        by-noted (Some a) t None front is many tested leaves =
            record {
              lawful = tested.0;
              answers = tested.2;
              appended = appended_in a;
              begun = tested.1.1;
              images = leaves;
              opening = opening;
              unpaid = unpaid;
              number = number a front (many a refl) is;
              counted = counted a (many a refl) tested.3;
            }
        by-noted (Some a) t (Some disk) front is many tested leaves =
            record {
              lawful = tested.0;
              answers = tested.2;
              appended = appended_in a;
              begun = tested.1.1;
              images = subst (λ (s : State). LeftIn honest history size disk front s)
                  (sym leaves.known ∙ ap (λ (loaded : List Command). after (folded loaded) (appended_in a)) (sym tested.1.0)) leaves.images;
              opening = opening;
              unpaid = unpaid;
              number = number a front (many a refl) is;
              counted = counted a (many a refl) tested.3;
            }

    pub borne-out : (r : Recorder) (trail : Option TrailParts) (disk : Option D) (front : ℕ) → trail ≡ trail_of r → front ≡ opening + since → AreAsMany appended since
        → IsTestedBy r appended since passes unpaid → ∥ Leaves honest history size appended disk front ∥₁ → MatchOption trail (Unit {0}) (λ t. ∥ IsBorneOut honest history size t passes disk front ∥₁)
    borne-out Off trail disk front is number many tested leaves = rw is tt
    borne-out Waiting trail disk front is number many tested leaves = rw is tt
    borne-out Lost trail disk front is number many tested leaves = rw is tt
    borne-out (On t) trail disk front is number many tested leaves = rw is (∥∥₁_map leaves (borne t disk front number many tested))
