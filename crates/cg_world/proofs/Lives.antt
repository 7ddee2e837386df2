-- Runs and lives in a row.
use Rattle.std.proofs.Common.{◌≡◌, ◌⊎◌, inl, inr, ℕ, ◌+◌, ◌≤◌, Bool, true, false, List, [], ◌∷◌, ◌++◌, append_assoc, append-nil, length, length-append, refl, sym, ap, ◌∙◌, subst, arith}
use Rattle.cg_disk.specs.Disk.{History, Image, IsImage, IsSynced, LeavesOnly, Stays, present}
use Rattle.cg_disk.proofs.Moments.{LeavesOnly-present, LeavesOnly-synced, LeavesOnly-weaker}
use Rattle.cg_fold.specs.Durable.{State as Durable, after}
use Rattle.cg_record.specs.declared.command.Command.{Command}
use Rattle.cg_store.specs.Carried.{Carries}
use Rattle.cg_store.specs.Store.{StandsAt, disk_of, sectors_of}
use Rattle.cg_store.proofs.Whole.{Carries-same, Carries-unique}
use Rattle.cg_desk.specs.Desks.{Serving, opened, settled_of}
use Rattle.cg_group_table.specs.Recovery.{revive}
use Rattle.cg_world.specs.Agreeing.{is_serving}
use Rattle.cg_world.specs.Carrying.{CarriesAtLeast, CarriesFront}
use Rattle.cg_world.specs.Lives.{AreLives, AreRuns, IsLife, Life, LifeKeeps, LivesKeep, NeverFalls, NothingSettledIsLost, Ran, numbered_by, world_after}
use Rattle.cg_world.specs.Opening.{IsOpened}
use Rattle.cg_world.specs.Running.{IsRun, went}
use Rattle.cg_world.specs.Runs.{made_by, to_store, unstored, unstored_at}
use Rattle.cg_world.specs.Sights.{Sight, sight, store_of}
use Rattle.cg_world.specs.Faults.{stopped_by_device}
use Rattle.cg_world.specs.declared.step.Step.{Step}
use Rattle.cg_world.specs.declared.trace.Trace.{Trace}
use Rattle.cg_world.specs.declared.world.World.{World}
use Rattle.cg_world.proofs.Going.{pair-moves}
use Rattle.cg_world.proofs.Settling.{run-rests}

-- an image carries the pair plus a prefix of these commands, and no fewer than were settled
pub record Leaves (sectors n : ℕ) (state : Durable) (commands : List Command) (settled : ℕ) (image : Image) : Type 0 where
  pub front : List Command
  pub rest : List Command
  pub whole : commands ≡ front ++ rest
  pub enough : settled ≤ n + length front
  pub carried : Carries image sectors (n + length front) (after state front)

-- the same image carries one pair
both-leave : (sectors n : ℕ) (state : Durable) (commands : List Command) (settled : ℕ) (image : Image) → CarriesFront sectors n state commands image → CarriesAtLeast sectors settled image → Leaves sectors n state commands settled image
both-leave sectors n state commands settled image carries least =
    let same = Carries-unique image sectors least.number (n + length carries.front) least.state (after state carries.front) least.carried carries.carried in
    record { front = carries.front; rest = carries.rest; whole = carries.whole; enough = omega (arith, least.enough, same.0); carried = carries.carried }

-- after commands that are stored
leaves-behind : (sectors n : ℕ) (state : Durable) (first commands all : List Command) (settled : ℕ) (image : Image) → all ≡ first ++ commands
    → Leaves sectors (n + length first) (after state first) commands settled image → Leaves sectors n state all settled image
leaves-behind sectors n state first commands all settled image is leaves = record {
  front = first ++ leaves.front;
  rest = leaves.rest;
  whole = is ∙ ap (λ (l : List Command). first ++ l) leaves.whole ∙ sym (append_assoc first leaves.front leaves.rest);
  enough = omega (arith, leaves.enough, length-append first leaves.front);
  carried = pair-moves (λ k s. Carries image sectors k s) n state first leaves.front leaves.carried;
}

-- before commands that are not
leaves-more : (sectors n : ℕ) (state : Durable) (commands more : List Command) (settled : ℕ) (image : Image) → Leaves sectors n state commands settled image → Leaves sectors n state (commands ++ more) settled image
leaves-more sectors n state commands more settled image leaves = record {
  front = leaves.front;
  rest = leaves.rest ++ more;
  whole = ap (λ (l : List Command). l ++ more) leaves.whole ∙ append_assoc leaves.front leaves.rest more;
  enough = leaves.enough;
  carried = leaves.carried;
}

store-parts : (ps : _) (w : Sight) → to_store ps w ≡ unstored w ++ made_by ps w
unfolding to_store
store-parts ps w = refl

module _ {D : Type 0} {g : _} (honest : D → Bool) (history : D → History) (sectors n : ℕ) (state : Durable) where
  -- the store has all commands so far but those that the world has not stored
  pub record Sound (commands : List Command) (world : World D g) : Type 0 where
    pub front : List Command
    pub whole : commands ≡ front ++ unstored (sight world)
    pub size : sectors_of (store_of world) ≡ sectors
    pub stands : StandsAt honest history (store_of world) (n + length front) (after state front)

  -- the world has failed
  pub record Broken (commands : List Command) (world : World D g) : Type 0 where
    pub failed : is_serving (sight world).desk ≡ false
    pub images : (image : Image) → IsImage (present (history (disk_of (store_of world)))) image → Leaves sectors n state commands (settled_of (sight world).desk) image

  -- a run of a world that has not failed, and whatever a crash in it leaves
  module _ (commands : List Command) (old new : World D g) (steps : List Step) (trace : Trace) (run : IsRun honest history steps old new trace) where
    pub made : List Command
    made = made_by (went steps trace) (sight old)

    pub sound-crash : Sound commands old → (k : ℕ) → (history (disk_of (store_of old))).now ≤ k → k ≤ (history (disk_of (store_of new))).now → (image : Image) → IsImage ((history (disk_of (store_of new))).at k) image
        → Leaves sectors n state (commands ++ made) (settled_of (sight old).desk) image
    unfolding made
    sound-crash sound k from to image is =
        let kept = run.kept (n + length sound.front) (after state sound.front) sound.stands in
        leaves-behind sectors n state sound.front (to_store (went steps trace) (sight old)) (commands ++ made_by (went steps trace) (sight old)) (settled_of (sight old).desk) image
        (ap (λ (l : List Command). l ++ made_by (went steps trace) (sight old)) sound.whole ∙ append_assoc sound.front (unstored (sight old)) (made_by (went steps trace) (sight old))
        ∙ ap (λ (l : List Command). sound.front ++ l) (sym (store-parts (went steps trace) (sight old))))
        (both-leave sectors (n + length sound.front) (after state sound.front) (to_store (went steps trace) (sight old)) (settled_of (sight old).desk) image (subst (λ (z : ℕ). CarriesFront z (n + length sound.front) (after state sound.front) (to_store (went steps trace) (sight old)) image) sound.size (kept.disk.prefix.each k from to image is))
        (subst (λ (z : ℕ). CarriesAtLeast z (settled_of (sight old).desk) image) sound.size (kept.disk.at_entry.each k from to image is)))

    sound-exit : Sound commands old → (image : Image) → IsImage (present (history (disk_of (store_of new)))) image → Leaves sectors n state (commands ++ made) (settled_of (sight new).desk) image
    unfolding made
    sound-exit sound image is =
        let kept = run.kept (n + length sound.front) (after state sound.front) sound.stands in
        leaves-behind sectors n state sound.front (to_store (went steps trace) (sight old)) (commands ++ made_by (went steps trace) (sight old)) (settled_of (sight new).desk) image
        (ap (λ (l : List Command). l ++ made_by (went steps trace) (sight old)) sound.whole ∙ append_assoc sound.front (unstored (sight old)) (made_by (went steps trace) (sight old))
        ∙ ap (λ (l : List Command). sound.front ++ l) (sym (store-parts (went steps trace) (sight old))))
        (both-leave sectors (n + length sound.front) (after state sound.front) (to_store (went steps trace) (sight old)) (settled_of (sight new).desk) image
        (subst (λ (z : ℕ). CarriesFront z (n + length sound.front) (after state sound.front) (to_store (went steps trace) (sight old)) image) sound.size
        (LeavesOnly-present (history (disk_of (store_of old))) (history (disk_of (store_of new))) (CarriesFront (sectors_of (store_of old)) (n + length sound.front) (after state sound.front) (to_store (went steps trace) (sight old))) kept.disk.prefix image is))
        (subst (λ (z : ℕ). CarriesAtLeast z (settled_of (sight new).desk) image) sound.size
        (subst (λ (w : Sight). CarriesAtLeast (sectors_of (store_of old)) (settled_of w.desk) image) (sym run.traced.world) (kept.disk.at_exit image is))))

    sound-on : Sound commands old → stopped_by_device trace.stopped ≡ false → Sound (commands ++ made) new
    unfolding made
    sound-on sound serves =
        let there = (run.kept (n + length sound.front) (after state sound.front) sound.stands).store serves in
        record {
          front = sound.front ++ there.front;
          whole = ap (λ (l : List Command). l ++ made_by (went steps trace) (sight old)) sound.whole ∙ append_assoc sound.front (unstored (sight old)) (made_by (went steps trace) (sight old))
              ∙ ap (λ (l : List Command). sound.front ++ l) (sym (store-parts (went steps trace) (sight old)) ∙ there.whole) ∙ sym (append_assoc sound.front there.front (unstored (sight new)));
          size = run.sectors ∙ sound.size;
          stands = pair-moves (λ k st. StandsAt honest history (store_of new) k st) n state sound.front there.front there.stands;
        }

    pub broken-crash : Broken commands old → (k : ℕ) → (history (disk_of (store_of old))).now ≤ k → k ≤ (history (disk_of (store_of new))).now → (image : Image) → IsImage ((history (disk_of (store_of new))).at k) image
        → Leaves sectors n state (commands ++ made) (settled_of (sight old).desk) image
    unfolding made
    broken-crash broken k from to image is =
        let same = ap history (run.rests broken.failed) in
        let now : k ≡ (history (disk_of (store_of old))).now = omega (arith, ap (λ (h : History). h.now) same) in
        leaves-more sectors n state commands (made_by (went steps trace) (sight old)) (settled_of (sight old).desk) image
        (broken.images image (subst (λ (j : ℕ). IsImage ((history (disk_of (store_of old))).at j) image) now (subst (λ (h : History). IsImage (h.at k) image) same is)))

    broken-on : Broken commands old → Broken (commands ++ made) new
    unfolding made
    broken-on broken =
        let rest = run-rests (went steps trace) (sight old) broken.failed in
        record {
          failed = ap (λ (w : Sight). is_serving w.desk) run.traced.world ∙ rest.1;
          images = λ image is. leaves-more sectors n state commands (made_by (went steps trace) (sight old)) (settled_of (sight new).desk) image
              (subst (λ (k : ℕ). Leaves sectors n state commands k image) (sym (ap (λ (w : Sight). settled_of w.desk) run.traced.world ∙ rest.0))
              (broken.images image (subst (λ (d : D). IsImage (present (history d)) image) (run.rests broken.failed) is)));
        }

    by-end : Sound commands old → (b : Bool) → stopped_by_device trace.stopped ≡ b → Sound (commands ++ made) new ⊎ Broken (commands ++ made) new
    by-end sound true is = inr (record { failed = run.traced.fails is; images = sound-exit sound })
    by-end sound false is = inl (sound-on sound is)

    pub goes-on : Sound commands old ⊎ Broken commands old → Sound (commands ++ made) new ⊎ Broken (commands ++ made) new
    goes-on (inl sound) = by-end sound (stopped_by_device trace.stopped) refl
    goes-on (inr broken) = inr (broken-on broken)

    pub crashes : Sound commands old ⊎ Broken commands old → (k : ℕ) → (history (disk_of (store_of old))).now ≤ k → k ≤ (history (disk_of (store_of new))).now → (image : Image) → IsImage ((history (disk_of (store_of new))).at k) image
        → Leaves sectors n state (commands ++ made) (settled_of (sight old).desk) image
    crashes (inl sound) = sound-crash sound
    crashes (inr broken) = broken-crash broken

  -- the runs of a life
  runs-on : (runs : List (Ran (World D g))) (commands : List Command) (world : World D g) → AreRuns honest history world runs → Sound commands world ⊎ Broken commands world
      → Sound (commands ++ numbered_by world runs) (world_after world runs) ⊎ Broken (commands ++ numbered_by world runs) (world_after world runs)
  unfolding numbered_by made
  runs-on [] commands world are so_far = subst (λ (l : List Command). Sound l world ⊎ Broken l world) (sym (append-nil commands)) so_far
  runs-on (r ∷ rs) commands world are so_far =
      subst (λ (l : List Command). Sound l (world_after r.after rs) ⊎ Broken l (world_after r.after rs)) (append_assoc commands (made_by (went r.steps r.trace) (sight world)) (numbered_by r.after rs))
      (runs-on rs (commands ++ made_by (went r.steps r.trace) (sight world)) r.after are.1 (goes-on commands world r.after r.steps r.trace are.0 so_far))

  never-falls : (runs : List (Ran (World D g))) (world : World D g) → AreRuns honest history world runs → NeverFalls world runs
  never-falls [] world are = tt
  never-falls (r ∷ rs) world are = (are.0.grows, never-falls rs r.after are.1)

  -- nothing waits in a world that was just opened
  opened-sound : (now : ℕ) (world : World D g) → sectors_of (store_of world) ≡ sectors → IsOpened honest history now world n state → honest (disk_of (store_of world)) ≡ true → Sound [] world
  opened-sound now world size is trusted = record {
    front = [];
    size = size;
    whole = sym (ap (unstored_at (sight world).appended) is.desk ∙ none (sight world).appended is.fresh);
    stands = subst (λ (k : ℕ). StandsAt honest history (store_of world) k state) (sym (omega arith)) (is.stands trusted);
  }
    where
      none : (b : Bool) → b ≡ false → unstored_at b (Serving (opened n (revive state now))) ≡ []
      none true is = absurd (cc)
      none false is = refl

  life-keeps : (before : Image) (life : Life D (World D g)) → IsLife honest history sectors before life → Carries before sectors n state → (stored : List Command) × LifeKeeps honest history sectors n state life stored
  unfolding made
  life-keeps before life is carries =
      let found = is.opens.carried n state (subst (λ (z : ℕ). Carries (present (history life.disk)).content z n state) (sym is.size) (Carries-same before (present (history life.disk)).content sectors n state is.content carries)) in
      let over = runs-on life.runs [] life.world is.runs (inl (opened-sound life.opened_at life.world is.size found (is.opens.honesty ∙ is.is_honest))) in
      let leaves = crashes (numbered_by life.world life.runs) (world_after life.world life.runs) life.broken_off.after life.broken_off.steps life.broken_off.trace is.broken_off over life.crashed_at is.begun is.not_over life.image is.crash in (
        leaves.front,
        record { loads = found; never_falls = never-falls life.runs life.world is.runs; lost = leaves.rest; numbered = leaves.whole; enough = leaves.enough; carried = leaves.carried },
      )

opening-keeps : (old new : History) (sectors n : ℕ) (state : Durable) → IsSynced (present old) → Stays old new → Carries (present old).content sectors n state → LeavesOnly old new (λ (image : Image). Carries image sectors n state)
opening-keeps old new sectors n state synced stays carries =
    LeavesOnly-weaker old new (λ (image : Image). (s : ℕ) → image s ≡ (present old).content s) (λ (image : Image). Carries image sectors n state) (λ image same. Carries-same (present old).content image sectors n state same carries) (LeavesOnly-synced old new synced stays)

module _ {D : Type 0} {g : _} (honest : D → Bool) (history : D → History) where
  lives-keep : (lives : List (Life D (World D g))) (first : Image) (sectors n : ℕ) (state : Durable) → Carries first sectors n state → AreLives honest history sectors first lives → LivesKeep honest history sectors n state lives
  lives-keep [] first sectors n state carries are = tt
  lives-keep (life ∷ lives) first sectors n state carries are =
      let one = life-keeps honest history sectors n state first life are.0 carries in
      (one.0, one.1, lives-keep lives life.image sectors (n + length one.0) (after state one.0) one.1.carried are.1)

  pub nothing_settled_is_lost : (world : World D g) → NothingSettledIsLost honest history world
  nothing_settled_is_lost world = record { lives = λ first sectors n state lives. lives-keep lives first sectors n state; opening = opening-keeps }
