-- Closed gates that were written with others before one sync.
use Rattle.std.proofs.Common.{ℕ, ◌+◌, ◌<◌, ◌≤◌, List, ◌∙◌, arith}
use Rattle.cg_disk.specs.Disk.{Changes, History, Holds, IsSynced, Stays, present}
use Rattle.cg_disk.proofs.Moments.{Changes-present, Stays-content}
use Rattle.cg_gate.specs.Gates.{IsClosedGate}
use Rattle.cg_gate.proofs.Gates.{IsClosed-written}
use Rattle.cg_log.specs.Ready.{AllClosed}

-- a gate that was written closed, then other sectors, and then a sync
pub AllClosed-synced : (h1 h2 h3 : History) (gate n at m : ℕ) (bytes : List ℕ) → IsClosedGate bytes → 0 < n → Holds (present h1).content gate n bytes → Changes at m h1 h2 → gate + n ≤ at → Stays h2 h3 → IsSynced (present h3) → AllClosed (present h3) gate
AllClosed-synced h1 h2 h3 gate n at m bytes closed some holds change apart stays synced =
    IsClosed-written (present h3) gate n bytes synced (λ i lt. Stays-content h2 h3 stays (gate + i) ∙ ((Changes-present at m h1 h2 change).below (gate + i) (omega arith)).content ∙ holds i lt) some closed
