-- Every event keeps the pending requests of all groups, and recovery parks none.
use Rattle.std.specs.Prelude.{◌≡◌, ℕ, List, [], ◌∷◌}
use Rattle.cg_fold.specs.Durable.{State}
use Rattle.cg_request.specs.declared.request.Request.{Request}
use Rattle.cg_request.specs.declared.event.Event.{Event}
use Rattle.cg_request.specs.declared.event.Event.TheVariants.{Gone, Tick}
use Rattle.cg_request.specs.Request.{asked}
use Rattle.cg_group_table.specs.Kept.{AreRecords}
use Rattle.cg_group.specs.Laws.{after_all}
use Rattle.cg_group_table.specs.GroupTable.{Machine}
use Rattle.cg_group_table.specs.Recovery.{revive}
use Rattle.cg_group_state.specs.Waiting.{waiting_calls}
use Rattle.cg_desk.specs.Owed.{KeepsCalls}
use Rattle.cg_desk.specs.Tokens.{call_of}
use Rattle.cg_desk.specs.declared.token.ReplyToken.{ReplyToken}

-- the machine that these events make after recovery
pub record IsMade (s : Machine) : Type 0 where
  pub state : State
  pub began : ℕ
  pub events : List (Event × ℕ)
  pub lawful : AreRecords state
  pub is : s ≡ after_all events (revive state began)

pub record EventsKeepCalls : Type 0 where
  pub loaded : (state : State) (now : ℕ) → waiting_calls (revive state now).groups ≡ []
  pub request : (s : Machine) (r : Request) (token : ReplyToken) (fresh : List ℕ) (now : ℕ) → IsMade s → KeepsCalls s (token ∷ []) (asked r (call_of token) fresh) now
  pub tick : (s : Machine) (now : ℕ) → KeepsCalls s [] Tick now
  pub gone : (s : Machine) (session now : ℕ) → KeepsCalls s [] (Gone session) now
