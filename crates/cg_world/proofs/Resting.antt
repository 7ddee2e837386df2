-- A desk that has failed stays failed.
use Rattle.std.proofs.Common.{◌≡◌, ℕ, Bool, true, false, length, refl, sym}
use Rattle.std.proofs.lemmas.Bool.{false≢true}
use Rattle.std.specs.Prelude.{is_some}
use Rattle.cg_request.specs.Request.{asked}
use Rattle.cg_request.specs.declared.event.Event.{Event}
use Rattle.cg_desk.specs.Desks.{Answer, State, Loading, Serving, Failed, gone_on, request_on, return_to, settle_on, tick_on}
use Rattle.cg_desk.specs.declared.token.ReplyToken.{ReplyToken}
use Rattle.cg_world.specs.Agreeing.{is_serving}
use Rattle.cg_world.specs.Sights.{Sight}
use Rattle.cg_world.specs.Turns.{IsNoteOf, answered, appended, compacted, event_at, in_flight, settled, take_from, taken, turn}
use Rattle.cg_world.specs.declared.step.Step.{Step}
use Rattle.cg_world.specs.declared.step.Step.TheVariants.{Request, Gone, Tick, Take, Append, Settle, CompactStart, CompactRead, CompactWrite, CompactSwitch}
use Rattle.cg_world.specs.declared.step.StepNote.{StepNote}
use Rattle.cg_world.specs.declared.step.StepNote.TheVariants.{Done, Full, Device}

asked-stays : (s : State) (token : ReplyToken) (e : Event) (now : ℕ) → is_serving s ≡ false → is_serving (request_on s token e now).after ≡ false
unfolding request_on
asked-stays Loading token e now is = refl
asked-stays (Failed n m) token e now is = refl
asked-stays (Serving b) token e now is = absurd (false≢true (sym is))

answered-stays : (met : Bool) (w : Sight) (a : Answer) → is_serving a.after ≡ false → is_serving (answered met w a).after.desk ≡ false
answered-stays true w a is = is
answered-stays false w a is = is

compact-stays : (note : StepNote) (w : Sight) → is_serving w.desk ≡ false → is_serving (compacted note w).after.desk ≡ false
compact-stays Device w is = refl
compact-stays other w is = is

pub turn-stays-failed : (s : Step) (note : StepNote) (w : Sight) → is_serving w.desk ≡ false → is_serving (turn s note w).after.desk ≡ false
unfolding turn gone_on tick_on settle_on
turn-stays-failed (Request ticket r now fresh) note w is =
    answered-stays (is_some (event_at (Request ticket r now fresh) w.desk)) w (request_on w.desk (record { ticket = ticket }) (asked r ticket fresh) now) (asked-stays w.desk (record { ticket = ticket }) (asked r ticket fresh) now is)
turn-stays-failed (Gone session now) note w is = stays w.desk is
  where
    stays : (s : State) → is_serving s ≡ false → is_serving (gone_on s session now).after ≡ false
    stays Loading is = refl
    stays (Failed n m) is = refl
    stays (Serving b) is = absurd (false≢true (sym is))
turn-stays-failed (Tick now) note w is = stays w.desk is
  where
    stays : (s : State) → is_serving s ≡ false → is_serving (tick_on s now).after ≡ false
    stays Loading is = refl
    stays (Failed n m) is = refl
    stays (Serving b) is = absurd (false≢true (sym is))
turn-stays-failed Take note w is = by-note note
  where
    taken-stays : (s : State) → is_serving s ≡ false → is_serving (take_from s) ≡ false
    taken-stays Loading is = refl
    taken-stays (Failed n m) is = refl
    taken-stays (Serving b) is = absurd (false≢true (sym is))

    by-note : (note : StepNote) → is_serving (taken note w).after.desk ≡ false
    by-note Done = taken-stays w.desk is
    by-note other = is
turn-stays-failed Append note w is = by-note note
  where
    returned-stays : (s : State) → is_serving s ≡ false → is_serving (return_to s) ≡ false
    returned-stays Loading is = refl
    returned-stays (Failed n m) is = refl
    returned-stays (Serving b) is = absurd (false≢true (sym is))

    by-note : (note : StepNote) → is_serving (appended note w).after.desk ≡ false
    by-note Full = returned-stays w.desk is
    by-note Device = refl
    by-note other = is
turn-stays-failed Settle note w is = by-note note
  where
    settled-stays : (s : State) (count : ℕ) → is_serving s ≡ false → is_serving (settle_on s count).after ≡ false
    settled-stays Loading count is = refl
    settled-stays (Failed n m) count is = refl
    settled-stays (Serving b) count is = absurd (false≢true (sym is))

    by-note : (note : StepNote) → is_serving (settled note w).after.desk ≡ false
    by-note Done = settled-stays w.desk (length (in_flight w.desk)) is
    by-note other = is
turn-stays-failed CompactStart note w is = compact-stays note w is
turn-stays-failed CompactRead note w is = compact-stays note w is
turn-stays-failed CompactWrite note w is = compact-stays note w is
turn-stays-failed CompactSwitch note w is = compact-stays note w is

-- a desk fails in a step in which the disk fails
pub device-fails : (s : Step) (w : Sight) → IsNoteOf s w Device → is_serving (turn s Device w).after.desk ≡ false
unfolding turn IsNoteOf
device-fails (Request ticket r now fresh) w noted = absurd (cc noted)
device-fails (Gone session now) w noted = absurd (cc noted)
device-fails (Tick now) w noted = absurd (cc noted)
device-fails Take w noted = absurd noted
device-fails Append w noted = refl
device-fails Settle w noted = absurd noted
device-fails CompactStart w noted = refl
device-fails CompactRead w noted = refl
device-fails CompactWrite w noted = refl
device-fails CompactSwitch w noted = refl
