-- A batch that is taken.
use Rattle.std.proofs.Common.{◌≡◌, false, List, take, drop, refl, sym, ap, ◌∙◌}
use Rattle.cg_record.specs.declared.command.Command.{Command}
use Rattle.cg_desk.specs.Books.{Books, next_batch, queue_after, taking}
use Rattle.cg_desk.specs.Flights.{Course, Idle, Away, Returned, is_away, is_returned}
use Rattle.cg_desk.specs.Fronts.{in_frame}

pub idle : (course : Course) → is_away course ≡ false → is_returned course ≡ false → course ≡ Idle
idle Idle home kept = refl
idle (Away commands) home kept = absurd (cc)
idle (Returned commands) home kept = absurd (cc)

pub taken_again : (b : Books) (cs : List Command) (course : Course) → b.course ≡ Returned cs → course ≡ Away cs → (let c : Books = record b { course = course } in c) ≡ taking b
unfolding taking
taken_again b cs course is new =
    ap (λ (co : Course). let c : Books = record b { course = co } in c) new
    ∙ ap (λ (k : Course). let c : Books = record b { course = Away (next_batch k b.queue); queue = queue_after k b.queue } in c) (sym is)

pub taken_new : (b : Books) (course : Course) (queue : List Command) → b.course ≡ Idle → course ≡ Away (take (in_frame b.queue) b.queue) → queue ≡ drop (in_frame b.queue) b.queue
    → (let c : Books = record b { course = course; queue = queue } in c) ≡ taking b
unfolding taking
taken_new b course queue is new rest =
    ap (λ (co : Course). let c : Books = record b { course = co; queue = queue } in c) new
    ∙ ap (λ (q : List Command). let c : Books = record b { course = Away (take (in_frame b.queue) b.queue); queue = q } in c) rest
    ∙ ap (λ (k : Course). let c : Books = record b { course = Away (next_batch k b.queue); queue = queue_after k b.queue } in c) (sym is)
