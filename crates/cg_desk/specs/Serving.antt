-- What contracts see of a desk that serves, and the room that a step needs.
use Rattle.std.specs.Prelude.{◌≡◌, ◌≤◌, ◌<◌, ◌+◌, ℕ, false, [], Vec, vec_len, vec_capacity}
use Rattle.std.specs.declared.alloc.Global.{Global}
use Rattle.std.specs.VecDeque.{deque_capacity, deque_len}
use Rattle.cg_desk.specs.Books.{Books}
use Rattle.cg_desk.specs.Flights.{course_of}
use Rattle.cg_desk.specs.Held.{is_waiting}
use Rattle.cg_desk.specs.Queues.{commands_of, has_room}
use Rattle.cg_desk.specs.declared.outgoing.Outgoing.{Outgoing}
use Rattle.cg_desk.specs.declared.serving.Serving.{Serving}

abbrev pub books : Serving → Books
books s = record {
  machine = s.groups;
  numbered = s.numbered;
  settled = s.settled;
  queue = commands_of s.queue;
  course = course_of s.flight;
  held = s.held.items;
  replied = s.replied.items;
  parked = s.parked.items;
}

-- how many requests are pending
abbrev pub pending_in : Serving → ℕ
pending_in s = deque_len s.replied + deque_len s.parked

-- there is room for what a step makes, for this many more tokens, and in the list for every reply that may leave; none
-- may leave if held replies have to wait
pub record HasRoom (s : Serving) (more : ℕ) (out : Vec Outgoing Global) : Type 0 where
  pub parked : deque_len s.parked + more ≤ deque_capacity s.parked
  pub replied : pending_in s + more ≤ deque_capacity s.replied
  pub leaving : pending_in s + more ≤ vec_capacity s.leaving
  pub commands : has_room s.queue
  pub held : deque_len s.held < deque_capacity s.held
  pub empty : out.items ≡ []
  pub room : is_waiting s.settled s.held.items ≡ false → vec_len out + (pending_in s + more) ≤ vec_capacity out
