use Rattle.std.proofs.Common.{◌≡◌, ◌≤◌, ◌+◌, drop}
use Rattle.std.specs.VecDeque.{deque_capacity, deque_len}
use Rattle.cg_desk.specs.Held.{calls_of}
use Rattle.cg_desk.proofs.Moving.{Moved}
use Rattle.cg_desk.proofs.released_replies.move_answered.Given as goal

abbrev pub invariant-loop-reply : goal.invariant-loop-reply
invariant-loop-reply l = record {
  moved : Moved (calls_of l.fn.replies) l.initial.parked.items l.initial.replied.items (calls_of (drop l.reply-index l.fn.replies)) l.parked.items l.replied.items;
  sum : deque_len l.replied + deque_len l.parked ≡ deque_len l.initial.replied + deque_len l.initial.parked;
  room : deque_len l.replied + deque_len l.parked ≤ deque_capacity l.replied;
}
