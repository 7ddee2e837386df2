use Rattle.std.proofs.Common.{◌≡◌, ◌≤◌, ◌+◌, vec_len, vec_capacity}
use Rattle.std.specs.VecDeque.{deque_len}
use Rattle.cg_desk.specs.Held.{released, still_held}
use Rattle.cg_desk.specs.Permits.{front_of}
use Rattle.cg_desk.proofs.Leaving.{Told}
use Rattle.cg_desk.proofs.pending_replies.HeldStep.release.Given as goal

abbrev pub invariant-loop-next : goal.invariant-loop-next
invariant-loop-next l = record {
  told : Told (released (front_of l.permit) l.initial.held.items) l.initial.tokens.items l.initial.out.items (released (front_of l.permit) l.held.items) l.tokens.items l.out.items;
  held : still_held (front_of l.permit) l.held.items ≡ still_held (front_of l.permit) l.initial.held.items;
  room : vec_len l.out + deque_len l.tokens ≤ vec_capacity l.out;
  fewer : deque_len l.tokens ≤ deque_len l.initial.tokens;
  capacity : vec_capacity l.out ≡ vec_capacity l.initial.out;
}

abbrev pub decreases-loop-next : goal.decreases-loop-next
decreases-loop-next l = deque_len l.held
