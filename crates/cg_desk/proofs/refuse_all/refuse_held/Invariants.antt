use Rattle.std.proofs.Common.{◌≡◌, ◌≤◌, ◌+◌, map, vec_len, vec_capacity}
use Rattle.std.specs.VecDeque.{deque_len}
use Rattle.cg_desk.specs.Answering.{refusal}
use Rattle.cg_desk.specs.Held.{calls_of, replies_of}
use Rattle.cg_desk.proofs.Leaving.{Told}
use Rattle.cg_desk.proofs.refuse_all.refuse_held.Given as goal

abbrev pub invariant-loop-replies : goal.invariant-loop-replies
invariant-loop-replies l = record {
  told : Told (map refusal (calls_of (replies_of l.initial.held.items))) l.initial.tokens.items l.initial.out.items (map refusal (calls_of (replies_of l.held.items))) l.tokens.items l.out.items;
  room : vec_len l.out + deque_len l.tokens ≤ vec_capacity l.out;
  sum : vec_len l.out + deque_len l.tokens ≡ vec_len l.initial.out + deque_len l.initial.tokens;
  capacity : vec_capacity l.out ≡ vec_capacity l.initial.out;
}

abbrev pub decreases-loop-replies : goal.decreases-loop-replies
decreases-loop-replies l = deque_len l.held
