use Rattle.std.proofs.Common.{◌≡◌, ◌≤◌, ◌+◌, ◌++◌, map, vec_len, vec_capacity}
use Rattle.std.specs.VecDeque.{deque_len}
use Rattle.cg_desk.specs.Answering.{refused}
use Rattle.cg_desk.proofs.refuse_all.refuse_rest.Given as goal

abbrev pub invariant-loop-token : goal.invariant-loop-token
invariant-loop-token l = record {
  out : l.out.items ++ map refused l.tokens.items ≡ l.initial.out.items ++ map refused l.initial.tokens.items;
  room : vec_len l.out + deque_len l.tokens ≤ vec_capacity l.out;
  sum : vec_len l.out + deque_len l.tokens ≡ vec_len l.initial.out + deque_len l.initial.tokens;
  capacity : vec_capacity l.out ≡ vec_capacity l.initial.out;
}

abbrev pub decreases-loop-token : goal.decreases-loop-token
decreases-loop-token l = deque_len l.tokens
