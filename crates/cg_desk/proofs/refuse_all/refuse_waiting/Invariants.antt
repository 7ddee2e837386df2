use Rattle.std.proofs.Common.{◌≡◌, ◌≤◌, ◌+◌, map, vec_len, vec_capacity}
use Rattle.std.specs.VecDeque.{deque_len}
use Rattle.cg_group_state.specs.Waiting.{waiting_calls}
use Rattle.cg_desk.specs.Answering.{refusal}
use Rattle.cg_desk.proofs.Leaving.{Told}
use Rattle.cg_desk.proofs.refuse_all.refuse_waiting.Given as goal

abbrev pub invariant-loop-group : goal.invariant-loop-group
invariant-loop-group l = record {
  told : Told (map refusal (waiting_calls l.initial.group-iterator)) l.initial.tokens.items l.initial.out.items (map refusal (waiting_calls l.group-iterator)) l.tokens.items l.out.items;
  room : vec_len l.out + deque_len l.tokens ≤ vec_capacity l.out;
  sum : vec_len l.out + deque_len l.tokens ≡ vec_len l.initial.out + deque_len l.initial.tokens;
  capacity : vec_capacity l.out ≡ vec_capacity l.initial.out;
}
