use Rattle.std.proofs.Common.{◌≡◌, ◌≤◌, ◌+◌, map, drop, vec_len, vec_capacity}
use Rattle.std.specs.VecDeque.{deque_len}
use Rattle.cg_desk.specs.Answering.{refusal}
use Rattle.cg_desk.proofs.Leaving.{Told}
use Rattle.cg_desk.proofs.Parked.{parked_in}
use Rattle.cg_desk.proofs.refuse_all.refuse_members.Given as goal

abbrev pub invariant-loop-member : goal.invariant-loop-member
invariant-loop-member l = record {
  told : Told (map refusal (parked_in l.member-items)) l.initial.tokens.items l.initial.out.items (map refusal (parked_in (drop l.member-index l.member-items))) l.tokens.items l.out.items;
  room : vec_len l.out + deque_len l.tokens ≤ vec_capacity l.out;
  sum : vec_len l.out + deque_len l.tokens ≡ vec_len l.initial.out + deque_len l.initial.tokens;
  capacity : vec_capacity l.out ≡ vec_capacity l.initial.out;
}
