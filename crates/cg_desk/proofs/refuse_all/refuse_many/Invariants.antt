use Rattle.std.proofs.Common.{◌≡◌, ◌≤◌, ◌+◌, length, map, vec_len, vec_capacity}
use Rattle.std.specs.VecDeque.{deque_len}
use Rattle.std.specs.Vec.Iter.{into_iter_items, into_iter_len}
use Rattle.cg_desk.specs.Answering.{refusal}
use Rattle.cg_desk.specs.Held.{calls_of}
use Rattle.cg_desk.proofs.Leaving.{Told}
use Rattle.cg_desk.proofs.refuse_all.refuse_many.Given as goal

abbrev pub invariant-loop-reply : goal.invariant-loop-reply
invariant-loop-reply l = record {
  told : Told (map refusal (calls_of (into_iter_items l.initial.reply-iterator))) l.initial.tokens.items l.initial.out.items (map refusal (calls_of (into_iter_items l.reply-iterator))) l.tokens.items l.out.items;
  len : into_iter_len l.reply-iterator ≡ length (into_iter_items l.reply-iterator);
  room : vec_len l.out + deque_len l.tokens ≤ vec_capacity l.out;
  sum : vec_len l.out + deque_len l.tokens ≡ vec_len l.initial.out + deque_len l.initial.tokens;
  capacity : vec_capacity l.out ≡ vec_capacity l.initial.out;
}
