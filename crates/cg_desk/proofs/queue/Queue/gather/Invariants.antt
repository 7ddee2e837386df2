use Rattle.std.proofs.Common.{◌≡◌}
use Rattle.std.specs.VecDeque.{deque_len}
use Rattle.cg_desk.specs.Queues.{commands_of}
use Rattle.cg_desk.proofs.queue.Queue.gather.Given as goal

abbrev pub invariant-loop-next : goal.invariant-loop-next
invariant-loop-next l = commands_of l.self ≡ commands_of l.initial.self

abbrev pub decreases-loop-next : goal.decreases-loop-next
decreases-loop-next l = deque_len l.self.lists
