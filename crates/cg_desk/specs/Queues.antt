-- What contracts see of the numbered commands that wait for the disk.
use Rattle.std.specs.Prelude.{◌<◌, ◌++◌, List}
use Rattle.std.specs.List.{flat_map}
use Rattle.std.specs.VecDeque.{deque_capacity, deque_len}
use Rattle.cg_record.specs.declared.command.Command.{Command}
use Rattle.cg_desk.specs.Fronts.{spelled}
use Rattle.cg_desk.specs.declared.queue.Queue.{Queue}

-- the commands in the order of their numbers
abbrev pub commands_of : Queue → List Command
commands_of queue = spelled queue.draft ++ (queue.front.items ++ flat_map (λ (commands : List Command). commands) queue.lists.items)

-- there is room for the commands of one more step
abbrev pub has_room : Queue → Type 0
has_room queue = deque_len queue.lists < deque_capacity queue.lists
