-- How many settled commands an answer is worth.
use Rattle.std.specs.Prelude.{ℕ, min}
use Rattle.cg_group_state.specs.declared.reply.Reply.{Reply}
use Rattle.cg_group_state.specs.declared.reply.Reply.TheVariants as reply
use Rattle.cg_request.specs.declared.request.Request.{Request}
use Rattle.cg_request.specs.declared.request.Request.TheVariants as request
use Rattle.cg_engine.specs.declared.kind.CallKind.{CallKind}
use Rattle.cg_engine.specs.declared.kind.CallKind.TheVariants.{Write, Changing, Read}

abbrev pub kind_of : Request → CallKind
kind_of (request.Join r) = Changing
kind_of (request.Sync r) = Changing
kind_of (request.Beat r) = Read
kind_of (request.Leave r) = Changing
kind_of (request.Commit r) = Write
kind_of (request.Fetch r) = Read
kind_of (request.Delete group) = Write
kind_of (request.Drop r) = Changing
kind_of (request.Describe group) = Read
kind_of request.List = Read

-- an OK to a COMMIT or a DELETE is worth one command
abbrev pub worth_of_write : Reply → ℕ
worth_of_write (reply.Joined joined) = 0
worth_of_write (reply.Synced assignment) = 0
worth_of_write reply.Done = 1
worth_of_write (reply.Fetched partitions) = 0
worth_of_write (reply.Described described) = 0
worth_of_write (reply.Groups groups) = 0
worth_of_write (reply.Refused code) = 0

-- an answer to a JOIN, a SYNC, a LEAVE or a DROP that is no refusal is worth one command if it counts one: if the step of its own
-- request made it and a command
abbrev pub worth_of_change : Reply → ℕ → ℕ
worth_of_change (reply.Joined joined) made = min made 1
worth_of_change (reply.Synced assignment) made = min made 1
worth_of_change reply.Done made = min made 1
worth_of_change (reply.Fetched partitions) made = min made 1
worth_of_change (reply.Described described) made = min made 1
worth_of_change (reply.Groups groups) made = min made 1
worth_of_change (reply.Refused code) made = 0

-- the units of an answer to a call of this kind, whose step made this many commands; every other answer has none
abbrev pub worth : CallKind → Reply → ℕ → ℕ
worth Write r made = worth_of_write r
worth Changing r made = worth_of_change r made
worth Read r made = 0
