use Rattle.std.proofs.Common.{◌≡◌, map, take}
use Rattle.cg_group_state.specs.Staying.{remaining}
use Rattle.cg_group_state.specs.Tally.{tally}
use Rattle.cg_group_state.specs.Vote.{votes}
use Rattle.cg_group_state.proofs.protocol_vote.counted.Given as goal

abbrev pub invariant-loop-name : goal.invariant-loop-name
invariant-loop-name l = map tally l.counted.items ≡ map (λ name. (name, votes l.names (remaining l.who l.members) name)) (take l.name-index l.names)
