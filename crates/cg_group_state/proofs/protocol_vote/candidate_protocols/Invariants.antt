use Rattle.std.proofs.Common.{◌≡◌, map, take, filter}
use Rattle.cg_group_state.specs.Staying.{remaining}
use Rattle.cg_group_state.specs.Vote.{is_common}
use Rattle.cg_group_state.proofs.protocol_vote.candidate_protocols.Given as goal

abbrev pub invariant-loop-protocol : goal.invariant-loop-protocol
invariant-loop-protocol l =
    l.names ≡ filter (is_common (remaining l.who l.members)) (map (λ p. p.name) (take l.protocol-index l.protocol-items))
