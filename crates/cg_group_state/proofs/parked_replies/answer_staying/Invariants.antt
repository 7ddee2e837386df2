use Rattle.std.proofs.Common.{◌≡◌, ◌++◌, take, filter}
use Rattle.std.specs.List.{flat_map}
use Rattle.cg_group_state.specs.Staying.{stays}
use Rattle.cg_group_state.specs.Waiting.{answer}
use Rattle.cg_group_state.proofs.parked_replies.answer_staying.Given as goal

abbrev pub invariant-loop-member : goal.invariant-loop-member
invariant-loop-member g l =
    l.replies ≡ l.initial.replies ++ flat_map (answer l.which (g.T.Telling.tells l.teller)) (filter (stays l.who) (take l.member-index l.members))
