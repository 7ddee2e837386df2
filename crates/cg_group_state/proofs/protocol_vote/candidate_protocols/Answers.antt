use Rattle.std.proofs.Common.{◌≡◌, List, Some, find, filter, map, sym, ap, ◌∙◌, arith}
use Rattle.std.proofs.lemmas.List.{take_all}
use Rattle.std.specs.Option.{option_copied}
use Rattle.cg_request.specs.declared.protocol.Protocol.{Protocol}
use Rattle.cg_group_state.specs.Staying.{remaining, stays}
use Rattle.cg_group_state.specs.Vote.{is_common}
use Rattle.cg_group_state.proofs.Remaining.{candidates_some}
use Rattle.cg_group_state.proofs.protocol_vote.candidate_protocols.Goals as goal

pub returns : goal.returns
returns c =
    let who = c.args.who.now in
    let ms = c.args.members.now in
    let first = c.in-Some.first.now in
    let found : find (stays who) ms ≡ Some first = sym c.first_staying.ensures ∙ ap option_copied c.in-Some.is in
    let items : List Protocol = c.as_slice-protocol-items.result.now in
    c.loop-protocol.invariant
    ∙ ap (λ ps. filter (is_common (remaining who ms)) (map (λ (p : Protocol). p.name) ps)) (take_all c.loop-protocol.protocol-index items (omega arith) ∙ c.as_slice-protocol-items.ensures.value)
    ∙ sym (candidates_some who ms first found)
