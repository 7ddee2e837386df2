use Rattle.std.proofs.Common.{◌≡◌, List, map, Some, sym, ap, ◌∙◌}
use Rattle.cg_group_state.specs.declared.protocol_vote.Candidate.{Candidate}
use Rattle.cg_group_state.specs.Staying.{remaining}
use Rattle.cg_group_state.specs.Tally.{tally}
use Rattle.cg_group_state.specs.Vote.{votes}
use Rattle.cg_group_state.proofs.Votes.{counted_once, elected_none, elected_some}
use Rattle.cg_group_state.proofs.protocol_vote.select_protocol.Goals as goal

pub returns-in-None : goal.returns-in-None
returns-in-None c =
    let members = remaining c.args.who.now c.args.members.now in
    let names = c.in_ok-names.names in
    let cs : List Candidate = c.in_ok-counted.counted.items in
    let each : map tally cs ≡ map (λ n. (n, votes names members n)) names = rw c.as_slice.ensures at c.in_ok-counted.ensures in
    sym (elected_none members names c.in_ok-names.ensures (sym (counted_once members names cs each) ∙ sym (rw c.as_slice-2.ensures.value at c.unbeaten.ensures) ∙ c.in-None.is))

pub returns : goal.returns
returns c =
    let members = remaining c.args.who.now c.args.members.now in
    let names = c.in_ok-names.names in
    let cs : List Candidate = c.in_ok-counted.counted.items in
    let each : map tally cs ≡ map (λ n. (n, votes names members n)) names = rw c.as_slice.ensures at c.in_ok-counted.ensures in
    ap (λ x. Some x) c.in_ok-name-in-Some.ensures.cases
    ∙ sym (elected_some members names c.in-Some.place c.index-as_slice-place.result c.in_ok-names.ensures (sym (counted_once members names cs each) ∙ sym (rw c.as_slice-2.ensures.value at c.unbeaten.ensures) ∙ c.in-Some.is) (rw c.as_slice-in-Some.ensures at c.index-as_slice-place.is))
