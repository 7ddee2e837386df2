use Rattle.std.proofs.Common.{rules}
use Rattle.cg_group.proofs.Departures.{departing_taken}
use Rattle.cg_group.proofs.InPlace.{on_err}
use Rattle.cg_group_state.specs.declared.calls.Calls.TheVariants.{OfSession}
use Rattle.cg_group_state.specs.Membership.{keeping}
use Rattle.cg_group_state.specs.Waiting.{is_waiting}
use Rattle.cg_group.proofs.leave.departure.Goals as goal

pub returns-in_err-id-in-Some-clause-taken : goal.returns-in_err-id-in-Some-clause-taken
returns-in_err-id-in-Some-clause-taken c = on_err _ _ (departing_taken c.args.r.now c.args.groups.now c.in-Ok.own.now c.in-Ok.group.now c.in-Some.member.now (search rules) c.in-Some.ensures.left)

pub returns-in_ok-id-in-Some-clause-ok : goal.returns-in_ok-id-in-Some-clause-ok
unfolding keeping
returns-in_ok-id-in-Some-clause-ok c = record {
  group = c.in-Ok.group.now;
  member = c.in-Some.member.now;
  named = search rules;
  its = c.in_ok-id-in-Some.ensures.cases;
  taken = c.in-Some.ensures.left;
  others = λ session. c.in-Some.ensures.others (is_waiting (OfSession session));
  called = c.called.ensures;
}
