use Rattle.std.proofs.Common.{◌≡◌, rules, arith}
use Rattle.cg_group.proofs.RestingMachine.{seen_all, seen_more, seen_none}
use Rattle.cg_group.proofs.tick.rest_until.Goals as goal

pub loop-group-init : goal.loop-group-init
loop-group-init c =
    let all : c.into_iter-group-iterator.result ≡ c.args.held.now = search rules in
    record {
      early = search rules;
      seen = seen_none c.later_by-until.result c.args.clock.now.loaded c.args.offsets.now c.args.held.now c.into_iter-group-iterator.result all;
    }

pub loop-group-preserved : goal.loop-group-preserved
loop-group-preserved c =
    let l = c.loop-group in
    let least = c.fresh_until-until.result in
    record {
      early = omega (arith, l.invariant.early, c.fresh_until-until.ensures.earlier);
      seen = seen_more l.until least c.args.clock.now.loaded c.args.offsets.now c.args.held.now l.group-iterator c.next.new.self c.in-Some.group.now c.in-Some.ensures.steps c.fresh_until-until.ensures.earlier c.fresh_until-until.ensures.rests c.fresh_until-until.ensures.fresh l.invariant.seen;
    }

pub returns-clause-resting : goal.returns-clause-resting
returns-clause-resting c = seen_all c.loop-group.until c.args.clock.now.loaded c.args.offsets.now c.args.held.now c.loop-group.group-iterator c.in-None.ensures.steps.0 c.loop-group.invariant.seen
