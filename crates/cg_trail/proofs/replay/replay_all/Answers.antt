use Rattle.std.proofs.Common.{arith, rules}
use Rattle.cg_trail.specs.Trails.{AreLawful}
use Rattle.cg_trail.proofs.Lawful.{lawful-differs, lawful-keeps, lawful-none, made-keeps, made-none}
use Rattle.cg_group_state.proofs.Exchanges.{rest_is}
use Rattle.cg_trail.proofs.replay.replay_all.Goals as goal

pub returns-then-not-branch : goal.returns-then-not-branch
returns-then-not-branch c = λ h.
    lawful-differs c.loop-rest.rest.now c.loop-rest.groups c.entry-item.result _
    (rest_is c.loop-rest.rest.now c.entry-item.result (omega arith) c.entry-item.is)
    (λ same. absurd (cc (c.in_ok-replay_entry.ensures.same.1 same, c.if-not-branch.true)))
    (c.loop-rest.invariant.lawful.1 h)

pub loop-rest-preserved : goal.loop-rest-preserved
loop-rest-preserved c =
    let is = rest_is c.loop-rest.rest.now c.entry-item.result (omega arith) c.entry-item.is in
    record {
      lawful =
          lawful-keeps (AreLawful c.args.entries.now c.args.groups) c.loop-rest.rest.now c.loop-rest.groups c.entry-item.result _ _
          (record { entries = is; after = c.in_ok-replay_entry.ensures.after }) (c.in_ok-replay_entry.ensures.same.0 (search rules)) c.loop-rest.invariant.lawful;
      made =
          made-keeps c.loop-rest.rest.now c.loop-rest.groups c.entry-item.result _ _ c.loop-rest.made _ _
          (record { entries = is; after = c.in_ok-replay_entry.ensures.after }) c.in_ok-replay_entry.ensures.made c.loop-rest.invariant.made;
    }

pub returns : goal.returns
returns c = (
  lawful-none (AreLawful c.args.entries.now c.args.groups) c.loop-rest.rest.now c.loop-rest.groups (omega arith) c.loop-rest.invariant.lawful,
  made-none c.loop-rest.rest.now c.loop-rest.groups c.loop-rest.made _ (omega arith) c.loop-rest.invariant.made,
)
