use Rattle.std.proofs.Common.{◌≡◌, ◌+◌, ◌-◌, sym, ◌∙◌, true, false}
use Rattle.std.specs.Option.{option_copied}
use Rattle.cg_record.specs.Rosters.{has_instance}
use Rattle.cg_record.specs.Members.{member_at}
use Rattle.cg_record.proofs.Again.{unmet_next, unmet_hit, unmet_on, unmet_end}
use Rattle.cg_record.proofs.group_check.is_instance_repeated.Goals as goal

pub returns-in-None : goal.returns-in-None
returns-in-None c = λ whole end h.
    let u = c.loop.invariant whole end h in
    let n = unmet_next member_at c.args.count c.loop.counter (has_instance (option_copied c.args.instance)) whole end c.loop.rest.now u c.loop-test.true in
    absurd (c.in-None.ensures u.front n.0.0 n.0.1 n.1)

pub returns-then-is_one_instance : goal.returns-then-is_one_instance
returns-then-is_one_instance c = λ whole end h.
    let u = c.loop.invariant whole end h in
    let n = unmet_next member_at c.args.count c.loop.counter (has_instance (option_copied c.args.instance)) whole end c.loop.rest.now u c.loop-test.true in
    let same = c.in-Some.ensures u.front n.0.0 n.0.1 n.1 in
    let hit : has_instance (option_copied c.args.instance) n.0.0 ≡ true = rw (← same.1) (sym c.is_one_instance.ensures ∙ c.if-is_one_instance.true) in
    sym (unmet_hit member_at (c.args.count - (c.loop.counter + 1)) (has_instance (option_copied c.args.instance)) u.front n.0.0 whole end n.0.1 n.2 hit)

pub loop-preserved : goal.loop-preserved
loop-preserved c = λ whole end h.
    let u = c.loop.invariant whole end h in
    let n = unmet_next member_at c.args.count c.loop.counter (has_instance (option_copied c.args.instance)) whole end c.loop.rest.now u c.loop-test.true in
    let same = c.in-Some.ensures u.front n.0.0 n.0.1 n.1 in
    let miss : has_instance (option_copied c.args.instance) n.0.0 ≡ false = rw (← same.1) (sym c.is_one_instance.ensures ∙ c.if-is_one_instance.false) in
    rw same.2 (unmet_on member_at c.args.count c.loop.counter (has_instance (option_copied c.args.instance)) whole end c.loop.rest.now u n.0.0 n.0.1 n.2 miss)

pub returns : goal.returns
returns c = λ whole end h.
    sym (unmet_end member_at c.args.count c.loop.counter (has_instance (option_copied c.args.instance)) whole end c.loop.rest.now (c.loop.invariant whole end h) c.loop-test.false)
