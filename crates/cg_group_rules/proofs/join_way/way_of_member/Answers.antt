use Rattle.std.proofs.Common.{Ok, sym, ap, ◌∙◌}
use Rattle.std.specs.List.{list_any}
use Rattle.cg_group_rules.proofs.Lagging.{join_parked, known_again, known_current, preparing_is}
use Rattle.cg_group_rules.proofs.join_way.way_of_member.Goals as goal

pub returns-then-is_current : goal.returns-then-is_current
returns-then-is_current c =
    λ _. record {
      member = c.args.member.now;
      answered = c.in_ok-reply.ensures;
      taken = λ now fresh ticket. c.requires.taken now fresh ticket ∙ ap Ok (known_current now c.args.r.now c.args.id.now ticket c.args.member.now c.args.group.now (sym c.is_current.ensures ∙ c.if-is_current.true));
    }

pub returns-then-waits_for_others : goal.returns-then-waits_for_others
returns-then-waits_for_others c =
    λ _. record {
      member = c.args.member.now;
      found = c.requires.found;
      called = c.called.ensures;
      taken =
          λ now fresh ticket.
          c.requires.taken now fresh ticket
          ∙ ap Ok
          (join_parked now c.args.r.now c.args.id.now ticket c.args.member.now c.args.group.now (preparing_is c.args.group.now.phase (sym c.is_preparing.ensures ∙ c.if-is_preparing.true))
          (sym (c.waits_for_others.ensures ∙ ap (list_any _) c.as_slice.ensures.value) ∙ c.if-waits_for_others.true));
    }

pub returns : goal.returns
returns c = λ _ now fresh ticket. c.requires.taken now fresh ticket ∙ ap Ok (known_again now c.args.r.now c.args.id.now ticket c.args.member.now c.args.group.now (sym c.is_current.ensures ∙ c.if-is_current.false))
