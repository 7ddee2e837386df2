use Rattle.std.proofs.Common.{◌-◌, List, length, take, drop, sym, ap, ◌∙◌, rules, arith}
use Rattle.indexmap.specs.IndexMap.{get}
use Rattle.std.specs.Prelude.{nat_eq}
use Rattle.std.specs.Cmp.Lexicographic.{pointwise}
use Rattle.cg_group_state.specs.declared.member.Member.{Member}
use Rattle.cg_request.specs.Names.{are_distinct}
use Rattle.cg_group_state.specs.Members.{ids}
use Rattle.cg_group_state.proofs.Exchanges.{all_taken, first_alone, rest_is}
use Rattle.cg_group_state.proofs.assignments.+take_all.Goals as goal

pub take_all-requires : goal.take_all-requires
take_all-requires t c =
    let is = rest_is c.args.members.now c.first-item.result (omega arith) c.first-item.is in
    (search rules, (first_alone c.first-item.result (take (length c.args.members.now - 1) (drop 1 c.args.members.now)) (ap (λ (ms : List Member). are_distinct (ids ms)) (sym is) ∙ c.requires)).1)

pub returns-in_ok-take_all-in-len1-up : goal.returns-in_ok-take_all-in-len1-up
returns-in_ok-take_all-in-len1-up t c =
    all_taken (get (pointwise nat_eq) c.args.index.now) (get (pointwise nat_eq) c.take_out.new.index) c.first-item.result _ c.args.members.now c.args.taken.now.items c.push.new.self.items c.take_all.new.taken.items c.take_out.result
    (rest_is c.args.members.now c.first-item.result (omega arith) c.first-item.is)
    c.requires c.take_out.ensures.others c.take_out.ensures.value c.in_ok-push-in-len1-up.ensures.items c.in_ok-take_all-in-len1-up.ensures
