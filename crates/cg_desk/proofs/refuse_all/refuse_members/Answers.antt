use Rattle.std.proofs.Common.{◌≡◌, ◌≤◌, List, length, map, ap, rules, arith}
use Rattle.std.proofs.Math.ListN.{drop_of_length-le}
use Rattle.cg_group_state.specs.declared.member.Member.{Member}
use Rattle.cg_desk.specs.Answering.{refusal}
use Rattle.cg_desk.proofs.Leaving.{told_many, told_out, told_then, told_tokens}
use Rattle.cg_desk.proofs.Parked.{parked_in, refused_from}
use Rattle.cg_desk.proofs.refuse_all.refuse_members.Goals as goal

pub loop-member-preserved : goal.loop-member-preserved
loop-member-preserved c =
    let l = c.loop-member in
    let n = l.member-index in
    let members : List Member = c.as_slice-member-items.result.now in
    let member : Member = c.member-item.result in
    let first = refused_from members n member c.loop-member-test.true c.member-item.is in
    let many = told_many _ _ _ l.tokens.items c.refuse_member.new.tokens.items l.out.items c.refuse_member.new.out.items first c.refuse_member.ensures.tokens c.refuse_member.ensures.out in
    record {
      told = told_then l.invariant.told many;
      room = search rules;
      sum = search rules;
      capacity = search rules;
    }

pub returns : goal.returns
returns c =
    let l = c.loop-member in
    let members : List Member = c.as_slice-member-items.result.now in
    let past : length members ≤ l.member-index = omega arith in
    let empty = ap (λ (ms : List Member). map refusal (parked_in ms)) (drop_of_length-le members past) in
    let own : members ≡ c.args.group.now.members = search rules in
    let all = ap (λ (ms : List Member). map refusal (parked_in ms)) own in
    record {
      out = told_out all empty l.invariant.told;
      tokens = told_tokens all empty l.invariant.told;
      room = search rules;
      sum = search rules;
      capacity = search rules;
    }
