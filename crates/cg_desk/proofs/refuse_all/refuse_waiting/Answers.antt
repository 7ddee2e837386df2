use Rattle.std.proofs.Common.{◌≡◌, List, ◌∷◌, [], map, ap, ◌∙◌, rules}
use Rattle.cg_group_state.specs.Waiting.{waiting_calls}
use Rattle.cg_group_state.specs.declared.group.Group.{Group}
use Rattle.cg_desk.specs.Answering.{refusal}
use Rattle.cg_desk.proofs.Leaving.{told_many, told_out, told_then, told_tokens}
use Rattle.cg_desk.proofs.Parked.{no_groups, refused_first}
use Rattle.cg_desk.proofs.refuse_all.refuse_waiting.Goals as goal

pub loop-group-preserved : goal.loop-group-preserved
loop-group-preserved c =
    let l = c.loop-group in
    let group : Group = c.in-Some.group.now in
    let rest : List Group = c.next.new.self in
    let groups : l.group-iterator ≡ group ∷ rest = search rules in
    let first = refused_first l.group-iterator rest group groups in
    let many = told_many _ _ _ l.tokens.items c.refuse_members.new.tokens.items l.out.items c.refuse_members.new.out.items first c.refuse_members.ensures.tokens c.refuse_members.ensures.out in
    record {
      told = told_then l.invariant.told many;
      room = search rules;
      sum = search rules;
      capacity = search rules;
    }

pub returns : goal.returns
returns c =
    let l = c.loop-group in
    let none : l.group-iterator ≡ [] = search rules in
    let empty = ap (λ (gs : List Group). map refusal (waiting_calls gs)) none ∙ ap (map refusal) no_groups in
    let begun : c.into_iter-group-iterator.result ≡ c.args.groups.now.groups = search rules in
    let all = ap (λ (gs : List Group). map refusal (waiting_calls gs)) begun in
    record {
      out = told_out all empty l.invariant.told;
      tokens = told_tokens all empty l.invariant.told;
      room = search rules;
      sum = search rules;
      capacity = search rules;
    }
