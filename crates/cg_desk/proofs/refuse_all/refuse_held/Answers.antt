use Rattle.std.proofs.Common.{◌≡◌, List, ◌∷◌, [], map, refl, ap, ◌∙◌, rules}
use Rattle.cg_desk.specs.Answering.{refusal}
use Rattle.cg_desk.specs.Held.{calls_of, replies_of}
use Rattle.cg_desk.specs.declared.pending_replies.HeldStep.{HeldStep}
use Rattle.cg_desk.proofs.Leaving.{refusals-append, told_many, told_out, told_then, told_tokens}
use Rattle.cg_desk.proofs.refuse_all.refuse_held.Goals as goal

pub loop-replies-preserved : goal.loop-replies-preserved
loop-replies-preserved c =
    let l = c.loop-replies in
    let rest : List HeldStep = c.pop_front.new.self.items in
    let items : l.held.items ≡ c.in-Some.field-0 ∷ rest = c.in-Some.ensures.items in
    let gone = ap (λ held. map refusal (calls_of (replies_of held))) items ∙ refusals-append c.in-Some.field-0.replies (replies_of rest) in
    let many = told_many (map refusal (calls_of (replies_of l.held.items))) (map refusal (calls_of c.in-Some.field-0.replies)) (map refusal (calls_of (replies_of rest))) l.tokens.items c.refuse_calls.new.tokens.items l.out.items c.refuse_calls.new.out.items gone (search rules) (search rules) in
    record {
      told = told_then l.invariant.told many;
      room = search rules;
      sum = search rules;
      capacity = search rules;
    }

pub returns : goal.returns
returns c =
    let l = c.loop-replies in
    let none : l.held.items ≡ [] = search rules in
    let empty = ap (λ held. map refusal (calls_of (replies_of held))) none in
    record {
      out = told_out refl empty l.invariant.told;
      tokens = told_tokens refl empty l.invariant.told;
      held = search rules;
      room = search rules;
      sum = search rules;
      capacity = search rules;
    }
