use Rattle.std.proofs.Common.{◌≡◌, List, [], ◌∷◌, length, map, sym, ap, ◌∙◌, rules, arith}
use Rattle.std.specs.Vec.Iter.{into_iter_items}
use Rattle.std.proofs.lemmas.List.{nil_from_length}
use Rattle.cg_group_state.specs.declared.reply.Reply.{Reply}
use Rattle.cg_request.specs.declared.ticket.Ticket.{Ticket}
use Rattle.cg_desk.specs.Answering.{refusal}
use Rattle.cg_desk.specs.Held.{calls_of}
use Rattle.cg_desk.proofs.Leaving.{told_one, told_out, told_then, told_tokens}
use Rattle.cg_desk.proofs.refuse_all.refuse_many.Goals as goal

pub loop-reply-preserved : goal.loop-reply-preserved
loop-reply-preserved c =
    let l = c.loop-reply in
    let rest : List (Ticket × Reply) = into_iter_items c.next.new.self in
    let steps : into_iter_items l.reply-iterator ≡ c.in-Some.reply ∷ rest = c.in-Some.ensures.steps.0 in
    let one = told_one (map refusal (calls_of (into_iter_items l.reply-iterator))) (map refusal (calls_of rest)) (refusal c.in-Some.reply.0) l.tokens.items c.refuse_reply.new.tokens.items l.out.items c.refuse_reply.new.out.items (ap (λ rs. map refusal (calls_of rs)) steps) c.refuse_reply.ensures.tokens c.refuse_reply.ensures.out in
    record {
      told = told_then l.invariant.told one;
      len =
          let was = l.invariant.len in
          let gone = c.in-Some.ensures.steps.1 in
          let short = ap length steps in
          omega arith;
      room = search rules;
      sum = search rules;
      capacity = search rules;
    }

pub returns : goal.returns
returns c =
    let l = c.loop-reply in
    let none : into_iter_items l.reply-iterator ≡ [] = nil_from_length _ (sym l.invariant.len ∙ c.in-None.ensures.steps.0) in
    let begun : into_iter_items c.into_iter-reply-iterator.result ≡ c.args.replies.items = c.into_iter-reply-iterator.ensures.into_iter_gives.0 in
    let refusals = λ (rs : List (Ticket × Reply)). map refusal (calls_of rs) in
    let all = ap refusals begun in
    let empty = ap refusals none in
    record {
      out = told_out all empty l.invariant.told;
      tokens = told_tokens all empty l.invariant.told;
      room = search rules;
      sum = search rules;
      capacity = search rules;
    }
