use Rattle.std.proofs.Common.{◌≡◌, ◌<◌, ◌≤◌, [], length, map, refl, ap, sym, ◌∙◌, rules}
use Rattle.std.proofs.lemmas.List.{nil_from_length}
use Rattle.cg_desk.specs.Permits.{front_of}
use Rattle.cg_desk.specs.Held.{ready, released}
use Rattle.cg_desk.specs.Origins.{sent}
use Rattle.cg_desk.proofs.Leaving.{all-held, front_is, none-released, ready-none, released-front, still-front, told_many, told_out, told_then, told_tokens}
use Rattle.cg_desk.proofs.pending_replies.HeldStep.release.Goals as goal

pub loop-next-preserved : goal.loop-next-preserved
loop-next-preserved c =
    let l = c.loop-next in
    let front = front_of c.args.permit.now in
    let next = c.in-Some.next.now in
    let popped = c.in-Some-pop_front.field-0 in
    let some : 0 < length l.held.items = search rules in
    let items = front_is l.held.items c.pop_front.new.self.items popped some c.in-Some-pop_front.ensures.lookup c.pop_front.ensures.rest in
    let also = front_is l.held.items c.pop_front.new.self.items next some c.in-Some.ensures.lookup c.pop_front.ensures.rest in
    let same : popped ≡ next = cc in
    let passes : popped.origin.need ≤ front = search rules in
    let gone = released-front front popped c.pop_front.new.self.items l.held.items items passes in
    let many = told_many (released front l.held.items) (map (sent popped.origin) popped.replies) (released front c.pop_front.new.self.items) l.tokens.items c.answer_calls.new.tokens.items l.out.items c.answer_calls.new.out.items gone c.answer_calls.ensures.tokens c.answer_calls.ensures.out in
    record {
      told = told_then l.invariant.told many;
      held = sym (still-front front popped c.pop_front.new.self.items l.held.items items passes) ∙ l.invariant.held;
      room = search rules;
      fewer = search rules;
      capacity = search rules;
    }

pub returns-then-next-front : goal.returns-then-next-front
returns-then-next-front c =
    let l = c.loop-next in
    let front = front_of c.args.permit.now in
    let some : 0 < length l.held.items = search rules in
    let waits : front < c.in-Some.next.now.origin.need = search rules in
    let none = ready-none front c.in-Some.next.now l.held.items some c.in-Some.ensures.lookup waits in
    let empty = none-released front l.held.items none in
    record {
      out = told_out refl empty l.invariant.told;
      tokens = told_tokens refl empty l.invariant.told;
      held = sym (all-held front l.held.items none) ∙ l.invariant.held;
      room = search rules;
      fewer = search rules;
      capacity = search rules;
    }

pub returns-in_default : goal.returns-in_default
returns-in_default c =
    let l = c.loop-next in
    let front = front_of c.args.permit.now in
    let no : l.held.items ≡ [] = nil_from_length _ (search rules) in
    let none = ap (ready front) no in
    let empty = none-released front l.held.items none in
    record {
      out = told_out refl empty l.invariant.told;
      tokens = told_tokens refl empty l.invariant.told;
      held = sym (all-held front l.held.items none) ∙ l.invariant.held;
      room = search rules;
      fewer = search rules;
      capacity = search rules;
    }
