use Rattle.std.proofs.Common.{◌≡◌, ◌∙◌, [], rules, subst, sym}
use Rattle.std.proofs.lemmas.List.{nil_from_length}
use Rattle.cg_desk.specs.Held.{calls_of, replies_of}
use Rattle.cg_desk.specs.Laws.{AreRefusedOnce, tokens_of}
use Rattle.cg_desk.specs.Serving.{books}
use Rattle.cg_desk.specs.States.{Serving}
use Rattle.cg_group_state.specs.Waiting.{waiting_calls}
use Rattle.cg_desk.proofs.Failing.{by_tokens-once, by_tokens-order}
use Rattle.cg_desk.proofs.Leaving.{all_refused}
use Rattle.cg_desk.proofs.Weights.{by_tokens}
use Rattle.cg_desk.proofs.serving.Serving.fail.Goals as goal

pub returns-clause-once : goal.returns-clause-once
returns-clause-once c =
    let empty : c.args.self.leaving.items ≡ [] = nil_from_length _ (search rules) in
    let is : c.refuse_rest-2.new.out.items ≡ by_tokens (books c.args.self) =
    all_refused (calls_of (replies_of c.args.self.held.items)) (waiting_calls c.args.self.groups.groups) _ _ _ _ _ _ _ _ _ empty c.refuse_held.ensures.out c.refuse_held.ensures.tokens c.refuse_waiting.ensures.out c.refuse_waiting.ensures.tokens c.refuse_rest.ensures.out c.refuse_rest-2.ensures.out in
    subst (AreRefusedOnce (tokens_of (Serving (books c.args.self)))) (sym is) (by_tokens-once (books c.args.self))

pub returns-clause-order : goal.returns-clause-order
returns-clause-order c owed =
    let empty : c.args.self.leaving.items ≡ [] = nil_from_length _ (search rules) in
    let is : c.refuse_rest-2.new.out.items ≡ by_tokens (books c.args.self) =
    all_refused (calls_of (replies_of c.args.self.held.items)) (waiting_calls c.args.self.groups.groups) _ _ _ _ _ _ _ _ _ empty c.refuse_held.ensures.out c.refuse_held.ensures.tokens c.refuse_waiting.ensures.out c.refuse_waiting.ensures.tokens c.refuse_rest.ensures.out c.refuse_rest-2.ensures.out in
    is ∙ by_tokens-order (books c.args.self) owed
