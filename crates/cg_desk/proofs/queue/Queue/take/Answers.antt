use Rattle.std.proofs.Common.{◌≡◌, ◌≤◌, ◌∙◌, length, subst, sym, rules}
use Rattle.std.specs.Prelude.{List}
use Rattle.cg_frame.specs.declared.segment.TheConstants.{LARGEST_PAYLOAD_BYTES}
use Rattle.cg_record.specs.declared.command.Command.{Command}
use Rattle.cg_record.specs.Spelling.{spelling}
use Rattle.cg_store.specs.Batches.{IsBatch}
use Rattle.cg_desk.specs.Fronts.{spelled}
use Rattle.cg_desk.specs.Queues.{commands_of}
use Rattle.cg_desk.proofs.FullTexts.{draft_is_front}
use Rattle.cg_desk.proofs.queue.Queue.take.Goals as goal

pub returns-in_ok-leaving-in-Some-clause-taken : goal.returns-in_ok-leaving-in-Some-clause-taken
returns-in_ok-leaving-in-Some-clause-taken c =
    let said = c.in_ok-fill.ensures in
    let queue = c.fill.new.self in
    let kept : c.in-Some.kept ≡ spelled queue.draft = rw c.in-Some.is at c.in_ok-share.ensures.shared in
    let batch : IsBatch c.in-Some.kept = rw c.in-Some.is at c.in_ok-share.ensures.batch in
    let fits = subst (λ (cs : List Command). length (spelling cs) ≤ LARGEST_PAYLOAD_BYTES) kept batch.small in
    let front = draft_is_front (commands_of c.args.self.now) (spelled queue.draft) queue.front.items queue.lists.items (sym said.commands) fits said.lists said.full in
    let leaving : c.in_ok-leaving-in-Some.leaving ≡ c.in-Some.kept = search rules in
    (leaving ∙ kept ∙ sym front.0, sym leaving)

pub returns-in_ok-leaving-in-Some-clause-rest : goal.returns-in_ok-leaving-in-Some-clause-rest
returns-in_ok-leaving-in-Some-clause-rest c =
    let said = c.in_ok-fill.ensures in
    let queue = c.fill.new.self in
    let kept : c.in-Some.kept ≡ spelled queue.draft = rw c.in-Some.is at c.in_ok-share.ensures.shared in
    let batch : IsBatch c.in-Some.kept = rw c.in-Some.is at c.in_ok-share.ensures.batch in
    let fits = subst (λ (cs : List Command). length (spelling cs) ≤ LARGEST_PAYLOAD_BYTES) kept batch.small in
    let front = draft_is_front (commands_of c.args.self.now) (spelled queue.draft) queue.front.items queue.lists.items (sym said.commands) fits said.lists said.full in
    sym front.1
