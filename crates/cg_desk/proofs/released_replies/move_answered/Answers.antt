use Rattle.std.proofs.Common.{◌≡◌, ◌≤◌, ◌+◌, List, [], length, drop, ap, refl, rules, arith}
use Rattle.std.proofs.Math.ListN.{drop_of_length-le}
use Rattle.cg_group_state.specs.declared.reply.Reply.{Reply}
use Rattle.cg_request.specs.declared.ticket.Ticket.{Ticket}
use Rattle.cg_desk.specs.Held.{calls_of}
use Rattle.cg_desk.proofs.Moving.{calls_from, moved_left, moved_none, moved_one, moved_out}
use Rattle.cg_desk.proofs.released_replies.move_answered.Goals as goal
use Rattle.cg_desk.proofs.released_replies.move_answered.Goals.{in-Some, in_default}

pub loop-reply-preserved : goal.loop-reply-preserved
loop-reply-preserved c =
    let l = c.loop-reply in
    let replies : List (Ticket × Reply) = c.args.replies.now in
    let r : Ticket × Reply = c.reply-item.result in
    let first = calls_from replies l.reply-index r c.loop-reply-test.true c.reply-item.is in
    let ts : List Ticket = calls_of replies in
    let us : List Ticket = calls_of (drop l.reply-index replies) in
    let vs : List Ticket = calls_of (drop (l.reply-index + 1) replies) in
    elim c.match-take_token.branch [
      | in-Some w ↦ record {
        moved = moved_one ts us vs r.0 w.in-Some.token c.args.parked.now.items c.args.replied.now.items l.parked.items l.replied.items c.take_token.new.tokens.items c.match-take_token.replied.items first l.invariant.moved w.in-Some.ensures.cases.0 w.in-Some.ensures.cases.1 c.take_token.ensures.tokens (search rules);
        sum = search rules;
        room = search rules;
      }
      | in_default w ↦ record {
        moved = moved_none ts us vs r.0 c.args.parked.now.items c.args.replied.now.items l.parked.items l.replied.items c.take_token.new.tokens.items c.match-take_token.replied.items first l.invariant.moved (search rules) c.take_token.ensures.tokens (search rules);
        sum = search rules;
        room = search rules;
      }
    ]

pub returns-clause-replied : goal.returns-clause-replied
returns-clause-replied c =
    let l = c.loop-reply in
    let replies : List (Ticket × Reply) = c.args.replies.now in
    let past : length replies ≤ l.reply-index = omega arith in
    let none = ap calls_of (drop_of_length-le replies past) in
    moved_out (calls_of replies) (calls_of replies) (calls_of (drop l.reply-index replies)) c.args.parked.now.items c.args.replied.now.items l.parked.items l.replied.items refl none l.invariant.moved

pub returns-clause-parked : goal.returns-clause-parked
returns-clause-parked c =
    let l = c.loop-reply in
    let replies : List (Ticket × Reply) = c.args.replies.now in
    let past : length replies ≤ l.reply-index = omega arith in
    let none = ap calls_of (drop_of_length-le replies past) in
    moved_left (calls_of replies) (calls_of replies) (calls_of (drop l.reply-index replies)) c.args.parked.now.items c.args.replied.now.items l.parked.items l.replied.items refl none l.invariant.moved
