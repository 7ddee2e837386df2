use Rattle.std.proofs.Common.{◌≡◌, take}
use Rattle.cg_engine.proofs.trail.reply_copies.copied_replies.Given as goal

abbrev pub invariant-loop-ticket : goal.invariant-loop-ticket
invariant-loop-ticket l = l.copies ≡ take l.ticket-index l.replies
