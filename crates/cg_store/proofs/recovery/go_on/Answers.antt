use Rattle.cg_store.proofs.Reading.{read-more, unread-push}
use Rattle.cg_store.proofs.recovery.go_on.Goals as goal

pub returns-then-not-all_read : goal.returns-then-not-all_read
returns-then-not-all_read c frames read = unread-push c.args.all_read frames c.args.count c.args.payload.now c.args.durable.now c.args.durable.now c.if-not-all_read.true read

pub returns : goal.returns
returns c frames read =
    read-more c.args.all_read c.in_ok-is_text.is_text frames c.args.count c.args.payload.now c.args.durable.now c.add_commands.new.durable c.if-not-all_read.false read c.in_ok-is_text.ensures
