use Rattle.std.proofs.Common.{◌≡◌, ◌∙◌, ◌++◌, true, List, ap, sym, rules}
use Rattle.cg_record.specs.declared.command.Command.{Command}
use Rattle.cg_store.proofs.Switching.{HasCopied-more, log-images-same}
use Rattle.cg_store.proofs.compaction_work.write_frame.Goals as goal

pub returns-in_err-next-clause-images : goal.returns-in_err-next-clause-images
returns-in_err-next-clause-images g c has holds =
    let disk = g.D.SectorDisk in
    log-images-same disk.is_honest disk.history disk.size c.args.log.now has holds

pub returns-then-not-branch-clause-images : goal.returns-then-not-branch-clause-images
returns-then-not-branch-clause-images g c has holds =
    let disk = g.D.SectorDisk in
    log-images-same disk.is_honest disk.history disk.size c.args.log.now has holds

pub returns-in_err-commands-clause-images : goal.returns-in_err-commands-clause-images
returns-in_err-commands-clause-images g c has holds =
    let disk = g.D.SectorDisk in
    log-images-same disk.is_honest disk.history disk.size c.args.log.now has holds

pub returns-in-Ok-clause-copied : goal.returns-in-Ok-clause-copied
returns-in-Ok-clause-copied g c all copied =
    let disk = g.D.SectorDisk in
    let new = c.in-Ok.ensures.fresh copied.fresh copied.holds in
    let is : c.in_ok-next.field-0 ≡ true = search rules in
    let next = c.in_ok-next.ensures.next is in
    let order = next.order ∙ ap (λ (l : List Command). l ++ c.next.new.self) (sym c.in_ok-commands.ensures.shared) in
    HasCopied-more disk.is_honest disk.history c.args.log.now c.fresh_append.new.self all c.args.frames.now c.next.new.self c.in_ok-commands.commands c.frame.result.now.0 c.frame.result.now.1
    c.frame.ensures.decoded c.frame.ensures.lawful c.frame.ensures.count order copied new.0 new.1.1 new.1.2
