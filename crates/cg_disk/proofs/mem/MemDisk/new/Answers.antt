use Rattle.std.proofs.Common.{◌≡◌, ap, ◌∙◌, get_or, replicate, false, rules}
use Rattle.cg_disk.specs.Record.{is_unsynced}
use Rattle.cg_disk.specs.Mem.{mem_history}
use Rattle.cg_disk.proofs.Bytes.{sector-zeros}
use Rattle.cg_disk.proofs.Recorded.{content-present, unsynced-present}
use Rattle.cg_disk.proofs.mem.MemDisk.new.Goals as goal

pub returns-clause-zeros : goal.returns-clause-zeros
unfolding mem_history
returns-clause-zeros c s i =
    let zeros : c.in_ok-vec.field-0.items ≡ replicate c.in_ok-size.size 0 = search rules in
    ap (λ l. get_or l i 0) (content-present c.in_ok-vec.field-0.items c.new.result.items s) ∙ sector-zeros c.in_ok-vec.field-0.items c.in_ok-size.size s i zeros

pub returns-clause-synced : goal.returns-clause-synced
unfolding mem_history
returns-clause-synced c s = unsynced-present c.in_ok-vec.field-0.items c.new.result.items s ∙ ap (λ l. is_unsynced l s false) c.new.ensures.items
