use Rattle.std.proofs.Common.{is_ok, refl, ◌∙◌, sym}
use Rattle.cg_disk.specs.Mem.{mem_history}
use Rattle.cg_disk.specs.declared.record.Call.TheVariants.{Sync}
use Rattle.cg_disk.proofs.Outcomes.{OnOk-from, is_ok-from_is_err}
use Rattle.cg_disk.proofs.Recorded.{Stays-noted, IsSynced-noted, TakesCalls-noted}
use Rattle.cg_disk.proofs.mem.MemDiskSectorDisk.sync.Goals as goal

pub returns-clause-time : goal.returns-clause-time
unfolding mem_history
returns-clause-time c honest =
    Stays-noted (is_ok c.push-noted.result) c.args.self.now.bytes.items c.args.self.now.calls.items _ Sync c.push-noted.ensures.items refl (λ s. refl)

pub returns-clause-durable : goal.returns-clause-durable
unfolding mem_history
returns-clause-durable c honest =
    OnOk-from c.count.result _ (λ ok. IsSynced-noted c.args.self.now.bytes.items c.args.self.now.calls.items _ _ c.push-noted.ensures.items (is_ok-from_is_err c.push-noted.result (sym c.count.ensures.same ∙ ok)))

pub returns-clause-clock : goal.returns-clause-clock
unfolding mem_history
returns-clause-clock c honest =
    TakesCalls-noted (is_ok c.push-noted.result) _ c.args.self.now.bytes.items _ c.args.self.now.calls.items _ Sync c.push-noted.ensures.items (λ ok. is_ok-from_is_err c.push-noted.result (sym c.count.ensures.same ∙ ok))
