use Rattle.std.proofs.Common.{◌≡◌, ◌*◌, ◌+◌, length, take, drop, is_ok, is_err, true, sym, refl, ◌∙◌, arith, rules}
use Rattle.cg_disk.specs.Mem.{mem_history}
use Rattle.cg_disk.specs.declared.record.Call.TheVariants.{Read}
use Rattle.cg_disk.proofs.Bytes.{sector-part}
use Rattle.cg_disk.proofs.Outcomes.{is_ok-from_is_err}
use Rattle.cg_disk.proofs.Recorded.{Stays-noted, TakesCalls-noted, content-present}
use Rattle.cg_disk.proofs.mem.MemDiskSectorDisk.read.Goals as goal

pub returns-in_err-count-clause-time : goal.returns-in_err-count-clause-time
unfolding mem_history
returns-in_err-count-clause-time c honest =
    Stays-noted (is_ok c.push-noted.result) c.args.self.now.bytes.items c.args.self.now.calls.items _ Read c.push-noted.ensures.items refl (λ s. refl)

pub returns-clause-time : goal.returns-clause-time
unfolding mem_history
returns-clause-time c honest =
    Stays-noted (is_ok c.push-noted.result) c.args.self.now.bytes.items c.args.self.now.calls.items _ Read c.push-noted.ensures.items refl (λ s. refl)

pub returns-clause-bytes : goal.returns-clause-bytes
unfolding mem_history
returns-clause-bytes c honest i lt =
    let n = length c.args.bytes.now in
    let a = c.args.at * 512 in
    let got : c.copy_from_slice.new.self ≡ take n (drop a c.args.self.now.bytes.items) = search rules in
    content-present c.args.self.now.bytes.items c.args.self.now.calls.items (c.args.at + i)
    ∙ sector-part c.args.self.now.bytes.items c.copy_from_slice.new.self a c.args.at n i got (omega arith) (omega arith)

pub returns-in_err-count-clause-clock : goal.returns-in_err-count-clause-clock
unfolding mem_history
returns-in_err-count-clause-clock c honest =
    TakesCalls-noted (is_ok c.push-noted.result) _ c.args.self.now.bytes.items _ c.args.self.now.calls.items _ Read c.push-noted.ensures.items (λ ok. let failed : is_err c.from_residual.result ≡ true = search rules in cc)

pub returns-clause-clock : goal.returns-clause-clock
unfolding mem_history
returns-clause-clock c honest =
    TakesCalls-noted (is_ok c.push-noted.result) _ c.args.self.now.bytes.items _ c.args.self.now.calls.items _ Read c.push-noted.ensures.items (λ _. is_ok-from_is_err c.push-noted.result (sym c.in_ok-count.ensures.same))
