use Rattle.std.proofs.Common.{◌+◌, ◌*◌, ◌≤◌, length, sym, ◌∙◌, arith}
use Rattle.cg_disk.specs.Mem.{mem_history}
use Rattle.cg_disk.proofs.Outcomes.{OnOk-from}
use Rattle.cg_disk.proofs.Written.{Changes-noted, Holds-noted, IsUnsynced-noted, TakesCalls-written, within-noted}
use Rattle.cg_disk.proofs.mem.MemDiskSectorDisk.write.Goals as goal

pub invariant_of-self : goal.invariant_of-self
invariant_of-self c =
    let old = c.args.self.now in
    let n = c.replace-noted.ensures in
    let fits : 512 * c.args.at + length c.args.bytes.now ≤ length old.bytes.items = omega (arith, c.requires.in_range, c.requires.whole) in
    record {
      whole = omega (arith, n.length, old.whole);
      within = within-noted old.bytes.items c.args.bytes.now c.replace-noted.new.disk.items c.args.at old.calls.items c.replace-noted.new.calls.items fits c.requires.whole c.replace-noted.result n.length old.within n.noted n.same_calls;
    }

pub returns-clause-same_size : goal.returns-clause-same_size
returns-clause-same_size c = omega (arith, c.replace-noted.ensures.length)

pub returns-clause-time : goal.returns-clause-time
unfolding mem_history
returns-clause-time c honest =
    let old = c.args.self.now in
    let n = c.replace-noted.ensures in
    let fits : 512 * c.args.at + length c.args.bytes.now ≤ length old.bytes.items = omega (arith, c.requires.in_range, c.requires.whole) in
    Changes-noted old.bytes.items c.args.bytes.now c.replace-noted.new.disk.items c.args.at old.calls.items c.replace-noted.new.calls.items fits c.requires.whole c.replace-noted.result n.written n.noted n.same n.same_calls

pub returns-clause-bytes : goal.returns-clause-bytes
unfolding mem_history
returns-clause-bytes c honest =
    let old = c.args.self.now in
    let n = c.replace-noted.ensures in
    let fits : 512 * c.args.at + length c.args.bytes.now ≤ length old.bytes.items = omega (arith, c.requires.in_range, c.requires.whole) in
    OnOk-from c.count.result _ (λ ok. Holds-noted old.bytes.items c.args.bytes.now c.replace-noted.new.disk.items c.args.at old.calls.items c.replace-noted.new.calls.items fits c.requires.whole c.replace-noted.result n.written (sym c.count.ensures.same ∙ ok))

pub returns-clause-marks : goal.returns-clause-marks
unfolding mem_history
returns-clause-marks c honest =
    let old = c.args.self.now in
    let n = c.replace-noted.ensures in
    let fits : 512 * c.args.at + length c.args.bytes.now ≤ length old.bytes.items = omega (arith, c.requires.in_range, c.requires.whole) in
    OnOk-from c.count.result _ (λ ok. IsUnsynced-noted old.bytes.items c.args.bytes.now c.replace-noted.new.disk.items c.args.at old.calls.items c.replace-noted.new.calls.items fits c.requires.whole c.replace-noted.result n.written n.noted (sym c.count.ensures.same ∙ ok))

pub returns-clause-clock : goal.returns-clause-clock
unfolding mem_history
returns-clause-clock c honest =
    let old = c.args.self.now in
    let n = c.replace-noted.ensures in
    let fits : 512 * c.args.at + length c.args.bytes.now ≤ length old.bytes.items = omega (arith, c.requires.in_range, c.requires.whole) in
    TakesCalls-written old.bytes.items c.args.bytes.now c.replace-noted.new.disk.items c.args.at old.calls.items c.replace-noted.new.calls.items fits c.requires.whole c.replace-noted.result _ n.noted n.same_calls (λ ok. sym c.count.ensures.same ∙ ok)
