use Rattle.std.proofs.Common.{◌+◌, ◌-◌, ◌*◌, length, ap, ◌∙◌, arith, rules}
use Rattle.cg_disk.proofs.Bytes.{written-overwritten, length-overwritten}
use Rattle.cg_disk.proofs.record.restore.Goals as goal

pub returns-clause-restored : goal.returns-clause-restored
returns-clause-restored c =
    let at = c.args.at * 512 in
    written-overwritten c.args.disk.now.items c.args.replaced.now c.deref_mut.result.now c.copy_from_slice.new.self at (512 * c.args.at) (at + length c.args.replaced.now - at) c.args.disk.now.len (search rules) (search rules) (omega arith) (omega arith) (omega (arith, c.args.disk.now.ok.0)) c.requires

pub returns-clause-length : goal.returns-clause-length
returns-clause-length c =
    let at = c.args.at * 512 in
    ap length (written-overwritten c.args.disk.now.items c.args.replaced.now c.deref_mut.result.now c.copy_from_slice.new.self at (512 * c.args.at) (at + length c.args.replaced.now - at) c.args.disk.now.len (search rules) (search rules) (omega arith) (omega arith) (omega (arith, c.args.disk.now.ok.0)) c.requires) ∙ length-overwritten c.args.disk.now.items (512 * c.args.at) c.args.replaced.now c.requires
