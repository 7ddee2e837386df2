use Rattle.std.proofs.Common.{◌≡◌, ◌+◌, ◌-◌, ◌*◌, length, take, drop, ap, ◌∙◌, arith, rules}
use Rattle.std.proofs.lemmas.Grind.{common_steps}
use Rattle.cg_disk.proofs.Bytes.{written-overwritten, length-overwritten}
use Rattle.cg_disk.proofs.record.replace.Goals as goal

pub returns-clause-written : goal.returns-clause-written
returns-clause-written c =
    let at = c.args.at * 512 in
    written-overwritten c.args.disk.now.items c.args.bytes.now c.deref_mut.result.now c.copy_from_slice.new.self at (512 * c.args.at) (at + length c.args.bytes.now - at) c.args.disk.now.len (search rules) (search rules) (omega arith) (omega arith) (omega (arith, c.args.disk.now.ok.0)) c.requires

pub returns-clause-noted : goal.returns-clause-noted
returns-clause-noted c =
    let same : c.in_ok-replaced.replaced.items ≡ take (length c.args.bytes.now) (drop (512 * c.args.at) c.args.disk.now.items) = grind (arith, common_steps, c.in_ok-replaced.ensures) in
    (c.in_ok-replaced.replaced, same, c.in_ok-push.ensures.items)

pub returns-clause-length : goal.returns-clause-length
returns-clause-length c =
    let at = c.args.at * 512 in
    ap length (written-overwritten c.args.disk.now.items c.args.bytes.now c.deref_mut.result.now c.copy_from_slice.new.self at (512 * c.args.at) (at + length c.args.bytes.now - at) c.args.disk.now.len (search rules) (search rules) (omega arith) (omega arith) (omega (arith, c.args.disk.now.ok.0)) c.requires) ∙ length-overwritten _ _ _ c.requires
