use Rattle.std.proofs.Common.{◌≤◌, length, arith}
use Rattle.cg_line.proofs.Spaced.{bytes_put}
use Rattle.cg_line.proofs.printer.word.put_bytes.Goals as goal

pub returns-clause-ok : goal.returns-clause-ok
returns-clause-ok c =
    let past : length c.args.bytes.now ≤ c.loop-byte.byte-index = omega arith in
    bytes_put c.args.out.now.items c.loop-byte.out.items c.args.bytes.now c.loop-byte.byte-index past c.loop-byte.invariant
