use Rattle.std.proofs.Common.{◌∷◌, [], codes}
use Rattle.std.specs.Fmt.{decimal}
use Rattle.cg_sim.proofs.Known.{appends_three}
use Rattle.cg_sim.proofs.script.tell_bad_line.Goals as goal

pub returns-clause-written : goal.returns-clause-written
returns-clause-written g c =
    let number = rw (c.as_bytes.ensures.value, c.format.ensures.text) at c.in_ok-write_all-2.ensures.bytes in
    appends_three _ _ _ _ (codes "BAD SCRIPT LINE ") (decimal c.args.number) (10 ∷ []) c.in_ok-write_all.ensures.bytes number c.in_ok-write_all-3.ensures.bytes
