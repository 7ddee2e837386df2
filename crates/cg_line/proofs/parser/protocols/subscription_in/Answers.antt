use Rattle.std.proofs.Common.{ap, length, arith}
use Rattle.cg_record.specs.declared.opaque.TheConstants.{SUBSCRIPTION_BYTES_MAX}
use Rattle.cg_line.proofs.Digits.{opaque_parts}
use Rattle.cg_line.proofs.parser.protocols.subscription_in.Goals as goal

pub bytes_in-requires : goal.bytes_in-requires
bytes_in-requires c = (opaque_parts SUBSCRIPTION_BYTES_MAX c.args.word.now c.requires).0

pub unreachable-requires : goal.unreachable-requires
unreachable-requires c =
    let few = (opaque_parts SUBSCRIPTION_BYTES_MAX c.args.word.now c.requires).1 in
    omega (arith, few, ap length c.in_ok-bytes_in.ensures, c.in-Err.ensures.cases.0)
