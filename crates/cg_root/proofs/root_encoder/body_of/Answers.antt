use Rattle.std.proofs.Common.{length, ap, arith}
use Rattle.std.proofs.lemmas.List.{length-append}
use Rattle.cg_root.proofs.root_encoder.body_of.Goals as goal

pub push_ids-requires : goal.push_ids-requires
push_ids-requires c = omega (arith, length-append c.args.root.now.base c.args.root.now.tail, ap length c.as_slice.ensures, c.head_of_root-sector.ensures.long)

pub push_ids-requires-2 : goal.push_ids-requires-2
push_ids-requires-2 c =
    omega (arith, length-append c.args.root.now.base c.args.root.now.tail, ap length c.as_slice.ensures, ap length c.as_slice-2.ensures, c.push_ids.ensures.longer, c.head_of_root-sector.ensures.long)
