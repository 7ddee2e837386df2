use Rattle.std.proofs.Common.{length}
use Rattle.cg_root.proofs.root_decoder.+is_among.Given as goal

abbrev pub decreases-is_among : goal.decreases-is_among
decreases-is_among l = length l.bytes.now
