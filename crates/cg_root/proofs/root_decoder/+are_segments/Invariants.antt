use Rattle.std.proofs.Common.{length}
use Rattle.cg_root.proofs.root_decoder.+are_segments.Given as goal

abbrev pub decreases-are_segments : goal.decreases-are_segments
decreases-are_segments l = length l.bytes.now
