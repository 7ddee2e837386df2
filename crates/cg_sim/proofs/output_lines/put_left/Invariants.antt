use Rattle.std.proofs.Common.{◌≡◌, ◌++◌, take}
use Rattle.std.specs.List.{flat_map}
use Rattle.cg_sim.specs.Telling.{replies_text}
use Rattle.cg_sim.proofs.output_lines.put_left.Given as goal

abbrev pub invariant-loop-replies : goal.invariant-loop-replies
invariant-loop-replies l = l.out.items ≡ l.fn.out.items ++ flat_map replies_text (take l.replies-index l.left)
