use Rattle.std.proofs.Common.{◌≡◌, ◌++◌, take}
use Rattle.std.specs.List.{flat_map}
use Rattle.cg_sim.specs.Telling.{reply_text}
use Rattle.cg_sim.proofs.output_lines.put_all.Given as goal

abbrev pub invariant-loop-outgoing : goal.invariant-loop-outgoing
invariant-loop-outgoing l = l.out.items ≡ l.fn.out.items ++ flat_map reply_text (take l.outgoing-index l.replies)
