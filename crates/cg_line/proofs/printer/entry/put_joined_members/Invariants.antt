use Rattle.std.proofs.Common.{◌≡◌, ◌++◌, codes, take}
use Rattle.std.specs.List.{flat_map}
use Rattle.cg_line.specs.Replies.{joined_word}
use Rattle.cg_line.proofs.printer.entry.put_joined_members.Given as goal

abbrev pub invariant-loop-member : goal.invariant-loop-member
invariant-loop-member l = l.out.items ≡ l.fn.out.items ++ flat_map (λ x. codes " " ++ joined_word x) (take l.member-index l.members)
