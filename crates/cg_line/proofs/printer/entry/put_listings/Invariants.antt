use Rattle.std.proofs.Common.{◌≡◌, ◌++◌, codes, take}
use Rattle.std.specs.List.{flat_map}
use Rattle.cg_line.specs.Replies.{listing_word}
use Rattle.cg_line.proofs.printer.entry.put_listings.Given as goal

abbrev pub invariant-loop-listing : goal.invariant-loop-listing
invariant-loop-listing l = l.out.items ≡ l.fn.out.items ++ flat_map (λ x. codes " " ++ listing_word x) (take l.listing-index l.groups)
