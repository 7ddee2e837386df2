use Rattle.std.proofs.Common.{◌≡◌, ◌++◌, length, map}
use Rattle.std.specs.List.{list_any}
use Rattle.std.specs.Vec.Iter.{into_iter_items, into_iter_len}
use Rattle.cg_request.specs.Commits.{is_long, kept_entry}
use Rattle.cg_request.proofs.commit_entries.all_kept.Given as goal

abbrev pub invariant-loop-item : goal.invariant-loop-item
invariant-loop-item l =
    (l.entries.items ++ map kept_entry (into_iter_items l.item-iterator) ≡ map kept_entry (into_iter_items l.initial.item-iterator))
    × (list_any is_long (into_iter_items l.initial.item-iterator) ≡ list_any is_long (into_iter_items l.item-iterator))
    × (into_iter_len l.item-iterator ≡ length (into_iter_items l.item-iterator))
