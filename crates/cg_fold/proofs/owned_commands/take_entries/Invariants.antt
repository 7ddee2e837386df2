use Rattle.std.proofs.Common.{◌≡◌, map, take, drop}
use Rattle.cg_fold.specs.Snapshot.{entry_of}
use Rattle.cg_fold.proofs.owned_commands.take_entries.Given as goal

abbrev pub invariant-loop-count : goal.invariant-loop-count
invariant-loop-count l = record {
  entries : l.entries.items ≡ map entry_of (take l.count l.initial.rows.items);
  rest : l.rows.items ≡ drop l.count l.initial.rows.items;
}
