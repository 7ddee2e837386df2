use Rattle.std.proofs.Common.{◌≡◌, ℕ, List, [], Ok}
use Rattle.cg_record.specs.declared.entry.Entry.{Entry}
use Rattle.cg_record.specs.Keys.{is_of}
use Rattle.cg_record.specs.Partitions.{topic_partition}
use Rattle.cg_record.specs.Reading.{entry_at, entries_at}
use Rattle.cg_record.proofs.Again.{IsUnmet}
use Rattle.cg_record.proofs.command_check.is_repeated.Given as goal

abbrev pub invariant-loop : goal.invariant-loop
invariant-loop l = (whole : List Entry) (end : List ℕ) → entries_at l.count [] l.start ≡ Ok (whole, end) → IsUnmet entry_at l.count l.counter (is_of (topic_partition l.topic l.partition)) whole end l.rest
