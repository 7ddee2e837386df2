use Rattle.std.proofs.Common.{◌≡◌, ◌∷◌, take}
use Rattle.std.specs.List.{flat_map, AllByRecursion}
use Rattle.cg_record.specs.Lawful.{IsCommand}
use Rattle.cg_record.specs.Spelling.{command_text}
use Rattle.cg_record.specs.Versions.{byte_of, newest}
use Rattle.cg_record.proofs.encoder.write.Given as goal

abbrev pub invariant-loop-command : goal.invariant-loop-command
invariant-loop-command l = (l.out.items ≡ byte_of newest ∷ flat_map command_text (take l.command-index l.commands)) × AllByRecursion IsCommand (take l.command-index l.commands)
