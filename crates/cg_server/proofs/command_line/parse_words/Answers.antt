use Rattle.std.proofs.Common.{◌∙◌, sym}
use Rattle.clap.specs.Words.{found_of}
use Rattle.cg_server.proofs.Asked.{numbers_rows, place_rows, port_rows}
use Rattle.cg_server.proofs.command_line.parse_words.Goals as goal

pub returns-in-Some-clause-port : goal.returns-in-Some-clause-port
returns-in-Some-clause-port g c = sym (port_rows (found_of c.in-Ok.matches) _ c.in-Ok.ensures.rows) ∙ sym c.in-Some.ensures.port

pub returns-in-Some-clause-place : goal.returns-in-Some-clause-place
returns-in-Some-clause-place g c = place_rows (found_of c.in-Ok.matches) _ c.in-Some.arguments.place c.in-Ok.ensures.rows c.in-Some.ensures.place

pub returns-in-Some-clause-numbers : goal.returns-in-Some-clause-numbers
returns-in-Some-clause-numbers g c = numbers_rows (found_of c.in-Ok.matches) _ c.in-Some.arguments c.in-Ok.ensures.rows c.in-Some.ensures.numbers

pub returns-in-Ok-clause-address : goal.returns-in-Ok-clause-address
returns-in-Ok-clause-address g c = λ _. sym (port_rows (found_of c.in-Ok.matches) _ c.in-Ok.ensures.rows) ∙ sym c.in-None.ensures.port
