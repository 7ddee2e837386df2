use Rattle.cg_line.proofs.Answered.{malformed_spells_none, many_spell_none, memory_spells, ok_spells, spelled_is_read}
use Rattle.cg_line.proofs.parser.parse.Goals as goal

pub returns-in_default-clause-complete : goal.returns-in_default-clause-complete
returns-in_default-clause-complete c = λ r spells within. absurd (many_spell_none c.args.line.now c.in_default.ensures r spells)

pub returns-in_default-clause-malformed : goal.returns-in_default-clause-malformed
returns-in_default-clause-malformed c = λ is r spells. many_spell_none c.args.line.now c.in_default.ensures r spells

pub returns-clause-ok : goal.returns-clause-ok
returns-clause-ok c = ok_spells c.args.line.now c.in-Some.read c.in-Some.ensures

pub returns-clause-complete : goal.returns-clause-complete
returns-clause-complete c = λ r spells within. spelled_is_read c.args.line.now c.in-Some.read c.in-Some.ensures r spells

pub returns-clause-malformed : goal.returns-clause-malformed
returns-clause-malformed c = λ is r spells. malformed_spells_none c.args.line.now c.in-Some.read c.in-Some.ensures is r spells

pub returns-clause-memory : goal.returns-clause-memory
returns-clause-memory c = λ is. memory_spells c.args.line.now c.in-Some.read c.in-Some.ensures is
