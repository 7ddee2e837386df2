use Rattle.std.proofs.Common.{[]}
use Rattle.cg_store.proofs.Spelled.{Spell-nil}
use Rattle.cg_store.proofs.new_store.format.Goals as goal

pub returns-clause-ok : goal.returns-clause-ok
returns-clause-ok g c honest image left = record { base = []; tail = []; log = c.in_ok-format.ensures.empty honest image left; spelled = Spell-nil }
