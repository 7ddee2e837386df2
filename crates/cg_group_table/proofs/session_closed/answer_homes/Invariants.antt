use Rattle.std.specs.BTreeMap.{keys}
use Rattle.cg_group_rules.specs.Leave.{gone_in}
use Rattle.cg_group_table.proofs.Successive.{HaveStepped, Along}
use Rattle.cg_group_table.proofs.session_closed.answer_homes.Given as goal

abbrev pub invariant-loop-id : goal.invariant-loop-id
invariant-loop-id l = Along (HaveStepped (gone_in l.now l.session) l.initial.held l.held) (keys l.ids) l.id-iterator
