use Rattle.std.specs.BTreeMap.{keys}
use Rattle.cg_group_table.proofs.Homeward.{HaveTold}
use Rattle.cg_group_table.proofs.Successive.{Along}
use Rattle.cg_group_table.proofs.session_closed.refused_homes.Given as goal

abbrev pub invariant-loop-id : goal.invariant-loop-id
invariant-loop-id l = Along (HaveTold l.session l.groups l.replies) (keys l.ids) l.id-iterator
