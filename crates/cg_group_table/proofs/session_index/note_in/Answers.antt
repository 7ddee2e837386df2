use Rattle.std.specs.BTreeMap.{get}
use Rattle.std.specs.Cmp.Lexicographic.{slice_cmp}
use Rattle.std.specs.Ordering.{nat_cmp}
use Rattle.cg_group_table.specs.declared.session_index.Home.TheVariants.{Certain}
use Rattle.cg_group_table.proofs.Homing.{inserted_alone}
use Rattle.cg_group_table.proofs.session_index.note_in.Goals as goal

pub returns-clause-fewer : goal.returns-clause-fewer
returns-clause-fewer c = λ x h. inserted_alone c.args.id x (get (slice_cmp nat_cmp) c.args.groups.now x) (get (slice_cmp nat_cmp) c.insert.new.self x) Certain (c.in_ok-insert.ensures.updates.0 x) h
