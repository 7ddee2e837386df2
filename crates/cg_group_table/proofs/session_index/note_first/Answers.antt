use Rattle.std.proofs.Common.{ap, cond, Some, ◌∙◌}
use Rattle.std.specs.BTreeMap.{get, is_at}
use Rattle.std.specs.Cmp.Lexicographic.{slice_cmp}
use Rattle.std.specs.Map.{lookup}
use Rattle.std.specs.Ordering.{nat_cmp}
use Rattle.cg_group_table.specs.declared.session_index.Home.TheVariants.{Certain}
use Rattle.cg_group_table.proofs.Homing.{noted_first}
use Rattle.cg_group_table.proofs.session_index.note_first.Goals as goal

pub returns-clause-fewer : goal.returns-clause-fewer
returns-clause-fewer c =
    λ q x h.
    noted_first c.args.session q c.args.id x (get nat_cmp c.args.homes.now q) (get nat_cmp c.insert-2.new.self q) c.insert.new.self (c.in_ok-insert-2.ensures.updates.0 q)
    (c.in_ok-insert.ensures.updates.0 x ∙ ap (λ es. cond (is_at (slice_cmp nat_cmp c.args.id) x) (Some Certain) (lookup (is_at (slice_cmp nat_cmp x)) es)) c.new-groups.ensures.empty)
    h
