use Rattle.std.proofs.Common.{is_some, ap, sym, ◌∙◌}
use Rattle.std.specs.BTreeMap.{get}
use Rattle.std.specs.Cmp.Lexicographic.{slice_cmp}
use Rattle.std.specs.Option.{option_copied_mut}
use Rattle.std.specs.Ordering.{nat_cmp}
use Rattle.cg_group_table.specs.declared.session_index.Home.TheVariants.{Doubtful}
use Rattle.cg_group_table.proofs.Homing.{written_adds_none}
use Rattle.cg_group_table.proofs.session_index.doubt_in.Goals as goal

pub returns-in-Some-clause-fewer : goal.returns-in-Some-clause-fewer
returns-in-Some-clause-fewer c =
    let groups = c.args.groups.now in
    let here = sym c.get_mut.ensures.value ∙ ap option_copied_mut c.in-Some.is in
    let written = (c.get_mut.follows.holds Doubtful).3 (ap is_some here) in
    λ x h. written_adds_none c.args.id.now x (get (slice_cmp nat_cmp) groups x) (get (slice_cmp nat_cmp) (c.get_mut.follows.lender Doubtful) x) (get (slice_cmp nat_cmp) groups c.args.id.now) Doubtful (written.0 x) (λ same. ap (get (slice_cmp nat_cmp) groups) same) (ap is_some here) h
