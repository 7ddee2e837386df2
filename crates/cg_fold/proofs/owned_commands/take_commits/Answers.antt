use Rattle.std.proofs.Common.{◌<◌, length, take, ap, sym, subst, refl, arith, rules, length-drop}
use Rattle.std.specs.Prelude.{IsTrue}
use Rattle.std.specs.FinMap.{is_sorted}
use Rattle.cg_record.specs.Partitions.{partition_cmp}
use Rattle.cg_fold.specs.Snapshot.{first_len}
use Rattle.cg_fold.proofs.Own.{sorted-drop}
use Rattle.cg_fold.proofs.Put.{tested, is_true}
use Rattle.cg_fold.proofs.Commits.{commits_none, commits_pushed}
use Rattle.cg_fold.proofs.Longest.{first_run}
use Rattle.cg_fold.proofs.owned_commands.take_commits.Goals as goal

pub loop-alloc-smaller : goal.loop-alloc-smaller
loop-alloc-smaller c =
    let rows = c.loop-alloc.rest.items in
    let some : 0 < length rows = search rules in
    omega (arith, some, (first_run rows some).some, ap length c.in_ok-take_commit.ensures.others, length-drop (first_len rows) rows)

pub loop-alloc-preserved : goal.loop-alloc-preserved
loop-alloc-preserved c =
    let rows = c.loop-alloc.rest.items in
    let others = c.in_ok-take_commit.ensures.others in
    record {
      sorted = subst (λ l. IsTrue (is_sorted partition_cmp l)) (sym others) (is_true _ (sorted-drop (first_len rows) rows (tested c.loop-alloc.invariant.sorted)));
      rest = commits_pushed c.args.group.now rows (take (first_len rows) rows) c.take_commit.new.rows.items c.in_ok-take_commit.field-0 c.loop-alloc.commands.items c.push.new.self.items _
          (search rules) refl others c.in_ok-take_commit.ensures.command c.in_ok-push.ensures.items c.loop-alloc.invariant.rest;
    }

pub returns : goal.returns
returns c = commits_none c.args.group.now c.loop-alloc.rest.items c.loop-alloc.commands.items _ (search rules) c.loop-alloc.invariant.rest
