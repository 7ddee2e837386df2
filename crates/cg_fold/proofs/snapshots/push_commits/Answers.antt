use Rattle.std.proofs.Common.{◌<◌, ◌≤◌, length, map as each, ap, sym, ◌∙◌, subst, arith, rules, length-drop}
use Rattle.std.specs.Prelude.{IsTrue}
use Rattle.std.specs.FinMap.{is_sorted}
use Rattle.cg_record.specs.Partitions.{partition_cmp}
use Rattle.cg_record.specs.Keys.{metadata_bytes}
use Rattle.cg_record.specs.declared.entries.TheConstants.{COMMIT_METADATA_BYTES_MAX}
use Rattle.cg_fold.specs.Snapshot.{commit_command, entry_of, first_len}
use Rattle.cg_fold.proofs.Own.{sorted-take, sorted-drop}
use Rattle.cg_fold.proofs.Put.{tested, is_true}
use Rattle.cg_fold.proofs.Commits.{commits_none, commits_pushed, length-run}
use Rattle.cg_fold.proofs.snapshots.push_commits.Goals as goal

pub commit_of-requires-clause-some : goal.commit_of-requires-clause-some
commit_of-requires-clause-some c =
    let run = c.first_entries.ensures.longest.fits.run in omega (arith, run.some, length-run c.loop-rest.rest.now run, ap length c.first_entries.ensures.first)

pub commit_of-requires-clause-few : goal.commit_of-requires-clause-few
commit_of-requires-clause-few c =
    let fits = c.first_entries.ensures.longest.fits in omega (arith, fits.few, length-run c.loop-rest.rest.now fits.run, ap length c.first_entries.ensures.first)

pub commit_of-requires-clause-metadata : goal.commit_of-requires-clause-metadata
commit_of-requires-clause-metadata c =
    subst (λ l. metadata_bytes (each entry_of l) ≤ COMMIT_METADATA_BYTES_MAX) (sym c.first_entries.ensures.first) c.first_entries.ensures.longest.fits.metadata

pub commit_of-requires-clause-sorted : goal.commit_of-requires-clause-sorted
commit_of-requires-clause-sorted c =
    let rows = c.loop-rest.rest.now in
    subst (λ l. IsTrue (is_sorted partition_cmp l)) (sym c.first_entries.ensures.first) (is_true _ (sorted-take (first_len rows) rows (tested c.loop-rest.invariant.sorted)))

pub loop-rest-smaller : goal.loop-rest-smaller
loop-rest-smaller c =
    let rows = c.loop-rest.rest.now in
    let some : 0 < length rows = search rules in
    omega (arith, some, c.first_entries.ensures.longest.fits.run.some, ap length c.first_entries.ensures.others, length-drop (first_len rows) rows)

pub loop-rest-preserved : goal.loop-rest-preserved
loop-rest-preserved c =
    let rows = c.loop-rest.rest.now in
    record {
      sorted = subst (λ l. IsTrue (is_sorted partition_cmp l)) (sym c.first_entries.ensures.others) (is_true _ (sorted-drop (first_len rows) rows (tested c.loop-rest.invariant.sorted)));
      rest = commits_pushed c.args.group.now rows c.first_entries.result.0.now c.first_entries.result.1.now c.in_ok-commit_of.field-0 c.loop-rest.commands.items c.push.new.self.items _
          (search rules) c.first_entries.ensures.first c.first_entries.ensures.others (c.in_ok-commit_of.ensures ∙ ap (λ m. commit_command c.args.group.now m c.first_entries.result.0.now) c.first_moment.ensures) c.in_ok-push.ensures.items c.loop-rest.invariant.rest;
    }

pub returns : goal.returns
returns c = commits_none c.args.group.now c.loop-rest.rest.now c.loop-rest.commands.items _ (search rules) c.loop-rest.invariant.rest
