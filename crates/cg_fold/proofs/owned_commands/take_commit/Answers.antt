use Rattle.std.proofs.Common.{length, map as each, take, ap, ◌∙◌, arith}
use Rattle.cg_fold.specs.Snapshot.{entry_of, first_len}
use Rattle.cg_fold.proofs.Own.{sorted-take}
use Rattle.cg_fold.proofs.Put.{tested, is_true}
use Rattle.cg_fold.proofs.Commits.{are_entries, length-run}
use Rattle.cg_fold.proofs.owned_commands.take_commit.Goals as goal

pub take_entries-requires : goal.take_entries-requires
take_entries-requires c = omega (arith, c.next_run-moment.ensures.longest.fits.run.within, c.next_run-moment.ensures.len, ap length c.next_run-moment.ensures.rows)

pub from_lawful-requires : goal.from_lawful-requires
from_lawful-requires c =
    let rows = c.args.rows.now.items in
    let len = first_len rows in
    let fits = c.next_run-moment.ensures.longest.fits in
    let count = length-run rows fits.run in
    are_entries (take len rows) c.in_ok-entries.entries.items (omega (arith, count, fits.run.some)) (omega (arith, count, fits.few)) fits.metadata
    (is_true _ (sorted-take len rows (tested c.requires.sorted)))
    (c.in_ok-entries.ensures.entries ∙ ap (λ n. each entry_of (take n c.next_run-moment.new.rows.items)) c.next_run-moment.ensures.len ∙ ap (λ l. each entry_of (take len l)) c.next_run-moment.ensures.rows)
