use Rattle.std.proofs.Common.{take}
use Rattle.cg_fold.specs.Key.{rows_of}
use Rattle.cg_fold.specs.Renewed.{AreRenewals}
use Rattle.cg_fold.proofs.renewals.renewals_of.Given as goal

abbrev pub invariant-loop-entry : goal.invariant-loop-entry
invariant-loop-entry l = AreRenewals l.rows (rows_of l.moment (take l.entry-index l.entries)) l.renewals.items
