use Rattle.std.proofs.Common.{◌+◌}
use Rattle.cg_fold.proofs.Longest.{first_at, longest_at}
use Rattle.cg_fold.proofs.runs.first_len.Goals as goal

pub returns-in-len1-up-clause-value : goal.returns-in-len1-up-clause-value
returns-in-len1-up-clause-value c =
    first_at c.args.rows.now c.first-item.result c.as_bytes.result.now c.run_len.result c.first-item.is c.in-len1-up.len_at_least c.as_bytes.ensures.bytes c.run_len.ensures.value

pub returns-in-len1-up-clause-longest : goal.returns-in-len1-up-clause-longest
returns-in-len1-up-clause-longest c =
    longest_at c.args.rows.now c.first-item.result (1 + c.run_len.result) c.first-item.is c.as_bytes.ensures.in_range (returns-in-len1-up-clause-value c)
