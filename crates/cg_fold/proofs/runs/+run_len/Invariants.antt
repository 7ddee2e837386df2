use Rattle.cg_fold.proofs.runs.+run_len.Given as goal

abbrev pub decreases-run_len : goal.decreases-run_len
decreases-run_len l = l.most
