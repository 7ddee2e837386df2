use Rattle.std.proofs.Common.{rules, of_calls, ◌∙◌}
use Rattle.std.proofs.lemmas.Fn.{always_returns_same}
use Rattle.cg_record.specs.Partitions.{partition_cmp}
use Rattle.cg_fold.proofs.Searched.{searched}
use Rattle.cg_fold.proofs.rows.is_found.Goals as goal

pub returns : goal.returns
returns c ordered =
    let key = c.args.key.now in
    let search_by = c.binary_search_by in
    c.is_ok.ensures.value ∙ searched c.args.partitions.now key search_by.result ordered search_by.ensures.bound
    (search_by.ensures.position (λ p. partition_cmp p key) (always_returns_same _ _ _ (λ a r f k. search (rules, of_calls))))
