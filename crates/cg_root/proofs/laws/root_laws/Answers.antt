use Rattle.cg_root.proofs.Unique.{CountingRoot-unique, CountingRoot-some, CountingRoot-good, HasNoRoot-good}
use Rattle.cg_root.proofs.Stored.{IsNewest-next}
use Rattle.cg_root.proofs.laws.root_laws.Goals as goal

pub returns-clause-one_root : goal.returns-clause-one_root
returns-clause-one_root c = CountingRoot-unique

pub returns-clause-counting_or_none : goal.returns-clause-counting_or_none
returns-clause-counting_or_none c = CountingRoot-some

pub returns-clause-counting_or_bad : goal.returns-clause-counting_or_bad
returns-clause-counting_or_bad c = CountingRoot-good

pub returns-clause-none_or_bad : goal.returns-clause-none_or_bad
returns-clause-none_or_bad c = HasNoRoot-good

pub returns-clause-next_is_newest : goal.returns-clause-next_is_newest
returns-clause-next_is_newest c = IsNewest-next
