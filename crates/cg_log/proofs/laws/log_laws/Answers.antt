use Rattle.cg_log.proofs.Images.{AllCarry-holds, Carries-unique}
use Rattle.cg_log.proofs.laws.log_laws.Goals as goal

pub returns-clause-one_content : goal.returns-clause-one_content
returns-clause-one_content c = Carries-unique

pub returns-clause-good_or_bad : goal.returns-clause-good_or_bad
returns-clause-good_or_bad c image sectors n base tail carries bad = bad.none n base tail carries

pub returns-clause-held_is_carried : goal.returns-clause-held_is_carried
returns-clause-held_is_carried c = AllCarry-holds
