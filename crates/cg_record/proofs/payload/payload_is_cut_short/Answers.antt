use Rattle.cg_record.proofs.Cuts.{cut_payload}
use Rattle.cg_record.proofs.payload.payload_is_cut_short.Goals as goal

pub returns : goal.returns
returns c = λ version commands n are can lt. cut_payload version commands n are can lt
