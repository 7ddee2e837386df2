use Rattle.cg_group.proofs.LawfulExpiry.{expiry_is_lawful}
use Rattle.cg_group.proofs.laws.expiry_is_lawful.Goals as goal

pub returns : goal.returns
returns c = expiry_is_lawful c.args.events.now c.events_are_requests.ensures
