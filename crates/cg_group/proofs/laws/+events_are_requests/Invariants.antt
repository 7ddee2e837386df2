use Rattle.std.proofs.Common.{length}
use Rattle.cg_group.proofs.laws.+events_are_requests.Given as goal

abbrev pub decreases-events_are_requests : goal.decreases-events_are_requests
decreases-events_are_requests l = length l.events.now
