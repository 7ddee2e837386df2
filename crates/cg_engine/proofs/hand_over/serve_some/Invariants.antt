use Rattle.std.proofs.Common.{◌≡◌, drop, take}
use Rattle.cg_engine.specs.Requests.{AreServed, waiting_in}
use Rattle.cg_engine.specs.Sides.{desk_of}
use Rattle.cg_engine.proofs.hand_over.serve_some.Given as goal

abbrev pub invariant-loop : goal.invariant-loop
invariant-loop g l = record {
  left : waiting_in l.requests ≡ drop l.counter (waiting_in l.initial.requests);
  served : AreServed (desk_of l.initial.desk) (take l.counter (waiting_in l.initial.requests)) (desk_of l.desk);
}
