use Rattle.std.proofs.Common.{◌≡◌, ◌⊎◌, false}
use Rattle.cg_desk.specs.Desks.{is_serving}
use Rattle.cg_engine.specs.Sides.{desk_of}
use Rattle.cg_engine.proofs.desk_side.DeskSide.deliver_all.Given as goal

abbrev pub invariant-loop-outgoing : goal.invariant-loop-outgoing
invariant-loop-outgoing g l = (desk_of l.self ≡ desk_of l.initial.self) ⊎ (is_serving (desk_of l.self) ≡ false)
