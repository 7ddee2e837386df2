use Rattle.std.proofs.Common.{get_or, arith}
use Rattle.cg_group_table.specs.SessionIndex.{IfParked, IsSettled}
use Rattle.cg_group_table.proofs.Homing.{each_from_place, each_more}
use Rattle.cg_group_table.proofs.Tight.{if_more}
use Rattle.cg_group_table.proofs.index_cleanup.leave_all.Goals as goal

pub loop-call-preserved : goal.loop-call-preserved
loop-call-preserved g c =
    let l = c.loop-call in
    let id = c.args.id.now in (
      λ q x apart k. c.leave_one.ensures.others q x apart (l.invariant.0 q x apart k),
      λ q x k. c.leave_one.ensures.certain q x (l.invariant.1 q x k),
      λ q k. l.invariant.2 q (c.leave_one.ensures.sure q k),
      each_more (λ (p : g.row.P.Denot). IfParked (λ q. IsSettled c.leave_one.new.homes q id) (g.P.Calling.call p)) c.args.parked.now l.call-index c.call-item.result (omega arith) c.call-item.is c.leave_one.ensures.settled
          (λ k d lt. if_more (λ q. IsSettled l.homes q id) (λ q. IsSettled c.leave_one.new.homes q id) (λ q. c.leave_one.ensures.calm q) (g.P.Calling.call (get_or c.args.parked.now k d)) (l.invariant.3 k d lt)),
      λ q x k. l.invariant.4 q x (c.leave_one.ensures.fewer q x k),
      λ q h. c.leave_one.ensures.filled q (l.invariant.5 q h),
    )

pub returns-clause-settled : goal.returns-clause-settled
returns-clause-settled g c =
    each_from_place (λ (p : g.row.P.Denot). IfParked (λ q. IsSettled c.loop-call.homes q c.args.id.now) (g.P.Calling.call p)) c.args.parked.now (λ k d lt. c.loop-call.invariant.3 k d (omega arith))
