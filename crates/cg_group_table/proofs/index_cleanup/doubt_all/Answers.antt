use Rattle.std.proofs.Common.{◌≡◌, false, get_or, arith}
use Rattle.cg_group_table.specs.SessionIndex.{IfParked, is_certain}
use Rattle.cg_group_table.proofs.Homing.{each_from_place, each_more}
use Rattle.cg_group_table.proofs.Tight.{if_more}
use Rattle.cg_group_table.proofs.index_cleanup.doubt_all.Goals as goal

pub loop-call-preserved : goal.loop-call-preserved
loop-call-preserved g c =
    let l = c.loop-call in
    let id = c.args.id.now in (
      λ q x k. c.doubt_one.ensures.kept q x (l.invariant.0 q x k),
      each_more (λ (p : g.row.P.Denot). IfParked (λ q. is_certain c.doubt_one.new.homes q id ≡ false) (g.P.Calling.call p)) c.args.parked.now l.call-index c.call-item.result (omega arith) c.call-item.is c.doubt_one.ensures.here
          (λ k d lt. if_more (λ q. is_certain l.homes q id ≡ false) (λ q. is_certain c.doubt_one.new.homes q id ≡ false) (λ q. c.doubt_one.ensures.doubtful q) (g.P.Calling.call (get_or c.args.parked.now k d)) (l.invariant.1 k d lt)),
      λ q h. c.doubt_one.ensures.doubtful q (l.invariant.2 q h),
      λ q x k. l.invariant.3 q x (c.doubt_one.ensures.fewer q x k),
      λ q h. c.doubt_one.ensures.filled q (l.invariant.4 q h),
    )

pub returns-clause-here : goal.returns-clause-here
returns-clause-here g c =
    each_from_place (λ (p : g.row.P.Denot). IfParked (λ q. is_certain c.loop-call.homes q c.args.id.now ≡ false) (g.P.Calling.call p)) c.args.parked.now (λ k d lt. c.loop-call.invariant.1 k d (omega arith))
