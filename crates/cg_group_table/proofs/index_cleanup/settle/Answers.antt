use Rattle.std.proofs.Common.{◌≡◌, false}
use Rattle.std.specs.BTreeMap.{get}
use Rattle.std.specs.Ordering.{nat_cmp}
use Rattle.cg_group_table.specs.SessionIndex.{IfParked, IsLetGo, IsSettled, is_certain, is_home}
use Rattle.cg_group_table.proofs.Homing.{certain_home, each_both, known_members, settled_any}
use Rattle.cg_group_table.proofs.Tight.{if_both, let_go}
use Rattle.cg_group_table.proofs.index_cleanup.settle.Goals as goal

pub returns-clause-known : goal.returns-clause-known
returns-clause-known g c =
    let id = c.args.id.now in
    let before = is_home c.args.homes.now in
    let doubted = is_home c.doubt_all.new.homes in
    let sure = is_certain c.affirm_held.new.homes in
    let after = is_home c.leave_all.new.homes in
    settled_any before after id (λ q x apart k. c.leave_all.ensures.others q x apart (c.affirm_held.ensures.kept q x (c.doubt_all.ensures.kept q x k))) c.args.held.now c.affirm_held.ensures.in_order
    (λ group found known.
    known_members (λ q. sure q id) (λ q. after q id) (λ q k. certain_home id (get nat_cmp c.leave_all.new.homes q) (c.leave_all.ensures.certain q id k)) group.members
    (c.affirm_held.ensures.here group found (known_members (λ q. before q id) (λ q. doubted q id) (λ q k. c.doubt_all.ensures.kept q id k) group.members known)))

pub returns-clause-gone : goal.returns-clause-gone
returns-clause-gone g c =
    let id = c.args.id.now in
    let doubted = c.doubt_all.new.homes in
    let final = c.leave_all.new.homes in
    each_both (λ (p : g.row.P.Denot). IfParked (λ q. is_certain doubted q id ≡ false) (g.P.Calling.call p)) (λ (p : g.row.P.Denot). IfParked (λ q. IsSettled final q id) (g.P.Calling.call p)) (λ (p : g.row.P.Denot). IfParked (λ q. IsLetGo final c.args.held.now id q) (g.P.Calling.call p))
    (λ p. if_both (λ q. is_certain doubted q id ≡ false) (λ q. IsSettled final q id) (λ q. IsLetGo final c.args.held.now id q) (let_go doubted c.affirm_held.new.homes final c.args.held.now id c.leave_all.ensures.sure c.affirm_held.ensures.parked) (g.P.Calling.call p))
    c.args.before.now c.doubt_all.ensures.here c.leave_all.ensures.settled
