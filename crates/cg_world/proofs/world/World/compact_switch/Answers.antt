use Rattle.std.proofs.Common.{◌≡◌}
use Rattle.std.proofs.Math.Logic.{∥∥₁_map}
use Rattle.cg_store.specs.Store.{IsUnchanged, front_of, has_failed, phase_of, room_of}
use Rattle.cg_store.specs.declared.phase.Phase.TheVariants.{Idle, Ready}
use Rattle.cg_desk.specs.Desks.{state_of}
use Rattle.cg_world.specs.Sights.{room_left}
use Rattle.cg_world.proofs.Calls.{compact-agrees, compact-orderly, has-roots, kept-of, kept-roots, no-roots, same-room, switched-roots, store-broken, store-serves, switch-step}
use Rattle.cg_world.proofs.world.World.compact_switch.Goals as goal

pub invariant_of-self-2 : goal.invariant_of-self-2
invariant_of-self-2 g c = record {
  orderly = ∥∥₁_map c.args.self.now.orderly (compact-orderly c.in_ok-note.note (state_of c.args.self.now.desk) (state_of c.replies_of-out.new.desk) (λ is. (c.replies_of-out.ensures.same is).0) (λ is. (c.replies_of-out.ensures.failed is).0));
  agree = compact-agrees c.in_ok-note.note (state_of c.args.self.now.desk) (state_of c.replies_of-out.new.desk) c.args.self.now.transit c.replies_of-out.new.transit (front_of c.args.self.now.store) (front_of c.compact_switch-called.new.self) (has_failed c.args.self.now.store) (has_failed c.compact_switch-called.new.self)
      (λ is. ((c.replies_of-out.ensures.same is).0, (c.replies_of-out.ensures.same is).1)) c.replies_of-out.ensures.failed
      (store-serves (has_failed c.args.self.now.store) (has_failed c.compact_switch-called.new.self) Ready Idle (phase_of c.args.self.now.store) (phase_of c.compact_switch-called.new.self) c.compact_switch-called.result c.in_ok-note.note c.in_ok-note.ensures (record { phase_is = c.compact_switch-called.ensures.phase; told = c.compact_switch-called.ensures.told; serves = c.compact_switch-called.ensures.serves; broken = c.compact_switch-called.ensures.failed }))
      (store-broken (has_failed c.args.self.now.store) (has_failed c.compact_switch-called.new.self) Ready Idle (phase_of c.args.self.now.store) (phase_of c.compact_switch-called.new.self) c.compact_switch-called.result c.in_ok-note.note c.in_ok-note.ensures (record { phase_is = c.compact_switch-called.ensures.phase; told = c.compact_switch-called.ensures.told; serves = c.compact_switch-called.ensures.serves; broken = c.compact_switch-called.ensures.failed }))
      c.compact_switch-called.ensures.same_front c.args.self.now.agree;
}

pub returns-clause-ok : goal.returns-clause-ok
returns-clause-ok g c =
    switch-step g.D.SectorDisk.is_honest g.D.SectorDisk.history c.args.self.now _ c.compact_switch-called.result c.in_ok-note.note c.replies_of-out.result.items c.in_ok-note.ensures
    c.compact_switch-called.ensures.stands c.compact_switch-called.ensures.images c.compact_switch-called.ensures.same_sectors
    (record { same = c.replies_of-out.ensures.same; failed = c.replies_of-out.ensures.failed; order = c.replies_of-out.ensures.order })
    (record { phase_is = c.compact_switch-called.ensures.phase; told = c.compact_switch-called.ensures.told; serves = c.compact_switch-called.ensures.serves; broken = c.compact_switch-called.ensures.failed })
    (record { done = c.compact_switch-called.ensures.done; clear = has-roots (room_of c.args.self.now.store) c.compact_switch-called.result c.compact_switch-called.ensures.clear; no_room = λ is. no-roots (room_of c.args.self.now.store) (c.compact_switch-called.ensures.no_room is); root = switched-roots c.args.self.now.store c.compact_switch-called.new.self c.compact_switch-called.result c.compact_switch-called.ensures.told c.compact_switch-called.ensures.root c.compact_switch-called.ensures.clear; same_root = kept-roots c.args.self.now.store c.compact_switch-called.new.self c.compact_switch-called.result c.compact_switch-called.ensures.same_root; kept = kept-of (IsUnchanged c.args.self.now.store c.compact_switch-called.new.self) (room_left (has_failed c.compact_switch-called.new.self) (room_of c.compact_switch-called.new.self) ≡ room_left (has_failed c.args.self.now.store) (room_of c.args.self.now.store)) c.compact_switch-called.result (same-room c.args.self.now.store c.compact_switch-called.new.self) c.compact_switch-called.ensures.unchanged })
