use Rattle.std.proofs.Common.{ℕ, List, subst, arith}
use Rattle.cg_log.specs.Switched.{IsSwitchedRoot}
use Rattle.cg_log.proofs.Switched.{still-switch}
use Rattle.cg_log.proofs.Taken.{IsLawful-switched}
use Rattle.cg_log.proofs.log.Log.switch.Goals as goal

pub returns-then-self-clause-images : goal.returns-then-self-clause-images
returns-then-self-clause-images g c has fresh log kept in_range =
    let self = c.args.self.now in
    still-switch (g.D.SectorDisk.history self.disk) (g.D.SectorDisk.size self.disk) self.root self.end self.number has fresh c.args.cut c.args.base_number self.in_range log.holds

pub returns-then-self-eq-EPOCH_MAX-clause-images : goal.returns-then-self-eq-EPOCH_MAX-clause-images
returns-then-self-eq-EPOCH_MAX-clause-images g c has fresh log kept in_range =
    let self = c.args.self.now in
    still-switch (g.D.SectorDisk.history self.disk) (g.D.SectorDisk.size self.disk) self.root self.end self.number has fresh c.args.cut c.args.base_number self.in_range log.holds

pub returns-in_err-next-clause-images : goal.returns-in_err-next-clause-images
returns-in_err-next-clause-images g c has fresh log kept in_range =
    let self = c.args.self.now in
    still-switch (g.D.SectorDisk.history self.disk) (g.D.SectorDisk.size self.disk) self.root self.end self.number has fresh c.args.cut c.args.base_number self.in_range log.holds

pub publish_switch-requires-clause-lawful : goal.publish_switch-requires-clause-lawful
publish_switch-requires-clause-lawful g c =
    let self = c.args.self.now in
    let is = subst (λ (f : List ℕ). IsSwitchedRoot self.root f c.args.cut c.args.base_number c.in_ok-next.next) c.as_slice.ensures.value c.in_ok-next.ensures in
    IsLawful-switched (g.D.SectorDisk.size self.disk) self.root c.in_ok-next.next self.fresh.items c.args.cut c.args.base_number is c.requires.cut self.taken (omega (arith, c.requires.base_number)) (omega (arith, self.lawful.epoch_to, c.if-self-eq-EPOCH_MAX.false))
