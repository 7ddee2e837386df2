use Rattle.std.proofs.Common.{◌++◌, ◌∙◌, ℕ, List, ap, sym, subst, length, arith}
use Rattle.std.proofs.lemmas.List.{append-nil}
use Rattle.cg_gate.specs.Layout.{segment_count}
use Rattle.cg_root.specs.Roots.{AreSegments, root_ids}
use Rattle.cg_log.proofs.Switched.{after-switched, content-switched, images-switched, ready-switched}
use Rattle.cg_log.proofs.log.Log.publish_switch.Goals as goal

pub returns-in-Ok-clause-stored : goal.returns-in-Ok-clause-stored
returns-in-Ok-clause-stored g c has fresh log kept sum =
    let self = c.args.self.now in
    let size = g.D.SectorDisk.size self.disk in
    let old = g.D.SectorDisk.history self.disk in
    let new = g.D.SectorDisk.history c.publish_next.new.disk in
    let next = c.args.next in
    record {
      is_honest = c.publish_next.ensures.same_honesty ∙ log.is_honest;
      holds = rw c.publish_next.ensures.same_size (content-switched old new size self.root next has fresh self.fresh.items c.args.cut next.base_number self.end self.fresh_end self.number c.requires.next c.requires.cut log.holds kept.holds (c.publish_next.ensures.time log.is_honest) sum (c.in-Ok.ensures.published log.is_honest));
    }

pub returns-in-Ok-clause-after : goal.returns-in-Ok-clause-after
returns-in-Ok-clause-after g c has fresh log kept in_range =
    let self = c.args.self.now in
    let size = g.D.SectorDisk.size self.disk in
    let old = g.D.SectorDisk.history self.disk in
    let new = g.D.SectorDisk.history c.publish_next.new.disk in
    let next = c.args.next in
    after-switched old new size self.root next has fresh self.fresh.items c.args.cut next.base_number self.end self.fresh_end self.number c.requires.next c.requires.cut log.holds kept.holds (c.publish_next.ensures.time log.is_honest) in_range (c.in-Ok.ensures.published log.is_honest)

pub returns-in-Ok-clause-images : goal.returns-in-Ok-clause-images
returns-in-Ok-clause-images g c has fresh log kept in_range =
    let self = c.args.self.now in
    let size = g.D.SectorDisk.size self.disk in
    let old = g.D.SectorDisk.history self.disk in
    let new = g.D.SectorDisk.history c.publish_next.new.disk in
    let next = c.args.next in
    images-switched old new size self.root next has fresh self.fresh.items c.args.cut next.base_number self.end self.fresh_end self.number c.requires.next c.requires.cut log.holds kept.holds (c.publish_next.ensures.time log.is_honest) self.in_range in_range (c.publish_next.ensures.any_moment log.is_honest)

pub returns-in-Err-Device-clause-images : goal.returns-in-Err-Device-clause-images
returns-in-Err-Device-clause-images g c has fresh log kept in_range =
    let self = c.args.self.now in
    let size = g.D.SectorDisk.size self.disk in
    let old = g.D.SectorDisk.history self.disk in
    let new = g.D.SectorDisk.history c.publish_next.new.disk in
    let next = c.args.next in
    images-switched old new size self.root next has fresh self.fresh.items c.args.cut next.base_number self.end self.fresh_end self.number c.requires.next c.requires.cut log.holds kept.holds (c.publish_next.ensures.time log.is_honest) self.in_range in_range (c.publish_next.ensures.any_moment log.is_honest)

pub invariant_of-self-clause-ready : goal.invariant_of-self-clause-ready
invariant_of-self-clause-ready g c serves honest1 =
    let self = c.args.self.now in
    let size = g.D.SectorDisk.size self.disk in
    let old = g.D.SectorDisk.history self.disk in
    let new = g.D.SectorDisk.history c.publish_next.new.disk in
    let next = c.args.next in
    let honest = sym c.publish_next.ensures.same_honesty ∙ honest1 in
    rw c.publish_next.ensures.same_size (ready-switched old new size self.root next self.fresh.items c.args.cut next.base_number self.end self.is_other_open c.requires.next c.requires.cut (c.publish_next.ensures.time honest) (c.in-Ok.ensures.published honest) (c.in-Ok.ensures.other honest) (self.ready serves honest))

pub invariant_of-self-clause-taken : goal.invariant_of-self-clause-taken
invariant_of-self-clause-taken g c =
    let self = c.args.self.now in
    let next = c.args.next in
    rw c.publish_next.ensures.same_size (subst (AreSegments (segment_count (g.D.SectorDisk.size self.disk)))
    (sym (append-nil (root_ids next)) ∙ ap (λ (f : List ℕ). root_ids next ++ f) (sym c.clear.ensures.items)) c.requires.lawful.ids)

pub invariant_of-self-clause-fresh_ready : goal.invariant_of-self-clause-fresh_ready
invariant_of-self-clause-fresh_ready g c serves honest some = absurd (omega (arith, some, ap length c.clear.ensures.items))
