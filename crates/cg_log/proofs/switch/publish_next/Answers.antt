use Rattle.std.proofs.Common.{◌≡◌, ◌⊎◌, ◌+◌, ◌<◌, ◌≤◌, ◌∙◌, inl, inr, ap, sym, subst, arith}
use Rattle.cg_disk.specs.Disk.{LeavesOnly, present}
use Rattle.cg_disk.proofs.Moments.{LeavesOnly-present, LeavesOnly-then, LeavesOnly-weaker}
use Rattle.cg_root.specs.Roots.{IsOldOrNew, KeepsRoot, RootAt}
use Rattle.cg_root.specs.Slots.{gate_of, other_slot}
use Rattle.cg_root.specs.declared.slot.Slot.{Slot}
use Rattle.cg_root.proofs.Stored.{other_other}
use Rattle.cg_log.specs.Ready.{AllOpen}
use Rattle.cg_log.proofs.Moves.{AllOpen-kept, gates_apart}
use Rattle.cg_log.proofs.switch.publish_next.Goals as goal

pub publish-requires-clause-newest : goal.publish-requires-clause-newest
publish-requires-clause-newest g c honest2 image is =
    let honest = sym c.close_other_if_open.ensures.same_honesty ∙ honest2 in
    let h0 = g.D.SectorDisk.history c.args.disk.now in
    let h2 = g.D.SectorDisk.history c.close_other_if_open.new.disk in
    let counts = LeavesOnly-present h0 h2 _ (c.close_other_if_open.ensures.any_moment honest) image is in
    inr record {
      older = c.args.current.now;
      slot = sym (ap other_slot c.requires.slot ∙ other_other c.args.current.now.slot);
      stored = subst (λ n. RootAt image n c.args.current.now) (sym c.close_other_if_open.ensures.same_size) counts.stored;
      epoch = omega (arith, c.requires.epoch);
    }

pub returns-in_err-close_other_if_open-clause-any_moment : goal.returns-in_err-close_other_if_open-clause-any_moment
returns-in_err-close_other_if_open-clause-any_moment g c honest =
    let h0 = g.D.SectorDisk.history c.args.disk.now in
    let h2 = g.D.SectorDisk.history c.close_other_if_open.new.disk in
    let size = g.D.SectorDisk.size c.args.disk.now in
    let root2 = c.close_other_if_open.ensures.any_moment honest in
    let first = LeavesOnly-weaker h0 h2 _ (IsOldOrNew size c.args.current.now c.args.next.now) (λ image at. inl at) root2 in
    first

pub returns-in_err-publish-clause-any_moment : goal.returns-in_err-publish-clause-any_moment
returns-in_err-publish-clause-any_moment g c honest =
    let h0 = g.D.SectorDisk.history c.args.disk.now in
    let h2 = g.D.SectorDisk.history c.close_other_if_open.new.disk in
    let size = g.D.SectorDisk.size c.args.disk.now in
    let root2 = c.close_other_if_open.ensures.any_moment honest in
    let first = LeavesOnly-weaker h0 h2 _ (IsOldOrNew size c.args.current.now c.args.next.now) (λ image at. inl at) root2 in
    let h3 = g.D.SectorDisk.history c.publish.new.disk in
    let honest2 = c.close_other_if_open.ensures.same_honesty ∙ honest in
    let keeps2 = LeavesOnly-present h0 h2 _ root2 in
    let root3 = subst (λ n. LeavesOnly h2 h3 (IsOldOrNew n c.args.current.now c.args.next.now)) c.close_other_if_open.ensures.same_size
    (c.publish.ensures.root honest2 c.args.current.now (subst (λ n. KeepsRoot (present h2) n c.args.current.now) (sym c.close_other_if_open.ensures.same_size) keeps2)) in
    LeavesOnly-then h0 h2 h3 _ first root3

pub returns-clause-any_moment : goal.returns-clause-any_moment
returns-clause-any_moment g c honest =
    let h0 = g.D.SectorDisk.history c.args.disk.now in
    let h2 = g.D.SectorDisk.history c.close_other_if_open.new.disk in
    let size = g.D.SectorDisk.size c.args.disk.now in
    let root2 = c.close_other_if_open.ensures.any_moment honest in
    let first = LeavesOnly-weaker h0 h2 _ (IsOldOrNew size c.args.current.now c.args.next.now) (λ image at. inl at) root2 in
    let h3 = g.D.SectorDisk.history c.publish.new.disk in
    let honest2 = c.close_other_if_open.ensures.same_honesty ∙ honest in
    let keeps2 = LeavesOnly-present h0 h2 _ root2 in
    let root3 = subst (λ n. LeavesOnly h2 h3 (IsOldOrNew n c.args.current.now c.args.next.now)) c.close_other_if_open.ensures.same_size
    (c.publish.ensures.root honest2 c.args.current.now (subst (λ n. KeepsRoot (present h2) n c.args.current.now) (sym c.close_other_if_open.ensures.same_size) keeps2)) in
    LeavesOnly-then h0 h2 h3 _ first root3

pub returns-clause-other : goal.returns-clause-other
returns-clause-other g c honest =
    let h0 = g.D.SectorDisk.history c.args.disk.now in
    let h2 = g.D.SectorDisk.history c.close_other_if_open.new.disk in
    let h3 = g.D.SectorDisk.history c.publish.new.disk in
    let current = c.args.current.now in
    let next = c.args.next.now in
    let honest2 = c.close_other_if_open.ensures.same_honesty ∙ honest in
    let keeps2 = LeavesOnly-present h0 h2 _ (c.close_other_if_open.ensures.any_moment honest) in
    let other : other_slot next.slot ≡ current.slot = ap other_slot c.requires.slot ∙ other_other current.slot in
    let apart : (gate_of current.slot < gate_of next.slot) ⊎ (gate_of next.slot + 2 ≤ gate_of current.slot) = subst (λ (s : Slot). (gate_of current.slot < gate_of s) ⊎ (gate_of s + 2 ≤ gate_of current.slot)) (sym c.requires.slot) (gates_apart current.slot) in
    subst (λ (s : Slot). AllOpen (present h3) (gate_of s)) (sym other)
    (AllOpen-kept (gate_of next.slot) 2 h2 h3 (c.publish.ensures.time honest2) (gate_of current.slot) apart (λ image is. (keeps2 image is).stored.is_open))
