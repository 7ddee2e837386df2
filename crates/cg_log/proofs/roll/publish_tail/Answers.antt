use Rattle.std.proofs.Common.{◌≡◌, ◌≤◌, ◌+◌, ◌∙◌, inl, inr, ap, sym, subst, arith}
use Rattle.cg_disk.specs.Disk.{AllBut, LeavesOnly, present}
use Rattle.cg_disk.proofs.Moments.{LeavesOnly-present, LeavesOnly-weaker}
use Rattle.cg_gate.specs.Layout.{first_sector}
use Rattle.cg_root.specs.Roots.{CountingRoot, IsOldOrNew, KeepsRoot}
use Rattle.cg_root.specs.Slots.{gate_of, other_slot}
use Rattle.cg_root.proofs.Stored.{gate_of-small}
use Rattle.cg_log.specs.Ready.{AllClosed}
use Rattle.cg_log.proofs.Moves.{AllClosed-kept, KeepsRoot-kept, tail-first, tail-two, tail-all, KeepsLog-rolled, IsReady-rolled}
use Rattle.cg_log.proofs.Kept.{KeepsFresh-segment, KeepsFresh-slots, KeepsFresh-then}
use Rattle.cg_log.proofs.roll.publish_tail.Goals as goal

pub close_other_if_open-requires-clause-root : goal.close_other_if_open-requires-clause-root
close_other_if_open-requires-clause-root g c honest =
    let honest0 = sym c.close_gate.ensures.same_honesty ∙ honest in
    let low : 4 ≤ c.first_sector.result = omega (arith, c.first_sector.ensures.first) in
    subst (λ n. KeepsRoot (present (g.D.SectorDisk.history c.close_gate.new.disk)) n c.args.current.now) (sym c.close_gate.ensures.same_size)
    (KeepsRoot-kept c.first_sector.result 1 (g.D.SectorDisk.history c.args.disk.now) _ (g.D.SectorDisk.size c.args.disk.now) c.args.current.now low (c.close_gate.ensures.time honest0) (c.requires.root honest0))

pub returns-in_err-close_gate-clause-images : goal.returns-in_err-close_gate-clause-images
returns-in_err-close_gate-clause-images g c honest has keeps =
    let size = g.D.SectorDisk.size c.args.disk.now in
    let at : c.first_sector.result ≡ first_sector c.args.id = c.first_sector.ensures.first ∙ ap first_sector c.get.ensures.number in
    let h0 = g.D.SectorDisk.history c.args.disk.now in
    let h1 = g.D.SectorDisk.history c.close_gate.new.disk in
    let run = subst (λ k. LeavesOnly h0 h1 (AllBut k 1 (present h0))) at (c.close_gate.ensures.any_moment honest) in
    let first = tail-first size c.args.current.now c.args.next.now has c.args.id c.requires.more c.requires.free h0 h1 h1 h1 keeps run in
    LeavesOnly-weaker h0 h1 _ _ (λ image stored. inl stored) first

pub returns-in_err-close_other_if_open-clause-images : goal.returns-in_err-close_other_if_open-clause-images
returns-in_err-close_other_if_open-clause-images g c honest has keeps =
    let size = g.D.SectorDisk.size c.args.disk.now in
    let at : c.first_sector.result ≡ first_sector c.args.id = c.first_sector.ensures.first ∙ ap first_sector c.get.ensures.number in
    let h0 = g.D.SectorDisk.history c.args.disk.now in
    let h1 = g.D.SectorDisk.history c.close_gate.new.disk in
    let run = subst (λ k. LeavesOnly h0 h1 (AllBut k 1 (present h0))) at (c.close_gate.ensures.any_moment honest) in
    let first = tail-first size c.args.current.now c.args.next.now has c.args.id c.requires.more c.requires.free h0 h1 h1 h1 keeps run in
    let h2 = g.D.SectorDisk.history c.close_other_if_open.new.disk in
    let honest1 = c.close_gate.ensures.same_honesty ∙ honest in
    let time2 = c.close_other_if_open.ensures.time honest1 in
    let root2 = subst (λ n. LeavesOnly h1 h2 (λ image. CountingRoot image n c.args.current.now)) c.close_gate.ensures.same_size (c.close_other_if_open.ensures.any_moment honest1) in
    LeavesOnly-weaker h0 h2 _ _ (λ image stored. inl stored) (tail-two size c.args.current.now c.args.next.now has c.args.id c.requires.more c.requires.free h0 h1 h2 h2 keeps first time2 root2)

pub returns-in_err-publish-clause-images : goal.returns-in_err-publish-clause-images
returns-in_err-publish-clause-images g c honest has keeps =
    let size = g.D.SectorDisk.size c.args.disk.now in
    let at : c.first_sector.result ≡ first_sector c.args.id = c.first_sector.ensures.first ∙ ap first_sector c.get.ensures.number in
    let h0 = g.D.SectorDisk.history c.args.disk.now in
    let h1 = g.D.SectorDisk.history c.close_gate.new.disk in
    let run = subst (λ k. LeavesOnly h0 h1 (AllBut k 1 (present h0))) at (c.close_gate.ensures.any_moment honest) in
    let first = tail-first size c.args.current.now c.args.next.now has c.args.id c.requires.more c.requires.free h0 h1 h1 h1 keeps run in
    let h2 = g.D.SectorDisk.history c.close_other_if_open.new.disk in
    let honest1 = c.close_gate.ensures.same_honesty ∙ honest in
    let time2 = c.close_other_if_open.ensures.time honest1 in
    let root2 = subst (λ n. LeavesOnly h1 h2 (λ image. CountingRoot image n c.args.current.now)) c.close_gate.ensures.same_size (c.close_other_if_open.ensures.any_moment honest1) in
    let h3 = g.D.SectorDisk.history c.publish.new.disk in
    let honest2 = c.close_other_if_open.ensures.same_honesty ∙ honest1 in
    let size2 = c.close_other_if_open.ensures.same_size ∙ c.close_gate.ensures.same_size in
    let closed1 = subst (AllClosed (present h1)) at (c.in_ok-close_gate.ensures.closed honest) in
    let closed2 = AllClosed-kept (gate_of (other_slot c.args.current.now.slot)) 1 h1 h2 time2 (first_sector c.args.id) (inr (omega (arith, gate_of-small (other_slot c.args.current.now.slot)))) closed1 in
    let time3 = c.publish.ensures.time honest2 in
    let keeps2 = LeavesOnly-present h1 h2 _ root2 in
    let root3 = subst (λ n. LeavesOnly h2 h3 (IsOldOrNew n c.args.current.now c.args.next.now)) size2 (c.publish.ensures.root honest2 c.args.current.now (subst (λ n. KeepsRoot (present h2) n c.args.current.now) (sym size2) keeps2)) in
    tail-all size c.args.current.now c.args.next.now has c.args.id c.requires.more c.requires.free h0 h1 h2 h3 keeps first time2 root2 closed2 time3 root3

pub returns-clause-images : goal.returns-clause-images
returns-clause-images g c honest has keeps =
    let size = g.D.SectorDisk.size c.args.disk.now in
    let at : c.first_sector.result ≡ first_sector c.args.id = c.first_sector.ensures.first ∙ ap first_sector c.get.ensures.number in
    let h0 = g.D.SectorDisk.history c.args.disk.now in
    let h1 = g.D.SectorDisk.history c.close_gate.new.disk in
    let run = subst (λ k. LeavesOnly h0 h1 (AllBut k 1 (present h0))) at (c.close_gate.ensures.any_moment honest) in
    let first = tail-first size c.args.current.now c.args.next.now has c.args.id c.requires.more c.requires.free h0 h1 h1 h1 keeps run in
    let h2 = g.D.SectorDisk.history c.close_other_if_open.new.disk in
    let honest1 = c.close_gate.ensures.same_honesty ∙ honest in
    let time2 = c.close_other_if_open.ensures.time honest1 in
    let root2 = subst (λ n. LeavesOnly h1 h2 (λ image. CountingRoot image n c.args.current.now)) c.close_gate.ensures.same_size (c.close_other_if_open.ensures.any_moment honest1) in
    let h3 = g.D.SectorDisk.history c.publish.new.disk in
    let honest2 = c.close_other_if_open.ensures.same_honesty ∙ honest1 in
    let size2 = c.close_other_if_open.ensures.same_size ∙ c.close_gate.ensures.same_size in
    let closed1 = subst (AllClosed (present h1)) at (c.in_ok-close_gate.ensures.closed honest) in
    let closed2 = AllClosed-kept (gate_of (other_slot c.args.current.now.slot)) 1 h1 h2 time2 (first_sector c.args.id) (inr (omega (arith, gate_of-small (other_slot c.args.current.now.slot)))) closed1 in
    let time3 = c.publish.ensures.time honest2 in
    let keeps2 = LeavesOnly-present h1 h2 _ root2 in
    let root3 = subst (λ n. LeavesOnly h2 h3 (IsOldOrNew n c.args.current.now c.args.next.now)) size2 (c.publish.ensures.root honest2 c.args.current.now (subst (λ n. KeepsRoot (present h2) n c.args.current.now) (sym size2) keeps2)) in
    tail-all size c.args.current.now c.args.next.now has c.args.id c.requires.more c.requires.free h0 h1 h2 h3 keeps first time2 root2 closed2 time3 root3

pub returns-clause-stored : goal.returns-clause-stored
returns-clause-stored g c honest has keeps =
    let size = g.D.SectorDisk.size c.args.disk.now in
    let at : c.first_sector.result ≡ first_sector c.args.id = c.first_sector.ensures.first ∙ ap first_sector c.get.ensures.number in
    let h0 = g.D.SectorDisk.history c.args.disk.now in
    let h1 = g.D.SectorDisk.history c.close_gate.new.disk in
    let run = subst (λ k. LeavesOnly h0 h1 (AllBut k 1 (present h0))) at (c.close_gate.ensures.any_moment honest) in
    let first = tail-first size c.args.current.now c.args.next.now has c.args.id c.requires.more c.requires.free h0 h1 h1 h1 keeps run in
    let h2 = g.D.SectorDisk.history c.close_other_if_open.new.disk in
    let honest1 = c.close_gate.ensures.same_honesty ∙ honest in
    let time2 = c.close_other_if_open.ensures.time honest1 in
    let root2 = subst (λ n. LeavesOnly h1 h2 (λ image. CountingRoot image n c.args.current.now)) c.close_gate.ensures.same_size (c.close_other_if_open.ensures.any_moment honest1) in
    let h3 = g.D.SectorDisk.history c.publish.new.disk in
    let honest2 = c.close_other_if_open.ensures.same_honesty ∙ honest1 in
    let size2 = c.close_other_if_open.ensures.same_size ∙ c.close_gate.ensures.same_size in
    let closed1 = subst (AllClosed (present h1)) at (c.in_ok-close_gate.ensures.closed honest) in
    let closed2 = AllClosed-kept (gate_of (other_slot c.args.current.now.slot)) 1 h1 h2 time2 (first_sector c.args.id) (inr (omega (arith, gate_of-small (other_slot c.args.current.now.slot)))) closed1 in
    let time3 = c.publish.ensures.time honest2 in
    let published = subst (λ n. KeepsRoot (present h3) n c.args.next.now) size2 (c.in_ok-publish.ensures.published honest2) in
    KeepsLog-rolled size c.args.current.now c.args.next.now has c.args.id c.requires.more c.requires.free h0 h1 h2 h3 keeps first time2 root2 closed2 time3 published

pub returns-clause-ready : goal.returns-clause-ready
returns-clause-ready g c honest =
    let size = g.D.SectorDisk.size c.args.disk.now in
    let at : c.first_sector.result ≡ first_sector c.args.id = c.first_sector.ensures.first ∙ ap first_sector c.get.ensures.number in
    let h1 = g.D.SectorDisk.history c.close_gate.new.disk in
    let h2 = g.D.SectorDisk.history c.close_other_if_open.new.disk in
    let honest1 = c.close_gate.ensures.same_honesty ∙ honest in
    let time2 = c.close_other_if_open.ensures.time honest1 in
    let root2 = subst (λ n. LeavesOnly h1 h2 (λ image. CountingRoot image n c.args.current.now)) c.close_gate.ensures.same_size (c.close_other_if_open.ensures.any_moment honest1) in
    let h3 = g.D.SectorDisk.history c.publish.new.disk in
    let honest2 = c.close_other_if_open.ensures.same_honesty ∙ honest1 in
    let size2 = c.close_other_if_open.ensures.same_size ∙ c.close_gate.ensures.same_size in
    let closed1 = subst (AllClosed (present h1)) at (c.in_ok-close_gate.ensures.closed honest) in
    let closed2 = AllClosed-kept (gate_of (other_slot c.args.current.now.slot)) 1 h1 h2 time2 (first_sector c.args.id) (inr (omega (arith, gate_of-small (other_slot c.args.current.now.slot)))) closed1 in
    let time3 = c.publish.ensures.time honest2 in
    let keeps2 = LeavesOnly-present h1 h2 _ root2 in
    let published = subst (λ n. KeepsRoot (present h3) n c.args.next.now) size2 (c.in_ok-publish.ensures.published honest2) in
    IsReady-rolled size c.args.current.now c.args.next.now c.args.id c.requires.more h2 h3 closed2 time3 keeps2 published

pub returns-in_err-close_gate-clause-fresh : goal.returns-in_err-close_gate-clause-fresh
returns-in_err-close_gate-clause-fresh g c honest ids none =
    let h0 = g.D.SectorDisk.history c.args.disk.now in
    let h1 = g.D.SectorDisk.history c.close_gate.new.disk in
    let low : first_sector c.args.id ≤ c.first_sector.result = omega (arith, c.first_sector.ensures.first, c.get.ensures.number) in
    let high : c.first_sector.result + 1 ≤ first_sector c.args.id + 2048 = omega (arith, c.first_sector.ensures.first, c.get.ensures.number) in
    let first = KeepsFresh-segment c.first_sector.result 1 h0 h1 (c.close_gate.ensures.time honest) c.args.id ids low high none in
    first

pub returns-in_err-close_other_if_open-clause-fresh : goal.returns-in_err-close_other_if_open-clause-fresh
returns-in_err-close_other_if_open-clause-fresh g c honest ids none =
    let h0 = g.D.SectorDisk.history c.args.disk.now in
    let h1 = g.D.SectorDisk.history c.close_gate.new.disk in
    let low : first_sector c.args.id ≤ c.first_sector.result = omega (arith, c.first_sector.ensures.first, c.get.ensures.number) in
    let high : c.first_sector.result + 1 ≤ first_sector c.args.id + 2048 = omega (arith, c.first_sector.ensures.first, c.get.ensures.number) in
    let first = KeepsFresh-segment c.first_sector.result 1 h0 h1 (c.close_gate.ensures.time honest) c.args.id ids low high none in
    let h2 = g.D.SectorDisk.history c.close_other_if_open.new.disk in
    let honest1 = c.close_gate.ensures.same_honesty ∙ honest in
    let slot = gate_of (other_slot c.args.current.now.slot) in
    let second = KeepsFresh-then (present h0) (present h1) (present h2) ids first (KeepsFresh-slots slot 1 h1 h2 (c.close_other_if_open.ensures.time honest1) ids (omega (arith, gate_of-small (other_slot c.args.current.now.slot)))) in
    second

pub returns-in_err-publish-clause-fresh : goal.returns-in_err-publish-clause-fresh
returns-in_err-publish-clause-fresh g c honest ids none =
    let h0 = g.D.SectorDisk.history c.args.disk.now in
    let h1 = g.D.SectorDisk.history c.close_gate.new.disk in
    let low : first_sector c.args.id ≤ c.first_sector.result = omega (arith, c.first_sector.ensures.first, c.get.ensures.number) in
    let high : c.first_sector.result + 1 ≤ first_sector c.args.id + 2048 = omega (arith, c.first_sector.ensures.first, c.get.ensures.number) in
    let first = KeepsFresh-segment c.first_sector.result 1 h0 h1 (c.close_gate.ensures.time honest) c.args.id ids low high none in
    let h2 = g.D.SectorDisk.history c.close_other_if_open.new.disk in
    let honest1 = c.close_gate.ensures.same_honesty ∙ honest in
    let slot = gate_of (other_slot c.args.current.now.slot) in
    let second = KeepsFresh-then (present h0) (present h1) (present h2) ids first (KeepsFresh-slots slot 1 h1 h2 (c.close_other_if_open.ensures.time honest1) ids (omega (arith, gate_of-small (other_slot c.args.current.now.slot)))) in
    let h3 = g.D.SectorDisk.history c.publish.new.disk in
    let honest2 = c.close_other_if_open.ensures.same_honesty ∙ honest1 in
    KeepsFresh-then (present h0) (present h2) (present h3) ids second (KeepsFresh-slots (gate_of c.args.next.now.slot) 2 h2 h3 (c.publish.ensures.time honest2) ids (omega (arith, gate_of-small c.args.next.now.slot)))

pub returns-clause-fresh : goal.returns-clause-fresh
returns-clause-fresh g c honest ids none =
    let h0 = g.D.SectorDisk.history c.args.disk.now in
    let h1 = g.D.SectorDisk.history c.close_gate.new.disk in
    let low : first_sector c.args.id ≤ c.first_sector.result = omega (arith, c.first_sector.ensures.first, c.get.ensures.number) in
    let high : c.first_sector.result + 1 ≤ first_sector c.args.id + 2048 = omega (arith, c.first_sector.ensures.first, c.get.ensures.number) in
    let first = KeepsFresh-segment c.first_sector.result 1 h0 h1 (c.close_gate.ensures.time honest) c.args.id ids low high none in
    let h2 = g.D.SectorDisk.history c.close_other_if_open.new.disk in
    let honest1 = c.close_gate.ensures.same_honesty ∙ honest in
    let slot = gate_of (other_slot c.args.current.now.slot) in
    let second = KeepsFresh-then (present h0) (present h1) (present h2) ids first (KeepsFresh-slots slot 1 h1 h2 (c.close_other_if_open.ensures.time honest1) ids (omega (arith, gate_of-small (other_slot c.args.current.now.slot)))) in
    let h3 = g.D.SectorDisk.history c.publish.new.disk in
    let honest2 = c.close_other_if_open.ensures.same_honesty ∙ honest1 in
    KeepsFresh-then (present h0) (present h2) (present h3) ids second (KeepsFresh-slots (gate_of c.args.next.now.slot) 2 h2 h3 (c.publish.ensures.time honest2) ids (omega (arith, gate_of-small c.args.next.now.slot)))
