use Rattle.std.proofs.Common.{◌∙◌, ◌++◌, ℕ, List, inl, refl, sym, ap, subst}
use Rattle.cg_disk.specs.Disk.{present}
use Rattle.cg_log.specs.Ready.{last_id}
use Rattle.cg_log.proofs.Moves.{last_id-content, no_frames, still-images}
use Rattle.cg_log.specs.Log.{end_of, root_of, taken_of}
use Rattle.cg_log.specs.Rolled.{IsNextTail}
use Rattle.cg_root.specs.Roots.{root_ids}
use Rattle.cg_log.specs.Room.{room_at}
use Rattle.cg_log.proofs.Room.{room-rolled}
use Rattle.cg_log.proofs.log.Log.roll.Goals as goal

pub returns-then-self-clause-images : goal.returns-then-self-clause-images
returns-then-self-clause-images g c has log =
    let self = c.args.self.now in
    still-images (g.D.SectorDisk.history self.disk) (g.D.SectorDisk.size self.disk) self.root self.end self.number has self.in_range log.holds

pub returns-then-self-eq0-clause-stored : goal.returns-then-self-eq0-clause-stored
returns-then-self-eq0-clause-stored g c has log =
    let self = c.args.self.now in
    let last = last_id-content (present (g.D.SectorDisk.history self.disk)) (g.D.SectorDisk.size self.disk) self.root has log.holds.keeps in
    let empty = no_frames has.last.1 (sym log.holds.end_is ∙ c.if-self-eq0.true) in
    (has, (inl (empty, refl, c.last_id.ensures ∙ ap last_id c.as_slice.ensures ∙ last), record { is_honest = log.is_honest; holds = log.holds }))

pub returns-then-self-eq0-clause-images : goal.returns-then-self-eq0-clause-images
returns-then-self-eq0-clause-images g c has log =
    let self = c.args.self.now in
    still-images (g.D.SectorDisk.history self.disk) (g.D.SectorDisk.size self.disk) self.root self.end self.number has self.in_range log.holds

pub returns-in_err-tail-clause-images : goal.returns-in_err-tail-clause-images
returns-in_err-tail-clause-images g c has log =
    let self = c.args.self.now in
    still-images (g.D.SectorDisk.history self.disk) (g.D.SectorDisk.size self.disk) self.root self.end self.number has self.in_range log.holds

pub returns-clause-room : goal.returns-clause-room
returns-clause-room g c filled =
    let self = c.args.self.now in
    let size = g.D.SectorDisk.size self.disk in
    let new = c.add_tail.new.self in
    ap (λ n. room_at n (taken_of new) (root_of new) (end_of new)) c.add_tail.ensures.same_size
    ∙ ap (λ (f : List ℕ). room_at size (root_ids (root_of new) ++ f) (root_of new) (end_of new)) c.add_tail.ensures.same_fresh
    ∙ ap (λ r. room_at size (root_ids r ++ self.fresh.items) r (end_of new)) c.in_ok-id.ensures.root
    ∙ ap (λ e. room_at size (root_ids c.in_ok-tail.tail.root ++ self.fresh.items) c.in_ok-tail.tail.root e) c.in_ok-id.ensures.end
    ∙ room-rolled size self.fresh.items self.root c.in_ok-tail.tail.root c.in_ok-tail.tail.id self.end
    (subst (λ (f : List ℕ). IsNextTail size (root_ids self.root ++ f) self.root c.in_ok-tail.tail.id c.in_ok-tail.tail.root) c.as_slice-2.ensures.value
    (subst (λ n. IsNextTail n (root_ids self.root ++ c.as_slice-2.result.now) self.root c.in_ok-tail.tail.id c.in_ok-tail.tail.root) c.sectors.ensures c.in_ok-tail.ensures.next))
