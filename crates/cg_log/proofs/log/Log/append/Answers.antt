use Rattle.std.proofs.Common.{◌≡◌, ◌<◌, ◌≤◌, ◌∙◌, ◌++◌, ℕ, List, inl, inr, refl, ap, arith, length, true, rules}
use Rattle.std.proofs.lemmas.Result.{err_from_is_err_and}
use Rattle.cg_disk.specs.Disk.{present}
use Rattle.cg_log.specs.Carried.{appended, rolled}
use Rattle.cg_log.specs.Log.{disk_of, end_of, number_of, root_of, taken_of}
use Rattle.cg_frame.specs.Frames.{next_gate}
use Rattle.cg_gate.specs.declared.layout.TheConstants.{SEGMENT_SECTORS}
use Rattle.cg_root.specs.Roots.{root_ids}
use Rattle.cg_log.specs.Room.{has_room, room_at}
use Rattle.cg_log.proofs.Moves.{AllCarry-appended, still-append-images}
use Rattle.cg_log.proofs.Room.{always, calls-next, calls-tail, fits-none, fits-tail, has-no-room, has-room-next, has-room-tail, room-next, room-tail}
use Rattle.cg_log.proofs.log.Log.append.Goals as goal

pub returns-then-self-clause-images : goal.returns-then-self-clause-images
returns-then-self-clause-images g c has log =
    let self = c.args.self.now in
    still-append-images (g.D.SectorDisk.history self.disk) (g.D.SectorDisk.size self.disk) self.root self.end self.number has c.args.frame.now.0 c.args.frame.now.1 self.in_range log.holds

pub returns-then-count-self-clause-images : goal.returns-then-count-self-clause-images
returns-then-count-self-clause-images g c has log =
    let self = c.args.self.now in
    still-append-images (g.D.SectorDisk.history self.disk) (g.D.SectorDisk.size self.disk) self.root self.end self.number has c.args.frame.now.0 c.args.frame.now.1 self.in_range log.holds

pub returns-then-not-fits-clause-after : goal.returns-then-not-fits-clause-after
returns-then-not-fits-clause-after g c has log =
    let self = c.args.self.now in
    let new = c.put_in_new_tail.new.self in
    let stored = c.in_ok-put_in_new_tail.ensures.stored has log in
    AllCarry-appended (present (g.D.SectorDisk.history (disk_of new))) (g.D.SectorDisk.size self.disk) (g.D.SectorDisk.size (disk_of new)) (root_of new) (end_of new) (number_of new) self.number c.args.frame.now.0 c.args.frame.now.1 has
    (appended (rolled has stored.0) c.args.frame.now.0 c.args.frame.now.1) (inr (stored.0, refl)) stored.1.holds new.in_range c.put_in_new_tail.ensures.same_size c.in_ok-put_in_new_tail.ensures.number

pub returns-clause-after : goal.returns-clause-after
returns-clause-after g c has log =
    let self = c.args.self.now in
    let new = c.put.new.self in
    let stored = c.in_ok-put.ensures.stored has (record { is_honest = log.is_honest; holds = log.holds }) in
    AllCarry-appended (present (g.D.SectorDisk.history (disk_of new))) (g.D.SectorDisk.size self.disk) (g.D.SectorDisk.size (disk_of new)) (root_of new) (end_of new) (number_of new) self.number c.args.frame.now.0 c.args.frame.now.1 has
    (appended has c.args.frame.now.0 c.args.frame.now.1) (inl refl) stored.holds new.in_range c.put.ensures.same_size c.in_ok-put.ensures.number

pub returns-in_err-put_in_new_tail-clause-full : goal.returns-in_err-put_in_new_tail-clause-full
returns-in_err-put_in_new_tail-clause-full g c =
    let self = c.args.self.now in
    let size = g.D.SectorDisk.size self.disk in
    let bytes = length c.args.frame.now.1 in
    let past : SEGMENT_SECTORS ≤ next_gate self.end bytes = search rules in
    let p = err_from_is_err_and c.from_residual.result c.from_residual.ensures.1 in
    rw (p.1, p.2) (λ full. inr (has-no-room size (taken_of self) self.root self.end bytes past (c.in_err-put_in_new_tail.ensures.full full)))

pub returns-in_err-put_in_new_tail-clause-clear : goal.returns-in_err-put_in_new_tail-clause-clear
returns-in_err-put_in_new_tail-clause-clear g c =
    let self = c.args.self.now in
    let size = g.D.SectorDisk.size self.disk in
    let bytes = length c.args.frame.now.1 in
    let past : SEGMENT_SECTORS ≤ next_gate self.end bytes = search rules in
    let p = err_from_is_err_and c.from_residual.result c.from_residual.ensures.1 in
    rw (p.1, p.2) (λ failed full. has-room-next size (taken_of self) self.root self.end bytes past (c.in_err-put_in_new_tail.ensures.clear full))

pub returns-in_err-put_in_new_tail-clause-clock : goal.returns-in_err-put_in_new_tail-clause-clock
returns-in_err-put_in_new_tail-clause-clock g c honest fits =
    let self = c.args.self.now in
    let size = g.D.SectorDisk.size self.disk in
    let bytes = length c.args.frame.now.1 in
    let past : SEGMENT_SECTORS ≤ next_gate self.end bytes = search rules in
    absurd (let no = fits-none size (taken_of self) self.root self.end bytes past in cc)

pub returns-in_err-put_in_new_tail-clause-calls : goal.returns-in_err-put_in_new_tail-clause-calls
returns-in_err-put_in_new_tail-clause-calls g c honest =
    let self = c.args.self.now in
    let size = g.D.SectorDisk.size self.disk in
    let bytes = length c.args.frame.now.1 in
    let past : SEGMENT_SECTORS ≤ next_gate self.end bytes = search rules in
    let most = calls-next size (taken_of self) self.root self.end bytes past in
    omega (arith, most, c.put_in_new_tail.ensures.calls honest)

pub returns-then-not-fits-clause-room : goal.returns-then-not-fits-clause-room
returns-then-not-fits-clause-room g c =
    let self = c.args.self.now in
    let size = g.D.SectorDisk.size self.disk in
    let bytes = length c.args.frame.now.1 in
    let past : SEGMENT_SECTORS ≤ next_gate self.end bytes = search rules in
    let next = c.in_ok-put_in_new_tail.ensures.tail in
    let new = c.put_in_new_tail.new.self in
    ap (λ n. room_at n (taken_of new) (root_of new) (end_of new)) c.put_in_new_tail.ensures.same_size
    ∙ ap (λ (f : List ℕ). room_at size (root_ids (root_of new) ++ f) (root_of new) (end_of new)) c.put_in_new_tail.ensures.same_fresh
    ∙ ap (λ e. room_at size (root_ids (root_of new) ++ self.fresh.items) (root_of new) e) c.in_ok-put_in_new_tail.ensures.end
    ∙ room-next size self.fresh.items self.root self.end bytes (root_of new) next.0 past next.1

pub returns-then-not-fits-clause-clear : goal.returns-then-not-fits-clause-clear
returns-then-not-fits-clause-clear g c =
    let self = c.args.self.now in
    let size = g.D.SectorDisk.size self.disk in
    let bytes = length c.args.frame.now.1 in
    let past : SEGMENT_SECTORS ≤ next_gate self.end bytes = search rules in
    has-room-next size (taken_of self) self.root self.end bytes past c.in_ok-put_in_new_tail.ensures.clear

pub returns-then-not-fits-clause-clock : goal.returns-then-not-fits-clause-clock
returns-then-not-fits-clause-clock g c honest fits =
    let self = c.args.self.now in
    let size = g.D.SectorDisk.size self.disk in
    let bytes = length c.args.frame.now.1 in
    let past : SEGMENT_SECTORS ≤ next_gate self.end bytes = search rules in
    absurd (let no = fits-none size (taken_of self) self.root self.end bytes past in cc)

pub returns-then-not-fits-clause-calls : goal.returns-then-not-fits-clause-calls
returns-then-not-fits-clause-calls g c honest =
    let self = c.args.self.now in
    let size = g.D.SectorDisk.size self.disk in
    let bytes = length c.args.frame.now.1 in
    let past : SEGMENT_SECTORS ≤ next_gate self.end bytes = search rules in
    let most = calls-next size (taken_of self) self.root self.end bytes past in
    omega (arith, most, c.put_in_new_tail.ensures.calls honest)

pub returns-in_err-put-clause-clear : goal.returns-in_err-put-clause-clear
returns-in_err-put-clause-clear g c =
    let self = c.args.self.now in
    let size = g.D.SectorDisk.size self.disk in
    let bytes = length c.args.frame.now.1 in
    let fits : next_gate self.end bytes < SEGMENT_SECTORS = search rules in
    always (has_room (room_at size (taken_of self) self.root self.end) bytes ≡ true) c.from_residual-in_err-put.result (has-room-tail size (taken_of self) self.root self.end bytes fits)

pub returns-in_err-put-clause-calls : goal.returns-in_err-put-clause-calls
returns-in_err-put-clause-calls g c honest =
    let self = c.args.self.now in
    let size = g.D.SectorDisk.size self.disk in
    let bytes = length c.args.frame.now.1 in
    let fits : next_gate self.end bytes < SEGMENT_SECTORS = search rules in
    let most = calls-tail size (taken_of self) self.root self.end bytes fits in
    omega (arith, most, (c.put.ensures.clock honest).most)

pub returns-clause-room : goal.returns-clause-room
returns-clause-room g c =
    let self = c.args.self.now in
    let size = g.D.SectorDisk.size self.disk in
    let bytes = length c.args.frame.now.1 in
    let fits : next_gate self.end bytes < SEGMENT_SECTORS = search rules in
    let new = c.put.new.self in
    let end_is : end_of new ≡ next_gate self.end bytes = c.in_ok-put.ensures.end in
    ap (λ n. room_at n (taken_of new) (root_of new) (end_of new)) c.put.ensures.same_size
    ∙ ap (λ (f : List ℕ). room_at size (root_ids (root_of new) ++ f) (root_of new) (end_of new)) c.put.ensures.same_fresh
    ∙ ap (λ r. room_at size (root_ids r ++ self.fresh.items) r (end_of new)) c.put.ensures.same_root
    ∙ ap (λ e. room_at size (taken_of self) self.root e) end_is
    ∙ room-tail size (taken_of self) self.root self.end bytes fits

pub returns-clause-clear : goal.returns-clause-clear
returns-clause-clear g c =
    let self = c.args.self.now in
    let size = g.D.SectorDisk.size self.disk in
    let bytes = length c.args.frame.now.1 in
    let fits : next_gate self.end bytes < SEGMENT_SECTORS = search rules in
    has-room-tail size (taken_of self) self.root self.end bytes fits

pub returns-clause-calls : goal.returns-clause-calls
returns-clause-calls g c honest =
    let self = c.args.self.now in
    let size = g.D.SectorDisk.size self.disk in
    let bytes = length c.args.frame.now.1 in
    let fits : next_gate self.end bytes < SEGMENT_SECTORS = search rules in
    let most = calls-tail size (taken_of self) self.root self.end bytes fits in
    omega (arith, most, (c.put.ensures.clock honest).most)

pub returns-in_err-put_in_new_tail-clause-same_root : goal.returns-in_err-put_in_new_tail-clause-same_root
returns-in_err-put_in_new_tail-clause-same_root g c fits =
    let self = c.args.self.now in
    let size = g.D.SectorDisk.size self.disk in
    let bytes = length c.args.frame.now.1 in
    let past : SEGMENT_SECTORS ≤ next_gate self.end bytes = search rules in
    absurd (let no = fits-none size (taken_of self) self.root self.end bytes past in cc)

pub returns-then-not-fits-clause-same_root : goal.returns-then-not-fits-clause-same_root
returns-then-not-fits-clause-same_root g c fits =
    let self = c.args.self.now in
    let size = g.D.SectorDisk.size self.disk in
    let bytes = length c.args.frame.now.1 in
    let past : SEGMENT_SECTORS ≤ next_gate self.end bytes = search rules in
    absurd (let no = fits-none size (taken_of self) self.root self.end bytes past in cc)

pub returns-clause-next : goal.returns-clause-next
returns-clause-next g c none =
    let self = c.args.self.now in
    let size = g.D.SectorDisk.size self.disk in
    let bytes = length c.args.frame.now.1 in
    let fits : next_gate self.end bytes < SEGMENT_SECTORS = search rules in
    absurd (let yes = fits-tail size (taken_of self) self.root self.end bytes fits in cc)
