use Rattle.std.proofs.Common.{◌≡◌, ◌+◌, ◌∙◌, ℕ, ap, sym, subst, arith, add-zero}
use Rattle.cg_disk.specs.Disk.{Changes, present}
use Rattle.cg_disk.proofs.Moments.{Changes-wider}
use Rattle.cg_gate.specs.Layout.{first_sector, segment_count}
use Rattle.cg_root.specs.Roots.{root_ids}
use Rattle.cg_log.specs.Ready.{AllClosed, last_id}
use Rattle.cg_log.proofs.Filled.{last_id-push}
use Rattle.cg_log.proofs.Ids.{is_among-back, is_among-front}
use Rattle.cg_log.proofs.Kept.{HoldsFresh-new, KeepsFresh-segment, content-fresh, images-fresh, ready-fresh}
use Rattle.cg_log.proofs.Taken.{taken-fresh}
use Rattle.cg_log.proofs.log.Log.begin_fresh.Goals as goal

pub returns-in-Ok-clause-stored : goal.returns-in-Ok-clause-stored
returns-in-Ok-clause-stored g c has log =
    let self = c.args.self.now in
    let size = g.D.SectorDisk.size self.disk in
    let old = g.D.SectorDisk.history self.disk in
    let new = g.D.SectorDisk.history c.close_gate.new.disk in
    let ids = self.fresh.items in
    let id = c.args.id in
    let named = is_among-front id (root_ids self.root) ids c.requires.free.free in
    let other = is_among-back id (root_ids self.root) ids c.requires.free.free in
    let at : c.first_sector.result ≡ first_sector id = c.first_sector.ensures.first ∙ ap first_sector c.get.ensures.number in
    let change = Changes-wider (first_sector id) 1 (first_sector id) 2048 old new (omega arith) (omega arith) (subst (λ (k : ℕ). Changes k 1 old new) at (c.close_gate.ensures.time log.is_honest)) in
    record {
      is_honest = c.close_gate.ensures.same_honesty ∙ log.is_honest;
      holds = rw c.close_gate.ensures.same_size (content-fresh id old new change size self.root named self.end self.number has log.holds);
    }

pub returns-in-Err-Device-clause-stored : goal.returns-in-Err-Device-clause-stored
returns-in-Err-Device-clause-stored g c has log =
    let self = c.args.self.now in
    let size = g.D.SectorDisk.size self.disk in
    let old = g.D.SectorDisk.history self.disk in
    let new = g.D.SectorDisk.history c.close_gate.new.disk in
    let ids = self.fresh.items in
    let id = c.args.id in
    let named = is_among-front id (root_ids self.root) ids c.requires.free.free in
    let other = is_among-back id (root_ids self.root) ids c.requires.free.free in
    let at : c.first_sector.result ≡ first_sector id = c.first_sector.ensures.first ∙ ap first_sector c.get.ensures.number in
    let change = Changes-wider (first_sector id) 1 (first_sector id) 2048 old new (omega arith) (omega arith) (subst (λ (k : ℕ). Changes k 1 old new) at (c.close_gate.ensures.time log.is_honest)) in
    record {
      is_honest = c.close_gate.ensures.same_honesty ∙ log.is_honest;
      holds = rw c.close_gate.ensures.same_size (content-fresh id old new change size self.root named self.end self.number has log.holds);
    }

pub returns-in-Ok-clause-images : goal.returns-in-Ok-clause-images
returns-in-Ok-clause-images g c has log =
    let self = c.args.self.now in
    let size = g.D.SectorDisk.size self.disk in
    let old = g.D.SectorDisk.history self.disk in
    let new = g.D.SectorDisk.history c.close_gate.new.disk in
    let ids = self.fresh.items in
    let id = c.args.id in
    let named = is_among-front id (root_ids self.root) ids c.requires.free.free in
    let other = is_among-back id (root_ids self.root) ids c.requires.free.free in
    let at : c.first_sector.result ≡ first_sector id = c.first_sector.ensures.first ∙ ap first_sector c.get.ensures.number in
    let change = Changes-wider (first_sector id) 1 (first_sector id) 2048 old new (omega arith) (omega arith) (subst (λ (k : ℕ). Changes k 1 old new) at (c.close_gate.ensures.time log.is_honest)) in
    images-fresh id old new change size self.root named self.end self.number has self.in_range log.holds

pub returns-in-Err-Device-clause-images : goal.returns-in-Err-Device-clause-images
returns-in-Err-Device-clause-images g c has log =
    let self = c.args.self.now in
    let size = g.D.SectorDisk.size self.disk in
    let old = g.D.SectorDisk.history self.disk in
    let new = g.D.SectorDisk.history c.close_gate.new.disk in
    let ids = self.fresh.items in
    let id = c.args.id in
    let named = is_among-front id (root_ids self.root) ids c.requires.free.free in
    let other = is_among-back id (root_ids self.root) ids c.requires.free.free in
    let at : c.first_sector.result ≡ first_sector id = c.first_sector.ensures.first ∙ ap first_sector c.get.ensures.number in
    let change = Changes-wider (first_sector id) 1 (first_sector id) 2048 old new (omega arith) (omega arith) (subst (λ (k : ℕ). Changes k 1 old new) at (c.close_gate.ensures.time log.is_honest)) in
    images-fresh id old new change size self.root named self.end self.number has self.in_range log.holds

pub returns-in-Ok-clause-fresh : goal.returns-in-Ok-clause-fresh
returns-in-Ok-clause-fresh g c fresh has =
    let self = c.args.self.now in
    let size = g.D.SectorDisk.size self.disk in
    let old = g.D.SectorDisk.history self.disk in
    let new = g.D.SectorDisk.history c.close_gate.new.disk in
    let ids = self.fresh.items in
    let id = c.args.id in
    let named = is_among-front id (root_ids self.root) ids c.requires.free.free in
    let other = is_among-back id (root_ids self.root) ids c.requires.free.free in
    let at : c.first_sector.result ≡ first_sector id = c.first_sector.ensures.first ∙ ap first_sector c.get.ensures.number in
    let change = Changes-wider (first_sector id) 1 (first_sector id) 2048 old new (omega arith) (omega arith) (subst (λ (k : ℕ). Changes k 1 old new) at (c.close_gate.ensures.time has.is_honest)) in
    let closed = subst (AllClosed (present new)) at (c.in-Ok.ensures.closed has.is_honest) in
    record {
      is_honest = c.close_gate.ensures.same_honesty ∙ has.is_honest;
      holds = rw c.push_reserved.ensures.items (HoldsFresh-new (present old) (present new) ids self.fresh_end id fresh (KeepsFresh-segment (first_sector id) 2048 old new change id ids (omega arith) (omega arith) other) closed has.holds);
    }

pub invariant_of-self-clause-ready : goal.invariant_of-self-clause-ready
invariant_of-self-clause-ready g c serves honest =
    let self = c.args.self.now in
    let size = g.D.SectorDisk.size self.disk in
    let old = g.D.SectorDisk.history self.disk in
    let new = g.D.SectorDisk.history c.close_gate.new.disk in
    let ids = self.fresh.items in
    let id = c.args.id in
    let named = is_among-front id (root_ids self.root) ids c.requires.free.free in
    let other = is_among-back id (root_ids self.root) ids c.requires.free.free in
    let at : c.first_sector.result ≡ first_sector id = c.first_sector.ensures.first ∙ ap first_sector c.get.ensures.number in
    let honest0 = sym c.close_gate.ensures.same_honesty ∙ honest in
    let change = Changes-wider (first_sector id) 1 (first_sector id) 2048 old new (omega arith) (omega arith) (subst (λ (k : ℕ). Changes k 1 old new) at (c.close_gate.ensures.time honest0)) in
    rw c.close_gate.ensures.same_size (ready-fresh id old new change size self.root named self.end self.is_other_open self.inside self.lawful.tail (self.ready serves honest0))

pub invariant_of-self-clause-taken : goal.invariant_of-self-clause-taken
invariant_of-self-clause-taken g c =
    let self = c.args.self.now in
    rw (c.push_reserved.ensures.items, c.close_gate.ensures.same_size)
    (taken-fresh (segment_count (g.D.SectorDisk.size self.disk)) self.root self.fresh.items self.taken c.args.id c.requires.free.below c.requires.free.free)

pub invariant_of-self-clause-fresh_ready : goal.invariant_of-self-clause-fresh_ready
invariant_of-self-clause-fresh_ready g c serves honest some =
    let self = c.args.self.now in
    let size = g.D.SectorDisk.size self.disk in
    let old = g.D.SectorDisk.history self.disk in
    let new = g.D.SectorDisk.history c.close_gate.new.disk in
    let ids = self.fresh.items in
    let id = c.args.id in
    let named = is_among-front id (root_ids self.root) ids c.requires.free.free in
    let other = is_among-back id (root_ids self.root) ids c.requires.free.free in
    let at : c.first_sector.result ≡ first_sector id = c.first_sector.ensures.first ∙ ap first_sector c.get.ensures.number in
    let honest0 = sym c.close_gate.ensures.same_honesty ∙ honest in
    let last : last_id c.push_reserved.new.self.items ≡ id = ap last_id c.push_reserved.ensures.items ∙ last_id-push ids id in
    subst (AllClosed (present new)) (at ∙ sym (add-zero (first_sector id)) ∙ ap (λ (k : ℕ). first_sector k + 0) (sym last)) (c.in-Ok.ensures.closed honest0)
