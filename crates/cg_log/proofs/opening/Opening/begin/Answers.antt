use Rattle.std.proofs.Common.{ℕ, ◌∙◌, sym, subst, refl, []}
use Rattle.cg_disk.specs.Disk.{present}
use Rattle.cg_disk.proofs.Moments.{Stays-content}
use Rattle.cg_log.specs.ReadTo.{IsReadTo}
use Rattle.cg_log.proofs.ReadTo.{IsReadTo-starts}
use Rattle.cg_log.proofs.opening.Opening.begin.Goals as goal

pub returns-clause-begins : goal.returns-clause-begins
returns-clause-begins g c honest =
    let h0 = g.D.SectorDisk.history c.args.disk in
    let h1 = g.D.SectorDisk.history c.read_roots.new.disk in
    let root = c.in-Ok.roots.root in
    let image = (present h0).content in
    record {
      is_honest = c.read_roots.ensures.same_honesty ∙ honest;
      content = λ s. Stays-content h0 h1 (c.read_roots.ensures.time honest) s;
      synced = c.in-Ok.ensures.synced honest;
      serves = refl;
      counting = rw c.read_roots.ensures.same_size (c.in-Ok.ensures.counting honest);
      other = c.in-Ok.ensures.other honest;
      buffered = c.in-Ok-first_reader.ensures.buffered image;
      so_far = subst (λ (p : ℕ). IsReadTo image root 0 p root.base_number []) (sym c.in-Ok-first_reader.ensures.position) (IsReadTo-starts image root);
      closed = λ ended. absurd cc;
    }
