use Rattle.std.proofs.Common.{◌≡◌, ◌∙◌, ap, sym, subst}
use Rattle.cg_disk.specs.Disk.{LeavesOnly}
use Rattle.cg_log.specs.Log.{disk_of, number_of}
use Rattle.cg_store.specs.Carried.{Carries as CarriesState}
use Rattle.cg_store.specs.Compacting.{Compacts, cut_in}
use Rattle.cg_store.specs.declared.compaction.Compaction.{Compaction}
use Rattle.cg_store.specs.declared.compaction.Compaction.TheVariants as is
use Rattle.cg_store.proofs.compaction_work.switch.Goals as goal

pub publish-requires-clause-cut : goal.publish-requires-clause-cut
publish-requires-clause-cut g c =
    let was : c.args.compaction.now ≡ is.Ready c.in-Ready.cut = sym c.replace.ensures.value ∙ c.in-Ready.is in
    c.requires.cut c.in-Ready.cut (ap cut_in was)

pub returns-in-Ok-clause-stored : goal.returns-in-Ok-clause-stored
returns-in-Ok-clause-stored g c has left state holds spelled knows =
    let disk = g.D.SectorDisk in
    let log = c.args.log.now in
    let was : c.args.compaction.now ≡ is.Ready c.in-Ready.cut = sym c.replace.ensures.value ∙ c.in-Ready.is in
    c.in-Ok.ensures.stored has left state holds spelled (subst (λ (k : Compaction). Compacts disk.is_honest disk.history log has (number_of log) left k) was knows)

pub returns-in-Ok-clause-images : goal.returns-in-Ok-clause-images
returns-in-Ok-clause-images g c has left state holds spelled knows =
    let disk = g.D.SectorDisk in
    let log = c.args.log.now in
    let was : c.args.compaction.now ≡ is.Ready c.in-Ready.cut = sym c.replace.ensures.value ∙ c.in-Ready.is in
    c.publish.ensures.images has left state holds spelled (subst (λ (k : Compaction). Compacts disk.is_honest disk.history log has (number_of log) left k) was knows)

pub returns-in-Err-clause-images : goal.returns-in-Err-clause-images
returns-in-Err-clause-images g c has left state holds spelled knows =
    let disk = g.D.SectorDisk in
    let log = c.args.log.now in
    let was : c.args.compaction.now ≡ is.Ready c.in-Ready.cut = sym c.replace.ensures.value ∙ c.in-Ready.is in
    let all = c.publish.ensures.images has left state holds spelled (subst (λ (k : Compaction). Compacts disk.is_honest disk.history log has (number_of log) left k) was knows) in
    subst (λ d. LeavesOnly (disk.history (disk_of log)) (disk.history d) (λ image. CarriesState image (disk.size (disk_of log)) (number_of log) state)) (sym c.drop_fresh.ensures.disk) all
