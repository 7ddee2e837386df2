use Rattle.std.proofs.Common.{◌≡◌, ℕ, ◌++◌, ◌∙◌, ap, sym, subst, refl, [], true}
use Rattle.std.proofs.lemmas.Bool.{not-true, not-false}
use Rattle.cg_disk.specs.Disk.{present}
use Rattle.cg_log.specs.Carried.{HoldsContent, AllCarry as AllCarryLog}
use Rattle.cg_log.specs.Log as log_model
use Rattle.cg_log.specs.Openings.{disk_under, number_so_far}
use Rattle.cg_store.specs.Carried.{AllCarry, Carries}
use Rattle.cg_store.specs.Faults.{HasBadRecord, Tells}
use Rattle.cg_store.proofs.Opened.{bad-record, carries-read}
use Rattle.cg_store.proofs.Reading.{all-read}
use Rattle.cg_store.proofs.Spelled.{Spell-made}
use Rattle.cg_store.proofs.Standing.{Spell-held, StandsAt-carry}
use Rattle.cg_store.proofs.Whole.{Carries-unique, Tells-of_log, carried-fault}
use Rattle.cg_store.proofs.store.Store.open.Goals as goal

pub returns-in-Err-clause-carried : goal.returns-in-Err-clause-carried
returns-in-Err-clause-carried g c honest n state carries =
    let image = (present (g.D.SectorDisk.history c.args.disk)).content in
    let sectors = g.D.SectorDisk.size c.args.disk in
    let told = Tells-of_log image sectors c.in-Err.fault (c.in-Err.ensures.tells honest) in
    carried-fault image sectors n state c.from.result carries (rw c.from.ensures told)

pub returns-in-Err-read_frames-clause-carried : goal.returns-in-Err-read_frames-clause-carried
returns-in-Err-read_frames-clause-carried g c honest n state carries =
    let image = (present (g.D.SectorDisk.history c.args.disk)).content in
    let fault = c.in-Err-read_frames.fault in
    let told = c.in-Err-read_frames.ensures.tells image (c.in-Ok.ensures.begins honest) in
    carried-fault image (g.D.SectorDisk.size c.args.disk) n state fault carries (subst (λ (z : ℕ). Tells image z fault) c.in-Ok.ensures.same_size told)

pub returns-then-not-loading-clause-tells : goal.returns-then-not-loading-clause-tells
returns-then-not-loading-clause-tells g c honest =
    let size = g.D.SectorDisk.size in
    let image = (present (g.D.SectorDisk.history c.args.disk)).content in
    let opening = c.read_frames.new.opening in
    let loading = c.in-Ok-read_frames.loading in
    let same : size (disk_under opening) ≡ size c.args.disk = c.read_frames.ensures.same_size ∙ c.in-Ok.ensures.same_size in
    let found = c.in-Ok-read_frames.ensures.read image (c.in-Ok.ensures.begins honest) in
    let bad = bad-record image (size (disk_under opening)) (number_so_far opening) found.base found.tail loading found.carried found.is_read (not-true loading.all_read c.if-not-loading.true) in
    subst (λ (z : ℕ). HasBadRecord image z) same bad

pub returns-then-not-loading-clause-carried : goal.returns-then-not-loading-clause-carried
returns-then-not-loading-clause-carried g c honest n state carries = absurd ((returns-then-not-loading-clause-tells g c honest).none n state carries)

pub returns-clause-carried : goal.returns-clause-carried
returns-clause-carried g c honest n state carries =
    let size = g.D.SectorDisk.size in
    let image = (present (g.D.SectorDisk.history c.args.disk)).content in
    let opening = c.read_frames.new.opening in
    let loading = c.in-Ok-read_frames.loading in
    let same : size (disk_under opening) ≡ size c.args.disk = c.read_frames.ensures.same_size ∙ c.in-Ok.ensures.same_size in
    let found = c.in-Ok-read_frames.ensures.read image (c.in-Ok.ensures.begins honest) in
    let read = carries-read image (size (disk_under opening)) (number_so_far opening) found.base found.tail loading found.carried found.is_read (not-false loading.all_read c.if-not-loading.false) in
    let one = Carries-unique image (size c.args.disk) (number_so_far opening) n loading.durable state (subst (λ (z : ℕ). Carries image z (number_so_far opening) loading.durable) same read) carries in
    (c.number-number.ensures.number ∙ c.finish-log.ensures.number ∙ one.0, one.1)

pub returns-clause-made : goal.returns-clause-made
returns-clause-made g c =
    let loading = c.in-Ok-read_frames.loading in
    let some = c.in-Ok-read_frames.ensures.some in
    (Spell-made some.0 loading.durable (all-read loading.all_read some.0 loading.durable (not-false loading.all_read c.if-not-loading.false) some.1), c.number-number.ensures.in_range)

pub returns-clause-stands : goal.returns-clause-stands
returns-clause-stands g c honest =
    let disk = g.D.SectorDisk in
    let image = (present (disk.history c.args.disk)).content in
    let opening = c.read_frames.new.opening in
    let loading = c.in-Ok-read_frames.loading in
    let log = c.finish-log.result in
    let sectors = c.sectors-sectors.result in
    let m = present (disk.history (log_model.disk_of log)) in
    let same : disk.size (disk_under opening) ≡ sectors = c.read_frames.ensures.same_size ∙ c.in-Ok.ensures.same_size ∙ sym c.sectors-sectors.ensures in
    let now : disk.is_honest (disk_under opening) ≡ true = c.read_frames.ensures.same_honesty ∙ c.in-Ok.ensures.same_honesty ∙ honest in
    let found = c.in-Ok-read_frames.ensures.read image (c.in-Ok.ensures.begins honest) in
    let held = c.finish-log.ensures.stored now in
    let carried = c.finish-log.ensures.carried image (found.base ++ found.tail) found.handed_out (number_so_far opening) found.base found.tail found.carried in
    let holds = subst (λ (z : ℕ). HoldsContent m z log.root log.end log.number held.0) (ap disk.size c.finish-log.ensures.disk ∙ same) held.1.holds in
    let all = subst (λ (z : ℕ). AllCarryLog m z (number_so_far opening) found.base found.tail) same carried.1 in
    let spelled = all-read loading.all_read (found.base ++ found.tail) loading.durable (not-false loading.all_read c.if-not-loading.false) found.is_read in
    record {
      is_honest = held.1.is_honest;
      front_is = sym c.number-number.ensures.number;
      has = held.0;
      holds = holds;
      spelled = Spell-held m sectors log.root log.end log.number held.0 log.in_range holds (number_so_far opening) found.base found.tail loading.durable all spelled;
      left = [];
      compacts = refl;
    }

pub returns-clause-images : goal.returns-clause-images
returns-clause-images g c honest =
    let disk = g.D.SectorDisk in
    let all = StandsAt-carry disk.is_honest disk.history _ _ _ (returns-clause-stands g c honest) in
    subst (λ (z : ℕ). AllCarry (disk.history (log_model.disk_of c.finish-log.result)) z c.number-number.result c.in-Ok-read_frames.loading.durable) c.sectors-sectors.ensures all
