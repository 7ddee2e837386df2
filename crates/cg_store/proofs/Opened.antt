-- What an opening finds on a disk.
use Rattle.std.proofs.Common.{◌≡◌, ℕ, true, false, ◌++◌, subst}
use Rattle.cg_disk.specs.Disk.{Image}
use Rattle.cg_log.specs.Carried.{Carries as LogCarries}
use Rattle.cg_log.specs.Segments.{Frames}
use Rattle.cg_log.proofs.Images as log
use Rattle.cg_store.specs.Carried.{Carries, Spell}
use Rattle.cg_store.specs.Faults.{HasBadRecord}
use Rattle.cg_store.specs.Loading.{HasRead}
use Rattle.cg_store.specs.declared.recovery.Loading.{Loading}
use Rattle.cg_store.proofs.Reading.{all-read, not-all-read}

module _ (image : Image) (sectors number : ℕ) (base tail : Frames) (loading : Loading) (carried : LogCarries image sectors number base tail) (read : HasRead (base ++ tail) loading) where
  pub carries-read : loading.all_read ≡ true → Carries image sectors number loading.durable
  carries-read all = record { base = base; tail = tail; log = carried; spelled = all-read loading.all_read (base ++ tail) loading.durable all read }

  -- one of the frames cannot be decoded
  pub bad-record : loading.all_read ≡ false → HasBadRecord image sectors
  bad-record not_all = record {
    has = record { number = number; base = base; tail = tail; log = carried };
    none = λ n state c.
        let one = log.Carries-unique image sectors n number c.base base c.tail tail c.log carried in
        let frames : c.base ++ c.tail ≡ base ++ tail = λ i. (one.1) i ++ (one.2) i in
        not-all-read loading.all_read (base ++ tail) loading.durable state not_all read (subst (λ (l : Frames). Spell l state) frames c.spelled);
  }
