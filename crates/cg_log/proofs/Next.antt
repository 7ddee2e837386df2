-- What comes next in a reading, by what a reader finds.
use Rattle.std.proofs.Common.{◌≡◌, ℕ, ◌+◌, ◌<◌, ◌≤◌, ◌++◌, length, sym, subst, refl, Ok, Err, Option, Some, None, Result}
use Rattle.std.specs.Prelude.{IfSome}
use Rattle.cg_disk.specs.Disk.{Image}
use Rattle.cg_frame.specs.Frames.{FrameAt, IsClosed, next_gate}
use Rattle.cg_frame.specs.Heads.{IsBadFrame}
use Rattle.cg_frame.specs.Reader.{FindsFrame, payload_of, position_of, segment_read}
use Rattle.cg_frame.specs.declared.fault.ScanFault.{ScanFault}
use Rattle.cg_frame.specs.declared.fault.ScanFault.TheVariants as scan_fault
use Rattle.cg_frame.specs.declared.segment.Segment.{Segment}
use Rattle.cg_frame.specs.declared.segment_reader.SegmentReader.{SegmentReader}
use Rattle.cg_gate.specs.Layout.{first_sector}
use Rattle.cg_root.specs.Roots.{CountingRoot, root_ids}
use Rattle.cg_root.specs.declared.root.Root.{Root}
use Rattle.cg_log.specs.Carried.{Carries, tails}
use Rattle.cg_log.specs.FaultOf.{of_scan}
use Rattle.cg_log.specs.Faults.{Tells}
use Rattle.cg_log.specs.ReadTo.{FindsNext, IsReadTo, id_at}
use Rattle.cg_log.specs.Segments.{Frames, frames_of, segment_of}
use Rattle.cg_log.specs.declared.fault.LogFault.{LogFault}
use Rattle.cg_log.specs.declared.fault.LogFault.TheVariants as log_fault
use Rattle.cg_log.specs.declared.numbers.TheConstants.{COMMAND_NUMBER_MAX}
use Rattle.cg_log.proofs.Images.{Carries-at}
use Rattle.cg_log.proofs.ReadTo.{HasBadFrame-segment, IsWhole-read, IsReadTo-bad, IsReadTo-closed, IsReadTo-frame}

module _ (image : Image) (root : Root) (index number : ℕ) (read : Frames) (old new : SegmentReader) (inside : index < length (root_ids root)) (at : segment_read old ≡ segment_of (id_at root index)) (so_far : IsReadTo image root index (position_of old) number read) where
  closed-at : IsClosed image ((segment_read old).first + position_of old) → IsClosed image (first_sector (id_at root index) + position_of old)
  closed-at closed = subst (λ (s : Segment). IsClosed image (s.first + position_of old)) at closed

  pub FindsNext-found : (o : Option ℕ) → FindsFrame image old new (Ok o) → IfSome o (λ _. position_of new ≡ next_gate (position_of old) (length (payload_of new))) → (◌≡◌ {A = Result (Option ℕ) ScanFault} (Ok o) (Ok None) → position_of new ≡ position_of old) → FindsNext image root number read index new (Ok o)
  FindsNext-found None found next stays = (
    subst (λ (p : ℕ). IsReadTo image root index p number read) (sym (stays refl)) so_far,
    subst (λ (p : ℕ). IsClosed image (first_sector (id_at root index) + p)) (sym (stays refl)) (closed-at found),
  )
  FindsNext-found (Some count) found next stays = IsReadTo-frame image root index (position_of old) number read inside so_far (position_of new) _ count (payload_of new) (subst (λ (s : Segment). FrameAt image s (position_of old) count (payload_of new)) at found) next refl

  pub FindsNext-fault : (index' : ℕ) (fault : ScanFault) → FindsFrame image old new (Err fault) → FindsNext image root number read index' new (Err (of_scan fault))
  FindsNext-fault index' scan_fault.Memory found = absurd found
  FindsNext-fault index' scan_fault.Device found = tt
  FindsNext-fault index' scan_fault.BadLength found = IsReadTo-bad image root index (position_of old) number read inside so_far (subst (λ (s : Segment). IsBadFrame image s (position_of old)) at found)

  pub FindsNext-closed : (o : Option ℕ) → o ≡ None → FindsFrame image old new (Ok o) → (p : ℕ) → p ≡ 0 → IsReadTo image root (index + 1) p number read
  FindsNext-closed o none found p start = subst (λ (q : ℕ). IsReadTo image root (index + 1) q number read) (sym start) (IsReadTo-closed image root index (position_of old) number read inside so_far (index + 1) refl (closed-at (subst (λ (x : Option ℕ). FindsFrame image old new (Ok x)) none found)))

pub Tells-next : (image : Image) (sectors : ℕ) (root : Root) (index number : ℕ) (read : Frames) (reader : SegmentReader) (fault : LogFault) → CountingRoot image sectors root → FindsNext image root number read index reader (Err fault) → Tells image sectors fault
Tells-next image sectors root index number read reader log_fault.Memory counting found = tt
Tells-next image sectors root index number read reader log_fault.Device counting found = tt
Tells-next image sectors root index number read reader log_fault.Full counting found = found
Tells-next image sectors root index number read reader log_fault.BadRoot counting found = absurd found
Tells-next image sectors root index number read reader log_fault.BadFrame counting found = HasBadFrame-segment image sectors root counting found
Tells-next image sectors root index number read reader log_fault.NoRoot counting found = absurd found
Tells-next image sectors root index number read reader log_fault.Failed counting found = found

-- everything was read: the image carries it
pub Carries-read : (image : Image) (sectors : ℕ) (root : Root) (index pos number : ℕ) (read : Frames) → CountingRoot image sectors root → 1 ≤ length root.tail → index + 1 ≡ length (root_ids root) → IsReadTo image root index pos number read → IsClosed image (first_sector (id_at root index) + pos) → number ≤ COMMAND_NUMBER_MAX → (base : Frames) × ((tail : Frames) × ((read ≡ base ++ tail) × Carries image sectors number base tail))
Carries-read image sectors root index pos number read counting some last so_far closed small =
    let whole = IsWhole-read image sectors root index pos number read counting some last so_far closed in
    (frames_of whole.0.base, (frames_of (tails whole.0), (whole.1.read_is, Carries-at image sectors number root whole.0 whole.1.stored whole.1.number_is small)))
