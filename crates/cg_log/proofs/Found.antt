-- What is found at a position of a segment, and the counts of frames.
use Rattle.std.proofs.Common.{◌≡◌, ℕ, ◌+◌, List, ◌++◌, get_or, sym, ap, ◌∙◌, Result, Ok, Err, Option, Some, None}
use Rattle.std.proofs.lemmas.List.Sums.{sum_by-append}
use Rattle.cg_disk.specs.Disk.{Image}
use Rattle.cg_frame.specs.declared.segment.Frame.{Frame}
use Rattle.cg_frame.proofs.Standing.{FrameAt-same}
use Rattle.cg_gate.specs.Layout.{first_sector}
use Rattle.cg_log.specs.Scanned.{Finds}
use Rattle.cg_log.specs.Segments.{Frames, counted, segment_of}
use Rattle.cg_log.specs.declared.fault.LogFault.{LogFault}
use Rattle.cg_log.specs.declared.fault.LogFault.TheVariants as log_fault

pub counted-append : (frames more : Frames) → counted (frames ++ more) ≡ counted frames + counted more
counted-append frames more = sum_by-append (λ (f : ℕ × List ℕ). f.0) frames more

pub Finds-same : (a b : Image) (id pos : ℕ) (result : Result (Option Frame) LogFault) → ((s : ℕ) → b s ≡ a s) → Finds a id pos result → Finds b id pos result
Finds-same a b id pos (Ok None) same found = λ opened. found (ap (λ (l : List ℕ). get_or l 0 0) (sym (same (first_sector id + pos))) ∙ opened)
Finds-same a b id pos (Ok (Some frame)) same found = FrameAt-same a b (segment_of id) pos frame.count frame.payload.items (λ s _ _. same s) found
Finds-same a b id pos (Err log_fault.Memory) same found = tt
Finds-same a b id pos (Err log_fault.Device) same found = tt
Finds-same a b id pos (Err log_fault.Full) same found = found
Finds-same a b id pos (Err log_fault.BadRoot) same found = found
Finds-same a b id pos (Err log_fault.BadFrame) same found = (
  ap (λ (l : List ℕ). get_or l 0 0) (same (first_sector id + pos)) ∙ found.0,
  λ n payload frame. found.1 n payload (FrameAt-same b a (segment_of id) pos n payload (λ s _ _. sym (same s)) frame),
)
Finds-same a b id pos (Err log_fault.NoRoot) same found = found
Finds-same a b id pos (Err log_fault.Failed) same found = found
