-- What a reader of segments finds, by what is in its buffer.
use Rattle.std.proofs.Common.{◌≡◌, ℕ, ◌+◌, ◌-◌, ◌*◌, ◌≤◌, List, length, take, drop, Err, ◌∙◌, subst, arith}
use Rattle.std.specs.Prelude.{slice_range}
use Rattle.cg_disk.specs.Disk.{Image, Holds}
use Rattle.cg_frame.specs.Frames.{FrameAt, HeadAt, body_sectors}
use Rattle.cg_frame.specs.Heads.{FindsHead, IsBadFrame}
use Rattle.cg_frame.specs.Reader.{FindsFrame, position_of, segment_read}
use Rattle.cg_frame.specs.declared.fault.ScanFault.{ScanFault}
use Rattle.cg_frame.specs.declared.fault.ScanFault.TheVariants.{Memory, Device, BadLength}
use Rattle.cg_frame.specs.declared.segment.Segment.{Segment}
use Rattle.cg_frame.specs.declared.segment_reader.SegmentReader.{SegmentReader}
use Rattle.cg_frame.proofs.Buffered.{FrameAt-buffered}

pub Holds-fewer : (image : Image) (at n m : ℕ) (xs : List ℕ) → m ≤ n → Holds image at n xs → Holds image at m xs
Holds-fewer image at n m xs le holds i lt = holds i (omega arith)

pub FindsFrame-fault : (image : Image) (old new : SegmentReader) (segment : Segment) (pos : ℕ) (fault : ScanFault) → segment ≡ segment_read old → pos ≡ position_of old → FindsHead image segment pos (Err fault) → FindsFrame image old new (Err fault)
FindsFrame-fault image old new segment pos Memory same at found = found
FindsFrame-fault image old new segment pos Device same at found = absurd found
FindsFrame-fault image old new segment pos BadLength same at found = subst (IsBadFrame image (segment_read old)) at (subst (λ (s : Segment). IsBadFrame image s pos) same found)

-- a frame of which the head was found, and then the buffer filled
pub FrameAt-read : (image : Image) (old mid new : Segment) (pos mid_pos new_pos count n m : ℕ) (buffer : List ℕ) → mid ≡ old → new ≡ mid → mid_pos ≡ pos → new_pos ≡ mid_pos → HeadAt image mid mid_pos count n → Holds image new.first m buffer → mid_pos + body_sectors n + 1 ≤ m → 512 * m ≤ length buffer → FrameAt image old pos count (slice_range buffer ((new_pos + 1) * 512 + 16) ((new_pos + 1) * 512 + 16 + n))
FrameAt-read image old mid new pos mid_pos new_pos count n m buffer mid_is new_is mid_at new_at head holds enough room =
    let here = subst (λ (p : ℕ). HeadAt image old p count n) mid_at (subst (λ (s : Segment). HeadAt image s mid_pos count n) mid_is head) in
    let start : (new_pos + 1) * 512 + 16 ≡ 512 * (pos + 1) + 16 = omega (arith, mid_at, new_at) in
    let long : (new_pos + 1) * 512 + 16 + n - ((new_pos + 1) * 512 + 16) ≡ n = omega arith in
    FrameAt-buffered image old pos m buffer (subst (λ (s : Segment). Holds image s.first m buffer) (new_is ∙ mid_is) holds) count n _ here (omega (arith, mid_at, enough)) room (λ i. take (long i) (drop (start i) buffer))
