-- A segment that is scanned from its first gate on: for the crates above.
use Rattle.std.proofs.Common.{ℕ, ◌+◌, ◌^◌, ◌<◌, List, [], ◌∷◌, length, sym, subst}
use Rattle.cg_disk.specs.Disk.{Image}
use Rattle.cg_frame.specs.Frames.{IsOpen, FrameAt, Chain, HasFrames, next_gate}
use Rattle.cg_frame.specs.declared.segment.Segment.{Segment}
use Rattle.cg_frame.proofs.Standing.{Chain-goes_on, Chain-open}

-- a segment has no list of frames where an open gate behind some frames has none
pub HasFrames-bad : (image : Image) (segment : Segment) (frames : List (ℕ × List ℕ)) (read : List (ℕ × List ℕ)) (pos : ℕ) → segment.sectors < 2 ^ 54 → Chain image segment 0 read pos → IsOpen image (segment.first + pos) → ((count : ℕ) (payload : List ℕ) → FrameAt image segment pos count payload → ⊥) → HasFrames image segment frames → ⊥
HasFrames-bad image segment frames read pos small chain opened none has = from read 0 frames chain has.1.chain
  where
    end : ℕ
    end = has.0

    from : (read : List (ℕ × List ℕ)) (at : ℕ) (rest : List (ℕ × List ℕ)) → Chain image segment at read pos → Chain image segment at rest end → ⊥
    from [] at rest is there =
        let stands = Chain-open image segment at rest end there has.1.closed (subst (λ (p : ℕ). IsOpen image (segment.first + p)) (sym is) opened) in
        none stands.0.0 stands.0.1 (subst (λ (p : ℕ). FrameAt image segment p stands.0.0 stands.0.1) is stands.1)
    from (f ∷ read) at rest going there =
        let next = Chain-goes_on image segment at rest end f.0 f.1 small there has.1.closed going.0 in
        from read (next_gate at (length f.1)) next.0 going.1 next.2
