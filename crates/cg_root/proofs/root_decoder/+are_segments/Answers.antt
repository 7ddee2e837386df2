use Rattle.std.proofs.Common.{refl}
use Rattle.cg_root.proofs.Segments.{AreSegments-short, AreSegments-bytes, AreSegments-bytes_first}
use Rattle.cg_root.proofs.root_decoder.+are_segments.Goals as goal

pub returns-in_default : goal.returns-in_default
returns-in_default t c = ((λ h. AreSegments-short c.args.segments c.args.bytes.now c.in_default.len_below), (λ h. refl))

pub returns-then-is_apart : goal.returns-then-is_apart
returns-then-is_apart t c = (
  (λ h. AreSegments-bytes c.args.segments c.from_be_bytes-id.result c.args.bytes.now c.in-len2-up.len_at_least c.from_be_bytes-id.ensures (c.is_apart.ensures.0 c.if-is_apart.true) (c.are_segments.ensures.0 h)),
  (λ h. c.are_segments.ensures.1 ((AreSegments-bytes_first c.args.segments c.from_be_bytes-id.result c.args.bytes.now c.in-len2-up.len_at_least c.from_be_bytes-id.ensures h).1)),
)

pub returns-else-is_apart : goal.returns-else-is_apart
returns-else-is_apart t c = (
  (λ h. absurd (cc (h, c.if-is_apart.false))),
  (λ h. c.is_apart.ensures.1 ((AreSegments-bytes_first c.args.segments c.from_be_bytes-id.result c.args.bytes.now c.in-len2-up.len_at_least c.from_be_bytes-id.ensures h).0)),
)
