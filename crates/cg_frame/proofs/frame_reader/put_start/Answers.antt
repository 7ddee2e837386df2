use Rattle.std.proofs.Common.{◌≡◌, ◌∙◌, drop, length, ap, arith}
use Rattle.std.proofs.lemmas.List.{length-take, take_all, take-append-le}
use Rattle.cg_frame.proofs.frame_reader.put_start.Goals as goal

pub copy_from_slice-requires : goal.copy_from_slice-requires
copy_from_slice-requires c = simp length-take (omega (arith, c.requires.start, c.requires.room))

pub returns : goal.returns
returns c =
    let new = c.copy_from_slice.new.self in
    let all : new ≡ c.args.start.now = c.copy_from_slice.ensures.after in
    let long = ap length all ∙ c.requires.start in
    take-append-le 496 new (drop 496 c.args.buffer.now) (omega (arith, long)) ∙ take_all 496 new (omega (arith, long)) ∙ all
