use Rattle.std.proofs.Common.{◌≡◌, ◌∙◌, ◌++◌, List, ℕ, ap, drop, length, rules}
use Rattle.cg_frame.specs.Frames.{word}
use Rattle.cg_frame.proofs.Sealing.{head-put}
use Rattle.cg_frame.proofs.Words.{length-word}
use Rattle.cg_frame.proofs.buffer.put_head.Goals as goal

pub returns : goal.returns
returns c =
    let first : c.copy_from_slice.new.self ≡ word c.args.count = search rules in
    let second : c.copy_from_slice-2.new.self ≡ word c.args.bytes = search rules in
    head-put c.args.sectors.now c.copy_from_slice.new.self c.copy_from_slice-2.new.self (ap length first ∙ length-word c.args.count) (ap length second ∙ length-word c.args.bytes)
    ∙ ap (λ (l : List ℕ). l ++ c.copy_from_slice-2.new.self ++ drop 16 c.args.sectors.now) first
    ∙ ap (λ (l : List ℕ). word c.args.count ++ l ++ drop 16 c.args.sectors.now) second
