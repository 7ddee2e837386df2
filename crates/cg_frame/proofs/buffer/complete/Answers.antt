use Rattle.std.proofs.Common.{◌≡◌, ◌+◌, ◌-◌, ◌++◌, ◌∙◌, ℕ, List, length, take, drop, ap, refl, sym, subst, rules}
use Rattle.cg_frame.specs.Frames.{word}
use Rattle.cg_frame.specs.Staged.{IsStagedFrame}
use Rattle.cg_frame.proofs.Sealing.{completed-frame, completed-payload, resized, take-written}
use Rattle.cg_frame.proofs.buffer.complete.Goals as goal

-- how many bytes the payload has
abbrev n : (c : goal.After-buffer-1) → ℕ
n c = length c.args.buffer.now.items - 16

-- the sectors with their head
abbrev made : (c : goal.After-buffer-1) → List ℕ
made c = word c.args.count ++ word (n c) ++ drop 16 (resized c.args.buffer.now.items (n c))

written : (c : goal.After-buffer-1) → take c.resize.new.self.len (c.put_head.new.sectors ++ drop (length c.put_head.new.sectors) c.resize.new.self.items) ≡ made c
written c =
    let bytes : c.len.result - 16 ≡ n c = search rules in
    let sized : c.resize.new.self.items ≡ resized c.args.buffer.now.items (n c) = search rules in
    let shown : c.as_mut_slice.result.now ≡ c.resize.new.self.items = search rules in
    let put : c.put_head.new.sectors ≡ made c =
    c.put_head.ensures
    ∙ ap (λ (k : ℕ). word c.args.count ++ word k ++ drop 16 c.as_mut_slice.result.now) bytes
    ∙ ap (λ (l : List ℕ). word c.args.count ++ word (n c) ++ drop 16 l) (shown ∙ sized) in
    take-written c.resize.new.self.items c.put_head.new.sectors c.resize.new.self.len (search rules) (search rules) ∙ put

pub returns-clause-frame : goal.returns-clause-frame
returns-clause-frame c = subst (λ (l : List ℕ). IsStagedFrame l c.args.count (n c)) (sym (written c)) (completed-frame c.args.buffer.now.items c.args.count (n c) c.requires refl c.ranges.count.fits)

pub returns-clause-payload : goal.returns-clause-payload
returns-clause-payload c = ap (λ (l : List ℕ). take (n c) (drop 16 l)) (written c) ∙ completed-payload c.args.buffer.now.items c.args.count (n c) c.requires refl c.ranges.count.fits
