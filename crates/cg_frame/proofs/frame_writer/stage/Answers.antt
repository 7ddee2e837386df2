use Rattle.std.proofs.Common.{◌≡◌, ◌∙◌, ◌++◌, ℕ, List, ap, drop}
use Rattle.std.proofs.lemmas.List.{drop-append-le}
use Rattle.cg_frame.proofs.frame_writer.stage.Goals as goal

pub returns : goal.returns
returns c =
    let buffer = c.in_ok-buffer in
    let payload : c.close.new.self.1 ≡ c.args.payload.now =
    ap (λ (f : ℕ × List ℕ). f.1) c.close.ensures
    ∙ ap (drop 16) c.in_ok-extend_from_slice.ensures.items
    ∙ drop-append-le 16 buffer.buffer.items c.args.payload.now buffer.ensures.head
    ∙ ap (λ (l : List ℕ). l ++ c.args.payload.now) (buffer.ensures.payload ∙ ap (λ (f : ℕ × List ℕ). f.1) c.new-frame.ensures) in
    c.in_ok-seal.ensures.ok ∙ ap (λ (l : List ℕ). (c.args.count, l)) payload
