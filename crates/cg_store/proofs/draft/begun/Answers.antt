use Rattle.std.proofs.Common.{◌≡◌, ◌∙◌, ℕ, List, [], length, drop, ap, arith}
use Rattle.cg_record.specs.Spelling.{spelling}
use Rattle.cg_store.proofs.Buffers.{behind-more}
use Rattle.cg_record.proofs.Lengths.{no_command}
use Rattle.cg_record.proofs.Longer.{text_of}
use Rattle.cg_store.proofs.draft.begun.Goals as goal

is_empty : (c : goal.After-close) → c.close.new.self.1 ≡ spelling []
is_empty c =
    let buffer = c.in_ok-buffer in
    ap (λ (f : ℕ × List ℕ). f.1) c.close.ensures ∙ ap (drop 16) c.in_ok-append_version.ensures.ok
    ∙ behind-more buffer.buffer.items [] (spelling []) buffer.ensures.head (buffer.ensures.payload ∙ ap (λ (f : ℕ × List ℕ). f.1) c.new-frame.ensures)

pub returns-clause-text : goal.returns-clause-text
returns-clause-text c = (text_of [] c.close.new.self.1 tt (is_empty c)).0

pub returns-clause-told : goal.returns-clause-told
returns-clause-told c = (text_of [] c.close.new.self.1 tt (is_empty c)).1

pub returns-clause-small : goal.returns-clause-small
returns-clause-small c = omega (arith, ap length (is_empty c), no_command)
