use Rattle.std.proofs.Common.{◌≡◌, ◌∙◌, ℕ, List, [], length, take, ap, arith, rules}
use Rattle.cg_record.specs.Spelling.{spelling}
use Rattle.cg_record.proofs.Lengths.{no_command}
use Rattle.cg_record.proofs.Longer.{emptied, text_of}
use Rattle.cg_store.proofs.draft.clear.Goals as goal

is_empty : (c : goal.After-frame-2-1) → c.truncate.new.self.1 ≡ spelling []
is_empty c =
    let old : c.in-Some.own.now ≡ c.args.frame.now.value = search rules in
    ap (λ (f : ℕ × List ℕ). f.1) c.truncate.ensures ∙ ap (λ (f : ℕ × List ℕ). take 1 f.1) old ∙ emptied c.args.frame.now.value.1 c.requires

pub returns-clause-text : goal.returns-clause-text
returns-clause-text c = (text_of [] c.truncate.new.self.1 tt (is_empty c)).0

pub returns-clause-told : goal.returns-clause-told
returns-clause-told c = (text_of [] c.truncate.new.self.1 tt (is_empty c)).1

pub returns-clause-small : goal.returns-clause-small
returns-clause-small c = omega (arith, ap length (is_empty c), no_command)
