use Rattle.std.proofs.Common.{◌≡◌, ◌∙◌, ◌++◌, ℕ, List, length, ap, drop, sym, subst, arith, rules}
use Rattle.std.proofs.lemmas.List.{length-append}
use Rattle.cg_record.specs.Lawful.{AreCommands}
use Rattle.cg_record.specs.Spelling.{command_text}
use Rattle.cg_record.specs.Payloads.{IsText, told}
use Rattle.cg_store.proofs.Buffers.{behind-more}
use Rattle.cg_record.proofs.Longer.{IsLonger, longer}
use Rattle.cg_store.proofs.draft.put.Goals as goal

new_text : (c : goal.In_ok-outcome) → c.close.new.self.1 ≡ c.args.frame.now.value.1 ++ command_text c.args.command.now
new_text c =
    let old : c.in-Some.own.now ≡ c.args.frame.now.value = search rules in
    let buffer = c.in_ok-buffer in
    ap (λ (f : ℕ × List ℕ). f.1) c.close.ensures ∙ ap (drop 16) c.in_ok-outcome.ensures.ok
    ∙ behind-more buffer.buffer.items c.in-Some.own.now.1 (command_text c.args.command.now) buffer.ensures.head buffer.ensures.payload
    ∙ ap (λ (f : ℕ × List ℕ). f.1 ++ command_text c.args.command.now) old

is_longer : (c : goal.In_ok-outcome) → IsLonger c.args.frame.now.value.1 c.args.command.now
is_longer c =
    let at : c.payload.result.now ≡ c.args.frame.now.value.1 = search rules in
    longer c.args.frame.now.value.1 c.args.command.now (subst (λ (l : List ℕ). AreCommands (told l)) at c.spelling_of-payload.ensures.lawful) c.requires.text c.in_ok-outcome.ensures.lawful

pub returns-clause-text : goal.returns-clause-text
returns-clause-text c = subst IsText (sym (new_text c)) (is_longer c).text

pub returns-clause-told : goal.returns-clause-told
returns-clause-told c = ap told (new_text c) ∙ (is_longer c).commands

pub returns-clause-small : goal.returns-clause-small
returns-clause-small c =
    let long = length-append c.args.frame.now.value.1 (command_text c.args.command.now) in
    omega (arith, c.requires.fits, c.requires.size, ap length (new_text c), long)
