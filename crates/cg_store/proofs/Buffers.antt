-- The buffer of a frame, to which bytes are appended, and commands that it has no room for.
use Rattle.std.proofs.Common.{◌≡◌, ℕ, ◌+◌, ◌≤◌, ◌<◌, Bool, true, false, List, [], ◌∷◌, ◌++◌, length, ap, ◌∙◌, sym, arith, append-nil}
use Rattle.std.specs.Prelude.{if◌then◌else◌}
use Rattle.std.proofs.lemmas.List.{drop-append-le}
use Rattle.cg_frame.specs.Staged.{behind_head}
use Rattle.cg_frame.specs.declared.segment.TheConstants.{LARGEST_PAYLOAD_BYTES}
use Rattle.cg_record.specs.declared.command.Command.{Command}
use Rattle.cg_record.specs.Spelling.{command_text, spelling}
use Rattle.cg_record.proofs.Lengths.{longer_by}

pub behind-more : (buffer payload more : List ℕ) → 16 ≤ length buffer → behind_head buffer ≡ payload → behind_head (buffer ++ more) ≡ payload ++ more
behind-more buffer payload more head is = drop-append-le 16 buffer more head ∙ ap (λ (l : List ℕ). l ++ more) is

-- a command that was not put does not fit behind
pub not-put : (old new : List Command) (command next : Command) (is_put : Bool) → is_put ≡ false → new ≡ old ++ (if is_put then command ∷ [] else []) → command ≡ next
    → LARGEST_PAYLOAD_BYTES < length (spelling old) + length (command_text command) → LARGEST_PAYLOAD_BYTES < length (spelling (new ++ next ∷ []))
not-put old new command next true not put same past = absurd (cc)
not-put old new command next false not put same past =
    let is : old ++ command ∷ [] ≡ new ++ next ∷ [] = (λ i. sym (put ∙ append-nil old) i ++ same i ∷ []) in
    omega (arith, past, longer_by old command, ap (λ (cs : List Command). length (spelling cs)) is)
