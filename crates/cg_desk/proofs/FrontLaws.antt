-- The prefix of the queue that fits one frame.
use Rattle.std.proofs.Common.{◌≡◌, ℕ, zero, suc, ◌+◌, ◌<◌, ◌≤◌, Bool, true, false, List, [], ◌∷◌, length, take, cond, leb, refl, arith}
use Rattle.std.proofs.lemmas.Bool.{leb-true, leb-false}
use Rattle.cg_frame.specs.declared.segment.TheConstants.{LARGEST_PAYLOAD_BYTES}
use Rattle.cg_record.specs.declared.command.Command.{Command}
use Rattle.cg_record.specs.Spelling.{command_text}
use Rattle.cg_record.proofs.Lengths.{text_len, text_len-cons, spelling-len}
use Rattle.cg_desk.specs.Fronts.{fitting, in_frame}
use Rattle.cg_desk.specs.Laws.{BatchesAreLongest}

step-le : (b : Bool) (n m : ℕ) → n ≤ m → cond b (suc n) 0 ≤ suc m
step-le true n m le = omega arith
step-le false n m le = omega arith

pub fitting-le : (used : ℕ) (cs : List Command) → fitting used cs ≤ length cs
unfolding fitting
fitting-le used [] = omega arith
fitting-le used (c ∷ cs) =
    step-le (leb (used + length (command_text c)) LARGEST_PAYLOAD_BYTES) (fitting (used + length (command_text c)) cs) (length cs) (fitting-le (used + length (command_text c)) cs)

step-fits : (b : Bool) (used : ℕ) (c : Command) (cs : List Command) → leb (used + length (command_text c)) LARGEST_PAYLOAD_BYTES ≡ b → used ≤ LARGEST_PAYLOAD_BYTES
    → (used + length (command_text c) ≤ LARGEST_PAYLOAD_BYTES → (used + length (command_text c)) + text_len (take (fitting (used + length (command_text c)) cs) cs) ≤ LARGEST_PAYLOAD_BYTES)
    → used + text_len (take (cond b (suc (fitting (used + length (command_text c)) cs)) 0) (c ∷ cs)) ≤ LARGEST_PAYLOAD_BYTES
step-fits true used c cs is within rest =
    let more = rest (leb-true _ _ is) in
    let one = text_len-cons c (take (fitting (used + length (command_text c)) cs) cs) in
    omega arith
step-fits false used c cs is within rest = omega arith

pub fitting-fits : (used : ℕ) (cs : List Command) → used ≤ LARGEST_PAYLOAD_BYTES → used + text_len (take (fitting used cs) cs) ≤ LARGEST_PAYLOAD_BYTES
unfolding fitting
fitting-fits used [] within = omega arith
fitting-fits used (c ∷ cs) within =
    step-fits (leb (used + length (command_text c)) LARGEST_PAYLOAD_BYTES) used c cs refl within (λ fits. fitting-fits (used + length (command_text c)) cs fits)

-- a prefix that is longer than what fits does not fit
longer-at : (b : Bool) (used : ℕ) (c : Command) (cs : List Command) (more : ℕ) → leb (used + length (command_text c)) LARGEST_PAYLOAD_BYTES ≡ b
    → (fitting (used + length (command_text c)) cs < more → more ≤ length cs → LARGEST_PAYLOAD_BYTES < (used + length (command_text c)) + text_len (take more cs))
    → cond b (suc (fitting (used + length (command_text c)) cs)) 0 < suc more → more ≤ length cs → LARGEST_PAYLOAD_BYTES < used + text_len (take (suc more) (c ∷ cs))
longer-at true used c cs more is rest past within =
    let one = text_len-cons c (take more cs) in
    let last = rest (omega arith) within in
    omega arith
longer-at false used c cs more is rest past within =
    let one = text_len-cons c (take more cs) in
    let full = leb-false (used + length (command_text c)) LARGEST_PAYLOAD_BYTES is in
    omega arith

longer : (used : ℕ) (cs : List Command) (more : ℕ) → fitting used cs < more → more ≤ length cs → LARGEST_PAYLOAD_BYTES < used + text_len (take more cs)
unfolding fitting
longer used [] more past within = absurd (omega arith)
longer used (c ∷ cs) zero past within = absurd (omega arith)
longer used (c ∷ cs) (suc more) past within =
    longer-at (leb (used + length (command_text c)) LARGEST_PAYLOAD_BYTES) used c cs more refl (longer (used + length (command_text c)) cs more) past (omega arith)

pub batches_are_longest : BatchesAreLongest
batches_are_longest commands = record {
  within = fitting-le 1 commands;
  fits = λ some. let fits = fitting-fits 1 commands (omega arith) in let len = spelling-len (take (in_frame commands) commands) in omega arith;
  longest = λ more past within. let last = longer 1 commands more past within in let len = spelling-len (take more commands) in omega arith;
}
