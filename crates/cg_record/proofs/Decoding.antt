-- Decoding of one command at a time.
use Rattle.std.proofs.Common.{◌≡◌, ℕ, zero, suc, ◌-◌, ◌<◌, ◌≤◌, List, [], ◌∷◌, length, Result, Ok, Err, refl, sym, ap, ◌∙◌, arith}
use Rattle.std.specs.Prelude.{IfOk}
use Rattle.std.proofs.lemmas.List.{nil_from_length, length-append}
use Rattle.cg_record.specs.declared.command.Command.{Command}
use Rattle.cg_record.specs.declared.fault.RecordFault.{RecordFault}
use Rattle.cg_record.specs.declared.format.Version.{Version}
use Rattle.cg_record.specs.Decoding.{after_front, left_in}
use Rattle.cg_record.specs.Fields.{◌>>=◌}
use Rattle.cg_record.specs.Lawful.{IsCommand}
use Rattle.cg_record.specs.Reading.{Builds, Fails, command_at, commands_to_end}
use Rattle.cg_record.specs.Spelling.{command_bytes}
use Rattle.cg_record.proofs.Laws.{IsBytes}
use Rattle.cg_record.proofs.CommandLaws.{reads_command, bytes_not_empty, to_end_nil, to_end_step}
use Rattle.cg_record.proofs.Steps.{commands_fail, commands_start}

-- what follows a step may be replaced where the step gives the same
same_then : {A B : Type 0} (r : Result A RecordFault) (f g : A → Result B RecordFault) → ((x : A) → r ≡ Ok x → f x ≡ g x) → (r >>= f) ≡ (r >>= g)
same_then (Ok x) f g same = same x refl
same_then (Err fault) f g same = refl

-- a decoded command is lawful, and fewer bytes are left after it
is_decoded : (version : Version) (bytes : List ℕ) (x : Command) (rest : List ℕ) → IsBytes bytes → command_at version bytes ≡ Ok (x, rest) → IsCommand x × IsBytes rest × (length rest < length bytes)
is_decoded version bytes x rest fits e =
    let t = (reads_command version).takes bytes x rest fits e in
    (t.2.0, t.0.rest_fits, omega (arith, bytes_not_empty version x, ap length t.0.parts, length-append (command_bytes version x) rest))

-- the bytes have no more commands than they are, whatever the bound above that
same_left : (version : Version) (m n : ℕ) (bytes : List ℕ) → IsBytes bytes → length bytes ≤ m → length bytes ≤ n → commands_to_end version m bytes ≡ commands_to_end version n bytes
same_left version m n [] fits le ge = to_end_nil version m ∙ sym (to_end_nil version n)
same_left version zero n (b ∷ bytes) fits le ge = absurd (omega arith)
same_left version (suc m) zero (b ∷ bytes) fits le ge = absurd (omega arith)
same_left version (suc m) (suc n) (b ∷ bytes) fits le ge =
    let some : 1 ≤ length (b ∷ bytes) = omega arith in
    to_end_step version m (b ∷ bytes) some
    ∙ same_then (command_at version (b ∷ bytes)) (λ first. commands_to_end version m first.1 >>= λ others. Ok (first.0 ∷ others)) (λ first. commands_to_end version n first.1 >>= λ others. Ok (first.0 ∷ others))
    (λ first e.
    let d = is_decoded version (b ∷ bytes) first.0 first.1 fits e in
    ap (λ (r : Result (List Command) RecordFault). r >>= λ others. Ok (first.0 ∷ others)) (same_left version m n first.1 d.1 (omega (arith, d.2)) (omega (arith, d.2))))
    ∙ sym (to_end_step version n (b ∷ bytes) some)

-- the first step where bytes are left
left_step : (version : Version) (bytes : List ℕ) → 1 ≤ length bytes → left_in version bytes ≡ (command_at version bytes >>= λ first. commands_to_end version (length bytes - 1) first.1 >>= λ others. Ok (first.0 ∷ others))
left_step version bytes some =
    let k : length bytes ≡ suc (length bytes - 1) = omega (arith, some) in
    ap (λ (n : ℕ). commands_to_end version n bytes) k ∙ to_end_step version (length bytes - 1) bytes some

left_next : (version : Version) (bytes : List ℕ) (x : Command) (rest : List ℕ) → IsBytes bytes → command_at version bytes ≡ Ok (x, rest) → left_in version bytes ≡ after_front (x ∷ []) (left_in version rest)
left_next version bytes x rest fits e =
    let d = is_decoded version bytes x rest fits e in
    let taken : left_in version bytes ≡ (commands_to_end version (length bytes - 1) rest >>= λ others. Ok (x ∷ others)) = left_step version bytes (omega (arith, d.2)) ∙ rw e refl in
    taken ∙ ap (λ (r : Result (List Command) RecordFault). r >>= λ others. Ok (x ∷ others)) (same_left version (length bytes - 1) (length rest) rest d.1 (omega (arith, d.2)) (omega arith))

pub left_on : {X : Type 0} (view : X → Command × List ℕ) (r : Result X RecordFault) (version : Version) (bytes : List ℕ) → IsBytes bytes → Builds view r (command_at version bytes)
    → IfOk r (λ x. IsCommand (view x).0 × (left_in version bytes ≡ after_front ((view x).0 ∷ []) (left_in version (view x).1)))
left_on view (Ok x) version bytes fits built = ((is_decoded version bytes (view x).0 (view x).1 fits built).0, left_next version bytes (view x).0 (view x).1 fits built)
left_on view (Err fault) version bytes fits built = tt

pub left_fail : (fault : RecordFault) (version : Version) (bytes : List ℕ) → 1 ≤ length bytes → Fails fault (command_at version bytes) → Fails fault (left_in version bytes)
left_fail fault version bytes some fails =
    commands_fail fault version bytes [] bytes (left_in version bytes) (commands_start version bytes) some fails

pub left_end : (version : Version) (bytes : List ℕ) → length bytes < 1 → left_in version bytes ≡ Ok []
left_end version bytes none =
    let nothing : bytes ≡ [] = nil_from_length bytes (omega arith) in
    ap (left_in version) nothing ∙ to_end_nil version 0
