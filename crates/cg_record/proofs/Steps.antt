-- Decoding in a loop: one more value, or one more command.
use Rattle.std.proofs.Common.{◌≡◌, ℕ, suc, ◌+◌, ◌-◌, ◌<◌, ◌≤◌, List, [], ◌∷◌, ◌++◌, length, Result, Ok, Err, refl, sym, ap, ◌∙◌, append_assoc, arith}
use Rattle.std.proofs.lemmas.List.{append-nil, nil_from_length, length-append}
use Rattle.cg_record.specs.declared.format.Version.{Version}
use Rattle.cg_record.specs.declared.fault.RecordFault.{RecordFault}
use Rattle.cg_record.specs.declared.fault.RecordFault.TheVariants.{Memory}
use Rattle.cg_record.specs.declared.command.Command.{Command}
use Rattle.cg_record.specs.Fields.{Read, ◌>>=◌, many_at}
use Rattle.cg_record.specs.Decoding.{after_front}
use Rattle.cg_record.specs.Reading.{Fails, command_at, commands_to_end}
use Rattle.cg_record.proofs.CommandLaws.{to_end_step, to_end_nil}

-- if a step fails, the whole decoding fails
pub fails_then : {A B : Type 0} (fault : RecordFault) (r : Result A RecordFault) (f : A → Result B RecordFault) (total : Result B RecordFault) → Fails fault r → (r >>= f) ≡ total → Fails fault total
fails_then Memory r f total h e = tt
fails_then fault r f total h e = sym e ∙ rw h refl

-- ---- a list of values

pub many_step : {X : Type 0} (at : List X → List ℕ → Read X) (count i : ℕ) (front : List X) (bytes : List ℕ) → i < count → many_at at (count - i) front bytes ≡ (at front bytes >>= λ next. many_at at (count - (i + 1)) (front ++ next.0 ∷ []) next.1)
unfolding many_at
many_step at count i front bytes lt =
    let k : count - i ≡ suc (count - (i + 1)) = omega arith in
    ap (λ (n : ℕ). many_at at n front bytes) k

pub many_on : {X : Type 0} (at : List X → List ℕ → Read X) (count i : ℕ) (front : List X) (bytes : List ℕ) (x : X) (after : List ℕ) (total : Read (List X)) → i < count → at front bytes ≡ Ok (x, after) → many_at at (count - i) front bytes ≡ total → many_at at (count - (i + 1)) (front ++ x ∷ []) after ≡ total
many_on at count i front bytes x after total lt h so_far = sym (many_step at count i front bytes lt ∙ rw h refl) ∙ so_far

pub many_fail : {X : Type 0} (fault : RecordFault) (at : List X → List ℕ → Read X) (count i : ℕ) (front : List X) (bytes : List ℕ) (total : Read (List X)) → i < count → Fails fault (at front bytes) → many_at at (count - i) front bytes ≡ total → Fails fault total
many_fail fault at count i front bytes total lt h so_far =
    fails_then fault (at front bytes) (λ next. many_at at (count - (i + 1)) (front ++ next.0 ∷ []) next.1) total h (sym (many_step at count i front bytes lt) ∙ so_far)

pub many_end : {X : Type 0} (at : List X → List ℕ → Read X) (count i : ℕ) (front : List X) (bytes : List ℕ) (total : Read (List X)) → count ≤ i → many_at at (count - i) front bytes ≡ total → total ≡ Ok (front, bytes)
unfolding many_at
many_end at count i front bytes total le so_far =
    let k : count - i ≡ 0 = omega arith in
    sym so_far ∙ ap (λ (n : ℕ). many_at at n front bytes) k

-- ---- commands

pub regroup : (front : List Command) (x : Command) (read : Result (List Command) RecordFault) → after_front front (read >>= λ others. Ok (x ∷ others)) ≡ after_front (front ++ x ∷ []) read
regroup front x (Ok others) = ap (λ (l : List Command). Ok l) (sym (append_assoc front (x ∷ []) others))
regroup front x (Err fault) = refl

-- the remaining bytes after some commands, each of which has at least one byte
pub record IsLeft (version : Version) (bytes : List ℕ) (front : List Command) (rest : List ℕ) (total : Result (List Command) RecordFault) : Type 0 where
  pub enough : length rest + length front ≤ length bytes
  pub so_far : after_front front (commands_to_end version (length bytes - length front) rest) ≡ total

front_nil : (read : Result (List Command) RecordFault) → after_front [] read ≡ read
front_nil (Ok others) = refl
front_nil (Err fault) = refl

pub commands_start : (version : Version) (bytes : List ℕ) → IsLeft version bytes [] bytes (commands_to_end version (length bytes) bytes)
commands_start version bytes =
    let all : length bytes - 0 ≡ length bytes = omega arith in
    record { enough = omega arith; so_far = front_nil (commands_to_end version (length bytes - 0) bytes) ∙ ap (λ (n : ℕ). commands_to_end version n bytes) all }

-- the decoding of the next command where bytes are left
pub left_step : (version : Version) (bytes : List ℕ) (front : List Command) (rest : List ℕ) (most : ℕ) (total : Result (List Command) RecordFault) → IsLeft version bytes front rest total → 1 ≤ length rest → length bytes - length front ≡ suc most
    → after_front front (command_at version rest >>= λ first. commands_to_end version most first.1 >>= λ others. Ok (first.0 ∷ others)) ≡ total
left_step version bytes front rest most total left some k =
    sym (ap (λ (n : ℕ). after_front front (commands_to_end version n rest)) k ∙ ap (after_front front) (to_end_step version most rest some)) ∙ left.so_far

pub commands_on : (version : Version) (bytes : List ℕ) (front : List Command) (rest : List ℕ) (total : Result (List Command) RecordFault) (x : Command) (after : List ℕ) → IsLeft version bytes front rest total → command_at version rest ≡ Ok (x, after) → length after < length rest → IsLeft version bytes (front ++ x ∷ []) after total
commands_on version bytes front rest total x after left h shorter =
    let longer : length (front ++ x ∷ []) ≡ length front + 1 = length-append front (x ∷ []) in
    let most = length bytes - length (front ++ x ∷ []) in
    let k : length bytes - length front ≡ suc (length bytes - length (front ++ x ∷ [])) = omega (arith, left.enough) in
    let step = left_step version bytes front rest (length bytes - length (front ++ x ∷ [])) total left (omega arith) k in
    let taken : after_front front (commands_to_end version (length bytes - length (front ++ x ∷ [])) after >>= λ others. Ok (x ∷ others)) ≡ total = rw h at step in
    record { enough = omega (arith, left.enough); so_far = sym (regroup front x (commands_to_end version (length bytes - length (front ++ x ∷ [])) after)) ∙ taken }

pub commands_fail : (fault : RecordFault) (version : Version) (bytes : List ℕ) (front : List Command) (rest : List ℕ) (total : Result (List Command) RecordFault) → IsLeft version bytes front rest total → 1 ≤ length rest → Fails fault (command_at version rest) → Fails fault total
commands_fail fault version bytes front rest total left some h =
    let k : length bytes - length front ≡ suc (length bytes - length front - 1) = omega (arith, left.enough) in
    let most = length bytes - length front - 1 in
    let step = left_step version bytes front rest (length bytes - length front - 1) total left some k in
    let inner = command_at version rest >>= λ first. commands_to_end version (length bytes - length front - 1) first.1 >>= λ others. Ok (first.0 ∷ others) in
    fails_then fault inner (λ others. Ok (front ++ others)) total
    (fails_then fault (command_at version rest) (λ first. commands_to_end version (length bytes - length front - 1) first.1 >>= λ others. Ok (first.0 ∷ others)) inner h refl)
    step

pub commands_end : (version : Version) (bytes : List ℕ) (front : List Command) (rest : List ℕ) (total : Result (List Command) RecordFault) → IsLeft version bytes front rest total → length rest < 1 → total ≡ Ok front
commands_end version bytes front rest total left none =
    let nothing : rest ≡ [] = nil_from_length rest (omega arith) in
    sym left.so_far ∙ ap (λ (l : List ℕ). after_front front (commands_to_end version (length bytes - length front) l)) nothing
    ∙ ap (after_front front) (to_end_nil version (length bytes - length front)) ∙ ap (λ (l : List Command). Ok l) (append-nil front)
