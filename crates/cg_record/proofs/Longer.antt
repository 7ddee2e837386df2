-- A payload with one more command.
use Rattle.std.proofs.Common.{◌≡◌, ℕ, ◌≤◌, List, [], ◌∷◌, ◌++◌, length, take, refl, sym, ap, ◌∙◌, arith, Result, Ok, Err, append-nil}
use Rattle.std.specs.List.{flat_map}
use Rattle.std.proofs.lemmas.Grind.{flat_map-append}
use Rattle.std.proofs.lemmas.List.Concat.{flat_map-cons}
use Rattle.std.proofs.lemmas.List.{length-append}
use Rattle.cg_record.specs.declared.command.Command.{Command}
use Rattle.cg_record.specs.Lawful.{AreCommands, IsCommand}
use Rattle.cg_record.specs.Reading.{commands_of}
use Rattle.cg_record.specs.Spelling.{command_text, spelling}
use Rattle.cg_record.specs.declared.fault.RecordFault.{RecordFault}
use Rattle.cg_record.proofs.CommandLaws.{commands_again, text_not_empty}
use Rattle.cg_record.proofs.Keys.{AllByRecursion-push}
use Rattle.cg_record.specs.Payloads.{IsText, told, what_is_read}

spelling-push : (cs : List Command) (c : Command) → spelling (cs ++ c ∷ []) ≡ spelling cs ++ command_text c
unfolding spelling
spelling-push cs c = ap (λ bytes. 3 ∷ bytes) (flat_map-append command_text cs (c ∷ []) ∙ ap (λ bytes. flat_map command_text cs ++ bytes) (flat_map-cons command_text c [] ∙ append-nil (command_text c)))

few-told : (cs : List Command) → length cs ≤ length (flat_map command_text cs)
few-told [] = omega arith
few-told (c ∷ cs) = omega (arith, few-told cs, text_not_empty c, ap length (flat_map-cons command_text c cs), length-append (command_text c) (flat_map command_text cs))

few-spelled : (cs : List Command) → length cs ≤ length (spelling cs)
unfolding spelling
few-spelled cs = omega (arith, few-told cs)

-- an encoding has the commands of which it was made
pub told_again : (cs : List Command) → AreCommands cs → told (spelling cs) ≡ cs
told_again cs are = ap what_is_read (commands_again cs are)

-- the encoding of lawful commands
pub text_of : (cs : List Command) (bytes : List ℕ) → AreCommands cs → bytes ≡ spelling cs → IsText bytes × (told bytes ≡ cs)
text_of cs bytes are is = let known : told bytes ≡ cs = ap told is ∙ told_again cs are in (is ∙ ap spelling (sym known), known)

reads_as : (bytes : List ℕ) (read : Result (List Command) RecordFault) → commands_of bytes ≡ read → bytes ≡ spelling (what_is_read read) → commands_of bytes ≡ Ok (what_is_read read)
reads_as bytes (Ok commands) read is = read
reads_as bytes (Err fault) read is = absurd (let no : Err fault ≡ Ok [] = sym read ∙ ap commands_of is ∙ commands_again [] tt in cc)

-- the encoding of commands decodes to them
pub text_reads : (bytes : List ℕ) → IsText bytes → commands_of bytes ≡ Ok (told bytes)
text_reads bytes is = reads_as bytes (commands_of bytes) refl is

-- the payload with one more command
pub record IsLonger (bytes : List ℕ) (c : Command) : Type 0 where
  pub text : IsText (bytes ++ command_text c)
  pub commands : told (bytes ++ command_text c) ≡ told bytes ++ c ∷ []
  pub few : length (told (bytes ++ command_text c)) ≤ length (bytes ++ command_text c)

pub longer : (bytes : List ℕ) (c : Command) → AreCommands (told bytes) → bytes ≡ spelling (told bytes) → IsCommand c → IsLonger bytes c
longer bytes c are is one =
    let all : bytes ++ command_text c ≡ spelling (told bytes ++ c ∷ []) = ap (λ b. b ++ command_text c) is ∙ sym (spelling-push (told bytes) c) in
    let made = text_of (told bytes ++ c ∷ []) (bytes ++ command_text c) (AllByRecursion-push IsCommand (told bytes) c are one) all in
    record {
      text = made.0;
      commands = made.1;
      few = omega (arith, few-spelled (told bytes ++ c ∷ []), ap length made.1, ap length all);
    }

-- a payload has at most as many commands as bytes
pub few-text : (bytes : List ℕ) → IsText bytes → length (told bytes) ≤ length bytes
few-text bytes is = omega (arith, few-spelled (told bytes), ap length is)

version-alone : (cs : List Command) → take 1 (spelling cs) ≡ spelling []
unfolding spelling
version-alone cs = refl

-- a payload that is cut after its version has no command
pub emptied : (bytes : List ℕ) → bytes ≡ spelling (told bytes) → take 1 bytes ≡ spelling []
emptied bytes is = ap (take 1) is ∙ version-alone (told bytes)

-- commands have one encoding
pub commands-unique : (a b : List Command) → AreCommands a → AreCommands b → spelling a ≡ spelling b → a ≡ b
commands-unique a b of_a of_b is =
    let read_a = commands_again a of_a in
    let read_b = commands_again b of_b in
    let both : Ok a ≡ Ok b = sym read_a ∙ ap commands_of is ∙ read_b in
    cc
