-- The length of a payload that grows by one command.
use Rattle.std.proofs.Common.{◌≡◌, ℕ, ◌+◌, List, [], ◌∷◌, ◌++◌, length, arith, length-append}
use Rattle.std.specs.List.{flat_map}
use Rattle.cg_record.specs.declared.command.Command.{Command}
use Rattle.cg_record.specs.Spelling.{command_text, spelling}

-- the encoded length of commands, without the byte of the version
abbrev pub text_len : List Command → ℕ
text_len commands = length (flat_map command_text commands)

pub text_len-cons : (c : Command) (cs : List Command) → text_len (c ∷ cs) ≡ length (command_text c) + text_len cs
text_len-cons c cs = length-append (command_text c) (flat_map command_text cs)

pub spelling-len : (cs : List Command) → length (spelling cs) ≡ 1 + text_len cs
unfolding spelling
spelling-len cs = omega arith

text_len-push : (cs : List Command) (c : Command) → text_len (cs ++ c ∷ []) ≡ text_len cs + length (command_text c)
text_len-push [] c = omega (arith, text_len-cons c [])
text_len-push (d ∷ cs) c = omega (arith, text_len-push cs c, text_len-cons d cs, text_len-cons d (cs ++ c ∷ []))

pub longer_by : (cs : List Command) (c : Command) → length (spelling (cs ++ c ∷ [])) ≡ length (spelling cs) + length (command_text c)
longer_by cs c = omega (arith, spelling-len cs, spelling-len (cs ++ c ∷ []), text_len-push cs c)

pub no_command : length (spelling []) ≡ 1
no_command = spelling-len []
