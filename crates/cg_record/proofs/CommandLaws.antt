-- The laws of commands: decoding inverts encoding, and only encodings are decoded.
use Rattle.std.proofs.Common.{◌≡◌, ℕ, zero, suc, ◌+◌, ◌<◌, ◌≤◌, Bool, true, false, cond, eqb, List, [], ◌∷◌, ◌++◌, length, take, Result, Ok, Err, refl, sym, ap, subst, ◌∙◌, arith}
use Rattle.std.specs.Prelude.{◌&&◌, IfOk, MatchResult, sum_by}
use Rattle.std.specs.List.{flat_map, AllByRecursion}
use Rattle.std.proofs.lemmas.Bool.{eqb-true, and_parts}
use Rattle.std.proofs.lemmas.List.{length-append, nil_from_length, take_all}
use Rattle.std.proofs.lemmas.List.Concat.{flat_map-cons, length-flat_map}
use Rattle.cg_record.specs.declared.format.TheConstants.{VERSION_ONE, VERSION_TWO, VERSION_THREE, ASSIGNED_KIND, EMPTIED_KIND, REPLACED_KIND, COMMITTED_KIND, DELETED_KIND, EXPIRED_KIND, DROPPED_KIND}
use Rattle.cg_record.specs.declared.format.Version.{Version}
use Rattle.cg_record.specs.declared.format.Version.TheVariants.{One, Two, Three}
use Rattle.cg_record.specs.declared.fault.RecordFault.{RecordFault}
use Rattle.cg_record.specs.declared.fault.RecordFault.TheVariants.{Memory}
use Rattle.cg_record.specs.declared.command.Command.{Command}
use Rattle.cg_record.specs.declared.command.Command.TheVariants as kinds
use Rattle.cg_record.specs.Lawful.{IsCommand, AreCommands}
use Rattle.cg_record.specs.Spelling.{assigned_text, emptied_text, replaced_text, deleted_text, committed_text, removal_text, command_bytes, payload, IsPayload, command_text, spelling}
use Rattle.cg_record.specs.Versions.{byte_of, newest, has_expired, has_dropped}
use Rattle.cg_record.specs.Saying.{CanSay, CanSayAll}
use Rattle.cg_record.specs.Fields.{Read, ◌>>=◌, made, byte_at}
use Rattle.cg_record.specs.Reading.{Builds, Skips, expired_of, dropped_of, body_at, command_at, commands_to_end, version_of, commands_of, Tells}
use Rattle.cg_record.proofs.Laws.{IsBytes, bind_ok, ok_is, Takes, ReadsRest, Reads, Anything, reads_then, reads_as}
use Rattle.cg_record.proofs.FieldLaws.{reads_byte}
use Rattle.cg_record.proofs.CommitLaws.{reads_committed}
use Rattle.cg_record.proofs.MomentLaws.{true_said}
use Rattle.cg_record.proofs.RemovalLaws.{reads_removal}
use Rattle.cg_record.proofs.GroupLaws.{reads_emptied, reads_deleted}
use Rattle.cg_record.proofs.MemberLaws.{reads_replaced}
use Rattle.cg_record.proofs.RosterLaws.{reads_assigned}

-- ---- one command

-- the kind byte of a command
abbrev pub kind_of : Command → ℕ
kind_of (kinds.Assigned assigned) = ASSIGNED_KIND
kind_of (kinds.Emptied emptied) = EMPTIED_KIND
kind_of (kinds.Replaced replaced) = REPLACED_KIND
kind_of (kinds.Committed committed) = COMMITTED_KIND
kind_of (kinds.Deleted deleted) = DELETED_KIND
kind_of (kinds.Expired expired) = EXPIRED_KIND
kind_of (kinds.Dropped dropped) = DROPPED_KIND

-- the encoded fields of a command
abbrev pub body_text : Version → Command → List ℕ
body_text version (kinds.Assigned assigned) = assigned_text assigned
body_text version (kinds.Emptied emptied) = emptied_text version emptied
body_text version (kinds.Replaced replaced) = replaced_text replaced
body_text version (kinds.Committed committed) = committed_text version committed
body_text version (kinds.Deleted deleted) = deleted_text deleted
body_text version (kinds.Expired expired) = removal_text version expired.group expired.partitions
body_text version (kinds.Dropped dropped) = removal_text version dropped.group dropped.partitions

-- a command that the version can say
abbrev pub IsSaid : Version → Command → Type 0
IsSaid version x = IsCommand x × CanSay version x

-- what the decoder of one kind accepts, as the command of that kind
kind_takes : {A : Type 0} {at : List ℕ → Read A} {text : A → List ℕ} {Is : A → Type 0} (version : Version) (make : A → Command) → Reads at text Is
    → ((a : A) → body_text version (make a) ≡ text a) → ((a : A) → Is a → IsSaid version (make a))
    → (bytes : List ℕ) (x : Command) (rest : List ℕ) → IsBytes bytes → made make (at bytes) ≡ Ok (x, rest) → Takes bytes (body_text version x) rest × ((a : A) × (make a ≡ x)) × IsSaid version x
kind_takes {A} {at} {text} {Is} version make reader same there bytes x rest fits e =
    let b = bind_ok (at bytes) (λ y. Ok (make y.0, y.1)) (x, rest) e in
    let t = reader.takes bytes b.0.0 b.0.1 fits b.1 in
    let made_is : (make b.0.0, b.0.1) ≡ (x, rest) = ok_is (make b.0.0, b.0.1) (x, rest) b.2 in
    let taken : Takes bytes (body_text version (make b.0.0)) b.0.1 = subst (λ (l : List ℕ). Takes bytes l b.0.1) (sym (same b.0.0)) t.0 in
    subst (λ (y : Command × List ℕ). Takes bytes (body_text version y.0) y.1 × ((a : A) × (make a ≡ y.0)) × IsSaid version y.0) made_is (taken, (b.0.0, refl), there b.0.0 t.2)

-- the result of a chain of tests comes from this one, or from the others
test_cases : {A : Type 0} (b : Bool) (x y : Result A RecordFault) (z : A) (P : Type 0) → cond b x y ≡ Ok z → (b ≡ true → x ≡ Ok z → P) → (y ≡ Ok z → P) → P
test_cases true x y z P e here there = here refl e
test_cases false x y z P e here there = there e

kind_cases : {A : Type 0} (kind this : ℕ) (x y : Result A RecordFault) (z : A) (P : Type 0) → cond (eqb kind this) x y ≡ Ok z → (kind ≡ this → x ≡ Ok z → P) → (y ≡ Ok z → P) → P
kind_cases kind this x y z P e here there = test_cases (eqb kind this) x y z P e (λ is got. here (eqb-true _ _ is) got) there

-- the same for a kind that not each version has
some_cases : {A : Type 0} (kind this : ℕ) (has : Bool) (x y : Result A RecordFault) (z : A) (P : Type 0) → cond (eqb kind this && has) x y ≡ Ok z → (kind ≡ this → has ≡ true → x ≡ Ok z → P) → (y ≡ Ok z → P) → P
some_cases kind this has x y z P e here there =
    test_cases (eqb kind this && has) x y z P e (λ is got. let both = and_parts (eqb kind this) has is in here (eqb-true _ _ both.0) both.1 got) there

-- a command of this kind was decoded, with its kind byte
abbrev IsRead : Version → List ℕ → ℕ → Command → List ℕ → Type 0
IsRead version bytes kind x rest = Takes bytes (body_text version x) rest × (kind_of x ≡ kind) × IsSaid version x

kind_read : {A : Type 0} {at : List ℕ → Read A} {text : A → List ℕ} {Is : A → Type 0} (version : Version) (kind this : ℕ) (make : A → Command) → kind ≡ this → ((a : A) → kind_of (make a) ≡ this) → Reads at text Is
    → ((a : A) → body_text version (make a) ≡ text a) → ((a : A) → Is a → IsSaid version (make a))
    → (bytes : List ℕ) (x : Command) (rest : List ℕ) → IsBytes bytes → made make (at bytes) ≡ Ok (x, rest) → IsRead version bytes kind x rest
kind_read version kind this make is named reader same there bytes x rest fits got =
    let t = kind_takes version make reader same there bytes x rest fits got in
    (t.0, ap kind_of (sym t.1.1) ∙ named t.1.0 ∙ sym is, t.2)

body_takes : (version : Version) (kind : ℕ) (bytes : List ℕ) (x : Command) (rest : List ℕ) → IsBytes bytes → body_at version kind bytes ≡ Ok (x, rest) → IsRead version bytes kind x rest
unfolding body_at
body_takes version kind bytes x rest fits e =
    kind_cases kind ASSIGNED_KIND _ _ (x, rest) (IsRead version bytes kind x rest) e
    (λ is. kind_read version kind ASSIGNED_KIND kinds.Assigned is (λ a. refl) reads_assigned (λ a. refl) (λ a h. (h, tt)) bytes x rest fits)
    (λ second. kind_cases kind EMPTIED_KIND _ _ (x, rest) (IsRead version bytes kind x rest) second
    (λ is. kind_read version kind EMPTIED_KIND kinds.Emptied is (λ a. refl) (reads_emptied version) (λ a. refl) (λ a h. h) bytes x rest fits)
    (λ third. kind_cases kind REPLACED_KIND _ _ (x, rest) (IsRead version bytes kind x rest) third
    (λ is. kind_read version kind REPLACED_KIND kinds.Replaced is (λ a. refl) reads_replaced (λ a. refl) (λ a h. (h, tt)) bytes x rest fits)
    (λ fourth. kind_cases kind COMMITTED_KIND _ _ (x, rest) (IsRead version bytes kind x rest) fourth
    (λ is. kind_read version kind COMMITTED_KIND kinds.Committed is (λ a. refl) (reads_committed version) (λ a. refl) (λ a h. h) bytes x rest fits)
    (λ fifth. kind_cases kind DELETED_KIND _ _ (x, rest) (IsRead version bytes kind x rest) fifth
    (λ is. kind_read version kind DELETED_KIND kinds.Deleted is (λ a. refl) reads_deleted (λ a. refl) (λ a h. (h, tt)) bytes x rest fits)
    (λ sixth. some_cases kind EXPIRED_KIND (has_expired version) _ _ (x, rest) (IsRead version bytes kind x rest) sixth
    (λ is has. kind_read version kind EXPIRED_KIND expired_of is (λ a. refl) (reads_removal version) (λ a. refl) (λ a h. (h.0, (has, h.1))) bytes x rest fits)
    (λ seventh. some_cases kind DROPPED_KIND (has_dropped version) _ _ (x, rest) (IsRead version bytes kind x rest) seventh
    (λ is has. kind_read version kind DROPPED_KIND dropped_of is (λ a. refl) (reads_removal version) (λ a. refl) (λ a h. (h.0, (has, h.1))) bytes x rest fits)
    (λ none. absurd cc)))))))

body_again : (version : Version) (x : Command) (rest : List ℕ) → IsSaid version x → body_at version (kind_of x) (body_text version x ++ rest) ≡ Ok (x, rest)
unfolding body_at
body_again version (kinds.Assigned a) rest is = rw (reads_assigned.again a rest tt is.0) refl
body_again version (kinds.Emptied e) rest is = rw ((reads_emptied version).again e rest tt is) refl
body_again version (kinds.Replaced r) rest is = rw (reads_replaced.again r rest tt is.0) refl
body_again version (kinds.Committed c) rest is = rw ((reads_committed version).again c rest tt is) refl
body_again version (kinds.Deleted d) rest is = rw (reads_deleted.again d rest tt is.0) refl
body_again version (kinds.Expired e) rest is = rw (is.1.0, (reads_removal version).again (e.group, e.partitions) rest tt (is.0, is.1.1)) refl
body_again version (kinds.Dropped d) rest is = rw (is.1.0, (reads_removal version).again (d.group, d.partitions) rest tt (is.0, is.1.1)) refl

reads_body : (version : Version) (kind : ℕ) → ReadsRest (body_at version kind) (λ x. Anything x × (kind_of x ≡ kind)) (body_text version) (IsSaid version)
reads_body version kind = record {
  takes = λ bytes x rest fits e. let t = body_takes version kind bytes x rest fits e in (t.0, (tt, t.1), t.2);
  again = λ x rest known is. ap (λ k. body_at version k (body_text version x ++ rest)) (sym known.1) ∙ body_again version x rest is;
}

kind_small : (x : Command) → kind_of x < 256
kind_small (kinds.Assigned a) = omega arith
kind_small (kinds.Emptied e) = omega arith
kind_small (kinds.Replaced r) = omega arith
kind_small (kinds.Committed c) = omega arith
kind_small (kinds.Deleted d) = omega arith
kind_small (kinds.Expired e) = omega arith
kind_small (kinds.Dropped d) = omega arith

bytes_are : (version : Version) (x : Command) → (kind_of x ∷ []) ++ body_text version x ≡ command_bytes version x
unfolding command_bytes
bytes_are version (kinds.Assigned a) = refl
bytes_are version (kinds.Emptied e) = refl
bytes_are version (kinds.Replaced r) = refl
bytes_are version (kinds.Committed c) = refl
bytes_are version (kinds.Deleted d) = refl
bytes_are version (kinds.Expired e) = refl
bytes_are version (kinds.Dropped d) = refl

pub reads_command : (version : Version) → Reads (command_at version) (command_bytes version) (IsSaid version)
unfolding command_at
reads_command version =
    reads_as
    (reads_then kind_of reads_byte (λ kind is_kind. reads_body version kind))
    (bytes_are version)
    (λ x known is. is.1)
    (λ x known is. (kind_small x, is))

-- an encoded command has at least one byte
pub bytes_not_empty : (version : Version) (x : Command) → 1 ≤ length (command_bytes version x)
unfolding command_bytes
bytes_not_empty version (kinds.Assigned a) = omega arith
bytes_not_empty version (kinds.Emptied e) = omega arith
bytes_not_empty version (kinds.Replaced r) = omega arith
bytes_not_empty version (kinds.Committed c) = omega arith
bytes_not_empty version (kinds.Deleted d) = omega arith
bytes_not_empty version (kinds.Expired e) = omega arith
bytes_not_empty version (kinds.Dropped d) = omega arith

pub text_not_empty : (x : Command) → 1 ≤ length (command_text x)
text_not_empty x = bytes_not_empty newest x

-- ---- all commands

-- commands that the version can say
abbrev pub AreSaid : Version → List Command → Type 0
AreSaid version commands = AllByRecursion (IsSaid version) commands

to_end_take : (version : Version) (most : ℕ) (bytes : List ℕ) (commands : List Command) → IsBytes bytes → length bytes ≤ most → commands_to_end version most bytes ≡ Ok commands → AreSaid version commands × (bytes ≡ flat_map (command_bytes version) commands)
unfolding commands_to_end
to_end_take version zero bytes commands fits le e =
    let nothing : bytes ≡ [] = nil_from_length bytes (omega arith) in
    subst (λ (l : List Command). AreSaid version l × (bytes ≡ flat_map (command_bytes version) l)) (ok_is [] commands e) (tt, nothing)
to_end_take version (suc most) [] commands fits le e =
    subst (λ (l : List Command). AreSaid version l × ([] ≡ flat_map (command_bytes version) l)) (ok_is [] commands e) (tt, refl)
to_end_take version (suc most) (b ∷ bytes) commands fits le e =
    let p = bind_ok (command_at version (b ∷ bytes)) (λ first. commands_to_end version most first.1 >>= λ others. Ok (first.0 ∷ others)) commands e in
    let q = bind_ok (commands_to_end version most p.0.1) (λ others. Ok (p.0.0 ∷ others)) commands p.2 in
    let t = (reads_command version).takes (b ∷ bytes) p.0.0 p.0.1 fits p.1 in
    let some = bytes_not_empty version p.0.0 in
    let shorter : length p.0.1 ≤ most = omega (arith, ap length t.0.parts, length-append (command_bytes version p.0.0) p.0.1) in
    let u = to_end_take version most p.0.1 q.0 t.0.rest_fits shorter q.1 in
    let whole : b ∷ bytes ≡ flat_map (command_bytes version) (p.0.0 ∷ q.0) = t.0.parts ∙ ap (λ (l : List ℕ). command_bytes version p.0.0 ++ l) u.1 ∙ sym (flat_map-cons (command_bytes version) p.0.0 q.0) in
    subst (λ (l : List Command). AreSaid version l × (b ∷ bytes ≡ flat_map (command_bytes version) l)) (ok_is (p.0.0 ∷ q.0) commands q.2) ((t.2, u.0), whole)

-- where bytes are left, the next command is decoded
pub to_end_step : (version : Version) (most : ℕ) (bytes : List ℕ) → 1 ≤ length bytes → commands_to_end version (suc most) bytes ≡ (command_at version bytes >>= λ first. commands_to_end version most first.1 >>= λ others. Ok (first.0 ∷ others))
unfolding commands_to_end
to_end_step version most [] h = absurd (omega arith)
to_end_step version most (b ∷ bytes) h = refl

pub to_end_nil : (version : Version) (most : ℕ) → commands_to_end version most [] ≡ Ok []
unfolding commands_to_end
to_end_nil version zero = refl
to_end_nil version (suc most) = refl

to_end_again : (version : Version) (commands : List Command) (most : ℕ) → AreSaid version commands → length (flat_map (command_bytes version) commands) ≤ most → commands_to_end version most (flat_map (command_bytes version) commands) ≡ Ok commands
to_end_again version [] most are le = to_end_nil version most
to_end_again version (x ∷ commands) zero are le =
    absurd (omega (arith, bytes_not_empty version x, length-append (command_bytes version x) (flat_map (command_bytes version) commands), ap length (flat_map-cons (command_bytes version) x commands)))
to_end_again version (x ∷ commands) (suc most) are le =
    let rest = flat_map (command_bytes version) commands in
    let spelled : flat_map (command_bytes version) (x ∷ commands) ≡ command_bytes version x ++ rest = flat_map-cons (command_bytes version) x commands in
    let some : 1 ≤ length (command_bytes version x ++ rest) = omega (arith, bytes_not_empty version x, length-append (command_bytes version x) rest) in
    let shorter : length rest ≤ most = omega (arith, bytes_not_empty version x, length-append (command_bytes version x) rest, ap length spelled) in
    ap (commands_to_end version (suc most)) spelled ∙ to_end_step version most (command_bytes version x ++ rest) some
    ∙ rw ((reads_command version).again x rest tt are.0, to_end_again version commands most are.1 shorter) refl

-- ---- what a version can say

pub said_parts : (version : Version) (commands : List Command) → AreSaid version commands → AreCommands commands × CanSayAll version commands
said_parts version [] are = (tt, tt)
said_parts version (x ∷ commands) are = let others = said_parts version commands are.1 in ((are.0.0, others.0), (are.0.1, others.1))

pub said_from : (version : Version) (commands : List Command) → AreCommands commands → CanSayAll version commands → AreSaid version commands
said_from version [] are can = tt
said_from version (x ∷ commands) are can = ((are.0, can.0), said_from version commands are.1 can.1)

-- the newest version can say every command
pub newest_says : (x : Command) → IsCommand x → CanSay newest x
newest_says (kinds.Assigned a) is = tt
newest_says (kinds.Emptied e) is = true_said e.moment
newest_says (kinds.Replaced r) is = tt
newest_says (kinds.Committed c) is = (true_said c.moment, is.entries.distinct.few)
newest_says (kinds.Deleted d) is = tt
newest_says (kinds.Expired e) is = (refl, is.partitions.few)
newest_says (kinds.Dropped d) is = (refl, is.partitions.few)

pub newest_says_all : (commands : List Command) → AreCommands commands → CanSayAll newest commands
newest_says_all [] are = tt
newest_says_all (x ∷ commands) are = (newest_says x are.0, newest_says_all commands are.1)

-- ---- a payload

-- the version of a first byte
version_is : (b : ℕ) (version : Version) → version_of b ≡ Ok version → b ≡ byte_of version
unfolding version_of
version_is b version e =
    kind_cases b VERSION_ONE _ _ version (b ≡ byte_of version) e
    (λ is got. is ∙ ap byte_of (ok_is One version got))
    (λ second. kind_cases b VERSION_TWO _ _ version (b ≡ byte_of version) second
    (λ is got. is ∙ ap byte_of (ok_is Two version got))
    (λ third. kind_cases b VERSION_THREE _ _ version (b ≡ byte_of version) third
    (λ is got. is ∙ ap byte_of (ok_is Three version got))
    (λ none. absurd cc)))

pub version_again : (version : Version) → version_of (byte_of version) ≡ Ok version
unfolding version_of
version_again One = refl
version_again Two = refl
version_again Three = refl

-- decoded bytes are the encoding of their commands
pub commands_take : (bytes : List ℕ) (commands : List Command) → IsBytes bytes → commands_of bytes ≡ Ok commands → AreCommands commands × IsPayload commands bytes
unfolding commands_of
commands_take bytes commands fits e =
    let a = bind_ok (byte_at bytes) (λ first. version_of first.0 >>= λ version. commands_to_end version (length first.1) first.1) commands e in
    let b = bind_ok (version_of a.0.0) (λ version. commands_to_end version (length a.0.1) a.0.1) commands a.2 in
    let t = reads_byte.takes bytes a.0.0 a.0.1 fits a.1 in
    let u = to_end_take b.0 (length a.0.1) a.0.1 commands t.0.rest_fits (omega arith) b.2 in
    let said = said_parts b.0 commands u.0 in
    (said.0, (b.0, said.1, t.0.parts ∙ ap (λ (n : ℕ). n ∷ a.0.1) (version_is a.0.0 b.0 b.1) ∙ ap (λ (l : List ℕ). byte_of b.0 ∷ l) u.1))

-- an encoding decodes to its commands
pub payload_again : (version : Version) (commands : List Command) → AreCommands commands → CanSayAll version commands → commands_of (payload version commands) ≡ Ok commands
unfolding commands_of byte_at
payload_again version commands are can =
    rw (version_again version) (to_end_again version commands (length (flat_map (command_bytes version) commands)) (said_from version commands are can) (omega arith))

pub commands_again : (commands : List Command) → AreCommands commands → commands_of (spelling commands) ≡ Ok commands
unfolding spelling
commands_again commands are = payload_again newest commands are (newest_says_all commands are)

-- the bytes after a command are fewer
pub command_shortens : {X : Type 0} (view : X → Command × List ℕ) (r : Result X RecordFault) (version : Version) (bytes : List ℕ) → IsBytes bytes → Builds view r (command_at version bytes) → IfOk r (λ x. length (view x).1 < length bytes)
command_shortens view (Ok x) version bytes fits built =
    let t = (reads_command version).takes bytes (view x).0 (view x).1 fits built in
    omega (arith, bytes_not_empty version (view x).0, ap length t.0.parts, length-append (command_bytes version (view x).0) (view x).1)
command_shortens view (Err fault) version bytes fits built = tt

-- the same for a command that is only checked
pub skipped_shortens : {X : Type 0} (behind : X → List ℕ) (r : Result X RecordFault) (version : Version) (bytes : List ℕ) → IsBytes bytes → Skips behind r (command_at version bytes) → IfOk r (λ x. length (behind x) < length bytes)
skipped_shortens behind (Ok x) version bytes fits skips =
    let t = (reads_command version).takes bytes skips.0 (behind x) fits skips.1 in
    omega (arith, bytes_not_empty version skips.0, ap length t.0.parts, length-append (command_bytes version skips.0) (behind x))
skipped_shortens behind (Err fault) version bytes fits skips = tt

-- ---- the result of the decoder of a payload

pub is_found : {X : Type 0} (items : X → List Command) (r : Result X RecordFault) (bytes : List ℕ) → IsBytes bytes
    → MatchResult r (λ v. commands_of bytes ≡ Ok (items v)) (λ fault. Tells fault (commands_of bytes)) → IfOk r (λ v. AreCommands (items v) × IsPayload (items v) bytes)
is_found items (Ok v) bytes fits told = commands_take bytes (items v) fits told
is_found items (Err fault) bytes fits told = tt

-- bytes that can be decoded have no fault but a failed allocation
none_but_memory : {A : Type 0} (fault : RecordFault) (x : A) (read : Result A RecordFault) → read ≡ Ok x → Tells fault read → fault ≡ Memory
none_but_memory Memory x read e told = refl
none_but_memory fault x read e told = absurd cc

pub is_only : {X : Type 0} (items : X → List Command) (r : Result X RecordFault) (bytes : List ℕ) (commands : List Command) → AreCommands commands → IsPayload commands bytes
    → MatchResult r (λ v. commands_of bytes ≡ Ok (items v)) (λ fault. Tells fault (commands_of bytes)) → MatchResult r (λ v. items v ≡ commands) (λ fault. fault ≡ Memory)
is_only items (Ok v) bytes commands are spelled told = ok_is (items v) commands (sym told ∙ ap commands_of spelled.2 ∙ payload_again spelled.0 commands are spelled.1)
is_only items (Err fault) bytes commands are spelled told = none_but_memory fault commands (commands_of bytes) (ap commands_of spelled.2 ∙ payload_again spelled.0 commands are spelled.1) told

-- ---- the result of the encoder of a payload

pub whole_spelled : (commands : List Command) (i : ℕ) (text : List ℕ) → length commands ≤ i → text ≡ byte_of newest ∷ flat_map command_text (take i commands) → text ≡ spelling commands
unfolding spelling
whole_spelled commands i text le e = e ∙ ap (λ (l : List Command). byte_of newest ∷ flat_map command_text l) (take_all i commands le)

pub whole_lawful : (commands : List Command) (i : ℕ) → length commands ≤ i → AllByRecursion IsCommand (take i commands) → AreCommands commands
whole_lawful commands i le each = subst AreCommands (take_all i commands le) each

pub spelling_len : (commands : List Command) → length (spelling commands) ≡ 1 + sum_by (λ c. length (command_text c)) commands
unfolding spelling
spelling_len commands = omega (arith, length-flat_map command_text commands)
