-- The progress of a run.
use Rattle.std.specs.Prelude.{◌≡◌, ℕ, true, List, ◌++◌, take, Option, None, Some, Result, Ok, Err, MatchResult}
use Rattle.std.specs.List.{list_all}
use Rattle.cg_request.specs.declared.request.Request.{Request}
use Rattle.cg_group_state.specs.declared.reply.Reply.{Reply}
use Rattle.cg_line.specs.declared.stream_end.RunEnd.TheVariants.{End}
use Rattle.cg_line.specs.declared.stream_end.RunFault.{RunFault}
use Rattle.cg_line.specs.declared.stream_end.RunFault.TheVariants.{Read, Write}
use Rattle.cg_line.specs.declared.stream.begun.BegunLine.{BegunLine}
use Rattle.cg_line.specs.declared.stream.asked_line.Refusal.{Refusal}
use Rattle.cg_line.specs.declared.stream.asked_line.Refusal.TheVariants as refused
use Rattle.cg_line.specs.declared.stream.stop.Stop.{Stop}
use Rattle.cg_line.specs.declared.stream.stop.Stop.TheVariants.{TooLong, Fault}
use Rattle.cg_line.specs.declared.transport_fault.TransportFault.{TransportFault}
use Rattle.cg_line.specs.declared.transport_fault.TransportFault.TheVariants.{Failed, Interrupted}
use Rattle.cg_line.specs.Calls.{EndedBy, Flushes, GoOn, TransportCall, bytes_read, bytes_written, is_write, reads_in}
use Rattle.cg_line.specs.Lines.{IsBegun}
use Rattle.cg_line.specs.Running.{EndsAs, IsAnswer, IsLine, IsTooLong, Ran, ReadsAreReady, Served, Serves, Turns, WritesFail, answers_text, ended, lines_text, malformed_line, memory_line}

-- what the outcome of a read leads to: a number of bytes in the buffer, a further read, or the end of the run
abbrev pub Gives : Result (List ℕ) TransportFault → List ℕ → Result (Option ℕ) RunFault → Type 0
Gives got buffer (Ok (Some count)) = got ≡ Ok (take count buffer)
Gives got buffer (Ok None) = got ≡ Err Interrupted
Gives got buffer (Err fault) = (got ≡ Err Failed) × (fault ≡ Read)

-- these calls wrote all the bytes, or failed to
pub record IsPut (bytes : List ℕ) (writes : List TransportCall) (result : Result (Unit {0}) RunFault) : Type 0 where
  pub are_writes : list_all is_write writes ≡ true
  pub outcome : MatchResult result (λ _. (bytes_written writes ≡ bytes) × GoOn writes) (λ fault. (fault ≡ Write) × WritesFail writes)

-- the line of a refusal
abbrev pub refusal_line : Refusal → List ℕ
refusal_line refused.Malformed = malformed_line
refusal_line refused.Memory = memory_line

-- the text is the reply line to the line, with its line feed; or a refusal is its reply line
abbrev pub Answers : List ℕ → Option (Request × Reply) → Result (Unit {0}) Refusal → List ℕ → Type 0
Answers line call (Ok _) text = (answer : List ℕ) × (text ≡ ended answer) × IsAnswer line call answer
Answers line call (Err refusal) text = IsAnswer line call (refusal_line refusal)

-- the line was served, and these calls wrote its reply or failed to
pub record Done {S : Type 0} (gives : S → Request → Reply → S → Type 0) (line : List ℕ) (before after : S) (writes : List TransportCall) (result : Result (Unit {0}) RunFault) : Type 0 where
  pub call : Option (Request × Reply)
  pub answer : List ℕ
  pub is_answer : IsAnswer line call answer
  pub turns : Turns gives before call after
  pub put : IsPut (ended answer) writes result

-- of the bytes that were read, lines were served and answered, one more line has begun, and some bytes are still to be
-- searched for line feeds
pub record Far {S : Type 0} (gives : S → Request → Reply → S → Type 0) (calls : List TransportCall) (before after : S) (left : List ℕ) (begun : BegunLine) : Type 0 where
  pub served : List Served
  pub line : List ℕ
  pub read_is : bytes_read calls ≡ lines_text served ++ (line ++ left)
  pub serves : Serves gives before served after
  pub written : bytes_written calls ≡ answers_text served
  pub is_line : IsLine line
  pub begun_is : IsBegun begun line
  pub go_on : GoOn calls
  pub reads_are_ready : ReadsAreReady gives before calls

-- the calls when the stream ended or was left; a line that is too long has no reply yet
abbrev pub StopsAs : Result (Unit {0}) Stop → List TransportCall → List Served → List ℕ → Type 0
StopsAs (Ok _) calls served rest = EndsAs (Ok End) calls served rest
StopsAs (Err TooLong) calls served rest = (bytes_written calls ≡ answers_text served) × IsTooLong rest × GoOn calls
StopsAs (Err (Fault fault)) calls served rest = EndsAs (Err fault) calls served rest

pub record Stopped {S : Type 0} (gives : S → Request → Reply → S → Type 0) (result : Result (Unit {0}) Stop) (calls : List TransportCall) (before after : S) : Type 0 where
  pub ran : Ran gives (StopsAs result calls) (bytes_read calls) before after
  pub reads_are_ready : ReadsAreReady gives before calls

-- the run goes on, or stopped
abbrev pub Goes : {S : Type 0} (gives : S → Request → Reply → S → Type 0) → Result (Unit {0}) Stop → List TransportCall → S → S → List ℕ → BegunLine → Type 0
Goes gives (Ok _) calls before after left begun = Far gives calls before after left begun
Goes gives (Err stop) calls before after left begun = Stopped gives (Err stop) calls before after

-- the refusal of a line that is too long was written and flushed, or a call failed to
pub record IsRefused (calls : List TransportCall) (result : Result (Unit {0}) RunFault) : Type 0 where
  pub no_reads : reads_in calls ≡ 0
  pub outcome : MatchResult result (λ _. (bytes_written calls ≡ ended malformed_line) × EndedBy (Flushes (Ok tt)) calls) (λ fault. (fault ≡ Write) × WritesFail calls)
