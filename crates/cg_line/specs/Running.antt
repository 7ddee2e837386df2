-- What a run over a stream of request lines reads and writes, and by which calls.
use Rattle.std.specs.Prelude.{◌≡◌, ◌⊎◌, ℕ, ◌<◌, ◌≤◌, ◌==◌, true, not, List, [], ◌∷◌, ◌++◌, length, codes, Option, None, Some, Result, Ok, Err}
use Rattle.std.specs.List.{flat_map, list_all}
use Rattle.cg_request.specs.declared.request.Request.{Request}
use Rattle.cg_group_state.specs.declared.reply.Reply.{Reply}
use Rattle.cg_line.specs.Calls.{EndedBy, Flushes, GoOn, Reads, TransportCall, bytes_read, bytes_written, fails_to_write, is_write, reads_in}
use Rattle.cg_line.specs.Replies.{reply_line}
use Rattle.cg_line.specs.Requests.{IsRequest, request_line}
use Rattle.cg_line.specs.declared.stream_end.RunEnd.{RunEnd}
use Rattle.cg_line.specs.declared.stream_end.RunEnd.TheVariants.{End, TooLong}
use Rattle.cg_line.specs.declared.stream_end.RunFault.{RunFault}
use Rattle.cg_line.specs.declared.stream_end.RunFault.TheVariants.{Memory, Read, Write}
use Rattle.cg_line.specs.declared.stream.TheConstants.{READS_MAX}
use Rattle.cg_line.specs.declared.stream.writer.TheConstants.{WRITES_MAX}
use Rattle.cg_line.specs.declared.transport_fault.TransportFault.{TransportFault}
use Rattle.cg_line.specs.declared.transport_fault.TransportFault.TheVariants.{Failed}
use Rattle.cg_line.specs.declared.words.TheConstants.{LINE_BYTES_MAX}

abbrev pub line_feed : ℕ
line_feed = 10

-- no byte is a line feed
abbrev pub HasNoEnd : List ℕ → Type 0
HasNoEnd bytes = list_all (λ b. not (b == line_feed)) bytes ≡ true

-- a line that is served, without its line feed, or the beginning of one
abbrev pub IsLine : List ℕ → Type 0
IsLine line = HasNoEnd line × (length line ≤ LINE_BYTES_MAX)

-- bytes that begin with a line that is too long, before its line feed
abbrev pub IsTooLong : List ℕ → Type 0
IsTooLong bytes = (front : List ℕ) × (behind : List ℕ) × (bytes ≡ front ++ behind) × HasNoEnd front × (LINE_BYTES_MAX < length front)

-- the reply to a malformed line, and the reply if an allocation fails
abbrev pub malformed_line : List ℕ
malformed_line = codes "ERR 42 INVALID_REQUEST"

abbrev pub memory_line : List ℕ
memory_line = codes "ERR -1 UNKNOWN_SERVER_ERROR"

-- what a line leads to: the line, the request to the backend and its reply if there was one, and the line that is
-- written; both lines without line feeds
pub record Served : Type 0 where
  pub line : List ℕ
  pub call : Option (Request × Reply)
  pub answer : List ℕ

-- the line is that of the request to the backend, and the line that is written that of its reply; or the backend was
-- not asked, since the line is not that of any lawful request; or an allocation failed
abbrev pub IsAnswer : List ℕ → Option (Request × Reply) → List ℕ → Type 0
IsAnswer line (Some (request, reply)) answer = IsRequest request × (line ≡ request_line request) × ((answer ≡ reply_line reply) ⊎ (answer ≡ memory_line))
IsAnswer line None answer = (((request : Request) → IsRequest request → line ≡ request_line request → ⊥) × (answer ≡ malformed_line)) ⊎ (answer ≡ memory_line)

abbrev pub IsServed : Served → Type 0
IsServed s = IsLine s.line × IsAnswer s.line s.call s.answer

-- a backend that was asked changed as `gives` allows; otherwise it is unchanged
abbrev pub Turns : {S : Type 0} → (S → Request → Reply → S → Type 0) → S → Option (Request × Reply) → S → Type 0
Turns gives before None after = after ≡ before
Turns gives before (Some (request, reply)) after = gives before request reply after

-- these lines were served in this order, and the backend went from the first state to the last
abbrev pub Serves : {S : Type 0} → (S → Request → Reply → S → Type 0) → S → List Served → S → Type 0
Serves gives before [] after = after ≡ before
Serves {S = S} gives before (s ∷ served) after = (between : S) × IsServed s × Turns gives before s.call between × Serves gives between served after

abbrev pub ended : List ℕ → List ℕ
ended line = line ++ line_feed ∷ []

-- the lines that were served, as they were read
abbrev pub lines_text : List Served → List ℕ
lines_text served = flat_map (λ s. ended s.line) served

-- the reply lines, as they are written
abbrev pub answers_text : List Served → List ℕ
answers_text served = flat_map (λ s. ended s.answer) served

-- each line that was served has its whole reply, and at most a part of another line was read
abbrev pub AllAnswered : List TransportCall → List Served → List ℕ → Type 0
AllAnswered calls served rest = (bytes_written calls ≡ answers_text served) × IsLine rest

-- the last of these calls failed to write; or they are as many writes as one reply may take
abbrev pub WritesFail : List TransportCall → Type 0
WritesFail calls = ((last : TransportCall) × (fails_to_write last ≡ true) × EndedBy last calls) ⊎ ((length calls ≡ WRITES_MAX) × (list_all is_write calls ≡ true) × GoOn calls)

-- the replies before the last were written by the earlier calls; the others failed to write the last, or the refusal of a
-- line that is too long
pub record WriteFailed (calls : List TransportCall) (served : List Served) : Type 0 where
  pub answered : List Served
  pub last : List Served
  pub served_are : served ≡ answered ++ last
  pub at_most_one : length last ≤ 1
  pub earlier : List TransportCall
  pub failed : List TransportCall
  pub calls_are : calls ≡ earlier ++ failed
  pub all_written : bytes_written earlier ≡ answers_text answered
  pub go_on : GoOn earlier
  pub fail : WritesFail failed

-- the calls and the lines after which a run ends with this result: the last read gave no bytes; the refusal of a line that
-- is too long was written and flushed; there was no call; the last read failed, or it was the last that a run may make; a
-- write failed
abbrev pub EndsAs : Result RunEnd RunFault → List TransportCall → List Served → List ℕ → Type 0
EndsAs (Ok End) calls served rest = AllAnswered calls served rest × EndedBy (Reads (Ok [])) calls
EndsAs (Ok TooLong) calls served rest = (bytes_written calls ≡ answers_text served ++ ended malformed_line) × IsTooLong rest × EndedBy (Flushes (Ok tt)) calls
EndsAs (Err Memory) calls served rest = calls ≡ []
EndsAs (Err Read) calls served rest = AllAnswered calls served rest × (EndedBy (Reads (Err Failed)) calls ⊎ ((reads_in calls ≡ READS_MAX) × GoOn calls))
EndsAs (Err Write) calls served rest = WriteFailed calls served

-- the bytes that were read are lines, which were served in order, and a rest, of which `ends` holds
pub record Ran {S : Type 0} (gives : S → Request → Reply → S → Type 0) (ends : List Served → List ℕ → Type 0) (read : List ℕ) (before after : S) : Type 0 where
  pub served : List Served
  pub rest : List ℕ
  pub read_is : read ≡ lines_text served ++ rest
  pub serves : Serves gives before served after
  pub ends_so : ends served rest

-- before a read: the last call flushed the transport, and each whole line so far has its reply
pub record IsReady {S : Type 0} (gives : S → Request → Reply → S → Type 0) (before : S) (calls : List TransportCall) : Type 0 where
  pub earlier : List TransportCall
  pub flushed : calls ≡ earlier ++ Flushes (Ok tt) ∷ []
  pub now : S
  pub answered : Ran gives (AllAnswered calls) (bytes_read calls) before now

abbrev pub ReadsAreReady : {S : Type 0} → (S → Request → Reply → S → Type 0) → S → List TransportCall → Type 0
ReadsAreReady gives before calls = (earlier later : List TransportCall) (got : Result (List ℕ) TransportFault) → calls ≡ earlier ++ Reads got ∷ later → IsReady gives before earlier

-- a run that made these calls on its transport, had this result, and took the backend from the first state to the last
pub record IsRun {S : Type 0} (gives : S → Request → Reply → S → Type 0) (result : Result RunEnd RunFault) (calls : List TransportCall) (before after : S) : Type 0 where
  pub ran : Ran gives (EndsAs result calls) (bytes_read calls) before after
  pub reads_are_ready : ReadsAreReady gives before calls
  pub reads_within : reads_in calls ≤ READS_MAX
