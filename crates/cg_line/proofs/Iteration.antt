-- One iteration of a run: a flush, a read, and the lines that end in the bytes read.
use Rattle.std.proofs.Common.{◌≡◌, ◌<◌, ◌≤◌, ℕ, ◌+◌, List, [], ◌∷◌, ◌++◌, length, take, Option, None, Some, Result, Ok, Err, IfOk, IfSome, ap, ◌∙◌, arith}
use Rattle.cg_request.specs.declared.request.Request.{Request}
use Rattle.cg_group_state.specs.declared.reply.Reply.{Reply}
use Rattle.cg_line.specs.declared.stream_end.RunFault.{RunFault}
use Rattle.cg_line.specs.declared.stream.begun.BegunLine.{BegunLine}
use Rattle.cg_line.specs.declared.stream.TheConstants.{READS_MAX}
use Rattle.cg_line.specs.declared.stream.stop.Stop.TheVariants.{Fault}
use Rattle.cg_line.specs.declared.transport_fault.TransportFault.{TransportFault}
use Rattle.cg_line.specs.Calls.{Flushes, Made, Reads, TransportCall, reads_in}
use Rattle.cg_line.specs.Stream.{Far, Gives, Stopped}
use Rattle.cg_line.proofs.Calls.{made_more, made_then, reads_counted, reads_in-append}
use Rattle.cg_line.proofs.Streams.{far_ends, far_interrupted, far_read, far_read_fault}

-- the calls that led here: how many of them are reads, and a fact that holds of them
pub record SoFar {T : Type 0} (does : T → TransportCall → T → Type 0) (start now : T) (reads : ℕ) (Holds : List TransportCall → Type 0) : Type 0 where
  pub calls : List TransportCall
  pub made : Made does start calls now
  pub reads_are : reads_in calls ≡ reads
  pub holds : Holds calls

-- what a read leads to: the end of the stream or bytes to serve, a further read, or the end of the run
abbrev pub Leads : {S : Type 0} (gives : S → Request → Reply → S → Type 0) → S → S → BegunLine → List ℕ → Result (Option ℕ) RunFault → List TransportCall → Type 0
Leads gives before between begun buffer (Ok (Some count)) calls =
    (count ≡ 0 → Stopped gives (Ok tt) calls before between) × (0 < count → Far gives calls before between (take count buffer) begun)
Leads gives before between begun buffer (Ok None) calls = Far gives calls before between [] begun
Leads gives before between begun buffer (Err fault) calls = Stopped gives (Err (Fault fault)) calls before between

module _ {S : Type 0} (gives : S → Request → Reply → S → Type 0) (calls : List TransportCall) (before between : S) (begun : BegunLine)
    (far : Far gives calls before between [] begun) (flush : TransportCall) (flushed : flush ≡ Flushes (Ok tt)) (got : Result (List ℕ) TransportFault) (buffer : List ℕ) where
  read_leads : (result : Result (Option ℕ) RunFault) → Gives got buffer result → IfOk result (λ count. IfSome count (λ n. n ≤ length buffer))
      → Leads gives before between begun buffer result ((calls ++ flush ∷ []) ++ Reads got ∷ [])
  read_leads (Ok (Some count)) is within = (
    λ none. far_ends gives calls before between begun far flush flushed got tt (is ∙ ap (λ n. Ok (take n buffer)) none),
    λ some. far_read gives calls before between begun far flush flushed got buffer count some within is,
  )
  read_leads (Ok None) is within = far_interrupted gives calls before between begun far flush flushed got is
  read_leads (Err fault) is within = rw (is.1) (far_read_fault gives calls before between begun far flush flushed got is.0)

-- the calls so far, a flush and a read
pub flushed_read : {S T : Type 0} {gives : S → Request → Reply → S → Type 0} {does : T → TransportCall → T → Type 0} {start now flushed after : T} {before between : S} {begun : BegunLine} {reads : ℕ}
    (buffer : List ℕ) (result : Result (Option ℕ) RunFault) → SoFar does start now reads (λ calls. Far gives calls before between [] begun)
    → ((flush : TransportCall) × does now flush flushed × (flush ≡ Flushes (Ok tt)))
    → ((got : Result (List ℕ) TransportFault) × does flushed (Reads got) after × Gives got buffer result)
    → IfOk result (λ count. IfSome count (λ n. n ≤ length buffer))
    → SoFar does start after (reads + 1) (Leads gives before between begun buffer result)
flushed_read {gives = gives} {does = does} {start = start} {now = now} {flushed = flushed} {after = after} {before = before} {between = between} {begun = begun} {reads = reads} buffer result so flush got within = record {
  calls = (so.calls ++ flush.0 ∷ []) ++ Reads got.0 ∷ [];
  made = made_more does start flushed after (so.calls ++ flush.0 ∷ []) (Reads got.0) (made_more does start now flushed so.calls flush.0 so.made flush.1) got.1;
  reads_are = reads_counted so.calls flush.0 got.0 reads flush.2 so.reads_are;
  holds = read_leads gives so.calls before between begun so.holds flush.0 flush.2 got.0 buffer result got.2 within;
}

-- further calls without a read
pub silent_more : {T : Type 0} {does : T → TransportCall → T → Type 0} {start now later : T} {reads : ℕ} {Held Holds : List TransportCall → Type 0} (so : SoFar does start now reads Held)
    → ((more : List TransportCall) × Made does now more later × (reads_in more ≡ 0) × Holds (so.calls ++ more)) → SoFar does start later reads Holds
silent_more {does = does} {start = start} {now = now} {later = later} so more = record {
  calls = so.calls ++ more.0;
  made = made_then does start now later so.calls more.0 so.made more.1;
  reads_are = let sum = reads_in-append so.calls more.0 in let none = more.2 in let count = so.reads_are in omega arith;
  holds = more.3;
}

-- a run that stops makes at most READS_MAX reads
pub reads_within : {T : Type 0} {does : T → TransportCall → T → Type 0} {start now : T} {reads : ℕ} {Holds : List TransportCall → Type 0} → SoFar does start now reads Holds → reads ≤ READS_MAX
    → (calls : List TransportCall) × Made does start calls now × (reads_in calls ≤ READS_MAX) × Holds calls
reads_within so within = let count = so.reads_are in (so.calls, so.made, omega arith, so.holds)
