-- The progress of a run, step by step.
use Rattle.std.proofs.Common.{take-append-drop, length-drop, ◌-◌, zero, suc, eqb, take, drop, ◌≡◌, ◌<◌, ◌≤◌, ℕ, ◌+◌, true, false, not, ◌&&◌, ◌==◌, List, [], ◌∷◌, ◌++◌, length, Some, Result, Ok, Err, sym, ap, ◌∙◌, refl, append_assoc, append-nil, length-append, arith, subst, MatchResult, inl, inr, lit≤}
use Rattle.std.proofs.lemmas.Bool.Decides.{nat_tests}
use Rattle.std.proofs.Math.Seq.{take-length}
use Rattle.memchr.specs.Find.{Passes, is_byte}
use Rattle.std.specs.List.{flat_map, list_all}
use Rattle.std.proofs.lemmas.Grind.{flat_map-append}
use Rattle.std.proofs.lemmas.List.Folds.{list_all-append}
use Rattle.cg_request.specs.declared.request.Request.{Request}
use Rattle.cg_group_state.specs.declared.reply.Reply.{Reply}
use Rattle.cg_line.specs.declared.stream_end.RunEnd.TheVariants as ends
use Rattle.cg_line.specs.declared.stream_end.RunFault.{RunFault}
use Rattle.cg_line.specs.declared.stream_end.RunFault.TheVariants as faults
use Rattle.cg_line.specs.declared.stream.begun.BegunLine.{BegunLine}
use Rattle.cg_line.specs.declared.stream.begun.BegunLine.TheVariants.{Kept, Lost}
use Rattle.cg_line.specs.declared.stream.stop.Stop.{Stop}
use Rattle.cg_line.specs.declared.stream.stop.Stop.TheVariants.{TooLong, Fault}
use Rattle.cg_line.specs.declared.words.TheConstants.{LINE_BYTES_MAX}
use Rattle.cg_line.specs.declared.stream.asked_line.Asked.{Asked}
use Rattle.cg_line.specs.declared.stream.asked_line.Refusal.{Refusal}
use Rattle.cg_line.specs.declared.stream.asked_line.Refusal.TheVariants as refused
use Rattle.cg_line.specs.Replies.{reply_line}
use Rattle.cg_line.specs.Requests.{IsRequest, request_line}
use Rattle.cg_line.specs.Lines.{Ended, GoesOn, IsBegun, begun_len}
use Rattle.cg_line.specs.declared.stream.TheConstants.{READS_MAX}
use Rattle.cg_line.specs.declared.transport_fault.TransportFault.{TransportFault}
use Rattle.cg_line.specs.declared.transport_fault.TransportFault.TheVariants.{Failed, Interrupted}
use Rattle.cg_line.specs.Calls.{EndedBy, Flushes, GoOn, Reads, TransportCall, bytes_read, bytes_written, goes_on, read_by, reads_in, written_by}
use Rattle.cg_line.specs.Running.{AllAnswered, HasNoEnd, IsLine, IsReady, IsRun, IsServed, IsTooLong, Ran, ReadsAreReady, Served, Serves, Turns, WritesFail, answers_text, ended, line_feed, lines_text, malformed_line}
use Rattle.cg_line.specs.Stream.{Answers, Done, Far, IsPut, IsRefused, Stopped}
use Rattle.cg_line.proofs.Calls.{bytes_read-append, bytes_written-append, ended_later, found_last, found_read, go_on-append, no_reads_both, not_among_none, read_no_more, reads_in-append, some_given, writes_read_nothing, written_with}

-- a write took the first of the remaining bytes
pub written_more : (bytes part rest : List ℕ) (n : ℕ) → bytes ≡ part ++ rest → bytes ≡ (part ++ take n rest) ++ take (length rest - n) (drop n rest)
written_more bytes part rest n is =
    is ∙ ap (λ l. part ++ l) (sym (take-append-drop n rest)) ∙ sym (append_assoc part (take n rest) (drop n rest))
    ∙ ap (λ l. (part ++ take n rest) ++ l) (sym (ap (λ k. take k (drop n rest)) (sym (length-drop n rest)) ∙ take-length (drop n rest)))

-- A line that has begun.

pub begun_length : (begun : BegunLine) (line : List ℕ) → IsBegun begun line → begun_len begun ≡ length line
begun_length (Kept bytes) line is = ap length is
begun_length (Lost count) line is = is

pub joined_long : (begun : BegunLine) (line part : List ℕ) → IsBegun begun line → LINE_BYTES_MAX < begun_len begun + length part → LINE_BYTES_MAX < length (line ++ part)
joined_long begun line part is long = let e = begun_length begun line is in rw (length-append line part, ← e) long

pub no_end_append : (xs ys : List ℕ) → HasNoEnd xs → HasNoEnd ys → HasNoEnd (xs ++ ys)
no_end_append xs ys p q =
    list_all-append (λ b. not (b == line_feed)) xs ys ∙ ap (λ t. t && list_all (λ b. not (b == line_feed)) ys) p ∙ q

-- a line that is too long before its line feed, or before the end of the bytes
pub line_too_long : (line bytes front behind : List ℕ) → bytes ≡ front ++ behind → HasNoEnd line → HasNoEnd front → LINE_BYTES_MAX < length (line ++ front) → IsTooLong (line ++ bytes)
line_too_long line bytes front behind is no_end_line no_end long =
    (line ++ front, behind, ap (λ l. line ++ l) is ∙ sym (append_assoc line front behind), no_end_append line front no_end_line no_end, long)

pub no_end_all : (bytes : List ℕ) → ((k : ℕ) → k < length bytes → Passes (is_byte line_feed) bytes k → ⊥) → HasNoEnd bytes
no_end_all [] nowhere = refl
no_end_all (b ∷ bs) nowhere =
    elim (eqb b line_feed) as (λ t. eqb b line_feed ≡ t → (not t && list_all (λ x. not (x == line_feed)) bs) ≡ true) [
      | true ↦ λ is. absurd (nowhere 0 (omega arith) is)
      | false ↦ λ is. no_end_all bs (λ k below is_feed. nowhere (suc k) (omega arith) is_feed)
    ] refl

pub no_end_take : (bytes : List ℕ) (at : ℕ) → at < length bytes → ((k : ℕ) → k < at → Passes (is_byte line_feed) bytes k → ⊥) → HasNoEnd (take at bytes)
no_end_take [] at below nowhere = absurd (omega arith)
no_end_take (b ∷ bs) zero below nowhere = refl
no_end_take (b ∷ bs) (suc at) below nowhere =
    elim (eqb b line_feed) as (λ t. eqb b line_feed ≡ t → (not t && list_all (λ x. not (x == line_feed)) (take at bs)) ≡ true) [
      | true ↦ λ is. absurd (nowhere 0 (omega arith) is)
      | false ↦ λ is. no_end_take bs at (omega arith) (λ k less is_feed. nowhere (suc k) (omega arith) is_feed)
    ] refl

-- a byte that passes is a line feed, between the bytes before it and those after it
pub cut_at : (bytes : List ℕ) (at : ℕ) → at < length bytes → Passes (is_byte line_feed) bytes at → bytes ≡ take at bytes ++ (line_feed ∷ drop (suc at) bytes)
cut_at [] at below is = absurd (omega arith)
cut_at (b ∷ bs) zero below is = let same : b ≡ 10 = grind (arith, nat_tests) in ap (λ x. x ∷ bs) same
cut_at (b ∷ bs) (suc at) below is = ap (λ l. b ∷ l) (cut_at bs at (omega arith) is)

-- Lines that were served.

pub serves_more : {S : Type 0} (gives : S → Request → Reply → S → Type 0) (before between after : S) (served : List Served) (s : Served)
    → Serves gives before served between → IsServed s → Turns gives between s.call after → Serves gives before (served ++ s ∷ []) after
serves_more {S} gives before between after [] s same is turns =
    let P : S → Type 0 = λ b. Turns gives b s.call after in (after, is, subst P same turns, refl)
serves_more gives before between after (t ∷ ts) s serves is turns =
    (serves.0, serves.1, serves.2, serves_more gives serves.0 between after ts s serves.3 is turns)

one_more : (f : Served → List ℕ) (served : List Served) (s : Served) → flat_map f (served ++ s ∷ []) ≡ flat_map f served ++ f s
one_more f served s = flat_map-append f served (s ∷ []) ∙ ap (λ l. flat_map f served ++ l) (append-nil (f s))

-- The reply to a line.

pub answers_asked : (line : List ℕ) (request : Request) (reply : Reply) (result : Result (Unit {0}) Refusal) (text : List ℕ) → IsRequest request → line ≡ request_line request
    → MatchResult result (λ _. text ≡ ended (reply_line reply)) (λ refusal. refusal ≡ refused.Memory) → Answers line (Some (request, reply)) result text
answers_asked line request reply (Ok u) text lawful spelled is = (reply_line reply, is, (lawful, spelled, inl refl))
answers_asked line request reply (Err refused.Malformed) text lawful spelled is = absurd (cc)
answers_asked line request reply (Err refused.Memory) text lawful spelled is = (lawful, spelled, inr refl)

-- Reads that come when all is ready.

module _ {S : Type 0} (gives : S → Request → Reply → S → Type 0) (before : S) where
  pub ready_none : ReadsAreReady gives before []
  ready_none earlier later got is = absurd (not_among_none earlier later (Reads got) is)

  pub ready_more : (xs ys : List TransportCall) → reads_in ys ≡ 0 → ReadsAreReady gives before xs → ReadsAreReady gives before (xs ++ ys)
  ready_more xs ys none ready earlier later got is =
      let there = found_read xs ys earlier later got none is in ready earlier there.0 got there.1

  pub ready_read : (xs : List TransportCall) (last : TransportCall) → ReadsAreReady gives before xs → IsReady gives before xs → ReadsAreReady gives before (xs ++ last ∷ [])
  ready_read xs last ready now earlier later got is =
      elim (found_last xs earlier later last (Reads got) is) as (λ f. IsReady gives before earlier) [
        | inl l ↦ ready earlier l.0 got l.1
        | inr same ↦ subst (λ l. IsReady gives before l) same now
      ]

-- A run, step by step.

module _ {S : Type 0} (gives : S → Request → Reply → S → Type 0) (calls : List TransportCall) (before between : S) where
  -- calls that read and wrote nothing
  pub far_silent : (more : List TransportCall) (left : List ℕ) (begun : BegunLine) → reads_in more ≡ 0 → bytes_written more ≡ [] → GoOn more → Far gives calls before between left begun
      → Far gives (calls ++ more) before between left begun
  far_silent more left begun none silent go_on far = record {
    served = far.served;
    line = far.line;
    read_is = read_no_more calls more none ∙ far.read_is;
    serves = far.serves;
    written = bytes_written-append calls more ∙ ap (λ l. bytes_written calls ++ l) silent ∙ append-nil (bytes_written calls) ∙ far.written;
    is_line = far.is_line;
    begun_is = far.begun_is;
    go_on = go_on-append calls more far.go_on go_on;
    reads_are_ready = ready_more gives before calls more none far.reads_are_ready;
  }

  pub far_answered : (begun : BegunLine) → Far gives calls before between [] begun → Ran gives (AllAnswered calls) (bytes_read calls) before between
  far_answered begun far = record {
    served = far.served;
    rest = far.line ++ [];
    read_is = far.read_is;
    serves = far.serves;
    ends_so = (far.written, subst IsLine (sym (append-nil far.line)) far.is_line);
  }

  pub far_goes_on : (left : List ℕ) (begun begun' : BegunLine) (far : Far gives calls before between left begun) → GoesOn far.line left begun'
      → Far gives calls before between [] begun'
  far_goes_on left begun begun' far goes = record {
    served = far.served;
    line = far.line ++ left;
    read_is = far.read_is ∙ ap (λ l. lines_text far.served ++ l) (sym (append-nil (far.line ++ left)));
    serves = far.serves;
    written = far.written;
    is_line = goes.is_line;
    begun_is = goes.begun_is;
    go_on = far.go_on;
    reads_are_ready = far.reads_are_ready;
  }

  pub far_too_long : (left : List ℕ) (begun : BegunLine) (far : Far gives calls before between left begun) → IsTooLong (far.line ++ left)
      → Stopped gives (Err TooLong) calls before between
  far_too_long left begun far long = record {
    ran = record {
      served = far.served;
      rest = far.line ++ left;
      read_is = far.read_is;
      serves = far.serves;
      ends_so = (far.written, long, far.go_on);
    };
    reads_are_ready = far.reads_are_ready;
  }

  pub far_reads_max : (begun : BegunLine) → reads_in calls ≡ READS_MAX → Far gives calls before between [] begun → Stopped gives (Err (Fault faults.Read)) calls before between
  far_reads_max begun all far =
      let ran = far_answered begun far in record {
        ran = record {
          served = ran.served;
          rest = ran.rest;
          read_is = ran.read_is;
          serves = ran.serves;
          ends_so = (ran.ends_so, inr (all, far.go_on));
        };
        reads_are_ready = far.reads_are_ready;
      }

  -- calls that failed to write, after which nothing was served
  pub far_write_fault : (failed : List TransportCall) (left : List ℕ) (begun : BegunLine) → reads_in failed ≡ 0 → WritesFail failed → Far gives calls before between left begun
      → Stopped gives (Err (Fault faults.Write)) (calls ++ failed) before between
  far_write_fault failed left begun none fail far = record {
    ran = record {
      served = far.served;
      rest = far.line ++ left;
      read_is = read_no_more calls failed none ∙ far.read_is;
      serves = far.serves;
      ends_so = record {
        answered = far.served;
        last = [];
        served_are = sym (append-nil far.served);
        at_most_one = lit≤ tt;
        earlier = calls;
        failed = failed;
        calls_are = refl;
        all_written = far.written;
        go_on = far.go_on;
        fail = fail;
      };
    };
    reads_are_ready = ready_more gives before calls failed none far.reads_are_ready;
  }

  -- one line
  module _ (left behind : List ℕ) (asked : Asked) (begun begun' : BegunLine) (far : Far gives calls before between left begun)
      (is : Ended far.line left asked behind begun') (after : S) (writes : List TransportCall) (result : Result (Unit {0}) RunFault)
      (done : Done gives (far.line ++ is.front) between after writes result) where
    one : Served
    one = record { line = far.line ++ is.front; call = done.call; answer = done.answer }

    is_one : IsServed one
    unfolding one
    is_one = (is.is_line, done.is_answer)

    serves-one : Serves gives before (far.served ++ one ∷ []) after
    unfolding one
    serves-one = serves_more gives before between after far.served one far.serves is_one done.turns

    no_reads-one : reads_in writes ≡ 0
    no_reads-one = writes_read_nothing writes done.put.are_writes

    read-one : bytes_read (calls ++ writes) ≡ lines_text (far.served ++ one ∷ []) ++ behind
    unfolding one
    read-one =
        read_no_more calls writes no_reads-one
        ∙ far.read_is
        ∙ ap (λ l. lines_text far.served ++ (far.line ++ l)) is.bytes_are
        ∙ ap (λ l. lines_text far.served ++ l) (sym (append_assoc far.line is.front (line_feed ∷ behind)) ∙ sym (append_assoc (far.line ++ is.front) (line_feed ∷ []) behind))
        ∙ sym (append_assoc (lines_text far.served) (ended (far.line ++ is.front)) behind)
        ∙ ap (λ l. l ++ behind) (sym (one_more (λ s. ended s.line) far.served one))

    ready-one : ReadsAreReady gives before (calls ++ writes)
    ready-one = ready_more gives before calls writes no_reads-one far.reads_are_ready

    pub far_line : (u : Unit {0}) → result ≡ Ok u → Far gives (calls ++ writes) before after behind begun'
    unfolding one
    far_line u ok = let put : (bytes_written writes ≡ ended done.answer) × GoOn writes = rw ok at done.put.outcome in record {
      served = far.served ++ one ∷ [];
      line = [];
      read_is = read-one;
      serves = serves-one;
      written =
          bytes_written-append calls writes
          ∙ ap (λ l. l ++ bytes_written writes) far.written
          ∙ ap (λ l. answers_text far.served ++ l) put.0
          ∙ sym (one_more (λ s. ended s.answer) far.served one);
      is_line = (refl, omega arith);
      begun_is = is.begun_is;
      go_on = go_on-append calls writes far.go_on put.1;
      reads_are_ready = ready-one;
    }

    pub far_line_fault : (fault : RunFault) → result ≡ Err fault → Stopped gives (Err (Fault fault)) (calls ++ writes) before after
    unfolding one
    far_line_fault fault err =
        let put : (fault ≡ faults.Write) × WritesFail writes = rw err at done.put.outcome in
        rw (put.0) (record {
          ran = record {
            served = far.served ++ one ∷ [];
            rest = behind;
            read_is = read-one;
            serves = serves-one;
            ends_so = record {
              answered = far.served;
              last = one ∷ [];
              served_are = refl;
              at_most_one = lit≤ tt;
              earlier = calls;
              failed = writes;
              calls_are = refl;
              all_written = far.written;
              go_on = far.go_on;
              fail = put.1;
            };
          };
          reads_are_ready = ready-one;
        })

-- one read, right after a flush
module _ {S : Type 0} (gives : S → Request → Reply → S → Type 0) (calls : List TransportCall) (before between : S) (begun : BegunLine) (far : Far gives calls before between [] begun) (flush : TransportCall) (flushed : flush ≡ Flushes (Ok tt)) (got : Result (List ℕ) TransportFault) where
  ready : List TransportCall
  ready = calls ++ flush ∷ []

  far-ready : Far gives ready before between [] begun
  unfolding ready
  far-ready =
      far_silent gives calls before between (flush ∷ []) [] begun (ap (λ c. reads_in (c ∷ [])) flushed) (ap (λ c. bytes_written (c ∷ [])) flushed) (ap (λ c. list_all goes_on (c ∷ [])) flushed) far

  now : List TransportCall
  now = ready ++ Reads got ∷ []

  reads-now : ReadsAreReady gives before now
  unfolding ready now
  reads-now =
      ready_read gives before ready (Reads got) far-ready.reads_are_ready (record {
        earlier = calls;
        flushed = ap (λ c. calls ++ c ∷ []) flushed;
        now = between;
        answered = far_answered gives ready before between begun far-ready;
      })

  read-now : bytes_read now ≡ lines_text far-ready.served ++ (far-ready.line ++ read_by (Reads got))
  unfolding now
  read-now =
      bytes_read-append ready (Reads got ∷ [])
      ∙ ap (λ l. l ++ (read_by (Reads got) ++ [])) (far-ready.read_is ∙ ap (λ l. lines_text far-ready.served ++ l) (append-nil far-ready.line))
      ∙ append_assoc (lines_text far-ready.served) far-ready.line (read_by (Reads got) ++ [])
      ∙ ap (λ l. lines_text far-ready.served ++ (far-ready.line ++ l)) (append-nil (read_by (Reads got)))

  written-now : bytes_written now ≡ answers_text far-ready.served
  unfolding now
  written-now = bytes_written-append ready (Reads got ∷ []) ∙ append-nil (bytes_written ready) ∙ far-ready.written

  -- a read after which the run goes on
  far-now : (bytes : List ℕ) → read_by (Reads got) ≡ bytes → goes_on (Reads got) ≡ true → Far gives now before between bytes begun
  unfolding now
  far-now bytes is go = record {
    served = far-ready.served;
    line = far-ready.line;
    read_is = read-now ∙ ap (λ l. lines_text far-ready.served ++ (far-ready.line ++ l)) is;
    serves = far-ready.serves;
    written = written-now;
    is_line = far-ready.is_line;
    begun_is = far-ready.begun_is;
    go_on = go_on-append ready (Reads got ∷ []) far-ready.go_on (ap (λ t. t && true) go);
    reads_are_ready = reads-now;
  }

  pub far_read : (buffer : List ℕ) (count : ℕ) → 0 < count → count ≤ length buffer → got ≡ Ok (take count buffer)
      → Far gives ((calls ++ flush ∷ []) ++ Reads got ∷ []) before between (take count buffer) begun
  unfolding ready now
  far_read buffer count some within is =
      far-now (take count buffer) (ap (λ r. read_by (Reads r)) is) (ap (λ r. goes_on (Reads r)) is ∙ some_given buffer count some within)

  pub far_interrupted : got ≡ Err Interrupted → Far gives ((calls ++ flush ∷ []) ++ Reads got ∷ []) before between [] begun
  unfolding ready now
  far_interrupted is = far-now [] (ap (λ r. read_by (Reads r)) is) (ap (λ r. goes_on (Reads r)) is)

  -- a read that ends the run, as it gave nothing
  answered-now : read_by (Reads got) ≡ [] → Ran gives (AllAnswered now) (bytes_read now) before between
  answered-now nothing = record {
    served = far-ready.served;
    rest = far-ready.line;
    read_is = read-now ∙ ap (λ l. lines_text far-ready.served ++ l) (ap (λ l. far-ready.line ++ l) nothing ∙ append-nil far-ready.line);
    serves = far-ready.serves;
    ends_so = (written-now, far-ready.is_line);
  }

  ended-now : (last : Result (List ℕ) TransportFault) → got ≡ last → EndedBy (Reads last) now
  unfolding now
  ended-now last is = (ready, ap (λ r. ready ++ Reads r ∷ []) is, far-ready.go_on)

  pub far_ends : (u : Unit {0}) → got ≡ Ok [] → Stopped gives (Ok u) ((calls ++ flush ∷ []) ++ Reads got ∷ []) before between
  unfolding ready now
  far_ends u is = let ran = answered-now (ap (λ r. read_by (Reads r)) is) in record {
    ran = record {
      served = ran.served;
      rest = ran.rest;
      read_is = ran.read_is;
      serves = ran.serves;
      ends_so = (ran.ends_so, ended-now (Ok []) is);
    };
    reads_are_ready = reads-now;
  }

  pub far_read_fault : got ≡ Err Failed → Stopped gives (Err (Fault faults.Read)) ((calls ++ flush ∷ []) ++ Reads got ∷ []) before between
  unfolding ready now
  far_read_fault is = let ran = answered-now (ap (λ r. read_by (Reads r)) is) in record {
    ran = record {
      served = ran.served;
      rest = ran.rest;
      read_is = ran.read_is;
      serves = ran.serves;
      ends_so = (ran.ends_so, inl (ended-now (Err Failed) is));
    };
    reads_are_ready = reads-now;
  }

pub far_begins : {S : Type 0} (gives : S → Request → Reply → S → Type 0) (before : S) (begun : BegunLine) → IsBegun begun [] → Far gives [] before before [] begun
far_begins gives before begun begins = record {
  served = [];
  line = [];
  read_is = refl;
  serves = refl;
  written = refl;
  is_line = (refl, omega arith);
  begun_is = begins;
  go_on = refl;
  reads_are_ready = ready_none gives before;
}

pub stopped_as : {S : Type 0} (gives : S → Request → Reply → S → Type 0) (result result' : Result (Unit {0}) Stop) (calls : List TransportCall) (before after : S) → result' ≡ result
    → Stopped gives result calls before after → Stopped gives result' calls before after
stopped_as gives result result' calls before after is stopped = subst (λ r. Stopped gives r calls before after) (sym is) stopped

pub none_stops : {S : Type 0} (gives : S → Request → Reply → S → Type 0) (before : S) → Stopped gives (Err (Fault faults.Memory)) [] before before
none_stops gives before = record {
  ran = record { served = []; rest = []; read_is = refl; serves = refl; ends_so = refl };
  reads_are_ready = ready_none gives before;
}

-- The refusal of a line that is too long.

pub refused_whole : (puts : List TransportCall) (last : TransportCall) (text : List ℕ) (u v : Unit {0}) → IsPut text puts (Ok u) → last ≡ Flushes (Ok tt) → text ≡ ended malformed_line
    → IsRefused (puts ++ last ∷ []) (Ok v)
refused_whole puts last text u v put flushes is = record {
  no_reads = no_reads_both puts (last ∷ []) (writes_read_nothing puts put.are_writes) (ap (λ c. reads_in (c ∷ [])) flushes);
  outcome = (
    written_with puts last [] (ap written_by flushes) ∙ append-nil (bytes_written puts) ∙ put.outcome.0 ∙ is,
    (puts, ap (λ c. puts ++ c ∷ []) flushes, put.outcome.1),
  );
}

-- The end of a run.

pub stopped_is_run : {S : Type 0} (gives : S → Request → Reply → S → Type 0) (fault : RunFault) (calls : List TransportCall) (before after : S) → reads_in calls ≤ READS_MAX
    → Stopped gives (Err (Fault fault)) calls before after → IsRun gives (Err fault) calls before after
stopped_is_run gives fault calls before after within stopped = record { ran = stopped.ran; reads_are_ready = stopped.reads_are_ready; reads_within = within }

pub ended_is_run : {S : Type 0} (gives : S → Request → Reply → S → Type 0) (u : Unit {0}) (calls : List TransportCall) (before after : S) → reads_in calls ≤ READS_MAX
    → Stopped gives (Ok u) calls before after → IsRun gives (Ok ends.End) calls before after
ended_is_run gives u calls before after within stopped = record { ran = stopped.ran; reads_are_ready = stopped.reads_are_ready; reads_within = within }

module _ {S : Type 0} (gives : S → Request → Reply → S → Type 0) (calls more : List TransportCall) (before after : S) (within : reads_in calls ≤ READS_MAX)
    (stopped : Stopped gives (Err TooLong) calls before after) where
  within-more : reads_in more ≡ 0 → reads_in (calls ++ more) ≤ READS_MAX
  within-more none = let e = reads_in-append calls more in omega arith

  pub refused_is_run : (u : Unit {0}) → IsRefused more (Ok u) → IsRun gives (Ok ends.TooLong) (calls ++ more) before after
  refused_is_run u refused = record {
    ran = record {
      served = stopped.ran.served;
      rest = stopped.ran.rest;
      read_is = read_no_more calls more refused.no_reads ∙ stopped.ran.read_is;
      serves = stopped.ran.serves;
      ends_so = (
        bytes_written-append calls more
            ∙ ap (λ l. l ++ bytes_written more) stopped.ran.ends_so.0
            ∙ ap (λ l. answers_text stopped.ran.served ++ l) refused.outcome.0,
        stopped.ran.ends_so.1,
        ended_later calls more (Flushes (Ok tt)) stopped.ran.ends_so.2 refused.outcome.1,
      );
    };
    reads_are_ready = ready_more gives before calls more refused.no_reads stopped.reads_are_ready;
    reads_within = within-more refused.no_reads;
  }

  pub unrefused_is_run : (fault : RunFault) → IsRefused more (Err fault) → IsRun gives (Err fault) (calls ++ more) before after
  unrefused_is_run fault refused = rw (refused.outcome.0) (record {
    ran = record {
      served = stopped.ran.served;
      rest = stopped.ran.rest;
      read_is = read_no_more calls more refused.no_reads ∙ stopped.ran.read_is;
      serves = stopped.ran.serves;
      ends_so = record {
        answered = stopped.ran.served;
        last = [];
        served_are = sym (append-nil stopped.ran.served);
        at_most_one = lit≤ tt;
        earlier = calls;
        failed = more;
        calls_are = refl;
        all_written = stopped.ran.ends_so.0;
        go_on = stopped.ran.ends_so.2;
        fail = refused.outcome.1;
      };
    };
    reads_are_ready = ready_more gives before calls more refused.no_reads stopped.reads_are_ready;
    reads_within = within-more refused.no_reads;
  })
