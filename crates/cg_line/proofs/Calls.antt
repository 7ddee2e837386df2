-- Lists of calls.
use Rattle.std.proofs.Common.{◌≡◌, ℕ, ◌+◌, ◌<◌, ◌≤◌, ◌⊎◌, inl, inr, true, ◌&&◌, zero, suc, List, [], ◌∷◌, ◌++◌, length, take, Option, Result, Ok, sym, ap, ◌∙◌, refl, subst, append_assoc, append-nil, length-append, arith}
use Rattle.std.specs.List.{list_all}
use Rattle.std.specs.Io.KnownBytes.{Appends, Consumes, IsAtEnd}
use Rattle.std.proofs.lemmas.Grind.{flat_map-append}
use Rattle.std.proofs.lemmas.List.Folds.{list_all-append}
use Rattle.cg_line.specs.declared.transport_fault.TransportFault.{TransportFault}
use Rattle.cg_line.specs.Calls.{EndedBy, Flushes, GoOn, Made, Reads, TransportCall, Writes, bytes_read, bytes_written, fails_to_write, goes_on, is_write, read_by, reads_in, written_by}
use Rattle.cg_line.specs.StdCalls.{StdCall}
use Rattle.cg_line.proofs.Known.{appends_nothing, appends_then, consumes_nothing, consumes_then}

-- Calls that were made.

module _ {T : Type 0} (does : T → TransportCall → T → Type 0) where
  pub made_then : (a b c : T) (xs ys : List TransportCall) → Made does a xs b → Made does b ys c → Made does a (xs ++ ys) c
  made_then a b c [] ys p q =
      let P : T → Type 0 = λ t. Made does t ys c in subst P p q
  made_then a b c (x ∷ xs) ys p q = (p.0, p.1, made_then p.0 b c xs ys p.2 q)

  pub made_one : (a b : T) (call : TransportCall) → does a call b → Made does a (call ∷ []) b
  made_one a b call d = (b, d, refl)

  pub made_more : (a b c : T) (xs : List TransportCall) (call : TransportCall) → Made does a xs b → does b call c → Made does a (xs ++ call ∷ []) c
  made_more a b c xs call p d = made_then a b c xs (call ∷ []) p (made_one b c call d)

  pub made_split : (a c : T) (xs ys : List TransportCall) → Made does a (xs ++ ys) c → (b : T) × Made does a xs b × Made does b ys c
  made_split a c [] ys p = (a, refl, p)
  made_split a c (x ∷ xs) ys p =
      let rest = made_split p.0 c xs ys p.2 in (rest.0, (p.0, p.1, rest.1), rest.2)

-- Bytes and counts.

pub bytes_read-append : (xs ys : List TransportCall) → bytes_read (xs ++ ys) ≡ bytes_read xs ++ bytes_read ys
bytes_read-append xs ys = flat_map-append read_by xs ys

pub bytes_written-append : (xs ys : List TransportCall) → bytes_written (xs ++ ys) ≡ bytes_written xs ++ bytes_written ys
bytes_written-append xs ys = flat_map-append written_by xs ys

pub reads_in-append : (xs ys : List TransportCall) → reads_in (xs ++ ys) ≡ reads_in xs + reads_in ys
reads_in-append [] ys = omega arith
reads_in-append (Reads got ∷ xs) ys = let e = reads_in-append xs ys in omega arith
reads_in-append (Writes bytes taken ∷ xs) ys = reads_in-append xs ys
reads_in-append (Flushes done ∷ xs) ys = reads_in-append xs ys

pub go_on-append : (xs ys : List TransportCall) → GoOn xs → GoOn ys → GoOn (xs ++ ys)
go_on-append xs ys p q = list_all-append goes_on xs ys ∙ ap (λ t. t && list_all goes_on ys) p ∙ q

pub no_reads_no_bytes : (calls : List TransportCall) → reads_in calls ≡ 0 → bytes_read calls ≡ []
no_reads_no_bytes [] none = refl
no_reads_no_bytes (Reads got ∷ calls) none = absurd (omega arith)
no_reads_no_bytes (Writes bytes taken ∷ calls) none = no_reads_no_bytes calls none
no_reads_no_bytes (Flushes done ∷ calls) none = no_reads_no_bytes calls none

pub read_no_more : (calls more : List TransportCall) → reads_in more ≡ 0 → bytes_read (calls ++ more) ≡ bytes_read calls
read_no_more calls more none =
    bytes_read-append calls more ∙ ap (λ l. bytes_read calls ++ l) (no_reads_no_bytes more none) ∙ append-nil (bytes_read calls)

pub writes_read_nothing : (calls : List TransportCall) → list_all is_write calls ≡ true → reads_in calls ≡ 0
writes_read_nothing [] all = refl
writes_read_nothing (Reads got ∷ calls) all = absurd (cc)
writes_read_nothing (Writes bytes taken ∷ calls) all = writes_read_nothing calls all
writes_read_nothing (Flushes done ∷ calls) all = absurd (cc)

pub failing_reads_nothing : (call : TransportCall) → fails_to_write call ≡ true → reads_in (call ∷ []) ≡ 0
failing_reads_nothing (Reads got) fails = absurd (cc)
failing_reads_nothing (Writes bytes taken) fails = refl
failing_reads_nothing (Flushes done) fails = refl

pub no_reads_both : (xs ys : List TransportCall) → reads_in xs ≡ 0 → reads_in ys ≡ 0 → reads_in (xs ++ ys) ≡ 0
no_reads_both xs ys p q = let e = reads_in-append xs ys in omega arith

pub no_reads_then : (calls : List TransportCall) (call : TransportCall) → reads_in calls ≡ 0 → fails_to_write call ≡ true → reads_in (calls ++ call ∷ []) ≡ 0
no_reads_then calls call none fails = reads_in-append calls (call ∷ []) ∙ (let e = failing_reads_nothing call fails in omega arith)

pub ended_later : (calls more : List TransportCall) (last : TransportCall) → GoOn calls → EndedBy last more → EndedBy last (calls ++ more)
ended_later calls more last go_on by =
    (calls ++ by.0, ap (λ l. calls ++ l) by.1 ∙ sym (append_assoc calls by.0 (last ∷ [])), go_on-append calls by.0 go_on by.2)

-- A call among two lists of calls.

pub found : (xs ys earlier later : List TransportCall) (call : TransportCall) → xs ++ ys ≡ earlier ++ call ∷ later
    → ((rest : List TransportCall) × (xs ≡ earlier ++ call ∷ rest)) ⊎ ((more : List TransportCall) × (earlier ≡ xs ++ more) × (ys ≡ more ++ call ∷ later))
found [] ys earlier later call is = inr (earlier, refl, is)
found (x ∷ xs) ys [] later call is = let same : x ≡ call = cc in inl (xs, ap (λ c. c ∷ xs) same)
found (x ∷ xs) ys (e ∷ earlier) later call is =
    let same : x ≡ e = cc in
    let rest : xs ++ ys ≡ earlier ++ call ∷ later = cc in
    elim (found xs ys earlier later call rest) as (λ f. ((rest : List TransportCall) × ((x ∷ xs) ≡ (e ∷ earlier) ++ call ∷ rest)) ⊎ ((more : List TransportCall) × ((e ∷ earlier) ≡ (x ∷ xs) ++ more) × (ys ≡ more ++ call ∷ later))) [
      | inl l ↦ inl (l.0, let s = l.1 in cc)
      | inr r ↦ inr (r.0, (let s = r.1 in cc), r.2)
    ]

pub not_among_none : (earlier later : List TransportCall) (call : TransportCall) → [] ≡ earlier ++ call ∷ later → ⊥
not_among_none [] later call is = cc
not_among_none (e ∷ earlier) later call is = cc

reads_before : (earlier later : List TransportCall) (got : Result (List ℕ) TransportFault) → 0 < reads_in (earlier ++ Reads got ∷ later)
reads_before earlier later got = let e = reads_in-append earlier (Reads got ∷ later) in omega arith

pub found_read : (xs ys earlier later : List TransportCall) (got : Result (List ℕ) TransportFault) → reads_in ys ≡ 0 → xs ++ ys ≡ earlier ++ Reads got ∷ later
    → (rest : List TransportCall) × (xs ≡ earlier ++ Reads got ∷ rest)
found_read xs ys earlier later got none is =
    elim (found xs ys earlier later (Reads got) is) as (λ f. (rest : List TransportCall) × (xs ≡ earlier ++ Reads got ∷ rest)) [
      | inl l ↦ l
      | inr r ↦ let some = reads_before r.0 later got in let count = ap reads_in r.2 in absurd (omega arith)
    ]

pub found_last : (xs earlier later : List TransportCall) (last call : TransportCall) → xs ++ last ∷ [] ≡ earlier ++ call ∷ later
    → ((rest : List TransportCall) × (xs ≡ earlier ++ call ∷ rest)) ⊎ (xs ≡ earlier)
found_last xs earlier later last call is =
    elim (found xs (last ∷ []) earlier later call is) as (λ f. ((rest : List TransportCall) × (xs ≡ earlier ++ call ∷ rest)) ⊎ (xs ≡ earlier)) [
      | inl l ↦ inl l
      | inr r ↦ inr (at_last r.0 r.1 r.2)
    ] where
      at_last : (more : List TransportCall) → earlier ≡ xs ++ more → last ∷ [] ≡ more ++ call ∷ later → xs ≡ earlier
      at_last [] e f = sym (append-nil xs) ∙ sym e
      at_last (m ∷ more) e f = absurd (not_among_none more later call (cc))

-- Calls on a reader and a writer of std.

module _ {T : Type 0} (left held : T → Option (List ℕ)) where
  abbrev does : T → TransportCall → T → Type 0
  does before call after = StdCall call (left before) (left after) (held before) (held after)

  pub std_read : (before after : T) (calls : List TransportCall) → Made does before calls after → Consumes (left before) (left after) (bytes_read calls)
  std_read before after [] same = let P : T → Type 0 = λ t. Consumes (left before) (left t) [] in subst P (sym same) (consumes_nothing (left before))
  std_read before after (call ∷ calls) made =
      consumes_then (left before) (left made.0) (left after) (read_by call) (bytes_read calls) made.1.consumes (std_read made.0 after calls made.2)

  pub std_written : (before after : T) (calls : List TransportCall) → Made does before calls after → Appends (held before) (held after) (bytes_written calls)
  std_written before after [] same = let P : T → Type 0 = λ t. Appends (held before) (held t) [] in subst P (sym same) (appends_nothing (held before))
  std_written before after (call ∷ calls) made =
      appends_then (held before) (held made.0) (held after) (written_by call) (bytes_written calls) made.1.appends (std_written made.0 after calls made.2)

  pub std_end : (before after : T) (calls : List TransportCall) → Made does before calls after → EndedBy (Reads (Ok [])) calls → IsAtEnd (left after)
  std_end before after calls made by =
      let parts = made_split does before after by.0 (Reads (Ok []) ∷ []) (let P : List TransportCall → Type 0 = λ l. Made does before l after in subst P by.1 made) in
      let P : T → Type 0 = λ t. IsAtEnd (left t) in
      subst P (sym parts.2.2) (parts.2.1.at_end refl)

-- One read after a flush.

pub reads_counted : (calls : List TransportCall) (flush : TransportCall) (got : Result (List ℕ) TransportFault) (n : ℕ) → flush ≡ Flushes (Ok tt) → reads_in calls ≡ n
    → reads_in ((calls ++ flush ∷ []) ++ Reads got ∷ []) ≡ n + 1
reads_counted calls flush got n is count =
    let one = reads_in-append (calls ++ flush ∷ []) (Reads got ∷ []) in
    let two = reads_in-append calls (flush ∷ []) in
    let none : reads_in (flush ∷ []) ≡ 0 = ap (λ c. reads_in (c ∷ [])) is in
    omega arith

pub some_given : (bytes : List ℕ) (count : ℕ) → 0 < count → count ≤ length bytes → goes_on (Reads (Ok (take count bytes))) ≡ true
some_given bytes zero some within = absurd (omega arith)
some_given [] (suc count) some within = absurd (omega arith)
some_given (b ∷ bytes) (suc count) some within = refl

-- Writes of one text.

pub writes_more : (writes : List TransportCall) (call : TransportCall) → list_all is_write writes ≡ true → is_write call ≡ true → list_all is_write (writes ++ call ∷ []) ≡ true
writes_more writes call all one = list_all-append is_write writes (call ∷ []) ∙ ap (λ t. t && (is_write call && true)) all ∙ ap (λ t. t && true) one

pub go_on_more : (calls : List TransportCall) (call : TransportCall) → GoOn calls → goes_on call ≡ true → GoOn (calls ++ call ∷ [])
go_on_more calls call all one = go_on-append calls (call ∷ []) all (ap (λ t. t && true) one)

pub written_with : (calls : List TransportCall) (call : TransportCall) (more : List ℕ) → written_by call ≡ more → bytes_written (calls ++ call ∷ []) ≡ bytes_written calls ++ more
written_with calls call more is = bytes_written-append calls (call ∷ []) ∙ ap (λ l. bytes_written calls ++ l) (append-nil (written_by call) ∙ is)

pub length_more : (calls : List TransportCall) (call : TransportCall) → length (calls ++ call ∷ []) ≡ length calls + 1
length_more calls call = length-append calls (call ∷ [])

pub ended_by : (calls : List TransportCall) (call : TransportCall) → GoOn calls → EndedBy call (calls ++ call ∷ [])
ended_by calls call go_on = (calls, refl, go_on)
