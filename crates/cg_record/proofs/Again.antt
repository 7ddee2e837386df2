-- A second decoding of the same bytes gives the same values.
use Rattle.std.proofs.Common.{◌≡◌, ℕ, zero, suc, ◌+◌, ◌-◌, ◌<◌, ◌≤◌, Bool, true, false, cond, leb, List, [], ◌∷◌, ◌++◌, length, Option, Ok, Err, refl, sym, ap, subst, ◌∙◌, append_assoc, arith}
use Rattle.std.specs.Prelude.{◌||◌, IsOk}
use Rattle.std.specs.List.{list_any}
use Rattle.std.proofs.lemmas.List.{append-nil}
use Rattle.std.proofs.lemmas.List.Sums.{sum_by_push}
use Rattle.std.proofs.lemmas.Bool.{leb-true, le-leb}
use Rattle.std.proofs.lemmas.List.Folds.{list_any-append}
use Rattle.cg_record.specs.declared.format.Version.{Version}
use Rattle.cg_record.specs.declared.fault.RecordFault.{RecordFault}
use Rattle.cg_record.specs.declared.command.Command.{Command}
use Rattle.cg_record.specs.declared.entry.Entry.{Entry}
use Rattle.cg_record.specs.declared.topic_partition.TopicPartition.{TopicPartition}
use Rattle.cg_record.specs.declared.member_record.MemberRecord.{MemberRecord}
use Rattle.cg_names.specs.declared.name.TheConstants.{NAME_BYTES_MAX, MEMBER_ID_BYTES_MAX}
use Rattle.cg_record.specs.declared.entries.TheConstants.{COMMIT_METADATA_BYTES_MAX}
use Rattle.cg_record.specs.declared.metadata.TheConstants.{METADATA_BYTES_MAX}
use Rattle.cg_record.specs.declared.offset.TheConstants.{OFFSET_MAX}
use Rattle.cg_record.specs.declared.fault.RecordFault.TheVariants.{BadLength, Repeated}
use Rattle.cg_record.specs.Keys.{is_of, metadata_bytes, metadata_room}
use Rattle.cg_record.specs.Partitions.{are_one}
use Rattle.cg_record.specs.Rosters.{has_id, has_instance}
use Rattle.cg_record.specs.Members.{Profile, member_of, profile_at, member_at}
use Rattle.cg_record.specs.Fields.{Read, ◌>>=◌, only, at_most, four_at, eight_at, bytes_at, name_at, optional_name_at, text_at, many_at}
use Rattle.cg_record.specs.Reading.{Skips, is_new, key_at, kept_at, entry_at, is_new_partition, partition_at, command_at, commands_to_end}
use Rattle.cg_record.proofs.Laws.{bind_ok, ok_is, test_ok}
use Rattle.cg_record.proofs.CommitLaws.{entry_of, room_small}
use Rattle.cg_record.proofs.Steps.{many_step, many_on, many_end, IsLeft, left_step, commands_start, commands_on, commands_end}

-- values that are decoded after others are appended to them
many_append : {X : Type 0} (at : List X → List ℕ → Read X) (n : ℕ) (front : List X) (bytes : List ℕ) (all : List X) (rest : List ℕ) → many_at at n front bytes ≡ Ok (all, rest) → (more : List X) × (all ≡ front ++ more)
unfolding many_at
many_append {X} at zero front bytes all rest e =
    ([], ap (λ (y : List X × List ℕ). y.0) (sym (ok_is (front, bytes) (all, rest) e)) ∙ sym (append-nil front))
many_append {X} at (suc n) front bytes all rest e =
    let b = bind_ok (at front bytes) (λ next. many_at at n (front ++ next.0 ∷ []) next.1) (all, rest) e in
    let m = many_append at n (front ++ b.0.0 ∷ []) b.0.1 all rest b.2 in
    (b.0.0 ∷ m.0, m.1 ∙ append_assoc front (b.0.0 ∷ []) m.0)

absorbed : (a b : Bool) → ((a || (true || false)) || b) ≡ true
absorbed true b = refl
absorbed false b = refl

-- none of the values decoded so far passes the test
pub record IsUnmet {X : Type 0} (at : List X → List ℕ → Read X) (count i : ℕ) (passes : X → Bool) (whole : List X) (end : List ℕ) (rest : List ℕ) : Type 0 where
  pub front : List X
  pub reads : many_at at (count - i) front rest ≡ Ok (whole, end)
  pub none : list_any passes front ≡ false

-- the next value
pub unmet_next : {X : Type 0} (at : List X → List ℕ → Read X) (count i : ℕ) (passes : X → Bool) (whole : List X) (end rest : List ℕ) (unmet : IsUnmet at count i passes whole end rest) → i < count
    → (x : X × List ℕ) × (at unmet.front rest ≡ Ok x) × (many_at at (count - (i + 1)) (unmet.front ++ x.0 ∷ []) x.1 ≡ Ok (whole, end))
unmet_next at count i passes whole end rest unmet lt =
    bind_ok (at unmet.front rest) (λ next. many_at at (count - (i + 1)) (unmet.front ++ next.0 ∷ []) next.1) (whole, end) (sym (many_step at count i unmet.front rest lt) ∙ unmet.reads)

-- the value passes the test
pub unmet_hit : {X : Type 0} (at : List X → List ℕ → Read X) (n : ℕ) (passes : X → Bool) (front : List X) (x : X) (whole : List X) (end after : List ℕ) → many_at at n (front ++ x ∷ []) after ≡ Ok (whole, end) → passes x ≡ true → list_any passes whole ≡ true
unmet_hit at n passes front x whole end after reads hit =
    let m = many_append at n (front ++ x ∷ []) after whole end reads in
    rw (m.1, list_any-append passes (front ++ x ∷ []) m.0, list_any-append passes front (x ∷ []), hit) (absorbed (list_any passes front) (list_any passes m.0))

-- the value fails the test
pub unmet_on : {X : Type 0} (at : List X → List ℕ → Read X) (count i : ℕ) (passes : X → Bool) (whole : List X) (end rest : List ℕ) (unmet : IsUnmet at count i passes whole end rest) (x : X) (after : List ℕ)
    → many_at at (count - (i + 1)) (unmet.front ++ x ∷ []) after ≡ Ok (whole, end) → passes x ≡ false → IsUnmet at count (i + 1) passes whole end after
unmet_on at count i passes whole end rest unmet x after reads miss =
    record { front = unmet.front ++ x ∷ []; reads = reads; none = rw (list_any-append passes unmet.front (x ∷ []), unmet.none, miss) refl }

-- no value is left
pub unmet_end : {X : Type 0} (at : List X → List ℕ → Read X) (count i : ℕ) (passes : X → Bool) (whole : List X) (end rest : List ℕ) → IsUnmet at count i passes whole end rest → count ≤ i → list_any passes whole ≡ false
unmet_end {X} at count i passes whole end rest unmet le =
    let done = many_end at count i unmet.front rest (Ok (whole, end)) le unmet.reads in
    let same : whole ≡ unmet.front = ap (λ (y : List X × List ℕ). y.0) (ok_is (whole, end) (unmet.front, rest) done) in
    rw same unmet.none

-- one more value after those that were decoded
pub many_snoc : {X : Type 0} (at : List X → List ℕ → Read X) (n : ℕ) (front : List X) (bytes : List ℕ) (all : List X) (rest : List ℕ) (x : X) (after : List ℕ) → many_at at n front bytes ≡ Ok (all, rest) → at all rest ≡ Ok (x, after) → many_at at (n + 1) front bytes ≡ Ok (all ++ x ∷ [], after)
unfolding many_at
many_snoc {X} at zero front bytes all rest x after reads next =
    let same = ok_is (front, bytes) (all, rest) reads in
    let all_is : all ≡ front = ap (λ (y : List X × List ℕ). y.0) (sym same) in
    let rest_is : rest ≡ bytes = ap (λ (y : List X × List ℕ). y.1) (sym same) in
    let here : at front bytes ≡ Ok (x, after) = rw (← all_is, ← rest_is) next in
    rw (here, ← all_is) refl
many_snoc {X} at (suc n) front bytes all rest x after reads next =
    let b = bind_ok (at front bytes) (λ next. many_at at n (front ++ next.0 ∷ []) next.1) (all, rest) reads in
    let more = many_snoc at n (front ++ b.0.0 ∷ []) b.0.1 all rest x after b.2 next in
    let k : suc n + 1 ≡ suc (n + 1) = omega arith in
    ap (λ (m : ℕ). many_at at m front bytes) k ∙ rw b.1 more

-- ---- checks of values

-- an entry, from its parts
pub entry_reads : (front : List Entry) (bytes : List ℕ) (key : TopicPartition) (rest : List ℕ) (room offset : ℕ) (metadata after : List ℕ) → key_at bytes ≡ Ok (key, rest) → list_any (is_of key) front ≡ false → room ≡ metadata_room front → kept_at room rest ≡ Ok ((offset, metadata), after)
    → entry_at front bytes ≡ Ok (record { key = key; offset = offset; metadata = metadata }, after)
unfolding entry_at
entry_reads front bytes key rest room offset metadata after read new is kept =
    let same : kept_at (metadata_room front) rest ≡ Ok ((offset, metadata), after) = ap (λ (n : ℕ). kept_at n rest) (sym is) ∙ kept in
    rw (read, new, same) refl

-- a length that passes one limit passes a greater one
longer_passes : (n max more : ℕ) → leb n max ≡ true → max ≤ more → leb n more ≡ true
longer_passes n max more passes le = le-leb n more (omega (arith, leb-true n max passes, le))

kept_longer : (max more : ℕ) (bytes : List ℕ) (x : (ℕ × List ℕ) × List ℕ) → max ≤ more → kept_at max bytes ≡ Ok x → kept_at more bytes ≡ Ok x
unfolding kept_at text_at
kept_longer max more bytes x le e =
    let o = bind_ok (only (at_most OFFSET_MAX) BadLength (eight_at bytes)) (λ offset. only (at_most max) BadLength (four_at offset.1) >>= (λ size. bytes_at size.0 size.1) >>= λ metadata. Ok ((offset.0, metadata.0), metadata.1)) x e in
    let m = bind_ok (only (at_most max) BadLength (four_at o.0.1) >>= λ size. bytes_at size.0 size.1) (λ metadata. Ok ((o.0.0, metadata.0), metadata.1)) x o.2 in
    let s = bind_ok (only (at_most max) BadLength (four_at o.0.1)) (λ size. bytes_at size.0 size.1) m.0 m.1 in
    let f = bind_ok (four_at o.0.1) (λ size. cond (leb size.0 max) (Ok size) (Err BadLength)) s.0 s.1 in
    let t = test_ok (leb f.0.0 max) BadLength f.0 s.0 f.2 in
    let longer : leb f.0.0 more ≡ true = longer_passes f.0.0 max more t.0 le in
    let size_is : f.0 ≡ s.0 = t.1 in
    let read : bytes_at f.0.0 f.0.1 ≡ Ok m.0 = ap (λ (y : ℕ × List ℕ). bytes_at y.0 y.1) size_is ∙ s.2 in
    rw (o.1, f.1, longer, read) m.2

-- what a second decoding needs of an entry: the limit of its metadata may be the greatest
pub entry_again : (front : List Entry) (bytes : List ℕ) (e : Entry) (after : List ℕ) → entry_at front bytes ≡ Ok (e, after)
    → (rest : List ℕ) × (key_at bytes ≡ Ok (e.key, rest)) × (kept_at METADATA_BYTES_MAX rest ≡ Ok ((e.offset, e.metadata), after))
unfolding entry_at
entry_again front bytes e after h =
    let k = bind_ok (only (is_new front) Repeated (key_at bytes)) (λ key. kept_at (metadata_room front) key.1 >>= λ kept. Ok (entry_of key.0 kept.0, kept.1)) (e, after) h in
    let r = bind_ok (key_at bytes) (λ x. cond (is_new front x.0) (Ok x) (Err Repeated)) k.0 k.1 in
    let t = test_ok (is_new front r.0.0) Repeated r.0 k.0 r.2 in
    let p = bind_ok (kept_at (metadata_room front) k.0.1) (λ kept. Ok (entry_of k.0.0 kept.0, kept.1)) (e, after) k.2 in
    let same : (entry_of k.0.0 p.0.0, p.0.1) ≡ (e, after) = ok_is (entry_of k.0.0 p.0.0, p.0.1) (e, after) p.2 in
    let kept = kept_longer (metadata_room front) METADATA_BYTES_MAX k.0.1 p.0 (room_small (COMMIT_METADATA_BYTES_MAX - metadata_bytes front)) p.1 in
    let key : key_at bytes ≡ Ok k.0 = r.1 ∙ ap (λ (y : TopicPartition × List ℕ). Ok y) t.1 in
    subst (λ (y : Entry × List ℕ). (rest : List ℕ) × (key_at bytes ≡ Ok (y.0.key, rest)) × (kept_at METADATA_BYTES_MAX rest ≡ Ok ((y.0.offset, y.0.metadata), y.1))) same
    (k.0.1, key, kept)

-- a second decoding finds what the first found
pub again_found : (front : List Entry) (bytes : List ℕ) (e : Entry) (after : List ℕ) (key : TopicPartition) (rest : List ℕ) (offset : ℕ) (metadata end : List ℕ)
    → entry_at front bytes ≡ Ok (e, after) → key_at bytes ≡ Ok (key, rest) → kept_at METADATA_BYTES_MAX rest ≡ Ok ((offset, metadata), end) → (key ≡ e.key) × (length metadata ≡ length e.metadata) × (end ≡ after)
again_found front bytes e after key rest offset metadata end h k m =
    let a = entry_again front bytes e after h in
    let key_is : (key, rest) ≡ (e.key, a.0) = ok_is (key, rest) (e.key, a.0) (sym k ∙ a.1) in
    let rest_is : rest ≡ a.0 = ap (λ (y : TopicPartition × List ℕ). y.1) key_is in
    let kept_is : ((offset, metadata), end) ≡ ((e.offset, e.metadata), after) = ok_is ((offset, metadata), end) ((e.offset, e.metadata), after) (sym m ∙ ap (kept_at METADATA_BYTES_MAX) rest_is ∙ a.2) in
    (ap (λ (y : TopicPartition × List ℕ). y.0) key_is, ap (λ (y : (ℕ × List ℕ) × List ℕ). length y.0.1) kept_is, ap (λ (y : (ℕ × List ℕ) × List ℕ). y.1) kept_is)

-- and does not fail
pub again_kept : (front : List Entry) (bytes : List ℕ) (e : Entry) (after : List ℕ) (key : TopicPartition) (rest : List ℕ) (fault : RecordFault)
    → entry_at front bytes ≡ Ok (e, after) → key_at bytes ≡ Ok (key, rest) → kept_at METADATA_BYTES_MAX rest ≡ Err fault → ⊥
again_kept front bytes e after key rest fault h k m =
    let a = entry_again front bytes e after h in
    let key_is : (key, rest) ≡ (e.key, a.0) = ok_is (key, rest) (e.key, a.0) (sym k ∙ a.1) in
    let rest_is : rest ≡ a.0 = ap (λ (y : TopicPartition × List ℕ). y.1) key_is in
    let no = sym m ∙ ap (kept_at METADATA_BYTES_MAX) rest_is ∙ a.2 in
    absurd cc

-- a partition, from its decoding
pub partition_reads : (front : List TopicPartition) (bytes : List ℕ) (key : TopicPartition) (rest : List ℕ) → key_at bytes ≡ Ok (key, rest) → list_any (λ other. are_one other key) front ≡ false → partition_at front bytes ≡ Ok (key, rest)
unfolding partition_at
partition_reads front bytes key rest read new = rw (read, new) refl

pub partition_again : (front : List TopicPartition) (bytes : List ℕ) (p : TopicPartition) (after : List ℕ) → partition_at front bytes ≡ Ok (p, after) → key_at bytes ≡ Ok (p, after)
unfolding partition_at
partition_again front bytes p after h =
    let r = bind_ok (key_at bytes) (λ x. cond (is_new_partition front x.0) (Ok x) (Err Repeated)) (p, after) h in
    let t = test_ok (is_new_partition front r.0.0) Repeated r.0 (p, after) r.2 in
    r.1 ∙ ap (λ (y : TopicPartition × List ℕ). Ok y) t.1

-- a decoding does not both fail and succeed
pub not_both : (bytes : List ℕ) (fault : RecordFault) (p : TopicPartition) (after : List ℕ) → key_at bytes ≡ Err fault → key_at bytes ≡ Ok (p, after) → ⊥
not_both bytes fault p after failed read =
    let no = sym failed ∙ read in
    absurd cc

-- a partition that comes twice
pub partition_repeats : (front : List TopicPartition) (bytes : List ℕ) (key : TopicPartition) (rest : List ℕ) → key_at bytes ≡ Ok (key, rest) → list_any (λ other. are_one other key) front ≡ true → partition_at front bytes ≡ Err Repeated
unfolding partition_at
partition_repeats front bytes key rest read old = rw (read, old) refl

-- both decodings give the same partition
pub same_partition : (bytes : List ℕ) (a : TopicPartition) (after : List ℕ) (b : TopicPartition) (end : List ℕ) → key_at bytes ≡ Ok (a, after) → key_at bytes ≡ Ok (b, end) → (a ≡ b) × (after ≡ end)
same_partition bytes a after b end one other =
    let same : (a, after) ≡ (b, end) = ok_is (a, after) (b, end) (sym one ∙ other) in
    (ap (λ (y : TopicPartition × List ℕ). y.0) same, ap (λ (y : TopicPartition × List ℕ). y.1) same)

-- ---- the metadata of a commit

-- the bytes that are left of the limit after the entries decoded so far
pub record IsSummed (count i : ℕ) (whole : List Entry) (end rest : List ℕ) (room : ℕ) : Type 0 where
  pub front : List Entry
  pub reads : many_at entry_at (count - i) front rest ≡ Ok (whole, end)
  pub room_is : room ≡ COMMIT_METADATA_BYTES_MAX - metadata_bytes front

pub summed_start : (count : ℕ) (whole : List Entry) (end start : List ℕ) → many_at entry_at count [] start ≡ Ok (whole, end) → IsSummed count 0 whole end start COMMIT_METADATA_BYTES_MAX
summed_start count whole end start h =
    let all : count - 0 ≡ count = omega arith in
    record { front = []; reads = ap (λ (n : ℕ). many_at entry_at n [] start) all ∙ h; room_is = omega arith }

pub summed_next : (count i : ℕ) (whole : List Entry) (end rest : List ℕ) (room : ℕ) (s : IsSummed count i whole end rest room) → i < count
    → (x : Entry × List ℕ) × (entry_at s.front rest ≡ Ok x) × (many_at entry_at (count - (i + 1)) (s.front ++ x.0 ∷ []) x.1 ≡ Ok (whole, end))
summed_next count i whole end rest room s lt =
    bind_ok (entry_at s.front rest) (λ next. many_at entry_at (count - (i + 1)) (s.front ++ next.0 ∷ []) next.1) (whole, end) (sym (many_step entry_at count i s.front rest lt) ∙ s.reads)

pub summed_on : (count i : ℕ) (whole : List Entry) (end rest : List ℕ) (room : ℕ) (s : IsSummed count i whole end rest room) (x : Entry) (after : List ℕ) (size more : ℕ)
    → many_at entry_at (count - (i + 1)) (s.front ++ x ∷ []) after ≡ Ok (whole, end) → size ≡ length x.metadata → more ≡ room - size → IsSummed count (i + 1) whole end after more
summed_on count i whole end rest room s x after size more reads size_is more_is =
    record { front = s.front ++ x ∷ []; reads = reads; room_is = omega (arith, s.room_is, size_is, more_is, sum_by_push (λ (e : Entry). length e.metadata) s.front x) }

pub summed_end : (count i : ℕ) (whole : List Entry) (end rest : List ℕ) (room : ℕ) → IsSummed count i whole end rest room → count ≤ i → room ≡ COMMIT_METADATA_BYTES_MAX - metadata_bytes whole
summed_end count i whole end rest room s le =
    let done = many_end entry_at count i s.front rest (Ok (whole, end)) le s.reads in
    let same : whole ≡ s.front = ap (λ (y : List Entry × List ℕ). y.0) (ok_is (whole, end) (s.front, rest) done) in
    rw same s.room_is

-- a member, from its parts
pub member_reads : (front : List MemberRecord) (bytes id rest : List ℕ) (instance : Option (List ℕ)) (more : List ℕ) (profile : Profile) (after : List ℕ)
    → name_at MEMBER_ID_BYTES_MAX bytes ≡ Ok (id, rest) → list_any (has_id id) front ≡ false → optional_name_at NAME_BYTES_MAX rest ≡ Ok (instance, more) → list_any (has_instance instance) front ≡ false → profile_at more ≡ Ok (profile, after)
    → member_at front bytes ≡ Ok (member_of id instance profile, after)
unfolding member_at
member_reads front bytes id rest instance more profile after named new known other kept = rw (named, new, known, other, kept) refl

-- i values were decoded from the start, and the remaining ones follow them
pub record IsChecked {X : Type 0} (at : List X → List ℕ → Read X) (count i : ℕ) (start rest : List ℕ) : Type 0 where
  pub front : List X
  pub reads : many_at at i [] start ≡ Ok (front, rest)
  pub more : many_at at (count - i) front rest ≡ many_at at count [] start

pub checked_start : {X : Type 0} (at : List X → List ℕ → Read X) (count : ℕ) (start : List ℕ) → IsChecked at count 0 start start
unfolding many_at
checked_start at count start =
    let all : count - 0 ≡ count = omega arith in
    record { front = []; reads = refl; more = ap (λ (n : ℕ). many_at at n [] start) all }

pub checked_on : {X Y : Type 0} (behind : Y → List ℕ) (at : List X → List ℕ → Read X) (count i : ℕ) (start rest : List ℕ) (y : Y) (checked : IsChecked at count i start rest) → i < count
    → Skips behind (Ok y) (at checked.front rest) → IsChecked at count (i + 1) start (behind y)
checked_on behind at count i start rest y checked lt skips = record {
  front = checked.front ++ skips.0 ∷ [];
  reads = many_snoc at i [] start checked.front rest skips.0 (behind y) checked.reads skips.1;
  more = many_on at count i checked.front rest skips.0 (behind y) (many_at at count [] start) lt skips.1 checked.more;
}

pub checked_fail : {X : Type 0} (fault : RecordFault) (at : List X → List ℕ → Read X) (count i : ℕ) (start rest : List ℕ) (checked : IsChecked at count i start rest) → i < count
    → at checked.front rest ≡ Err fault → many_at at count [] start ≡ Err fault
checked_fail fault at count i start rest checked lt fails =
    sym checked.more ∙ many_step at count i checked.front rest lt ∙ rw fails refl

pub checked_end : {X : Type 0} (at : List X → List ℕ → Read X) (count i : ℕ) (start rest : List ℕ) → IsChecked at count i start rest → count ≤ i → (front : List X) × (many_at at count [] start ≡ Ok (front, rest))
checked_end at count i start rest checked le =
    (checked.front, many_end at count i checked.front rest (many_at at count [] start) le checked.more)

-- ---- checks of commands

-- some commands were decoded, and the remaining bytes hold the others
pub record IsPassed (version : Version) (bytes rest : List ℕ) : Type 0 where
  pub front : List Command
  pub left : IsLeft version bytes front rest (commands_to_end version (length bytes) bytes)

pub passed_start : (version : Version) (bytes : List ℕ) → IsPassed version bytes bytes
passed_start version bytes = record { front = []; left = commands_start version bytes }

pub passed_on : {X : Type 0} (behind : X → List ℕ) (version : Version) (bytes rest : List ℕ) (x : X) → IsPassed version bytes rest → Skips behind (Ok x) (command_at version rest) → length (behind x) < length rest → IsPassed version bytes (behind x)
passed_on behind version bytes rest x passed skips shorter = record {
  front = passed.front ++ skips.0 ∷ [];
  left = commands_on version bytes passed.front rest (commands_to_end version (length bytes) bytes) skips.0 (behind x) passed.left skips.1 shorter;
}

pub passed_fail : (fault : RecordFault) (version : Version) (bytes rest : List ℕ) → IsPassed version bytes rest → 1 ≤ length rest → command_at version rest ≡ Err fault → commands_to_end version (length bytes) bytes ≡ Err fault
passed_fail fault version bytes rest passed some fails =
    let most = length bytes - length passed.front - 1 in
    let k : length bytes - length passed.front ≡ suc (length bytes - length passed.front - 1) = omega (arith, passed.left.enough) in
    sym (left_step version bytes passed.front rest (length bytes - length passed.front - 1) (commands_to_end version (length bytes) bytes) passed.left some k) ∙ rw fails refl

pub passed_end : (version : Version) (bytes rest : List ℕ) → IsPassed version bytes rest → length rest < 1 → IsOk (commands_to_end version (length bytes) bytes)
passed_end version bytes rest passed none =
    rw (commands_end version bytes passed.front rest (commands_to_end version (length bytes) bytes) passed.left none) refl
