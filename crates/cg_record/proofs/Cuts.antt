-- Bytes that are cut off: a decoder that accepts them with what follows accepts the same value, or reports `Short`.
use Rattle.std.proofs.Common.{◌≡◌, ℕ, zero, suc, ◌<◌, ◌≤◌, Bool, true, false, cond, eqb, ltb, List, [], ◌∷◌, ◌++◌, length, take, drop, Some, None, Ok, Err, inl, inr, refl, sym, ap, ◌∙◌, append_assoc, take-append-drop, arith}
use Rattle.std.specs.Prelude.{◌&&◌, ◌⊎◌}
use Rattle.std.specs.Int.{Width, w16, w32, w64, byte_len, from_be_bytes}
use Rattle.std.specs.List.{flat_map}
use Rattle.std.proofs.lemmas.Bool.{ltb-false, le-ltb}
use Rattle.std.proofs.lemmas.List.{length-append, length-drop, take_at, take-append-le, drop-append-le}
use Rattle.std.proofs.lemmas.List.Concat.{flat_map-cons}
use Rattle.cg_names.specs.declared.name.TheConstants.{NAME_BYTES_MAX, MEMBER_ID_BYTES_MAX}
use Rattle.cg_names.specs.declared.generation.TheConstants.{GENERATION_MAX}
use Rattle.cg_record.specs.declared.partition.TheConstants.{PARTITION_MAX}
use Rattle.cg_record.specs.declared.offset.TheConstants.{OFFSET_MAX}
use Rattle.cg_record.specs.declared.roster.TheConstants.{MEMBERS_MAX}
use Rattle.cg_record.specs.declared.millis.TheConstants.{SESSION_MS_MIN, SESSION_MS_MAX, REBALANCE_MS_MAX}
use Rattle.cg_record.specs.declared.opaque.TheConstants.{SUBSCRIPTION_BYTES_MAX, ASSIGNMENT_BYTES_MAX}
use Rattle.cg_record.specs.declared.format.TheConstants.{ASSIGNED_KIND, EMPTIED_KIND, REPLACED_KIND, COMMITTED_KIND, DELETED_KIND, EXPIRED_KIND, DROPPED_KIND}
use Rattle.cg_record.specs.declared.format.Version.{Version}
use Rattle.cg_record.specs.declared.fault.RecordFault.{RecordFault}
use Rattle.cg_record.specs.declared.fault.RecordFault.TheVariants.{Short, BadKind, BadName, BadLength, Repeated}
use Rattle.cg_record.specs.declared.command.Command.{Command}
use Rattle.cg_record.specs.declared.command.Command.TheVariants as kinds
use Rattle.cg_record.specs.declared.entry.Entry.{Entry}
use Rattle.cg_record.specs.declared.member_record.MemberRecord.{MemberRecord}
use Rattle.cg_record.specs.declared.topic_partition.TopicPartition.{TopicPartition}
use Rattle.cg_record.specs.Counts.{number_of_count_at, count_at}
use Rattle.cg_record.specs.Cutting.{IsCutShort}
use Rattle.cg_record.specs.Fields.{Read, ◌>>=◌, only, made, at_most, is_from_to, is_name, byte_at, bytes_at, number_at, name_at, named_at, optional_name_at, text_at, many_at}
use Rattle.cg_record.specs.Keys.{metadata_room}
use Rattle.cg_record.specs.Lawful.{AreCommands}
use Rattle.cg_record.specs.Members.{member_of, profile_at, is_new_id, is_new_instance, member_at}
use Rattle.cg_record.specs.Moments.{stamp_at, moment_at}
use Rattle.cg_record.specs.Partitions.{topic_partition}
use Rattle.cg_record.specs.Reading.{expired_of, dropped_of, key_at, kept_at, is_new, entry_at, listed_entries_at, committed_at, is_new_partition, partition_at, listed_partitions_at, removal_at, listed_at, roster_at, assigned_at, emptied_at, replaced_at, deleted_at, body_at, command_at, commands_to_end, commands_of}
use Rattle.cg_record.specs.Rosters.{roster_of, is_led_by}
use Rattle.cg_record.specs.Saying.{CanSayAll}
use Rattle.cg_record.specs.Spelling.{command_bytes, payload}
use Rattle.cg_record.specs.Versions.{byte_of, has_moments, has_expired, has_dropped, has_long_counts, count_max}
use Rattle.cg_record.proofs.Laws.{bind_ok, ok_is}
use Rattle.cg_record.proofs.CommitLaws.{entry_of, commit_of}
use Rattle.cg_record.proofs.MemberLaws.{profile_from, replaced_of}
use Rattle.cg_record.proofs.RosterLaws.{assigned_of}
use Rattle.cg_record.proofs.GroupLaws.{emptied_of, deleted_of}
use Rattle.cg_record.proofs.CommandLaws.{AreSaid, said_from, reads_command, bytes_not_empty, to_end_step, version_again}

-- the bytes without what follows them: a field has no end, or the value is the same
abbrev IsCut : {X : Type 0} → (List ℕ → Read X) → List ℕ → List ℕ → X → List ℕ → Type 0
IsCut at bytes more x rest = (at bytes ≡ Err Short) ⊎ ((left : List ℕ) × (at bytes ≡ Ok (x, left)) × (rest ≡ left ++ more))

record Cuts {X : Type 0} (at : List ℕ → Read X) : Type 0 where
  pub cut : (bytes more : List ℕ) (x : X) (rest : List ℕ) → at (bytes ++ more) ≡ Ok (x, rest) → IsCut at bytes more x rest

-- a value, and then what is decoded after it
then_cut : {A X : Type 0} (at : List ℕ → Read A) (next : A → List ℕ → Read X) → Cuts at → ((a : A) → Cuts (next a)) → (bytes more : List ℕ) (x : X) (rest : List ℕ) → (at (bytes ++ more) >>= λ a. next a.0 a.1) ≡ Ok (x, rest) → IsCut (λ l. at l >>= λ a. next a.0 a.1) bytes more x rest
then_cut {A} {X} at next first others bytes more x rest e =
    let b = bind_ok (at (bytes ++ more)) (λ a. next a.0 a.1) (x, rest) e in
    elim (first.cut bytes more b.0.0 b.0.1 b.1) [
      | inl short ↦ inl (rw short refl)
      | inr ok ↦
          let second : next b.0.0 (ok.0 ++ more) ≡ Ok (x, rest) = ap (next b.0.0) (sym ok.2) ∙ b.2 in
          elim ((others b.0.0).cut ok.0 more x rest second) [
            | inl short ↦ inl (rw ok.1 short)
            | inr last ↦ inr (last.0, rw ok.1 last.1, last.2)
          ]
    ]

cuts_then : {A X : Type 0} {at : List ℕ → Read A} {next : A → List ℕ → Read X} → Cuts at → ((a : A) → Cuts (next a)) → Cuts (λ bytes. at bytes >>= λ a. next a.0 a.1)
cuts_then {A} {X} {at} {next} first others = record { cut = then_cut at next first others }

cuts_end : {X : Type 0} (y : X) → Cuts (λ bytes. Ok (y, bytes))
cuts_end {X} y = record {
  cut = λ bytes more x rest e.
      let same : (y, bytes ++ more) ≡ (x, rest) = ok_is (y, bytes ++ more) (x, rest) e in
      inr (bytes, ap (λ (z : X × List ℕ). Ok (z.0, bytes)) same, sym (ap (λ (z : X × List ℕ). z.1) same));
}

cuts_fault : {X : Type 0} (fault : RecordFault) → Cuts {X = X} (λ bytes. Err fault)
cuts_fault fault = record { cut = λ bytes more x rest e. absurd cc }

cuts_if : {X : Type 0} (b : Bool) {at other : List ℕ → Read X} → Cuts at → Cuts other → Cuts (λ bytes. cond b (at bytes) (other bytes))
cuts_if true this that = this
cuts_if false this that = that

cuts_only : {X : Type 0} {at : List ℕ → Read X} (passes : X → Bool) (fault : RecordFault) → Cuts at → Cuts (λ bytes. only passes fault (at bytes))
cuts_only {X} {at} passes fault first = cuts_then {next = λ x bytes. cond (passes x) (Ok (x, bytes)) (Err fault)} first (λ x. cuts_if (passes x) (cuts_end x) (cuts_fault fault))

cuts_made : {A X : Type 0} {at : List ℕ → Read A} (make : A → X) → Cuts at → Cuts (λ bytes. made make (at bytes))
cuts_made {A} {X} {at} make first = cuts_then {next = λ a bytes. Ok (make a, bytes)} first (λ a. cuts_end (make a))

-- ---- fields

byte_cut : (bytes more : List ℕ) (x : ℕ) (rest : List ℕ) → byte_at (bytes ++ more) ≡ Ok (x, rest) → IsCut byte_at bytes more x rest
unfolding byte_at
byte_cut [] more x rest e = inl refl
byte_cut (b ∷ bytes) more x rest e =
    let same : (b, bytes ++ more) ≡ (x, rest) = ok_is (b, bytes ++ more) (x, rest) e in
    inr (bytes, ap (λ (z : ℕ × List ℕ). Ok (z.0, bytes)) same, sym (ap (λ (z : ℕ × List ℕ). z.1) same))

cuts_byte : Cuts byte_at
cuts_byte = record { cut = byte_cut }

-- the first bytes through this function
abbrev part_at : {X : Type 0} → ℕ → (List ℕ → X) → List ℕ → Read X
part_at n view bytes = cond (ltb (length bytes) n) (Err Short) (Ok (view (take n bytes), drop n bytes))

part_cut : {X : Type 0} (n : ℕ) (view : List ℕ → X) (bytes more : List ℕ) (x : X) (rest : List ℕ) → part_at n view (bytes ++ more) ≡ Ok (x, rest) → IsCut (part_at n view) bytes more x rest
part_cut {X} n view bytes more x rest e =
    elim (ltb (length bytes) n) as (λ b. ltb (length bytes) n ≡ b → IsCut (part_at n view) bytes more x rest) [
      | true ↦ λ is. inl (rw is refl)
      | false ↦ λ is.
          let long : n ≤ length bytes = ltb-false _ _ is in
          let whole : ltb (length (bytes ++ more)) n ≡ false = le-ltb _ _ (omega (arith, long, length-append bytes more)) in
          let read : Ok (view (take n (bytes ++ more)), drop n (bytes ++ more)) ≡ Ok (x, rest) = rw whole at e in
          let same : (view (take n (bytes ++ more)), drop n (bytes ++ more)) ≡ (x, rest) = ok_is (view (take n (bytes ++ more)), drop n (bytes ++ more)) (x, rest) read in
          let front : view (take n bytes) ≡ x = ap view (sym (take-append-le n bytes more long)) ∙ ap (λ (z : X × List ℕ). z.0) same in
          let behind : rest ≡ drop n bytes ++ more = sym (ap (λ (z : X × List ℕ). z.1) same) ∙ drop-append-le n bytes more long in
          inr (drop n bytes, rw (is, front) refl, behind)
    ] refl

cuts_bytes : (n : ℕ) → Cuts (bytes_at n)
unfolding bytes_at
cuts_bytes n = record { cut = part_cut n (λ text. text) }

cuts_number : (w : Width) → Cuts (number_at w)
unfolding number_at
cuts_number w = record { cut = part_cut (byte_len w) (from_be_bytes w) }

cuts_name : (max : ℕ) → Cuts (name_at max)
unfolding name_at
cuts_name max = cuts_then (cuts_only (is_from_to 1 max) BadName cuts_byte) (λ size. cuts_only (is_name max) BadName (cuts_bytes size))

cuts_named : (max size : ℕ) → Cuts (named_at max size)
cuts_named max size = cuts_if (eqb size 0) (cuts_end None) (cuts_made Some (cuts_only (is_name max) BadName (cuts_bytes size)))

cuts_optional : (max : ℕ) → Cuts (optional_name_at max)
unfolding optional_name_at
cuts_optional max = cuts_then (cuts_only (at_most max) BadName cuts_byte) (λ size. cuts_named max size)

cuts_text : (max : ℕ) → Cuts (text_at max)
unfolding text_at
cuts_text max = cuts_then (cuts_only (at_most max) BadLength (cuts_number w32)) (λ size. cuts_bytes size)

cuts_many : {X : Type 0} (at : List X → List ℕ → Read X) → ((front : List X) → Cuts (at front)) → (n : ℕ) (front : List X) → Cuts (many_at at n front)
unfolding many_at
cuts_many at each zero front = cuts_end front
cuts_many at each (suc n) front = cuts_then (each front) (λ x. cuts_many at each n (front ++ x ∷ []))

cuts_stamp : Cuts stamp_at
unfolding stamp_at
cuts_stamp = cuts_then (cuts_only (at_most 1) BadLength cuts_byte) (λ known. cuts_if (eqb known 0) (cuts_end None) (cuts_made Some (cuts_number w64)))

cuts_moment : (version : Version) → Cuts (moment_at version)
unfolding moment_at
cuts_moment version = cuts_if (has_moments version) cuts_stamp (cuts_end None)

cuts_count : (version : Version) → Cuts (count_at version)
unfolding count_at number_of_count_at
cuts_count version = cuts_only (is_from_to 1 (count_max version)) BadLength (cuts_if (has_long_counts version) (cuts_number w16) cuts_byte)

-- ---- a commit and a removal

cuts_key : Cuts key_at
unfolding key_at
cuts_key =
    cuts_then (cuts_name NAME_BYTES_MAX) (λ topic.
    cuts_then (cuts_only (at_most PARTITION_MAX) BadLength (cuts_number w32)) (λ partition. cuts_end (topic_partition topic partition)))

cuts_kept : (max : ℕ) → Cuts (kept_at max)
unfolding kept_at
cuts_kept max =
    cuts_then (cuts_only (at_most OFFSET_MAX) BadLength (cuts_number w64)) (λ offset.
    cuts_then (cuts_text max) (λ metadata. cuts_end (offset, metadata)))

cuts_entry : (front : List Entry) → Cuts (entry_at front)
unfolding entry_at
cuts_entry front =
    cuts_then (cuts_only (is_new front) Repeated cuts_key) (λ key.
    cuts_then (cuts_kept (metadata_room front)) (λ kept. cuts_end (entry_of key kept)))

cuts_committed : (version : Version) → Cuts (committed_at version)
unfolding committed_at listed_entries_at
cuts_committed version =
    cuts_then (cuts_name NAME_BYTES_MAX) (λ group.
    cuts_then (cuts_moment version) (λ moment.
    cuts_then (cuts_then (cuts_count version) (λ count. cuts_many entry_at cuts_entry count [])) (λ entries. cuts_end (commit_of group moment entries))))

cuts_partition : (front : List TopicPartition) → Cuts (partition_at front)
unfolding partition_at
cuts_partition front = cuts_only (is_new_partition front) Repeated cuts_key

cuts_removal : (version : Version) → Cuts (removal_at version)
unfolding removal_at listed_partitions_at
cuts_removal version =
    cuts_then (cuts_name NAME_BYTES_MAX) (λ group.
    cuts_then (cuts_then (cuts_count version) (λ count. cuts_many partition_at cuts_partition count [])) (λ partitions. cuts_end (group, partitions)))

-- ---- groups and members

cuts_generation : Cuts (λ bytes. only (is_from_to 1 GENERATION_MAX) BadLength (number_at w32 bytes))
cuts_generation = cuts_only (is_from_to 1 GENERATION_MAX) BadLength (cuts_number w32)

cuts_profile : Cuts profile_at
unfolding profile_at
cuts_profile =
    cuts_then (cuts_name NAME_BYTES_MAX) (λ client.
    cuts_then (cuts_only (is_from_to SESSION_MS_MIN SESSION_MS_MAX) BadLength (cuts_number w32)) (λ session.
    cuts_then (cuts_only (at_most REBALANCE_MS_MAX) BadLength (cuts_number w32)) (λ rebalance.
    cuts_then (cuts_text SUBSCRIPTION_BYTES_MAX) (λ subscription.
    cuts_then (cuts_text ASSIGNMENT_BYTES_MAX) (λ assignment. cuts_end (profile_from client session rebalance subscription assignment))))))

cuts_member : (front : List MemberRecord) → Cuts (member_at front)
unfolding member_at
cuts_member front =
    cuts_then (cuts_only (is_new_id front) Repeated (cuts_name MEMBER_ID_BYTES_MAX)) (λ id.
    cuts_then (cuts_only (is_new_instance front) Repeated (cuts_optional NAME_BYTES_MAX)) (λ instance.
    cuts_then cuts_profile (λ profile. cuts_end (member_of id instance profile))))

cuts_listed : Cuts listed_at
unfolding listed_at
cuts_listed = cuts_then (cuts_only (is_from_to 1 MEMBERS_MAX) BadLength cuts_byte) (λ count. cuts_many member_at cuts_member count [])

cuts_roster : Cuts roster_at
unfolding roster_at
cuts_roster =
    cuts_then (cuts_name NAME_BYTES_MAX) (λ protocol.
    cuts_then (cuts_name MEMBER_ID_BYTES_MAX) (λ leader.
    cuts_then (cuts_only (is_led_by leader) BadName cuts_listed) (λ members. cuts_end (roster_of protocol leader members))))

cuts_assigned : Cuts assigned_at
unfolding assigned_at
cuts_assigned =
    cuts_then (cuts_name NAME_BYTES_MAX) (λ group.
    cuts_then cuts_generation (λ generation.
    cuts_then (cuts_name NAME_BYTES_MAX) (λ kind.
    cuts_then cuts_roster (λ roster. cuts_end (assigned_of group generation kind roster)))))

cuts_emptied : (version : Version) → Cuts (emptied_at version)
unfolding emptied_at
cuts_emptied version =
    cuts_then (cuts_name NAME_BYTES_MAX) (λ group.
    cuts_then cuts_generation (λ generation.
    cuts_then (cuts_name NAME_BYTES_MAX) (λ kind.
    cuts_then (cuts_moment version) (λ moment. cuts_end (emptied_of group generation kind moment)))))

cuts_replaced : Cuts replaced_at
unfolding replaced_at
cuts_replaced =
    cuts_then (cuts_name NAME_BYTES_MAX) (λ group.
    cuts_then (cuts_name MEMBER_ID_BYTES_MAX) (λ id.
    cuts_then (cuts_made Some (cuts_name NAME_BYTES_MAX)) (λ instance.
    cuts_then cuts_profile (λ profile. cuts_end (replaced_of group (member_of id instance profile))))))

cuts_deleted : Cuts deleted_at
unfolding deleted_at
cuts_deleted = cuts_then (cuts_name NAME_BYTES_MAX) (λ group. cuts_end (deleted_of group))

-- ---- commands

cuts_body : (version : Version) (kind : ℕ) → Cuts (body_at version kind)
unfolding body_at
cuts_body version kind =
    cuts_if (eqb kind ASSIGNED_KIND) (cuts_made kinds.Assigned cuts_assigned)
    (cuts_if (eqb kind EMPTIED_KIND) (cuts_made kinds.Emptied (cuts_emptied version))
    (cuts_if (eqb kind REPLACED_KIND) (cuts_made kinds.Replaced cuts_replaced)
    (cuts_if (eqb kind COMMITTED_KIND) (cuts_made kinds.Committed (cuts_committed version))
    (cuts_if (eqb kind DELETED_KIND) (cuts_made kinds.Deleted cuts_deleted)
    (cuts_if (eqb kind EXPIRED_KIND && has_expired version) (cuts_made expired_of (cuts_removal version))
    (cuts_if (eqb kind DROPPED_KIND && has_dropped version) (cuts_made dropped_of (cuts_removal version))
    (cuts_fault BadKind)))))))

cuts_command : (version : Version) → Cuts (command_at version)
unfolding command_at
cuts_command version = cuts_then cuts_byte (λ kind. cuts_body version kind)

-- ---- all commands

abbrev texts : Version → List Command → List ℕ
texts version commands = flat_map (command_bytes version) commands

-- the bytes are those of the first commands, or a field has no end
abbrev AreFirst : Version → List Command → ℕ → List ℕ → Type 0
AreFirst version commands most bytes = (commands_to_end version most bytes ≡ Err Short) ⊎ ((k : ℕ) × (k < length commands) × (bytes ≡ texts version (take k commands)))

-- lists that are equal with the same list behind them are equal
without_end : (a b more : List ℕ) → a ++ more ≡ b ++ more → a ≡ b
without_end a b more e =
    let len : length b ≡ length a = omega (arith, ap length e, length-append a more, length-append b more) in
    sym (take_at a more (length a) refl) ∙ ap (take (length a)) e ∙ take_at b more (length a) len

first_or_short : (version : Version) (commands : List Command) (most : ℕ) (bytes more : List ℕ) → AreSaid version commands → texts version commands ≡ bytes ++ more → 1 ≤ length more → length bytes ≤ most → AreFirst version commands most bytes
first_or_short version [] most bytes more are e some le = absurd (omega (arith, ap length e, length-append bytes more))
first_or_short version (x ∷ commands) most [] more are e some le = inr (0, omega arith, refl)
first_or_short version (x ∷ commands) zero (b ∷ bytes) more are e some le = absurd (omega arith)
first_or_short version (x ∷ commands) (suc most) (b ∷ bytes) more are e some le =
    let whole : command_bytes version x ++ texts version commands ≡ (b ∷ bytes) ++ more = sym (flat_map-cons (command_bytes version) x commands) ∙ e in
    let read : command_at version ((b ∷ bytes) ++ more) ≡ Ok (x, texts version commands) = ap (command_at version) (sym whole) ∙ (reads_command version).again x (texts version commands) tt are.0 in
    let step = to_end_step version most (b ∷ bytes) (omega arith) in
    elim ((cuts_command version).cut (b ∷ bytes) more x (texts version commands) read) [
      | inl short ↦ inl (step ∙ rw short refl)
      | inr ok ↦
          let same : b ∷ bytes ≡ command_bytes version x ++ ok.0 =
          without_end (b ∷ bytes) (command_bytes version x ++ ok.0) more (sym whole ∙ ap (λ (l : List ℕ). command_bytes version x ++ l) ok.2 ∙ sym (append_assoc (command_bytes version x) ok.0 more)) in
          let shorter : length ok.0 ≤ most = omega (arith, ap length same, length-append (command_bytes version x) ok.0, bytes_not_empty version x) in
          elim (first_or_short version commands most ok.0 more are.1 ok.2 some shorter) [
            | inl short ↦ inl (step ∙ rw (ok.1, short) refl)
            | inr first ↦ inr (suc first.0, omega (arith, first.1), same ∙ ap (λ (l : List ℕ). command_bytes version x ++ l) first.2 ∙ sym (flat_map-cons (command_bytes version) x (take first.0 commands)))
          ]
    ]

-- a payload that is cut off after its version
cut_after : (version : Version) (commands : List Command) (m : ℕ) → AreSaid version commands → m < length (texts version commands) → IsCutShort version commands (byte_of version ∷ take m (texts version commands))
unfolding commands_of byte_at
cut_after version commands m are lt =
    let front = take m (texts version commands) in
    let some : 1 ≤ length (drop m (texts version commands)) = omega (arith, lt, length-drop m (texts version commands)) in
    elim (first_or_short version commands (length (take m (texts version commands))) (take m (texts version commands)) (drop m (texts version commands)) are (sym (take-append-drop m (texts version commands))) some (omega arith)) [
      | inl short ↦ inl (rw (version_again version) short)
      | inr first ↦ inr (first.0, first.1, ap (λ (l : List ℕ). byte_of version ∷ l) first.2)
    ]

pub cut_payload : (version : Version) (commands : List Command) (n : ℕ) → AreCommands commands → CanSayAll version commands → n < length (payload version commands) → IsCutShort version commands (take n (payload version commands))
unfolding commands_of byte_at
cut_payload version commands zero are can lt = inl refl
cut_payload version commands (suc m) are can lt = cut_after version commands m (said_from version commands are can) (omega (arith, lt))
