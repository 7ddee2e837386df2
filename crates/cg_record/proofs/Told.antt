-- Decoding reports faults of the bytes, and never a failed allocation.
use Rattle.std.proofs.Common.{◌≡◌, ℕ, zero, suc, Bool, true, false, cond, eqb, ltb, List, [], ◌∷◌, ◌++◌, length, take, drop, None, Result, Ok, Err, refl, subst}
use Rattle.std.specs.Int.{Width, w16, w32, byte_len, from_be_bytes}
use Rattle.cg_names.specs.declared.name.TheConstants.{NAME_BYTES_MAX, MEMBER_ID_BYTES_MAX}
use Rattle.cg_names.specs.declared.generation.TheConstants.{GENERATION_MAX}
use Rattle.cg_record.specs.declared.partition.TheConstants.{PARTITION_MAX}
use Rattle.cg_record.specs.declared.offset.TheConstants.{OFFSET_MAX}
use Rattle.std.specs.Prelude.{◌&&◌}
use Rattle.cg_record.specs.declared.format.TheConstants.{VERSION_ONE, VERSION_TWO, VERSION_THREE, ASSIGNED_KIND, EMPTIED_KIND, REPLACED_KIND, COMMITTED_KIND, DELETED_KIND, EXPIRED_KIND, DROPPED_KIND}
use Rattle.cg_record.specs.declared.format.Version.{Version}
use Rattle.cg_record.specs.declared.fault.RecordFault.{RecordFault}
use Rattle.cg_record.specs.declared.fault.RecordFault.TheVariants.{Memory, Short, BadName, BadLength, Repeated}
use Rattle.cg_record.specs.declared.entry.Entry.{Entry}
use Rattle.cg_record.specs.declared.topic_partition.TopicPartition.{TopicPartition}
use Rattle.cg_record.specs.declared.member_record.MemberRecord.{MemberRecord}
use Rattle.cg_record.specs.Keys.{metadata_room}
use Rattle.cg_record.specs.Moments.{stamp_at, moment_at}
use Rattle.cg_record.specs.Counts.{number_of_count_at, count_at}
use Rattle.cg_record.specs.Versions.{has_moments, has_expired, has_dropped, has_long_counts, count_max}
use Rattle.cg_record.specs.declared.roster.TheConstants.{MEMBERS_MAX}
use Rattle.cg_record.specs.declared.millis.TheConstants.{SESSION_MS_MIN, SESSION_MS_MAX, REBALANCE_MS_MAX}
use Rattle.cg_record.specs.declared.opaque.TheConstants.{SUBSCRIPTION_BYTES_MAX, ASSIGNMENT_BYTES_MAX}
use Rattle.cg_record.specs.Rosters.{is_led_by}
use Rattle.cg_record.specs.Members.{profile_at, is_new_id, is_new_instance, member_at}
use Rattle.cg_record.specs.Fields.{Read, ◌>>=◌, only, at_most, is_from_to, is_name, byte_at, bytes_at, number_at, name_at, named_at, optional_name_at, text_at, many_at}
use Rattle.cg_record.specs.Reading.{key_at, kept_at, is_new, entry_at, listed_entries_at, committed_at, is_new_partition, partition_at, listed_partitions_at, removal_at, listed_at, roster_at, assigned_at, emptied_at, replaced_at, deleted_at, body_at, command_at, commands_to_end, version_of, commands_of, Fails, Tells}

-- a fault of the bytes
abbrev pub IsTold : RecordFault → Type 0
IsTold Memory = ⊥
IsTold fault = Unit {0}

-- a decoded value, or a fault of the bytes
abbrev pub Told : {A : Type 0} → Result A RecordFault → Type 0
Told (Ok x) = Unit {0}
Told (Err fault) = IsTold fault

told_then : {A B : Type 0} (r : Result A RecordFault) (f : A → Result B RecordFault) → Told r → ((x : A) → Told (f x)) → Told (r >>= f)
told_then (Ok x) f told next = next x
told_then (Err fault) f told next = told

told_test : {A : Type 0} (b : Bool) (x : A) (fault : RecordFault) → IsTold fault → Told (cond b (Ok x) (Err fault))
told_test true x fault told = tt
told_test false x fault told = told

told_short : {A : Type 0} (b : Bool) (x : A) → Told (cond b (Err Short) (Ok x))
told_short true x = tt
told_short false x = tt

told_only : {A : Type 0} (passes : A → Bool) (fault : RecordFault) (read : Read A) → IsTold fault → Told read → Told (only passes fault read)
told_only passes fault read is told = told_then read (λ x. cond (passes x.0) (Ok x) (Err fault)) told (λ x. told_test (passes x.0) x fault is)

-- ---- fields

told_byte : (bytes : List ℕ) → Told (byte_at bytes)
unfolding byte_at
told_byte [] = tt
told_byte (b ∷ bytes) = tt

told_bytes : (n : ℕ) (bytes : List ℕ) → Told (bytes_at n bytes)
unfolding bytes_at
told_bytes n bytes = told_short (ltb (length bytes) n) (take n bytes, drop n bytes)

told_number : (w : Width) (bytes : List ℕ) → Told (number_at w bytes)
unfolding number_at
told_number w bytes = told_short (ltb (length bytes) (byte_len w)) (from_be_bytes w (take (byte_len w) bytes), drop (byte_len w) bytes)

told_name : (max : ℕ) (bytes : List ℕ) → Told (name_at max bytes)
unfolding name_at
told_name max bytes =
    told_then (only (is_from_to 1 max) BadName (byte_at bytes)) (λ size. only (is_name max) BadName (bytes_at size.0 size.1))
    (told_only (is_from_to 1 max) BadName (byte_at bytes) tt (told_byte bytes))
    (λ size. told_only (is_name max) BadName (bytes_at size.0 size.1) tt (told_bytes size.0 size.1))

told_text : (max : ℕ) (bytes : List ℕ) → Told (text_at max bytes)
unfolding text_at
told_text max bytes = told_then _ _ (told_only (at_most max) BadLength _ tt (told_number _ bytes)) (λ size. told_bytes size.0 size.1)

told_if : {A : Type 0} (b : Bool) (this others : Result A RecordFault) → Told this → Told others → Told (cond b this others)
told_if true this others t o = t
told_if false this others t o = o

told_named : (max size : ℕ) (bytes : List ℕ) → Told (named_at max size bytes)
told_named max size bytes =
    told_if (eqb size 0) (Ok (None, bytes)) _ tt (told_then _ _ (told_only (is_name max) BadName _ tt (told_bytes size bytes)) (λ name. tt))

told_optional : (max : ℕ) (bytes : List ℕ) → Told (optional_name_at max bytes)
unfolding optional_name_at
told_optional max bytes = told_then _ _ (told_only (at_most max) BadName _ tt (told_byte bytes)) (λ size. told_named max size.0 size.1)

-- ---- a commit

told_key : (bytes : List ℕ) → Told (key_at bytes)
unfolding key_at
told_key bytes =
    told_then _ _ (told_name NAME_BYTES_MAX bytes) (λ topic.
    told_then _ _ (told_only (at_most PARTITION_MAX) BadLength _ tt (told_number _ topic.1)) (λ partition. tt))

told_kept : (max : ℕ) (bytes : List ℕ) → Told (kept_at max bytes)
unfolding kept_at
told_kept max bytes =
    told_then _ _ (told_only (at_most OFFSET_MAX) BadLength _ tt (told_number _ bytes)) (λ offset.
    told_then _ _ (told_text max offset.1) (λ metadata. tt))

told_entry : (front : List Entry) (bytes : List ℕ) → Told (entry_at front bytes)
unfolding entry_at
told_entry front bytes =
    told_then _ _ (told_only (is_new front) Repeated _ tt (told_key bytes)) (λ key.
    told_then _ _ (told_kept (metadata_room front) key.1) (λ kept. tt))

told_many : {X : Type 0} (at : List X → List ℕ → Read X) → ((front : List X) (bytes : List ℕ) → Told (at front bytes)) → (n : ℕ) (front : List X) (bytes : List ℕ) → Told (many_at at n front bytes)
unfolding many_at
told_many at told zero front bytes = tt
told_many at told (suc n) front bytes =
    told_then _ _ (told front bytes) (λ next. told_many at told n (front ++ next.0 ∷ []) next.1)

told_moment : (version : Version) (bytes : List ℕ) → Told (moment_at version bytes)
unfolding moment_at stamp_at
told_moment version bytes =
    told_if (has_moments version) _ _
    (told_then _ _ (told_only (at_most 1) BadLength _ tt (told_byte bytes)) (λ known.
    told_if (eqb known.0 0) (Ok (None, known.1)) _ tt (told_then _ _ (told_number _ known.1) (λ millis. tt))))
    tt

told_count : (version : Version) (bytes : List ℕ) → Told (count_at version bytes)
unfolding count_at number_of_count_at
told_count version bytes =
    told_only (is_from_to 1 (count_max version)) BadLength _ tt (told_if (has_long_counts version) _ _ (told_number w16 bytes) (told_byte bytes))

told_listed_entries : (version : Version) (bytes : List ℕ) → Told (listed_entries_at version bytes)
unfolding listed_entries_at
told_listed_entries version bytes = told_then _ _ (told_count version bytes) (λ count. told_many entry_at told_entry count.0 [] count.1)

told_committed : (version : Version) (bytes : List ℕ) → Told (committed_at version bytes)
unfolding committed_at
told_committed version bytes =
    told_then _ _ (told_name NAME_BYTES_MAX bytes) (λ group.
    told_then _ _ (told_moment version group.1) (λ moment.
    told_then _ _ (told_listed_entries version moment.1) (λ entries. tt)))

-- ---- a removal

told_partition : (front : List TopicPartition) (bytes : List ℕ) → Told (partition_at front bytes)
unfolding partition_at
told_partition front bytes = told_only (is_new_partition front) Repeated _ tt (told_key bytes)

told_listed_partitions : (version : Version) (bytes : List ℕ) → Told (listed_partitions_at version bytes)
unfolding listed_partitions_at
told_listed_partitions version bytes = told_then _ _ (told_count version bytes) (λ count. told_many partition_at told_partition count.0 [] count.1)

told_removal : (version : Version) (bytes : List ℕ) → Told (removal_at version bytes)
unfolding removal_at
told_removal version bytes =
    told_then _ _ (told_name NAME_BYTES_MAX bytes) (λ group.
    told_then _ _ (told_listed_partitions version group.1) (λ partitions. tt))

-- ---- members

told_profile : (bytes : List ℕ) → Told (profile_at bytes)
unfolding profile_at
told_profile bytes =
    told_then _ _ (told_name NAME_BYTES_MAX bytes) (λ client.
    told_then _ _ (told_only (is_from_to SESSION_MS_MIN SESSION_MS_MAX) BadLength _ tt (told_number _ client.1)) (λ session.
    told_then _ _ (told_only (at_most REBALANCE_MS_MAX) BadLength _ tt (told_number _ session.1)) (λ rebalance.
    told_then _ _ (told_text SUBSCRIPTION_BYTES_MAX rebalance.1) (λ subscription.
    told_then _ _ (told_text ASSIGNMENT_BYTES_MAX subscription.1) (λ assignment. tt)))))

told_member : (front : List MemberRecord) (bytes : List ℕ) → Told (member_at front bytes)
unfolding member_at
told_member front bytes =
    told_then _ _ (told_only (is_new_id front) Repeated _ tt (told_name MEMBER_ID_BYTES_MAX bytes)) (λ id.
    told_then _ _ (told_only (is_new_instance front) Repeated _ tt (told_optional NAME_BYTES_MAX id.1)) (λ instance.
    told_then _ _ (told_profile instance.1) (λ profile. tt)))

told_listed : (bytes : List ℕ) → Told (listed_at bytes)
unfolding listed_at
told_listed bytes =
    told_then _ _ (told_only (is_from_to 1 MEMBERS_MAX) BadLength _ tt (told_byte bytes)) (λ count. told_many member_at told_member count.0 [] count.1)

-- ---- groups

told_roster : (bytes : List ℕ) → Told (roster_at bytes)
unfolding roster_at
told_roster bytes =
    told_then _ _ (told_name NAME_BYTES_MAX bytes) (λ protocol.
    told_then _ _ (told_name MEMBER_ID_BYTES_MAX protocol.1) (λ leader.
    told_then _ _ (told_only (is_led_by leader.0) BadName _ tt (told_listed leader.1)) (λ members. tt)))

told_generation : (bytes : List ℕ) → Told (only (is_from_to 1 GENERATION_MAX) BadLength (number_at w32 bytes))
told_generation bytes = told_only (is_from_to 1 GENERATION_MAX) BadLength _ tt (told_number w32 bytes)

told_assigned : (bytes : List ℕ) → Told (assigned_at bytes)
unfolding assigned_at
told_assigned bytes =
    told_then _ _ (told_name NAME_BYTES_MAX bytes) (λ group.
    told_then _ _ (told_generation group.1) (λ generation.
    told_then _ _ (told_name NAME_BYTES_MAX generation.1) (λ kind.
    told_then _ _ (told_roster kind.1) (λ roster. tt))))

told_emptied : (version : Version) (bytes : List ℕ) → Told (emptied_at version bytes)
unfolding emptied_at
told_emptied version bytes =
    told_then _ _ (told_name NAME_BYTES_MAX bytes) (λ group.
    told_then _ _ (told_generation group.1) (λ generation.
    told_then _ _ (told_name NAME_BYTES_MAX generation.1) (λ kind.
    told_then _ _ (told_moment version kind.1) (λ moment. tt))))

told_replaced : (bytes : List ℕ) → Told (replaced_at bytes)
unfolding replaced_at
told_replaced bytes =
    told_then _ _ (told_name NAME_BYTES_MAX bytes) (λ group.
    told_then _ _ (told_name MEMBER_ID_BYTES_MAX group.1) (λ id.
    told_then _ _ (told_then _ _ (told_name NAME_BYTES_MAX id.1) (λ name. tt)) (λ instance.
    told_then _ _ (told_profile instance.1) (λ profile. tt))))

told_deleted : (bytes : List ℕ) → Told (deleted_at bytes)
unfolding deleted_at
told_deleted bytes = told_then _ _ (told_name NAME_BYTES_MAX bytes) (λ group. tt)

-- ---- commands

told_body : (version : Version) (kind : ℕ) (bytes : List ℕ) → Told (body_at version kind bytes)
unfolding body_at
told_body version kind bytes =
    told_if (eqb kind ASSIGNED_KIND) _ _ (told_then _ _ (told_assigned bytes) (λ a. tt))
    (told_if (eqb kind EMPTIED_KIND) _ _ (told_then _ _ (told_emptied version bytes) (λ e. tt))
    (told_if (eqb kind REPLACED_KIND) _ _ (told_then _ _ (told_replaced bytes) (λ r. tt))
    (told_if (eqb kind COMMITTED_KIND) _ _ (told_then _ _ (told_committed version bytes) (λ c. tt))
    (told_if (eqb kind DELETED_KIND) _ _ (told_then _ _ (told_deleted bytes) (λ d. tt))
    (told_if (eqb kind EXPIRED_KIND && has_expired version) _ _ (told_then _ _ (told_removal version bytes) (λ r. tt))
    (told_if (eqb kind DROPPED_KIND && has_dropped version) _ _ (told_then _ _ (told_removal version bytes) (λ r. tt))
    tt))))))

told_command : (version : Version) (bytes : List ℕ) → Told (command_at version bytes)
unfolding command_at
told_command version bytes = told_then _ _ (told_byte bytes) (λ kind. told_body version kind.0 kind.1)

told_to_end : (version : Version) (most : ℕ) (bytes : List ℕ) → Told (commands_to_end version most bytes)
unfolding commands_to_end
told_to_end version zero bytes = tt
told_to_end version (suc most) [] = tt
told_to_end version (suc most) (b ∷ bytes) =
    told_then _ _ (told_command version (b ∷ bytes)) (λ first.
    told_then _ _ (told_to_end version most first.1) (λ others. tt))

told_version : (b : ℕ) → Told (version_of b)
unfolding version_of
told_version b = told_if (eqb b VERSION_ONE) _ _ tt (told_if (eqb b VERSION_TWO) _ _ tt (told_if (eqb b VERSION_THREE) _ _ tt tt))

pub told_commands : (bytes : List ℕ) → Told (commands_of bytes)
unfolding commands_of
told_commands bytes =
    told_then _ _ (told_byte bytes) (λ first.
    told_then _ _ (told_version first.0) (λ version. told_to_end version (length first.1) first.1))

-- ---- the reported fault

tells_from : {A : Type 0} (fault : RecordFault) (read : Result A RecordFault) → Told read → read ≡ Err fault → Tells fault read
tells_from Memory read told e = absurd (subst Told e told)
tells_from fault read told e = e

-- the fault of the decoding is reported as it is
pub commands_tell : (fault : RecordFault) (bytes : List ℕ) → commands_of bytes ≡ Err fault → Tells fault (commands_of bytes)
commands_tell fault bytes e = tells_from fault (commands_of bytes) (told_commands bytes) e

pub fails_tells : {A : Type 0} (fault : RecordFault) (read : Result A RecordFault) → (fault ≡ Memory → ⊥) → Fails fault read → Tells fault read
fails_tells Memory read other h = absurd (other refl)
fails_tells fault read other h = h
