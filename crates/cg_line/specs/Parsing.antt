-- Parsing a request from the words of a line.
use Rattle.std.specs.Prelude.{◌≡◌, ℕ, Bool, true, not, ◌&&◌, ◌||◌, nat_le, List, [], ◌∷◌, length, map, codes, Option, Some, None, Result, Ok, Err, IsSome, if◌then◌else◌}
use Rattle.std.specs.Option.{option_map}
use Rattle.std.specs.List.{list_all, list_any}
use Rattle.std.specs.Str.{bytes_eq}
use Rattle.cg_names.specs.declared.name.TheConstants.{NAME_BYTES_MAX, MEMBER_ID_BYTES_MAX}
use Rattle.cg_record.specs.declared.entries.TheConstants.{ENTRIES_MAX}
use Rattle.cg_record.specs.declared.millis.TheConstants.{REBALANCE_MS_MAX}
use Rattle.cg_record.specs.declared.offset.TheConstants.{OFFSET_MAX}
use Rattle.cg_record.specs.declared.opaque.TheConstants.{SUBSCRIPTION_BYTES_MAX, ASSIGNMENT_BYTES_MAX}
use Rattle.cg_record.specs.declared.partition.TheConstants.{PARTITION_MAX}
use Rattle.cg_record.specs.declared.roster.TheConstants.{MEMBERS_MAX}
use Rattle.cg_record.specs.declared.topic_partition.TopicPartition.{TopicPartition}
use Rattle.cg_record.specs.Partitions.{topic_partition}
use Rattle.cg_request.specs.declared.request.Request.{Request}
use Rattle.cg_request.specs.declared.request.Request.TheVariants as request
use Rattle.cg_request.specs.declared.commit_entry.CommitEntry.{CommitEntry}
use Rattle.cg_request.specs.declared.protocol.Protocol.{Protocol}
use Rattle.cg_request.specs.declared.protocol.TheConstants.{PROTOCOLS_MAX}
use Rattle.cg_request.specs.declared.request_fields.JoinRequest.{JoinRequest}
use Rattle.cg_request.specs.declared.request_fields.SyncRequest.{SyncRequest}
use Rattle.cg_request.specs.declared.request_fields.SyncEntry.{SyncEntry}
use Rattle.cg_request.specs.declared.request_fields.BeatRequest.{BeatRequest}
use Rattle.cg_request.specs.declared.request_fields.LeaveRequest.{LeaveRequest}
use Rattle.cg_request.specs.declared.request_fields.CommitRequest.{CommitRequest}
use Rattle.cg_request.specs.declared.request_fields.FetchRequest.{FetchRequest}
use Rattle.cg_request.specs.declared.request_fields.DropRequest.{DropRequest}
use Rattle.cg_request.specs.Names.{are_distinct}
use Rattle.cg_line.specs.declared.line_fault.LineFault.{LineFault}
use Rattle.cg_line.specs.declared.line_fault.LineFault.TheVariants.{Memory, Malformed, TooLong}
use Rattle.cg_line.specs.declared.parser.TheConstants.{SESSION_LINE_MS_MAX}
use Rattle.cg_line.specs.Splitting.{before, behind, colon, equals}
use Rattle.cg_line.specs.Numbers.{is_number, value_of, is_generation, generation_in}
use Rattle.cg_line.specs.Fields.{is_name, is_optional, optional_in, is_bytes, is_opaque, bytes_in}

-- a parsing function returns the value of its definition; it reports malformed exactly if there is no value, and out of
-- memory only if there is one
abbrev pub Reads : {A : Type 0} → Result A LineFault → Option A → Type 0
Reads (Ok x) read = read ≡ Some x
Reads (Err Memory) read = IsSome read
Reads (Err Malformed) read = read ≡ None
Reads (Err TooLong) read = ⊥

-- the parts before and after '='
abbrev pub key_of : List ℕ → List ℕ
key_of word = before equals word

abbrev pub given_to : List ℕ → List ℕ
given_to word = behind equals word

-- name=bytes
unfoldable pub is_protocol : List ℕ → Bool
is_protocol word = is_name NAME_BYTES_MAX (key_of word) && is_opaque SUBSCRIPTION_BYTES_MAX (given_to word)

unfoldable pub protocol_in : List ℕ → Protocol
protocol_in word = record { name = key_of word; subscription = bytes_in (given_to word) }

-- one to PROTOCOLS_MAX protocols with different names
unfoldable pub are_protocols : List (List ℕ) → Bool
are_protocols words = nat_le 1 (length words) && nat_le (length words) PROTOCOLS_MAX
    && list_all is_protocol words && are_distinct (map key_of words)

-- member=bytes
unfoldable pub is_sync_entry : List ℕ → Bool
is_sync_entry word = is_name MEMBER_ID_BYTES_MAX (key_of word) && is_opaque ASSIGNMENT_BYTES_MAX (given_to word)

unfoldable pub sync_entry_in : List ℕ → SyncEntry
sync_entry_in word = record { member = key_of word; assignment = bytes_in (given_to word) }

-- entries for different members, at most as many as a group has members
unfoldable pub are_sync_entries : List (List ℕ) → Bool
are_sync_entries words = nat_le (length words) MEMBERS_MAX && list_all is_sync_entry words && are_distinct (map key_of words)

-- the fields between colons
abbrev pub topic_field : List ℕ → List ℕ
topic_field word = before colon word

abbrev pub partition_field : List ℕ → List ℕ
partition_field word = before colon (behind colon word)

abbrev pub offset_field : List ℕ → List ℕ
offset_field word = before colon (behind colon (behind colon word))

abbrev pub metadata_field : List ℕ → List ℕ
metadata_field word = behind colon (behind colon (behind colon word))

-- the word begins with topic:partition
unfoldable pub is_place : List ℕ → Bool
is_place word = is_name NAME_BYTES_MAX (topic_field word) && is_number PARTITION_MAX (partition_field word)

-- topic:partition
unfoldable pub is_partition : List ℕ → Bool
is_partition word = is_name NAME_BYTES_MAX (before colon word) && is_number PARTITION_MAX (behind colon word)

unfoldable pub partition_in : List ℕ → TopicPartition
partition_in word = topic_partition (before colon word) (value_of (behind colon word))

-- topic:partition:offset:bytes
unfoldable pub is_commit : List ℕ → Bool
is_commit word = is_place word && is_number OFFSET_MAX (offset_field word) && is_bytes (metadata_field word)

unfoldable pub commit_in : List ℕ → CommitEntry
commit_in word = record {
  key = topic_partition (topic_field word) (value_of (partition_field word));
  offset = value_of (offset_field word);
  metadata = bytes_in (metadata_field word);
}

-- both words have the same partition
unfoldable pub share_place : List ℕ → List ℕ → Bool
share_place a b = bytes_eq (topic_field a) (topic_field b) && bytes_eq (partition_field a) (partition_field b)

-- no partition comes twice
unfoldable pub have_own_places : List (List ℕ) → Bool
have_own_places [] = true
have_own_places (w ∷ ws) = not (list_any (share_place w) ws) && have_own_places ws

-- commits to different partitions, from one to the limit of a line
unfoldable pub are_commits : List (List ℕ) → Bool
are_commits words = nat_le 1 (length words) && nat_le (length words) ENTRIES_MAX && list_all is_commit words && have_own_places words

-- different partitions, from one to the limit of a line
unfoldable pub are_partitions : List (List ℕ) → Bool
are_partitions words = nat_le 1 (length words) && nat_le (length words) ENTRIES_MAX && list_all is_partition words && have_own_places words

-- a group, a member, an instance and a client
abbrev pub is_caller : List ℕ → List ℕ → List ℕ → List ℕ → Bool
is_caller g m i c = is_optional NAME_BYTES_MAX g && is_optional MEMBER_ID_BYTES_MAX m && is_optional NAME_BYTES_MAX i && is_name NAME_BYTES_MAX c

-- two timeouts and a protocol type
abbrev pub are_terms : List ℕ → List ℕ → List ℕ → Bool
are_terms s r t = is_number SESSION_LINE_MS_MAX s && is_number REBALANCE_MS_MAX r && is_name NAME_BYTES_MAX t

unfoldable pub join_of : List (List ℕ) → Option JoinRequest
join_of (g ∷ m ∷ i ∷ c ∷ s ∷ r ∷ t ∷ ps) =
    if is_caller g m i c && are_terms s r t && are_protocols ps
    then Some (record {
      group = optional_in g;
      member = optional_in m;
      instance = optional_in i;
      client = c;
      session_ms = value_of s;
      rebalance = value_of r;
      kind = t;
      protocols = map protocol_in ps;
    })
    else None
join_of _ = None

-- a group, a generation, a member and an instance: all of BEAT, and the first words of SYNC and COMMIT
abbrev pub is_call : List ℕ → List ℕ → List ℕ → List ℕ → Bool
is_call g n m i = is_optional NAME_BYTES_MAX g && is_generation n && is_optional MEMBER_ID_BYTES_MAX m && is_optional NAME_BYTES_MAX i

unfoldable pub sync_of : List (List ℕ) → Option SyncRequest
sync_of (g ∷ n ∷ m ∷ i ∷ es) =
    if is_call g n m i && are_sync_entries es
    then Some (record {
      group = optional_in g;
      generation = generation_in n;
      member = optional_in m;
      instance = optional_in i;
      entries = map sync_entry_in es;
    })
    else None
sync_of _ = None

unfoldable pub beat_of : List (List ℕ) → Option BeatRequest
beat_of (g ∷ n ∷ m ∷ i ∷ []) =
    if is_call g n m i
    then Some (record { group = optional_in g; generation = generation_in n; member = optional_in m; instance = optional_in i })
    else None
beat_of _ = None

unfoldable pub leave_of : List (List ℕ) → Option LeaveRequest
leave_of (g ∷ m ∷ i ∷ []) =
    if is_optional NAME_BYTES_MAX g && is_optional MEMBER_ID_BYTES_MAX m && is_optional NAME_BYTES_MAX i
    then Some (record { group = optional_in g; member = optional_in m; instance = optional_in i })
    else None
leave_of _ = None

unfoldable pub commit_of : List (List ℕ) → Option CommitRequest
commit_of (g ∷ n ∷ m ∷ i ∷ es) =
    if is_call g n m i && are_commits es
    then Some (record {
      group = optional_in g;
      generation = generation_in n;
      member = optional_in m;
      instance = optional_in i;
      entries = map commit_in es;
    })
    else None
commit_of _ = None

-- a group and its partitions: the words of FETCH and DROP
unfoldable pub group_and_partitions_of : List (List ℕ) → Option (Option (List ℕ) × List TopicPartition)
group_and_partitions_of (g ∷ ps) = if is_optional NAME_BYTES_MAX g && are_partitions ps then Some (optional_in g, map partition_in ps) else None
group_and_partitions_of _ = None

unfoldable pub fetch_of : List (List ℕ) → Option FetchRequest
fetch_of words = option_map (λ (group, partitions). record { group = group; partitions = partitions }) (group_and_partitions_of words)

unfoldable pub drop_of : List (List ℕ) → Option DropRequest
drop_of words = option_map (λ (group, partitions). record { group = group; partitions = partitions }) (group_and_partitions_of words)

-- a single group
unfoldable pub group_of : List (List ℕ) → Option (Option (List ℕ))
group_of (g ∷ []) = if is_optional NAME_BYTES_MAX g then Some (optional_in g) else None
group_of _ = None

-- no words
abbrev pub nothing_of : List (List ℕ) → Option Request
nothing_of [] = Some request.List
nothing_of _ = None

-- the requests of members
unfoldable pub member_call_of : List ℕ → List (List ℕ) → Option Request
member_call_of kind words =
    if bytes_eq kind (codes "JOIN") then option_map request.Join (join_of words)
    else if bytes_eq kind (codes "SYNC") then option_map request.Sync (sync_of words)
    else if bytes_eq kind (codes "BEAT") then option_map request.Beat (beat_of words)
    else if bytes_eq kind (codes "LEAVE") then option_map request.Leave (leave_of words)
    else None

-- the requests about offsets and groups
unfoldable pub group_call_of : List ℕ → List (List ℕ) → Option Request
group_call_of kind words =
    if bytes_eq kind (codes "COMMIT") then option_map request.Commit (commit_of words)
    else if bytes_eq kind (codes "FETCH") then option_map request.Fetch (fetch_of words)
    else if bytes_eq kind (codes "DESCRIBE") then option_map request.Describe (group_of words)
    else if bytes_eq kind (codes "DELETE") then option_map request.Delete (group_of words)
    else if bytes_eq kind (codes "DROP") then option_map request.Drop (drop_of words)
    else if bytes_eq kind (codes "LIST") then nothing_of words
    else None

-- the word is JOIN, SYNC, BEAT or LEAVE
abbrev pub is_member_call : List ℕ → Bool
is_member_call kind = bytes_eq kind (codes "JOIN") || bytes_eq kind (codes "SYNC") || bytes_eq kind (codes "BEAT") || bytes_eq kind (codes "LEAVE")

-- the request of these words
unfoldable pub request_of : List (List ℕ) → Option Request
request_of [] = None
request_of (kind ∷ words) = if is_member_call kind then member_call_of kind words else group_call_of kind words
