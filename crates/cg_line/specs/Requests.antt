-- The only spelling of each request as a line, and what a lawful request is.
use Rattle.std.specs.Prelude.{◌≡◌, ℕ, ℤ, pos, negsuc, ◌≤◌, ◌≤ℤ◌, List, [], ◌∷◌, map, length, codes, Option, IfSome}
use Rattle.std.specs.List.{AllByRecursion}
use Rattle.std.specs.Fmt.{decimal, signed_decimal}
use Rattle.hex.specs.Hex.{IsBytes}
use Rattle.cg_names.specs.Grammar.{IsName}
use Rattle.cg_names.specs.declared.name.TheConstants.{NAME_BYTES_MAX, MEMBER_ID_BYTES_MAX}
use Rattle.cg_record.specs.declared.millis.TheConstants.{REBALANCE_MS_MAX}
use Rattle.cg_record.specs.declared.offset.TheConstants.{OFFSET_MAX}
use Rattle.cg_record.specs.declared.opaque.TheConstants.{SUBSCRIPTION_BYTES_MAX, ASSIGNMENT_BYTES_MAX}
use Rattle.cg_record.specs.declared.topic_partition.TopicPartition.{TopicPartition}
use Rattle.cg_record.specs.Lawful.{IsKey}
use Rattle.cg_record.specs.Partitions.{ArePartitions}
use Rattle.cg_request.specs.declared.request.Request.{Request}
use Rattle.cg_request.specs.declared.request.Request.TheVariants as request
use Rattle.cg_request.specs.declared.commit_entry.CommitEntry.{CommitEntry}
use Rattle.cg_request.specs.declared.protocol.Protocol.{Protocol}
use Rattle.cg_request.specs.declared.request_fields.JoinRequest.{JoinRequest}
use Rattle.cg_request.specs.declared.request_fields.SyncRequest.{SyncRequest}
use Rattle.cg_request.specs.declared.request_fields.SyncEntry.{SyncEntry}
use Rattle.cg_request.specs.declared.request_fields.BeatRequest.{BeatRequest}
use Rattle.cg_request.specs.declared.request_fields.LeaveRequest.{LeaveRequest}
use Rattle.cg_request.specs.declared.request_fields.CommitRequest.{CommitRequest}
use Rattle.cg_request.specs.declared.request_fields.FetchRequest.{FetchRequest}
use Rattle.cg_request.specs.declared.request_fields.DropRequest.{DropRequest}
use Rattle.cg_request.specs.Commits.{AreCommits}
use Rattle.cg_request.specs.SyncEntries.{AreSyncEntries}
use Rattle.cg_request.specs.Protocols.{AreProtocols}
use Rattle.cg_line.specs.declared.parser.TheConstants.{SESSION_LINE_MS_MAX}
use Rattle.cg_line.specs.Splitting.{colon, equals, joined}
use Rattle.cg_line.specs.Words.{spaced, bytes_word, name_word}

-- name=bytes
abbrev pub protocol_word : Protocol → List ℕ
protocol_word p = joined equals (p.name ∷ bytes_word p.subscription ∷ [])

-- member=bytes
abbrev pub sync_entry_word : SyncEntry → List ℕ
sync_entry_word e = joined equals (e.member ∷ bytes_word e.assignment ∷ [])

-- topic:partition:offset:bytes
abbrev pub commit_word : CommitEntry → List ℕ
commit_word e = joined colon (e.key.topic ∷ decimal e.key.partition ∷ decimal e.offset ∷ bytes_word e.metadata ∷ [])

-- topic:partition
abbrev pub partition_word : TopicPartition → List ℕ
partition_word p = joined colon (p.topic ∷ decimal p.partition ∷ [])

abbrev pub join_words : JoinRequest → List (List ℕ)
join_words r = codes "JOIN" ∷ name_word r.group ∷ name_word r.member ∷ name_word r.instance ∷ r.client
    ∷ decimal r.session_ms ∷ decimal r.rebalance ∷ r.kind ∷ map protocol_word r.protocols

abbrev pub sync_words : SyncRequest → List (List ℕ)
sync_words r = codes "SYNC" ∷ name_word r.group ∷ signed_decimal r.generation ∷ name_word r.member ∷ name_word r.instance
    ∷ map sync_entry_word r.entries

abbrev pub beat_words : BeatRequest → List (List ℕ)
beat_words r = codes "BEAT" ∷ name_word r.group ∷ signed_decimal r.generation ∷ name_word r.member ∷ name_word r.instance ∷ []

abbrev pub leave_words : LeaveRequest → List (List ℕ)
leave_words r = codes "LEAVE" ∷ name_word r.group ∷ name_word r.member ∷ name_word r.instance ∷ []

abbrev pub commit_words : CommitRequest → List (List ℕ)
commit_words r = codes "COMMIT" ∷ name_word r.group ∷ signed_decimal r.generation ∷ name_word r.member ∷ name_word r.instance
    ∷ map commit_word r.entries

abbrev pub fetch_words : FetchRequest → List (List ℕ)
fetch_words r = codes "FETCH" ∷ name_word r.group ∷ map partition_word r.partitions

abbrev pub drop_words : DropRequest → List (List ℕ)
drop_words r = codes "DROP" ∷ name_word r.group ∷ map partition_word r.partitions

-- the words of a request
unfoldable pub request_words : Request → List (List ℕ)
request_words (request.Join r) = join_words r
request_words (request.Sync r) = sync_words r
request_words (request.Beat r) = beat_words r
request_words (request.Leave r) = leave_words r
request_words (request.Commit r) = commit_words r
request_words (request.Fetch r) = fetch_words r
request_words (request.Describe group) = codes "DESCRIBE" ∷ name_word group ∷ []
request_words (request.Delete group) = codes "DELETE" ∷ name_word group ∷ []
request_words (request.Drop r) = drop_words r
request_words request.List = codes "LIST" ∷ []

-- the line of a request, without its line feed
unfoldable pub request_line : Request → List ℕ
request_line r = spaced (request_words r)

-- a name of at most `max` bytes, or no name
abbrev pub IsOptional : ℕ → Option (List ℕ) → Type 0
IsOptional max name = IfSome name (IsName max)

-- at most `max` bytes
abbrev pub IsOpaque : ℕ → List ℕ → Type 0
IsOpaque max bytes = (length bytes ≤ max) × IsBytes bytes

-- a generation on a line: any signed 32-bit number
abbrev pub IsGeneration : ℤ → Type 0
IsGeneration n = (negsuc 2147483647 ≤ℤ n) × (n ≤ℤ pos 2147483647)

pub record IsProtocol (p : Protocol) : Type 0 where
  pub name : IsName NAME_BYTES_MAX p.name
  pub subscription : IsOpaque SUBSCRIPTION_BYTES_MAX p.subscription

pub record IsSyncEntry (e : SyncEntry) : Type 0 where
  pub member : IsName MEMBER_ID_BYTES_MAX e.member
  pub assignment : IsOpaque ASSIGNMENT_BYTES_MAX e.assignment

pub record IsCommitEntry (e : CommitEntry) : Type 0 where
  pub key : IsKey e.key
  pub offset : e.offset ≤ OFFSET_MAX
  pub metadata : IsBytes e.metadata

pub record IsJoin (r : JoinRequest) : Type 0 where
  pub group : IsOptional NAME_BYTES_MAX r.group
  pub member : IsOptional MEMBER_ID_BYTES_MAX r.member
  pub instance : IsOptional NAME_BYTES_MAX r.instance
  pub client : IsName NAME_BYTES_MAX r.client
  pub session_ms : r.session_ms ≤ SESSION_LINE_MS_MAX
  pub rebalance : r.rebalance ≤ REBALANCE_MS_MAX
  pub kind : IsName NAME_BYTES_MAX r.kind
  pub protocols : AreProtocols r.protocols
  pub each : AllByRecursion IsProtocol r.protocols

pub record IsSync (r : SyncRequest) : Type 0 where
  pub group : IsOptional NAME_BYTES_MAX r.group
  pub generation : IsGeneration r.generation
  pub member : IsOptional MEMBER_ID_BYTES_MAX r.member
  pub instance : IsOptional NAME_BYTES_MAX r.instance
  pub entries : AreSyncEntries r.entries
  pub each : AllByRecursion IsSyncEntry r.entries

pub record IsBeat (r : BeatRequest) : Type 0 where
  pub group : IsOptional NAME_BYTES_MAX r.group
  pub generation : IsGeneration r.generation
  pub member : IsOptional MEMBER_ID_BYTES_MAX r.member
  pub instance : IsOptional NAME_BYTES_MAX r.instance

pub record IsLeave (r : LeaveRequest) : Type 0 where
  pub group : IsOptional NAME_BYTES_MAX r.group
  pub member : IsOptional MEMBER_ID_BYTES_MAX r.member
  pub instance : IsOptional NAME_BYTES_MAX r.instance

pub record IsCommit (r : CommitRequest) : Type 0 where
  pub group : IsOptional NAME_BYTES_MAX r.group
  pub generation : IsGeneration r.generation
  pub member : IsOptional MEMBER_ID_BYTES_MAX r.member
  pub instance : IsOptional NAME_BYTES_MAX r.instance
  pub entries : AreCommits r.entries
  pub each : AllByRecursion IsCommitEntry r.entries

pub record IsFetch (r : FetchRequest) : Type 0 where
  pub group : IsOptional NAME_BYTES_MAX r.group
  pub partitions : ArePartitions r.partitions
  pub each : AllByRecursion IsKey r.partitions

pub record IsDrop (r : DropRequest) : Type 0 where
  pub group : IsOptional NAME_BYTES_MAX r.group
  pub partitions : ArePartitions r.partitions
  pub each : AllByRecursion IsKey r.partitions

-- a request whose parts are in their grammars, ranges and limits
abbrev pub IsRequest : Request → Type 0
IsRequest (request.Join r) = IsJoin r
IsRequest (request.Sync r) = IsSync r
IsRequest (request.Beat r) = IsBeat r
IsRequest (request.Leave r) = IsLeave r
IsRequest (request.Commit r) = IsCommit r
IsRequest (request.Fetch r) = IsFetch r
IsRequest (request.Describe group) = IsOptional NAME_BYTES_MAX group
IsRequest (request.Delete group) = IsOptional NAME_BYTES_MAX group
IsRequest (request.Drop r) = IsDrop r
IsRequest request.List = Unit {0}

-- the text is the line of a lawful request
abbrev pub Spells : List ℕ → Request → Type 0
Spells line r = IsRequest r × (line ≡ request_line r)
