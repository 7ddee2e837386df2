-- The line of a lawful request is parsed as that request.
use Rattle.std.proofs.Common.{◌≡◌, ℕ, ℤ, ◌^◌, ◌<◌, ◌≤◌, Bool, true, cond, List, [], ◌∷◌, length, map, refl, ap, ◌∙◌, arith, Option, Some, None}
use Rattle.std.specs.Prelude.{codes}
use Rattle.std.specs.List.{AllByRecursion}
use Rattle.std.specs.Option.{option_map}
use Rattle.std.specs.Fmt.{decimal, signed_decimal}
use Rattle.std.proofs.lemmas.List.{length-map}
use Rattle.std.proofs.lemmas.Bool.{and_from}
use Rattle.cg_names.specs.declared.name.TheConstants.{NAME_BYTES_MAX, MEMBER_ID_BYTES_MAX}
use Rattle.cg_record.specs.declared.millis.TheConstants.{REBALANCE_MS_MAX}
use Rattle.cg_record.specs.declared.topic_partition.TopicPartition.{TopicPartition}
use Rattle.cg_record.specs.Lawful.{IsKey}
use Rattle.cg_record.specs.Partitions.{ArePartitions}
use Rattle.cg_request.specs.declared.request.Request.{Request}
use Rattle.cg_request.specs.declared.request.Request.TheVariants as request
use Rattle.cg_request.specs.declared.request_fields.JoinRequest.{JoinRequest}
use Rattle.cg_request.specs.declared.request_fields.SyncRequest.{SyncRequest}
use Rattle.cg_request.specs.declared.request_fields.BeatRequest.{BeatRequest}
use Rattle.cg_request.specs.declared.request_fields.LeaveRequest.{LeaveRequest}
use Rattle.cg_request.specs.declared.request_fields.CommitRequest.{CommitRequest}
use Rattle.cg_request.specs.declared.request_fields.FetchRequest.{FetchRequest}
use Rattle.cg_request.specs.declared.request_fields.DropRequest.{DropRequest}
use Rattle.cg_line.specs.declared.parser.TheConstants.{SESSION_LINE_MS_MAX}
use Rattle.cg_line.specs.declared.parser.word_split.TheConstants.{WORDS_MAX}
use Rattle.cg_line.specs.Parsing.{are_terms, beat_of, commit_in, commit_of, drop_of, fetch_of, group_and_partitions_of, group_call_of, group_of, is_call, is_caller, join_of, leave_of, member_call_of, partition_in, protocol_in, request_of, sync_entry_in, sync_of}
use Rattle.cg_line.specs.Requests.{IsBeat, IsCommit, IsCommitEntry, IsDrop, IsFetch, IsGeneration, IsJoin, IsLeave, IsOptional, IsProtocol, IsRequest, IsSync, IsSyncEntry, Spells, commit_word, partition_word, protocol_word, request_line, request_words, sync_entry_word}
use Rattle.cg_line.specs.Splitting.{words_of}
use Rattle.cg_line.specs.Words.{name_word, spaced}
use Rattle.cg_line.proofs.Decimals.{is_number-decimal, value_of-decimal}
use Rattle.cg_line.proofs.Generations.{decimal_free, generation_in-signed, is_generation-signed, signed_free}
use Rattle.cg_line.proofs.Joined.{words_of-spaced}
use Rattle.cg_line.proofs.Keyed.{are_protocols-words, are_sync_entries-words, protocol_free, protocol_in-word, sync_entry_free, sync_entry_in-word}
use Rattle.cg_line.proofs.Lists.{free_all, read_all}
use Rattle.cg_line.proofs.Optionals.{is_name-from_name, is_optional-name_word, name_free, name_word_free, optional_in-name_word}
use Rattle.cg_line.proofs.Placed.{are_commits-words, are_partitions-words, commit_free, commit_in-word, partition_free, partition_in-word}

picked : {A : Type 0} (b : Bool) (x r : A) → b ≡ true → x ≡ r → cond b (Some x) None ≡ Some r
picked b x r is same = rw (is, same) refl

pair_from : {A B : Type 0} (p : A × B) (a : A) (b : B) → p.0 ≡ a → p.1 ≡ b → p ≡ (a, b)
pair_from (x, y) a b e1 e2 = rw (e1, e2) refl

call_complete : (g m i : Option (List ℕ)) (n : ℤ) → IsOptional NAME_BYTES_MAX g → IsGeneration n → IsOptional MEMBER_ID_BYTES_MAX m → IsOptional NAME_BYTES_MAX i
    → is_call (name_word g) (signed_decimal n) (name_word m) (name_word i) ≡ true
call_complete g m i n is_g is_n is_m is_i =
    rw (is_optional-name_word NAME_BYTES_MAX g is_g, is_generation-signed n is_n.0 is_n.1, is_optional-name_word MEMBER_ID_BYTES_MAX m is_m) (is_optional-name_word NAME_BYTES_MAX i is_i)

made_sync : (r s : SyncRequest) → s.group ≡ r.group → s.generation ≡ r.generation → s.member ≡ r.member → s.instance ≡ r.instance → s.entries ≡ r.entries → s ≡ r
made_sync r s e1 e2 e3 e4 e5 =
    let whole : record { group = s.group; generation = s.generation; member = s.member; instance = s.instance; entries = s.entries } ≡ r = rw (e1, e2, e3, e4, e5) refl in
    whole

sync_complete : (r : SyncRequest) → IsSync r → sync_of (name_word r.group ∷ signed_decimal r.generation ∷ name_word r.member ∷ name_word r.instance ∷ map sync_entry_word r.entries) ≡ Some r
unfolding sync_of
sync_complete r is =
    picked _ _ r (and_from _ _ (call_complete r.group r.member r.instance r.generation is.group is.generation is.member is.instance) (are_sync_entries-words r.entries is.entries is.each))
    (made_sync r _ (optional_in-name_word NAME_BYTES_MAX r.group is.group) (generation_in-signed r.generation is.generation.0 is.generation.1)
    (optional_in-name_word MEMBER_ID_BYTES_MAX r.member is.member) (optional_in-name_word NAME_BYTES_MAX r.instance is.instance)
    (read_all IsSyncEntry sync_entry_in sync_entry_word sync_entry_in-word r.entries is.each))

made_commit : (r s : CommitRequest) → s.group ≡ r.group → s.generation ≡ r.generation → s.member ≡ r.member → s.instance ≡ r.instance → s.entries ≡ r.entries → s ≡ r
made_commit r s e1 e2 e3 e4 e5 =
    let whole : record { group = s.group; generation = s.generation; member = s.member; instance = s.instance; entries = s.entries } ≡ r = rw (e1, e2, e3, e4, e5) refl in
    whole

commit_complete : (r : CommitRequest) → IsCommit r → commit_of (name_word r.group ∷ signed_decimal r.generation ∷ name_word r.member ∷ name_word r.instance ∷ map commit_word r.entries) ≡ Some r
unfolding commit_of
commit_complete r is =
    picked _ _ r (and_from _ _ (call_complete r.group r.member r.instance r.generation is.group is.generation is.member is.instance) (are_commits-words r.entries is.entries is.each))
    (made_commit r _ (optional_in-name_word NAME_BYTES_MAX r.group is.group) (generation_in-signed r.generation is.generation.0 is.generation.1)
    (optional_in-name_word MEMBER_ID_BYTES_MAX r.member is.member) (optional_in-name_word NAME_BYTES_MAX r.instance is.instance)
    (read_all IsCommitEntry commit_in commit_word commit_in-word r.entries is.each))

made_beat : (r s : BeatRequest) → s.group ≡ r.group → s.generation ≡ r.generation → s.member ≡ r.member → s.instance ≡ r.instance → s ≡ r
made_beat r s e1 e2 e3 e4 =
    let whole : record { group = s.group; generation = s.generation; member = s.member; instance = s.instance } ≡ r = rw (e1, e2, e3, e4) refl in
    whole

beat_complete : (r : BeatRequest) → IsBeat r → beat_of (name_word r.group ∷ signed_decimal r.generation ∷ name_word r.member ∷ name_word r.instance ∷ []) ≡ Some r
unfolding beat_of
beat_complete r is =
    picked _ _ r (call_complete r.group r.member r.instance r.generation is.group is.generation is.member is.instance)
    (made_beat r _ (optional_in-name_word NAME_BYTES_MAX r.group is.group) (generation_in-signed r.generation is.generation.0 is.generation.1)
    (optional_in-name_word MEMBER_ID_BYTES_MAX r.member is.member) (optional_in-name_word NAME_BYTES_MAX r.instance is.instance))

made_leave : (r s : LeaveRequest) → s.group ≡ r.group → s.member ≡ r.member → s.instance ≡ r.instance → s ≡ r
made_leave r s e1 e3 e4 =
    let whole : record { group = s.group; member = s.member; instance = s.instance } ≡ r = rw (e1, e3, e4) refl in
    whole

leave_complete : (r : LeaveRequest) → IsLeave r → leave_of (name_word r.group ∷ name_word r.member ∷ name_word r.instance ∷ []) ≡ Some r
unfolding leave_of
leave_complete r is =
    picked _ _ r (and_from _ _ (and_from _ _ (is_optional-name_word NAME_BYTES_MAX r.group is.group) (is_optional-name_word MEMBER_ID_BYTES_MAX r.member is.member)) (is_optional-name_word NAME_BYTES_MAX r.instance is.instance))
    (made_leave r _ (optional_in-name_word NAME_BYTES_MAX r.group is.group) (optional_in-name_word MEMBER_ID_BYTES_MAX r.member is.member) (optional_in-name_word NAME_BYTES_MAX r.instance is.instance))

partitions_complete : (group : Option (List ℕ)) (partitions : List TopicPartition) → IsOptional NAME_BYTES_MAX group → ArePartitions partitions → AllByRecursion IsKey partitions
    → group_and_partitions_of (name_word group ∷ map partition_word partitions) ≡ Some (group, partitions)
unfolding group_and_partitions_of
partitions_complete group partitions is_group are each =
    picked _ _ (group, partitions) (and_from _ _ (is_optional-name_word NAME_BYTES_MAX group is_group) (are_partitions-words partitions are each))
    (pair_from _ group partitions (optional_in-name_word NAME_BYTES_MAX group is_group) (read_all IsKey partition_in partition_word partition_in-word partitions each))

fetch_complete : (r : FetchRequest) → IsFetch r → fetch_of (name_word r.group ∷ map partition_word r.partitions) ≡ Some r
unfolding fetch_of
fetch_complete r is = rw (partitions_complete r.group r.partitions is.group is.partitions is.each) refl

drop_complete : (r : DropRequest) → IsDrop r → drop_of (name_word r.group ∷ map partition_word r.partitions) ≡ Some r
unfolding drop_of
drop_complete r is = rw (partitions_complete r.group r.partitions is.group is.partitions is.each) refl

group_complete : (o : Option (List ℕ)) → IsOptional NAME_BYTES_MAX o → group_of (name_word o ∷ []) ≡ Some o
unfolding group_of
group_complete o is = picked _ _ o (is_optional-name_word NAME_BYTES_MAX o is) (optional_in-name_word NAME_BYTES_MAX o is)

session_small : (n : ℕ) → n ≤ SESSION_LINE_MS_MAX → n < 2 ^ 64
session_small n within = omega arith

rebalance_small : (n : ℕ) → n ≤ REBALANCE_MS_MAX → n < 2 ^ 64
rebalance_small n within = omega arith

caller_complete : (j : JoinRequest) → IsJoin j → is_caller (name_word j.group) (name_word j.member) (name_word j.instance) j.client ≡ true
caller_complete j is =
    and_from _ _ (and_from _ _ (and_from _ _ (is_optional-name_word NAME_BYTES_MAX j.group is.group) (is_optional-name_word MEMBER_ID_BYTES_MAX j.member is.member)) (is_optional-name_word NAME_BYTES_MAX j.instance is.instance)) (is_name-from_name NAME_BYTES_MAX j.client is.client)

terms_complete : (j : JoinRequest) → IsJoin j → are_terms (decimal j.session_ms) (decimal j.rebalance) j.kind ≡ true
terms_complete j is =
    and_from _ _ (and_from _ _ (is_number-decimal SESSION_LINE_MS_MAX j.session_ms is.session_ms (session_small j.session_ms is.session_ms))
    (is_number-decimal REBALANCE_MS_MAX j.rebalance is.rebalance (rebalance_small j.rebalance is.rebalance))) (is_name-from_name NAME_BYTES_MAX j.kind is.kind)

made_join : (r s : JoinRequest) → s.group ≡ r.group → s.member ≡ r.member → s.instance ≡ r.instance → s.client ≡ r.client → s.session_ms ≡ r.session_ms
    → s.rebalance ≡ r.rebalance → s.kind ≡ r.kind → s.protocols ≡ r.protocols → s ≡ r
made_join r s e1 e2 e3 e4 e5 e6 e7 e8 =
    let whole : record { group = s.group; member = s.member; instance = s.instance; client = s.client; session_ms = s.session_ms; rebalance = s.rebalance; kind = s.kind; protocols = s.protocols } ≡ r = rw (e1, e2, e3, e4, e5, e6, e7, e8) refl in
    whole

join_complete : (j : JoinRequest) → IsJoin j → join_of (name_word j.group ∷ name_word j.member ∷ name_word j.instance ∷ j.client ∷ decimal j.session_ms ∷ decimal j.rebalance ∷ j.kind ∷ map protocol_word j.protocols) ≡ Some j
unfolding join_of
join_complete j is =
    picked _ _ j (and_from _ _ (and_from _ _ (caller_complete j is) (terms_complete j is)) (are_protocols-words j.protocols is.protocols is.each))
    (made_join j _ (optional_in-name_word NAME_BYTES_MAX j.group is.group) (optional_in-name_word MEMBER_ID_BYTES_MAX j.member is.member)
    (optional_in-name_word NAME_BYTES_MAX j.instance is.instance) refl (value_of-decimal j.session_ms (session_small j.session_ms is.session_ms))
    (value_of-decimal j.rebalance (rebalance_small j.rebalance is.rebalance)) refl (read_all IsProtocol protocol_in protocol_word protocol_in-word j.protocols is.each))

words_complete : (r : Request) → IsRequest r → request_of (request_words r) ≡ Some r
unfolding request_of request_words member_call_of group_call_of
words_complete (request.Join r) is = ap (option_map request.Join) (join_complete r is)
words_complete (request.Sync r) is = ap (option_map request.Sync) (sync_complete r is)
words_complete (request.Beat r) is = ap (option_map request.Beat) (beat_complete r is)
words_complete (request.Leave r) is = ap (option_map request.Leave) (leave_complete r is)
words_complete (request.Commit r) is = ap (option_map request.Commit) (commit_complete r is)
words_complete (request.Fetch r) is = ap (option_map request.Fetch) (fetch_complete r is)
words_complete (request.Describe group) is = ap (option_map request.Describe) (group_complete group is)
words_complete (request.Delete group) is = ap (option_map request.Delete) (group_complete group is)
words_complete (request.Drop r) is = ap (option_map request.Drop) (drop_complete r is)
words_complete request.List is = refl

-- no word has a space, so the words of the line are those of the request
line_words : (r : Request) → IsRequest r → words_of (spaced (request_words r)) ≡ request_words r
unfolding request_words
line_words (request.Join r) is = words_of-spaced (codes "JOIN") _ (
  refl,
  (
    name_word_free NAME_BYTES_MAX r.group is.group,
    (
      name_word_free MEMBER_ID_BYTES_MAX r.member is.member,
      (
        name_word_free NAME_BYTES_MAX r.instance is.instance,
        (
          name_free 32 NAME_BYTES_MAX r.client refl is.client,
          (
            decimal_free 32 r.session_ms refl (session_small r.session_ms is.session_ms),
            (
              decimal_free 32 r.rebalance refl (rebalance_small r.rebalance is.rebalance),
              (
                name_free 32 NAME_BYTES_MAX r.kind refl is.kind,
                free_all IsProtocol protocol_word protocol_free r.protocols is.each,
              ),
            ),
          ),
        ),
      ),
    ),
  ),
)
line_words (request.Sync r) is = words_of-spaced (codes "SYNC") _ (
  refl,
  (
    name_word_free NAME_BYTES_MAX r.group is.group,
    (
      signed_free r.generation is.generation.0 is.generation.1,
      (
        name_word_free MEMBER_ID_BYTES_MAX r.member is.member,
        (name_word_free NAME_BYTES_MAX r.instance is.instance, free_all IsSyncEntry sync_entry_word sync_entry_free r.entries is.each),
      ),
    ),
  ),
)
line_words (request.Beat r) is = words_of-spaced (codes "BEAT") _ (
  refl,
  (
    name_word_free NAME_BYTES_MAX r.group is.group,
    (
      signed_free r.generation is.generation.0 is.generation.1,
      (
        name_word_free MEMBER_ID_BYTES_MAX r.member is.member,
        (name_word_free NAME_BYTES_MAX r.instance is.instance, tt),
      ),
    ),
  ),
)
line_words (request.Leave r) is = words_of-spaced (codes "LEAVE") _
    (refl, (name_word_free NAME_BYTES_MAX r.group is.group, (name_word_free MEMBER_ID_BYTES_MAX r.member is.member, (name_word_free NAME_BYTES_MAX r.instance is.instance, tt))))
line_words (request.Commit r) is = words_of-spaced (codes "COMMIT") _ (
  refl,
  (
    name_word_free NAME_BYTES_MAX r.group is.group,
    (
      signed_free r.generation is.generation.0 is.generation.1,
      (
        name_word_free MEMBER_ID_BYTES_MAX r.member is.member,
        (name_word_free NAME_BYTES_MAX r.instance is.instance, free_all IsCommitEntry commit_word commit_free r.entries is.each),
      ),
    ),
  ),
)
line_words (request.Fetch r) is = words_of-spaced (codes "FETCH") _
    (refl, (name_word_free NAME_BYTES_MAX r.group is.group, free_all IsKey partition_word partition_free r.partitions is.each))
line_words (request.Describe group) is = words_of-spaced (codes "DESCRIBE") _ (refl, (name_word_free NAME_BYTES_MAX group is, tt))
line_words (request.Delete group) is = words_of-spaced (codes "DELETE") _ (refl, (name_word_free NAME_BYTES_MAX group is, tt))
line_words (request.Drop r) is = words_of-spaced (codes "DROP") _
    (refl, (name_word_free NAME_BYTES_MAX r.group is.group, free_all IsKey partition_word partition_free r.partitions is.each))
line_words request.List is = words_of-spaced (codes "LIST") [] (refl, tt)

-- a request has at most WORDS_MAX words
few_words : (r : Request) → IsRequest r → length (request_words r) ≤ WORDS_MAX
unfolding request_words
few_words (request.Join r) is = let few = is.protocols.few in let len = length-map r.protocols protocol_word in omega (arith, few, len)
few_words (request.Sync r) is = let few = is.entries.few in let len = length-map r.entries sync_entry_word in omega (arith, few, len)
few_words (request.Beat r) is = omega arith
few_words (request.Leave r) is = omega arith
few_words (request.Commit r) is = let few = is.entries.few in let len = length-map r.entries commit_word in omega (arith, few, len)
few_words (request.Fetch r) is = let few = is.partitions.few in let len = length-map r.partitions partition_word in omega (arith, few, len)
few_words (request.Describe group) is = omega arith
few_words (request.Delete group) is = omega arith
few_words (request.Drop r) is = let few = is.partitions.few in let len = length-map r.partitions partition_word in omega (arith, few, len)
few_words request.List is = omega arith

words_of_line : (line : List ℕ) (r : Request) → Spells line r → words_of line ≡ request_words r
unfolding request_line
words_of_line line r spells = ap words_of spells.1 ∙ line_words r spells.0

-- the line of a lawful request is parsed as that request
pub line_complete : (line : List ℕ) (r : Request) → Spells line r → request_of (words_of line) ≡ Some r
line_complete line r spells = ap request_of (words_of_line line r spells) ∙ words_complete r spells.0

pub line_few : (line : List ℕ) (r : Request) → Spells line r → length (words_of line) ≤ WORDS_MAX
line_few line r spells = let few = few_words r spells.0 in rw (words_of_line line r spells) few
