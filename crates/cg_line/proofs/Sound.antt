-- What is parsed as a request is the spelling of that request.
use Rattle.std.proofs.Common.{◌≡◌, ℕ, true, false, cond, List, [], ◌∷◌, map, refl, ap, sym, subst, ◌∙◌, arith, Option, Some, None}
use Rattle.std.specs.Prelude.{◌&&◌, codes}
use Rattle.std.specs.List.{AllByRecursion}
use Rattle.std.specs.Option.{option_map}
use Rattle.std.specs.Str.{bytes_eq}
use Rattle.std.specs.Fmt.{signed_decimal}
use Rattle.std.proofs.lemmas.Slice.Eq.{bytes_eq-Decides}
use Rattle.cg_names.specs.declared.name.TheConstants.{NAME_BYTES_MAX, MEMBER_ID_BYTES_MAX}
use Rattle.cg_record.specs.declared.millis.TheConstants.{REBALANCE_MS_MAX}
use Rattle.cg_record.specs.declared.topic_partition.TopicPartition.{TopicPartition}
use Rattle.cg_record.specs.Lawful.{IsKey}
use Rattle.cg_record.specs.Partitions.{ArePartitions}
use Rattle.cg_request.specs.declared.request.Request.{Request}
use Rattle.cg_request.specs.declared.request.Request.TheVariants as request
use Rattle.cg_request.specs.declared.request_fields.JoinRequest.{JoinRequest}
use Rattle.cg_request.specs.declared.request_fields.SyncRequest.{SyncRequest}
use Rattle.cg_request.specs.declared.request_fields.BeatRequest.{BeatRequest}
use Rattle.cg_request.specs.declared.request_fields.LeaveRequest.{LeaveRequest}
use Rattle.cg_request.specs.declared.request_fields.CommitRequest.{CommitRequest}
use Rattle.cg_request.specs.declared.request_fields.FetchRequest.{FetchRequest}
use Rattle.cg_request.specs.declared.request_fields.DropRequest.{DropRequest}
use Rattle.cg_line.specs.declared.parser.TheConstants.{SESSION_LINE_MS_MAX}
use Rattle.cg_line.specs.Fields.{is_name, is_optional, optional_in}
use Rattle.cg_line.specs.Numbers.{generation_in, is_generation, is_number}
use Rattle.cg_line.specs.Parsing.{are_commits, are_partitions, are_protocols, are_sync_entries, are_terms, beat_of, commit_in, commit_of, drop_of, fetch_of, group_and_partitions_of, group_call_of, group_of, is_call, is_caller, is_commit, is_member_call, is_partition, is_protocol, is_sync_entry, join_of, leave_of, member_call_of, nothing_of, partition_in, protocol_in, request_of, sync_entry_in, sync_of}
use Rattle.cg_line.specs.Requests.{IsBeat, IsCommit, IsCommitEntry, IsDrop, IsFetch, IsJoin, IsLeave, IsOptional, IsProtocol, IsRequest, IsSync, IsSyncEntry, Spells, beat_words, commit_word, commit_words, drop_words, fetch_words, join_words, leave_words, partition_word, protocol_word, request_line, request_words, sync_entry_word, sync_words}
use Rattle.cg_line.specs.Splitting.{words_of}
use Rattle.cg_line.specs.Words.{name_word, spaced}
use Rattle.cg_line.proofs.Decimals.{decimal-value_of, value_of-le}
use Rattle.cg_line.proofs.Generations.{generation_range, generation_spelled}
use Rattle.cg_line.proofs.Joined.{spaced-words_of}
use Rattle.cg_line.proofs.Keyed.{protocol_lawful, protocol_spelled, protocol_words, protocols_lawful, sync_entries_lawful, sync_entry_lawful, sync_entry_spelled, sync_words_parts}
use Rattle.cg_line.proofs.Lists.{chosen, lawful_all, spelled_all}
use Rattle.cg_line.proofs.Optionals.{IsName-from_test, optional_lawful, optional_spelled}
use Rattle.cg_line.proofs.Placed.{commit_lawful, commit_spelled, commit_words_parts, commits_lawful, partition_lawful, partition_spelled, partition_words_parts, partitions_lawful}
use Rattle.cg_line.proofs.Value.{both_of}

-- four words and more, each replaced by its equal
words_4 : (k a b c d a' b' c' d' : List ℕ) (ws vs : List (List ℕ)) → a ≡ a' → b ≡ b' → c ≡ c' → d ≡ d' → ws ≡ vs → k ∷ a ∷ b ∷ c ∷ d ∷ ws ≡ k ∷ a' ∷ b' ∷ c' ∷ d' ∷ vs
words_4 k a b c d a' b' c' d' ws vs e1 e2 e3 e4 e5 = cc

words_3 : (k a b c a' b' c' : List ℕ) (ws vs : List (List ℕ)) → a ≡ a' → b ≡ b' → c ≡ c' → ws ≡ vs → k ∷ a ∷ b ∷ c ∷ ws ≡ k ∷ a' ∷ b' ∷ c' ∷ vs
words_3 k a b c a' b' c' ws vs e1 e2 e3 e5 = cc

words_1 : (k a a' : List ℕ) (ws vs : List (List ℕ)) → a ≡ a' → ws ≡ vs → k ∷ a ∷ ws ≡ k ∷ a' ∷ vs
words_1 k a a' ws vs e1 e2 = cc

-- the four words of a member's request
pub record IsCall (g n m i : List ℕ) : Type 0 where
  pub group : is_optional NAME_BYTES_MAX g ≡ true
  pub generation : is_generation n ≡ true
  pub member : is_optional MEMBER_ID_BYTES_MAX m ≡ true
  pub instance : is_optional NAME_BYTES_MAX i ≡ true

call_parts : (g n m i : List ℕ) → is_call g n m i ≡ true → IsCall g n m i
call_parts g n m i is =
    let a = both_of (is_optional NAME_BYTES_MAX g && is_generation n && is_optional MEMBER_ID_BYTES_MAX m) (is_optional NAME_BYTES_MAX i) is in
    let b = both_of (is_optional NAME_BYTES_MAX g && is_generation n) (is_optional MEMBER_ID_BYTES_MAX m) a.0 in
    let c = both_of (is_optional NAME_BYTES_MAX g) (is_generation n) b.0 in
    record { group = c.0; generation = c.1; member = b.1; instance = a.1 }

call_spelled : (k g n m i : List ℕ) (ws vs : List (List ℕ)) → IsCall g n m i → ws ≡ vs
    → k ∷ g ∷ n ∷ m ∷ i ∷ ws ≡ k ∷ name_word (optional_in g) ∷ signed_decimal (generation_in n) ∷ name_word (optional_in m) ∷ name_word (optional_in i) ∷ vs
call_spelled k g n m i ws vs is rest =
    words_4 k g n m i _ _ _ _ ws vs (sym (optional_spelled NAME_BYTES_MAX g is.group)) (sym (generation_spelled n is.generation))
    (sym (optional_spelled MEMBER_ID_BYTES_MAX m is.member)) (sym (optional_spelled NAME_BYTES_MAX i is.instance)) rest

sync_sound : (ws : List (List ℕ)) (r : SyncRequest) → sync_of ws ≡ Some r → IsSync r × (codes "SYNC" ∷ ws ≡ sync_words r)
unfolding sync_of
sync_sound (g ∷ n ∷ m ∷ i ∷ es) r e =
    let P : SyncRequest → Type 0 = λ r. IsSync r × (codes "SYNC" ∷ g ∷ n ∷ m ∷ i ∷ es ≡ sync_words r) in
    let picked = chosen (is_call g n m i && are_sync_entries es) _ r e in
    let parts = both_of (is_call g n m i) (are_sync_entries es) picked.0 in
    let call = call_parts g n m i parts.0 in
    let each = (sync_words_parts es parts.1).each in
    let spelled = sym (spelled_all is_sync_entry sync_entry_in sync_entry_word sync_entry_spelled es each) in
    subst P picked.1 (
      record {
        group = optional_lawful NAME_BYTES_MAX g call.group;
        generation = generation_range n call.generation;
        member = optional_lawful MEMBER_ID_BYTES_MAX m call.member;
        instance = optional_lawful NAME_BYTES_MAX i call.instance;
        entries = sync_entries_lawful es parts.1;
        each = lawful_all IsSyncEntry is_sync_entry sync_entry_in sync_entry_lawful es each;
      },
      call_spelled (codes "SYNC") g n m i es _ call spelled,
    )
sync_sound (g ∷ n ∷ m ∷ []) r e = absurd (cc)
sync_sound (g ∷ n ∷ []) r e = absurd (cc)
sync_sound (g ∷ []) r e = absurd (cc)
sync_sound [] r e = absurd (cc)

commit_sound : (ws : List (List ℕ)) (r : CommitRequest) → commit_of ws ≡ Some r → IsCommit r × (codes "COMMIT" ∷ ws ≡ commit_words r)
unfolding commit_of
commit_sound (g ∷ n ∷ m ∷ i ∷ es) r e =
    let P : CommitRequest → Type 0 = λ r. IsCommit r × (codes "COMMIT" ∷ g ∷ n ∷ m ∷ i ∷ es ≡ commit_words r) in
    let picked = chosen (is_call g n m i && are_commits es) _ r e in
    let parts = both_of (is_call g n m i) (are_commits es) picked.0 in
    let call = call_parts g n m i parts.0 in
    let each = (commit_words_parts es parts.1).each in
    let spelled = sym (spelled_all is_commit commit_in commit_word commit_spelled es each) in
    subst P picked.1 (
      record {
        group = optional_lawful NAME_BYTES_MAX g call.group;
        generation = generation_range n call.generation;
        member = optional_lawful MEMBER_ID_BYTES_MAX m call.member;
        instance = optional_lawful NAME_BYTES_MAX i call.instance;
        entries = commits_lawful es parts.1;
        each = lawful_all IsCommitEntry is_commit commit_in commit_lawful es each;
      },
      call_spelled (codes "COMMIT") g n m i es _ call spelled,
    )
commit_sound (g ∷ n ∷ m ∷ []) r e = absurd (cc)
commit_sound (g ∷ n ∷ []) r e = absurd (cc)
commit_sound (g ∷ []) r e = absurd (cc)
commit_sound [] r e = absurd (cc)

beat_sound : (ws : List (List ℕ)) (r : BeatRequest) → beat_of ws ≡ Some r → IsBeat r × (codes "BEAT" ∷ ws ≡ beat_words r)
unfolding beat_of
beat_sound (g ∷ n ∷ m ∷ i ∷ []) r e =
    let P : BeatRequest → Type 0 = λ r. IsBeat r × (codes "BEAT" ∷ g ∷ n ∷ m ∷ i ∷ [] ≡ beat_words r) in
    let picked = chosen (is_call g n m i) _ r e in
    let call = call_parts g n m i picked.0 in
    subst P picked.1 (
      record {
        group = optional_lawful NAME_BYTES_MAX g call.group;
        generation = generation_range n call.generation;
        member = optional_lawful MEMBER_ID_BYTES_MAX m call.member;
        instance = optional_lawful NAME_BYTES_MAX i call.instance;
      },
      call_spelled (codes "BEAT") g n m i [] [] call refl,
    )
beat_sound (g ∷ n ∷ m ∷ i ∷ x ∷ xs) r e = absurd (cc)
beat_sound (g ∷ n ∷ m ∷ []) r e = absurd (cc)
beat_sound (g ∷ n ∷ []) r e = absurd (cc)
beat_sound (g ∷ []) r e = absurd (cc)
beat_sound [] r e = absurd (cc)

leave_sound : (ws : List (List ℕ)) (r : LeaveRequest) → leave_of ws ≡ Some r → IsLeave r × (codes "LEAVE" ∷ ws ≡ leave_words r)
unfolding leave_of
leave_sound (g ∷ m ∷ i ∷ []) r e =
    let P : LeaveRequest → Type 0 = λ r. IsLeave r × (codes "LEAVE" ∷ g ∷ m ∷ i ∷ [] ≡ leave_words r) in
    let picked = chosen (is_optional NAME_BYTES_MAX g && is_optional MEMBER_ID_BYTES_MAX m && is_optional NAME_BYTES_MAX i) _ r e in
    let a = both_of (is_optional NAME_BYTES_MAX g && is_optional MEMBER_ID_BYTES_MAX m) (is_optional NAME_BYTES_MAX i) picked.0 in
    let b = both_of (is_optional NAME_BYTES_MAX g) (is_optional MEMBER_ID_BYTES_MAX m) a.0 in
    subst P picked.1 (
      record {
        group = optional_lawful NAME_BYTES_MAX g b.0;
        member = optional_lawful MEMBER_ID_BYTES_MAX m b.1;
        instance = optional_lawful NAME_BYTES_MAX i a.1;
      },
      words_3 (codes "LEAVE") g m i _ _ _ [] [] (sym (optional_spelled NAME_BYTES_MAX g b.0)) (sym (optional_spelled MEMBER_ID_BYTES_MAX m b.1)) (sym (optional_spelled NAME_BYTES_MAX i a.1)) refl,
    )
leave_sound (g ∷ m ∷ i ∷ x ∷ xs) r e = absurd (cc)
leave_sound (g ∷ m ∷ []) r e = absurd (cc)
leave_sound (g ∷ []) r e = absurd (cc)
leave_sound [] r e = absurd (cc)

-- the value that was mapped
mapped_some : {A B : Type 0} (make : A → B) (o : Option A) (r : B) → option_map make o ≡ Some r → (x : A) × (o ≡ Some x) × (make x ≡ r)
mapped_some make None r e = absurd (cc)
mapped_some make (Some x) r e = (x, refl, cc)

-- a group and its partitions
abbrev AreNamed : Option (List ℕ) × List TopicPartition → Type 0
AreNamed (group, partitions) = IsOptional NAME_BYTES_MAX group × ArePartitions partitions × AllByRecursion IsKey partitions

partitions_sound : (k : List ℕ) (ws : List (List ℕ)) (named : Option (List ℕ) × List TopicPartition) → group_and_partitions_of ws ≡ Some named
    → AreNamed named × (k ∷ ws ≡ k ∷ name_word named.0 ∷ map partition_word named.1)
unfolding group_and_partitions_of
partitions_sound k (g ∷ ps) named e =
    let P : Option (List ℕ) × List TopicPartition → Type 0 = λ named. AreNamed named × (k ∷ g ∷ ps ≡ k ∷ name_word named.0 ∷ map partition_word named.1) in
    let picked = chosen (is_optional NAME_BYTES_MAX g && are_partitions ps) _ named e in
    let parts = both_of (is_optional NAME_BYTES_MAX g) (are_partitions ps) picked.0 in
    let each = (partition_words_parts ps parts.1).each in
    subst P picked.1 (
      (optional_lawful NAME_BYTES_MAX g parts.0, partitions_lawful ps parts.1, lawful_all IsKey is_partition partition_in partition_lawful ps each),
      words_1 k g _ ps _ (sym (optional_spelled NAME_BYTES_MAX g parts.0)) (sym (spelled_all is_partition partition_in partition_word partition_spelled ps each)),
    )
partitions_sound k [] named e = absurd (cc)

fetch_sound : (ws : List (List ℕ)) (r : FetchRequest) → fetch_of ws ≡ Some r → IsFetch r × (codes "FETCH" ∷ ws ≡ fetch_words r)
unfolding fetch_of
fetch_sound ws r e =
    let P : FetchRequest → Type 0 = λ r. IsFetch r × (codes "FETCH" ∷ ws ≡ fetch_words r) in
    let found = mapped_some _ (group_and_partitions_of ws) r e in
    let sound = partitions_sound (codes "FETCH") ws found.0 found.1 in
    subst P found.2 (record { group = sound.0.0; partitions = sound.0.1; each = sound.0.2 }, sound.1)

drop_sound : (ws : List (List ℕ)) (r : DropRequest) → drop_of ws ≡ Some r → IsDrop r × (codes "DROP" ∷ ws ≡ drop_words r)
unfolding drop_of
drop_sound ws r e =
    let P : DropRequest → Type 0 = λ r. IsDrop r × (codes "DROP" ∷ ws ≡ drop_words r) in
    let found = mapped_some _ (group_and_partitions_of ws) r e in
    let sound = partitions_sound (codes "DROP") ws found.0 found.1 in
    subst P found.2 (record { group = sound.0.0; partitions = sound.0.1; each = sound.0.2 }, sound.1)

group_sound : (k : List ℕ) (ws : List (List ℕ)) (o : Option (List ℕ)) → group_of ws ≡ Some o → IsOptional NAME_BYTES_MAX o × (k ∷ ws ≡ k ∷ name_word o ∷ [])
unfolding group_of
group_sound k (g ∷ []) o e =
    let P : Option (List ℕ) → Type 0 = λ o. IsOptional NAME_BYTES_MAX o × (k ∷ g ∷ [] ≡ k ∷ name_word o ∷ []) in
    let picked = chosen (is_optional NAME_BYTES_MAX g) _ o e in
    subst P picked.1 (optional_lawful NAME_BYTES_MAX g picked.0, words_1 k g _ [] [] (sym (optional_spelled NAME_BYTES_MAX g picked.0)) refl)
group_sound k (g ∷ x ∷ xs) o e = absurd (cc)
group_sound k [] o e = absurd (cc)

-- the words of a JOIN
pub record IsJoinHead (g m i c s r t : List ℕ) : Type 0 where
  pub group : is_optional NAME_BYTES_MAX g ≡ true
  pub member : is_optional MEMBER_ID_BYTES_MAX m ≡ true
  pub instance : is_optional NAME_BYTES_MAX i ≡ true
  pub client : is_name NAME_BYTES_MAX c ≡ true
  pub session : is_number SESSION_LINE_MS_MAX s ≡ true
  pub rebalance : is_number REBALANCE_MS_MAX r ≡ true
  pub kind : is_name NAME_BYTES_MAX t ≡ true

join_parts : (g m i c s r t : List ℕ) → is_caller g m i c ≡ true → are_terms s r t ≡ true → IsJoinHead g m i c s r t
join_parts g m i c s r t caller terms =
    let a = both_of (is_optional NAME_BYTES_MAX g && is_optional MEMBER_ID_BYTES_MAX m && is_optional NAME_BYTES_MAX i) (is_name NAME_BYTES_MAX c) caller in
    let b = both_of (is_optional NAME_BYTES_MAX g && is_optional MEMBER_ID_BYTES_MAX m) (is_optional NAME_BYTES_MAX i) a.0 in
    let d = both_of (is_optional NAME_BYTES_MAX g) (is_optional MEMBER_ID_BYTES_MAX m) b.0 in
    let x = both_of (is_number SESSION_LINE_MS_MAX s && is_number REBALANCE_MS_MAX r) (is_name NAME_BYTES_MAX t) terms in
    let y = both_of (is_number SESSION_LINE_MS_MAX s) (is_number REBALANCE_MS_MAX r) x.0 in
    record { group = d.0; member = d.1; instance = b.1; client = a.1; session = y.0; rebalance = y.1; kind = x.1 }

words_7 : (k g m i c s r t g' m' i' s' r' : List ℕ) (ws vs : List (List ℕ)) → g ≡ g' → m ≡ m' → i ≡ i' → s ≡ s' → r ≡ r' → ws ≡ vs
    → k ∷ g ∷ m ∷ i ∷ c ∷ s ∷ r ∷ t ∷ ws ≡ k ∷ g' ∷ m' ∷ i' ∷ c ∷ s' ∷ r' ∷ t ∷ vs
words_7 k g m i c s r t g' m' i' s' r' ws vs e1 e2 e3 e4 e5 e6 = cc

join_sound : (ws : List (List ℕ)) (j : JoinRequest) → join_of ws ≡ Some j → IsJoin j × (codes "JOIN" ∷ ws ≡ join_words j)
unfolding join_of
join_sound (g ∷ m ∷ i ∷ c ∷ s ∷ r ∷ t ∷ ps) j e =
    let P : JoinRequest → Type 0 = λ j. IsJoin j × (codes "JOIN" ∷ g ∷ m ∷ i ∷ c ∷ s ∷ r ∷ t ∷ ps ≡ join_words j) in
    let picked = chosen (is_caller g m i c && are_terms s r t && are_protocols ps) _ j e in
    let a = both_of (is_caller g m i c && are_terms s r t) (are_protocols ps) picked.0 in
    let b = both_of (is_caller g m i c) (are_terms s r t) a.0 in
    let head = join_parts g m i c s r t b.0 b.1 in
    let each = (protocol_words ps a.1).each in
    subst P picked.1 (
      record {
        group = optional_lawful NAME_BYTES_MAX g head.group;
        member = optional_lawful MEMBER_ID_BYTES_MAX m head.member;
        instance = optional_lawful NAME_BYTES_MAX i head.instance;
        client = IsName-from_test NAME_BYTES_MAX c head.client;
        session_ms = value_of-le SESSION_LINE_MS_MAX s head.session;
        rebalance = value_of-le REBALANCE_MS_MAX r head.rebalance;
        kind = IsName-from_test NAME_BYTES_MAX t head.kind;
        protocols = protocols_lawful ps a.1;
        each = lawful_all IsProtocol is_protocol protocol_in protocol_lawful ps each;
      },
      words_7 (codes "JOIN") g m i c s r t _ _ _ _ _ ps _ (sym (optional_spelled NAME_BYTES_MAX g head.group))
          (sym (optional_spelled MEMBER_ID_BYTES_MAX m head.member)) (sym (optional_spelled NAME_BYTES_MAX i head.instance))
          (sym (decimal-value_of SESSION_LINE_MS_MAX s (omega arith) head.session)) (sym (decimal-value_of REBALANCE_MS_MAX r (omega arith) head.rebalance))
          (sym (spelled_all is_protocol protocol_in protocol_word protocol_spelled ps each)),
    )
join_sound (g ∷ m ∷ i ∷ c ∷ s ∷ r ∷ []) j e = absurd (cc)
join_sound (g ∷ m ∷ i ∷ c ∷ s ∷ []) j e = absurd (cc)
join_sound (g ∷ m ∷ i ∷ c ∷ []) j e = absurd (cc)
join_sound (g ∷ m ∷ i ∷ []) j e = absurd (cc)
join_sound (g ∷ m ∷ []) j e = absurd (cc)
join_sound (g ∷ []) j e = absurd (cc)
join_sound [] j e = absurd (cc)

-- the words are those of the request, and it is lawful
abbrev IsSound : List ℕ → List (List ℕ) → Request → Type 0
IsSound kind ws r = IsRequest r × (kind ∷ ws ≡ request_words r)

-- one kind: if its words are sound, so is its request
kind_sound : {A : Type 0} (make : A → Request) (name kind : List ℕ) (ws : List (List ℕ)) (o : Option A) (r : Request)
    → ((x : A) → o ≡ Some x → IsSound name ws (make x)) → bytes_eq kind name ≡ true → option_map make o ≡ Some r → IsSound kind ws r
kind_sound make name kind ws o r sound is e =
    let found = mapped_some make o r e in
    let P : Request → Type 0 = λ r. IsSound kind ws r in
    let Q : List ℕ → Type 0 = λ k. IsSound k ws (make found.0) in
    subst P found.2 (subst Q (sym ((bytes_eq-Decides kind name).0 is)) (sound found.0 found.1))

member_call_sound : (kind : List ℕ) (ws : List (List ℕ)) (r : Request) → member_call_of kind ws ≡ Some r → IsSound kind ws r
unfolding member_call_of request_words
member_call_sound kind ws r =
    elim (bytes_eq kind (codes "JOIN")) as (λ t. bytes_eq kind (codes "JOIN") ≡ t → cond t (option_map request.Join (join_of ws)) (cond (bytes_eq kind (codes "SYNC")) (option_map request.Sync (sync_of ws)) (cond (bytes_eq kind (codes "BEAT")) (option_map request.Beat (beat_of ws)) (cond (bytes_eq kind (codes "LEAVE")) (option_map request.Leave (leave_of ws)) None))) ≡ Some r → IsSound kind ws r) [
      | true ↦ λ is. kind_sound request.Join (codes "JOIN") kind ws (join_of ws) r (join_sound ws) is
      | false ↦ λ _. elim (bytes_eq kind (codes "SYNC")) as (λ t. bytes_eq kind (codes "SYNC") ≡ t → cond t (option_map request.Sync (sync_of ws)) (cond (bytes_eq kind (codes "BEAT")) (option_map request.Beat (beat_of ws)) (cond (bytes_eq kind (codes "LEAVE")) (option_map request.Leave (leave_of ws)) None)) ≡ Some r → IsSound kind ws r) [
        | true ↦ λ is. kind_sound request.Sync (codes "SYNC") kind ws (sync_of ws) r (sync_sound ws) is
        | false ↦ λ _. elim (bytes_eq kind (codes "BEAT")) as (λ t. bytes_eq kind (codes "BEAT") ≡ t → cond t (option_map request.Beat (beat_of ws)) (cond (bytes_eq kind (codes "LEAVE")) (option_map request.Leave (leave_of ws)) None) ≡ Some r → IsSound kind ws r) [
          | true ↦ λ is. kind_sound request.Beat (codes "BEAT") kind ws (beat_of ws) r (beat_sound ws) is
          | false ↦ λ _. elim (bytes_eq kind (codes "LEAVE")) as (λ t. bytes_eq kind (codes "LEAVE") ≡ t → cond t (option_map request.Leave (leave_of ws)) None ≡ Some r → IsSound kind ws r) [
            | true ↦ λ is. kind_sound request.Leave (codes "LEAVE") kind ws (leave_of ws) r (leave_sound ws) is
            | false ↦ λ _ e. absurd (cc)
          ] refl
        ] refl
      ] refl
    ] refl

list_sound : (kind : List ℕ) (ws : List (List ℕ)) (r : Request) → bytes_eq kind (codes "LIST") ≡ true → nothing_of ws ≡ Some r → IsSound kind ws r
unfolding request_words
list_sound kind (w ∷ ws) r is e = absurd (cc)
list_sound kind [] r is e =
    let P : Request → Type 0 = λ r. IsSound kind [] r in
    let same : request.List ≡ r = cc in
    subst P same (tt, ap (λ k. k ∷ []) ((bytes_eq-Decides kind (codes "LIST")).0 is))

group_call_sound : (kind : List ℕ) (ws : List (List ℕ)) (r : Request) → group_call_of kind ws ≡ Some r → IsSound kind ws r
unfolding group_call_of request_words
group_call_sound kind ws r =
    elim (bytes_eq kind (codes "COMMIT")) as (λ t. bytes_eq kind (codes "COMMIT") ≡ t → cond t (option_map request.Commit (commit_of ws)) (cond (bytes_eq kind (codes "FETCH")) (option_map request.Fetch (fetch_of ws)) (cond (bytes_eq kind (codes "DESCRIBE")) (option_map request.Describe (group_of ws)) (cond (bytes_eq kind (codes "DELETE")) (option_map request.Delete (group_of ws)) (cond (bytes_eq kind (codes "DROP")) (option_map request.Drop (drop_of ws)) (cond (bytes_eq kind (codes "LIST")) (nothing_of ws) None))))) ≡ Some r → IsSound kind ws r) [
      | true ↦ λ is. kind_sound request.Commit (codes "COMMIT") kind ws (commit_of ws) r (commit_sound ws) is
      | false ↦ λ _. elim (bytes_eq kind (codes "FETCH")) as (λ t. bytes_eq kind (codes "FETCH") ≡ t → cond t (option_map request.Fetch (fetch_of ws)) (cond (bytes_eq kind (codes "DESCRIBE")) (option_map request.Describe (group_of ws)) (cond (bytes_eq kind (codes "DELETE")) (option_map request.Delete (group_of ws)) (cond (bytes_eq kind (codes "DROP")) (option_map request.Drop (drop_of ws)) (cond (bytes_eq kind (codes "LIST")) (nothing_of ws) None)))) ≡ Some r → IsSound kind ws r) [
        | true ↦ λ is. kind_sound request.Fetch (codes "FETCH") kind ws (fetch_of ws) r (fetch_sound ws) is
        | false ↦ λ _. elim (bytes_eq kind (codes "DESCRIBE")) as (λ t. bytes_eq kind (codes "DESCRIBE") ≡ t → cond t (option_map request.Describe (group_of ws)) (cond (bytes_eq kind (codes "DELETE")) (option_map request.Delete (group_of ws)) (cond (bytes_eq kind (codes "DROP")) (option_map request.Drop (drop_of ws)) (cond (bytes_eq kind (codes "LIST")) (nothing_of ws) None))) ≡ Some r → IsSound kind ws r) [
          | true ↦ λ is. kind_sound request.Describe (codes "DESCRIBE") kind ws (group_of ws) r (group_sound (codes "DESCRIBE") ws) is
          | false ↦ λ _. elim (bytes_eq kind (codes "DELETE")) as (λ t. bytes_eq kind (codes "DELETE") ≡ t → cond t (option_map request.Delete (group_of ws)) (cond (bytes_eq kind (codes "DROP")) (option_map request.Drop (drop_of ws)) (cond (bytes_eq kind (codes "LIST")) (nothing_of ws) None)) ≡ Some r → IsSound kind ws r) [
            | true ↦ λ is. kind_sound request.Delete (codes "DELETE") kind ws (group_of ws) r (group_sound (codes "DELETE") ws) is
            | false ↦ λ _. elim (bytes_eq kind (codes "DROP")) as (λ t. bytes_eq kind (codes "DROP") ≡ t → cond t (option_map request.Drop (drop_of ws)) (cond (bytes_eq kind (codes "LIST")) (nothing_of ws) None) ≡ Some r → IsSound kind ws r) [
              | true ↦ λ is. kind_sound request.Drop (codes "DROP") kind ws (drop_of ws) r (drop_sound ws) is
              | false ↦ λ _. elim (bytes_eq kind (codes "LIST")) as (λ t. bytes_eq kind (codes "LIST") ≡ t → cond t (nothing_of ws) None ≡ Some r → IsSound kind ws r) [
                | true ↦ λ is e. list_sound kind ws r is e
                | false ↦ λ _ e. absurd (cc)
              ] refl
            ] refl
          ] refl
        ] refl
      ] refl
    ] refl

words_sound : (ws : List (List ℕ)) (r : Request) → request_of ws ≡ Some r → IsRequest r × (ws ≡ request_words r)
unfolding request_of
words_sound [] r = λ e. absurd (let wrong : None ≡ Some r = e in cc)
words_sound (kind ∷ ws) r =
    elim (is_member_call kind) as (λ t. cond t (member_call_of kind ws) (group_call_of kind ws) ≡ Some r → IsSound kind ws r) [
      | true ↦ λ e. member_call_sound kind ws r e
      | false ↦ λ e. group_call_sound kind ws r e
    ]

-- a line is the spelling of what is parsed from its words
pub line_sound : (line : List ℕ) (r : Request) → request_of (words_of line) ≡ Some r → Spells line r
unfolding request_line
line_sound line r e =
    let sound = words_sound (words_of line) r e in
    (sound.0, sym (spaced-words_of line) ∙ ap spaced sound.1)
