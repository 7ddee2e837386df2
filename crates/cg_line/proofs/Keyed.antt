-- name=bytes and member=bytes, parsed and spelled.
use Rattle.std.proofs.Common.{◌≡◌, ℕ, ◌*◌, ◌/◌, ◌<◌, ◌≤◌, true, List, [], ◌∷◌, ◌++◌, length, map, refl, ap, ◌∙◌, arith}
use Rattle.std.specs.Prelude.{◌&&◌, nat_le}
use Rattle.std.specs.List.{list_all, AllByRecursion}
use Rattle.std.proofs.lemmas.Bool.{leb-true, le-leb}
use Rattle.std.proofs.lemmas.List.{length-map}
use Rattle.hex.specs.Hex.{IsBytes, encode_lower, lower_digits}
use Rattle.hex.proofs.HexLemmas.{length-encode_with}
use Rattle.cg_names.specs.Grammar.{IsName}
use Rattle.cg_names.specs.declared.name.TheConstants.{NAME_BYTES_MAX, MEMBER_ID_BYTES_MAX}
use Rattle.cg_record.specs.declared.opaque.TheConstants.{SUBSCRIPTION_BYTES_MAX, ASSIGNMENT_BYTES_MAX}
use Rattle.cg_record.specs.declared.roster.TheConstants.{MEMBERS_MAX}
use Rattle.cg_request.specs.declared.protocol.Protocol.{Protocol}
use Rattle.cg_request.specs.declared.protocol.TheConstants.{PROTOCOLS_MAX}
use Rattle.cg_request.specs.declared.request_fields.SyncEntry.{SyncEntry}
use Rattle.cg_request.specs.SyncEntries.{AreSyncEntries}
use Rattle.cg_request.specs.Names.{are_distinct}
use Rattle.cg_request.specs.Protocols.{AreProtocols}
use Rattle.cg_line.specs.Fields.{bytes_in, is_bytes, is_name, is_opaque}
use Rattle.cg_line.specs.Parsing.{are_protocols, are_sync_entries, given_to, is_protocol, is_sync_entry, key_of, protocol_in, sync_entry_in}
use Rattle.cg_line.specs.Requests.{IsOpaque, IsProtocol, IsSyncEntry, protocol_word, sync_entry_word}
use Rattle.cg_line.specs.Splitting.{joined}
use Rattle.cg_line.specs.Words.{bytes_word}
use Rattle.cg_line.proofs.Apart.{own_names}
use Rattle.cg_line.proofs.Digits.{opaque_parts}
use Rattle.cg_line.proofs.Hexed.{bytes_in-bytes_word, bytes_spelled, is_bytes-bytes_word}
use Rattle.cg_line.proofs.Joined.{IsFree, before-joined, behind-joined, joined-cut, free_append}
use Rattle.cg_line.proofs.Lists.{map_seen, pass_all, seen_all}
use Rattle.cg_line.proofs.Optionals.{IsName-from_test, bytes_free, is_name-from_name, name_free}
use Rattle.cg_line.proofs.Value.{both_of}

-- a word of bytes is not empty
pub bytes_some : (w : List ℕ) → is_bytes w ≡ true → 0 < length w
unfolding is_bytes
bytes_some [] is = absurd (cc)
bytes_some (b ∷ bs) is = omega arith

-- key=bytes
abbrev pub keyed : List ℕ → List ℕ → List ℕ
keyed key bytes = joined 61 (key ∷ bytes_word bytes ∷ [])

keyed_spelled : (max : ℕ) (w : List ℕ) → is_opaque max (given_to w) ≡ true → keyed (key_of w) (bytes_in (given_to w)) ≡ w
unfolding joined
keyed_spelled max w is =
    let opaque = opaque_parts max (given_to w) is in
    ap (λ rest. key_of w ++ 61 ∷ rest) (bytes_spelled (given_to w) opaque.0).0 ∙ joined-cut 61 w (bytes_some (given_to w) opaque.0)

opaque_lawful : (max : ℕ) (w : List ℕ) → is_opaque max w ≡ true → IsOpaque max (bytes_in w)
opaque_lawful max w is =
    let opaque = opaque_parts max w is in
    (opaque.1, (bytes_spelled w opaque.0).1)

pub key_of-keyed : (max : ℕ) (key bytes : List ℕ) → IsName max key → key_of (keyed key bytes) ≡ key
unfolding joined
key_of-keyed max key bytes name = before-joined 61 key (bytes_word bytes) (name_free 61 max key refl name)

pub given_to-keyed : (max : ℕ) (key bytes : List ℕ) → IsName max key → given_to (keyed key bytes) ≡ bytes_word bytes
unfolding joined
given_to-keyed max key bytes name = behind-joined 61 key (bytes_word bytes) (name_free 61 max key refl name)

halved : (n m : ℕ) → m ≡ 2 * n → m / 2 ≡ n
halved n m e = omega (arith, e)

is_opaque-bytes_word : (max : ℕ) (bytes : List ℕ) → IsOpaque max bytes → is_opaque max (bytes_word bytes) ≡ true
unfolding is_opaque
is_opaque-bytes_word max bytes are =
    let half = halved (length bytes) (length (encode_lower bytes)) (length-encode_with lower_digits bytes) in
    rw (is_bytes-bytes_word bytes are.1, half) (le-leb (length bytes) max are.0)

keyed_free : (max : ℕ) (key bytes : List ℕ) → IsName max key → IsBytes bytes → IsFree 32 (keyed key bytes)
unfolding joined
keyed_free max key bytes name are = free_append 32 key (61 ∷ bytes_word bytes) (name_free 32 max key refl name) (bytes_free 32 bytes refl refl are)

-- protocols
protocol_parts : (w : List ℕ) → is_protocol w ≡ true → (is_name NAME_BYTES_MAX (key_of w) ≡ true) × (is_opaque SUBSCRIPTION_BYTES_MAX (given_to w) ≡ true)
unfolding is_protocol
protocol_parts w is = both_of (is_name NAME_BYTES_MAX (key_of w)) (is_opaque SUBSCRIPTION_BYTES_MAX (given_to w)) is

pub protocol_spelled : (w : List ℕ) → is_protocol w ≡ true → protocol_word (protocol_in w) ≡ w
unfolding protocol_in
protocol_spelled w is = keyed_spelled SUBSCRIPTION_BYTES_MAX w (protocol_parts w is).1

pub protocol_lawful : (w : List ℕ) → is_protocol w ≡ true → IsProtocol (protocol_in w)
unfolding protocol_in
protocol_lawful w is =
    let parts = protocol_parts w is in
    record { name = IsName-from_test NAME_BYTES_MAX (key_of w) parts.0; subscription = opaque_lawful SUBSCRIPTION_BYTES_MAX (given_to w) parts.1 }

pub is_protocol-word : (p : Protocol) → IsProtocol p → is_protocol (protocol_word p) ≡ true
unfolding is_protocol
is_protocol-word p is =
    rw (
      key_of-keyed NAME_BYTES_MAX p.name p.subscription is.name,
      given_to-keyed NAME_BYTES_MAX p.name p.subscription is.name,
      is_name-from_name NAME_BYTES_MAX p.name is.name,
    ) (is_opaque-bytes_word SUBSCRIPTION_BYTES_MAX p.subscription is.subscription)

pub key_of-protocol : (p : Protocol) → IsProtocol p → key_of (protocol_word p) ≡ p.name
key_of-protocol p is = key_of-keyed NAME_BYTES_MAX p.name p.subscription is.name

pub protocol_in-word : (p : Protocol) → IsProtocol p → protocol_in (protocol_word p) ≡ p
unfolding protocol_in
protocol_in-word p is =
    rw (key_of-keyed NAME_BYTES_MAX p.name p.subscription is.name, given_to-keyed NAME_BYTES_MAX p.name p.subscription is.name)
    (ap (λ bytes. record { name = p.name; subscription = bytes }) (bytes_in-bytes_word p.subscription is.subscription.1))

pub protocol_free : (p : Protocol) → IsProtocol p → IsFree 32 (protocol_word p)
protocol_free p is = keyed_free NAME_BYTES_MAX p.name p.subscription is.name is.subscription.1

-- entries of a SYNC
sync_entry_parts : (w : List ℕ) → is_sync_entry w ≡ true → (is_name MEMBER_ID_BYTES_MAX (key_of w) ≡ true) × (is_opaque ASSIGNMENT_BYTES_MAX (given_to w) ≡ true)
unfolding is_sync_entry
sync_entry_parts w is = both_of (is_name MEMBER_ID_BYTES_MAX (key_of w)) (is_opaque ASSIGNMENT_BYTES_MAX (given_to w)) is

pub sync_entry_spelled : (w : List ℕ) → is_sync_entry w ≡ true → sync_entry_word (sync_entry_in w) ≡ w
unfolding sync_entry_in
sync_entry_spelled w is = keyed_spelled ASSIGNMENT_BYTES_MAX w (sync_entry_parts w is).1

pub sync_entry_lawful : (w : List ℕ) → is_sync_entry w ≡ true → IsSyncEntry (sync_entry_in w)
unfolding sync_entry_in
sync_entry_lawful w is =
    let parts = sync_entry_parts w is in
    record { member = IsName-from_test MEMBER_ID_BYTES_MAX (key_of w) parts.0; assignment = opaque_lawful ASSIGNMENT_BYTES_MAX (given_to w) parts.1 }

pub is_sync_entry-word : (e : SyncEntry) → IsSyncEntry e → is_sync_entry (sync_entry_word e) ≡ true
unfolding is_sync_entry
is_sync_entry-word e is =
    rw (
      key_of-keyed MEMBER_ID_BYTES_MAX e.member e.assignment is.member,
      given_to-keyed MEMBER_ID_BYTES_MAX e.member e.assignment is.member,
      is_name-from_name MEMBER_ID_BYTES_MAX e.member is.member,
    ) (is_opaque-bytes_word ASSIGNMENT_BYTES_MAX e.assignment is.assignment)

pub key_of-sync_entry : (e : SyncEntry) → IsSyncEntry e → key_of (sync_entry_word e) ≡ e.member
key_of-sync_entry e is = key_of-keyed MEMBER_ID_BYTES_MAX e.member e.assignment is.member

pub sync_entry_in-word : (e : SyncEntry) → IsSyncEntry e → sync_entry_in (sync_entry_word e) ≡ e
unfolding sync_entry_in
sync_entry_in-word e is =
    rw (key_of-keyed MEMBER_ID_BYTES_MAX e.member e.assignment is.member, given_to-keyed MEMBER_ID_BYTES_MAX e.member e.assignment is.member)
    (ap (λ bytes. record { member = e.member; assignment = bytes }) (bytes_in-bytes_word e.assignment is.assignment.1))

pub sync_entry_free : (e : SyncEntry) → IsSyncEntry e → IsFree 32 (sync_entry_word e)
sync_entry_free e is = keyed_free MEMBER_ID_BYTES_MAX e.member e.assignment is.member is.assignment.1

-- whole lists
pub record AreProtocolWords (ws : List (List ℕ)) : Type 0 where
  pub some : 1 ≤ length ws
  pub few : length ws ≤ PROTOCOLS_MAX
  pub each : list_all is_protocol ws ≡ true
  pub distinct : are_distinct (map key_of ws) ≡ true

pub protocol_words : (ws : List (List ℕ)) → are_protocols ws ≡ true → AreProtocolWords ws
unfolding are_protocols
protocol_words ws are =
    let a = both_of (nat_le 1 (length ws) && nat_le (length ws) PROTOCOLS_MAX && list_all is_protocol ws) (are_distinct (map key_of ws)) are in
    let b = both_of (nat_le 1 (length ws) && nat_le (length ws) PROTOCOLS_MAX) (list_all is_protocol ws) a.0 in
    let c = both_of (nat_le 1 (length ws)) (nat_le (length ws) PROTOCOLS_MAX) b.0 in
    record { some = leb-true _ _ c.0; few = leb-true _ _ c.1; each = b.1; distinct = a.1 }

protocol_names : (ws : List (List ℕ)) → map (λ p. p.name) (map protocol_in ws) ≡ map key_of ws
unfolding protocol_in
protocol_names ws = map_seen protocol_in (λ p. p.name) key_of (λ w. refl) ws

pub protocols_lawful : (ws : List (List ℕ)) → are_protocols ws ≡ true → AreProtocols (map protocol_in ws)
protocols_lawful ws are =
    let words = protocol_words ws are in
    let len = length-map ws protocol_in in
    let some = words.some in
    let few = words.few in
    record { some = omega (arith, len); few = omega (arith, len); distinct = (own_names (λ p. p.name) (map protocol_in ws)).0 (ap are_distinct (protocol_names ws) ∙ words.distinct) }

pub are_protocols-words : (ps : List Protocol) → AreProtocols ps → AllByRecursion IsProtocol ps → are_protocols (map protocol_word ps) ≡ true
unfolding are_protocols
are_protocols-words ps are each =
    rw (
      length-map ps protocol_word,
      le-leb 1 (length ps) are.some,
      le-leb (length ps) PROTOCOLS_MAX are.few,
      pass_all IsProtocol is_protocol protocol_word is_protocol-word ps each,
      seen_all IsProtocol key_of protocol_word (λ p. p.name) key_of-protocol ps each,
    ) ((own_names (λ p. p.name) ps).1 are.distinct)

pub record AreSyncWords (ws : List (List ℕ)) : Type 0 where
  pub few : length ws ≤ MEMBERS_MAX
  pub each : list_all is_sync_entry ws ≡ true
  pub distinct : are_distinct (map key_of ws) ≡ true

pub sync_words_parts : (ws : List (List ℕ)) → are_sync_entries ws ≡ true → AreSyncWords ws
unfolding are_sync_entries
sync_words_parts ws are =
    let a = both_of (nat_le (length ws) MEMBERS_MAX && list_all is_sync_entry ws) (are_distinct (map key_of ws)) are in
    let b = both_of (nat_le (length ws) MEMBERS_MAX) (list_all is_sync_entry ws) a.0 in
    record { few = leb-true _ _ b.0; each = b.1; distinct = a.1 }

sync_members : (ws : List (List ℕ)) → map (λ e. e.member) (map sync_entry_in ws) ≡ map key_of ws
unfolding sync_entry_in
sync_members ws = map_seen sync_entry_in (λ e. e.member) key_of (λ w. refl) ws

pub sync_entries_lawful : (ws : List (List ℕ)) → are_sync_entries ws ≡ true → AreSyncEntries (map sync_entry_in ws)
sync_entries_lawful ws are =
    let words = sync_words_parts ws are in
    let len = length-map ws sync_entry_in in
    let few = words.few in
    record { few = omega (arith, len); some = omega arith; distinct = (own_names (λ e. e.member) (map sync_entry_in ws)).0 (ap are_distinct (sync_members ws) ∙ words.distinct) }

pub are_sync_entries-words : (es : List SyncEntry) → AreSyncEntries es → AllByRecursion IsSyncEntry es → are_sync_entries (map sync_entry_word es) ≡ true
unfolding are_sync_entries
are_sync_entries-words es are each =
    rw (
      length-map es sync_entry_word,
      le-leb (length es) MEMBERS_MAX are.few,
      pass_all IsSyncEntry is_sync_entry sync_entry_word is_sync_entry-word es each,
      seen_all IsSyncEntry key_of sync_entry_word (λ e. e.member) key_of-sync_entry es each,
    ) ((own_names (λ e. e.member) es).1 are.distinct)
