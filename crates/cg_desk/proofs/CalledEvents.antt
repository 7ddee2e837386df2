-- Requests keep the pending requests of all groups.
use Rattle.std.proofs.Common.{◌≡◌, ℕ, ◌+◌, Bool, true, false, not, cond, List, [], ◌∷◌, find, is_some, refl, sym, ap, ◌∙◌, arith, Result, Ok, Err, ok_or}
use Rattle.std.specs.Prelude.{Option, Some, None, max, if◌then◌else◌, ◌&&◌}
use Rattle.std.specs.List.{list_any}
use Rattle.std.proofs.lemmas.Bool.{or_parts, and_parts, not-false, not-true}
use Rattle.cg_names.specs.declared.code.Code.{Code}
use Rattle.cg_names.specs.declared.code.Code.TheVariants.{FencedInstanceId, GroupIdNotFound, InvalidGroupId, NonEmptyGroup, UnknownMemberId}
use Rattle.cg_record.specs.declared.command.Command.{Command}
use Rattle.cg_record.specs.declared.topic_partition.TopicPartition.{TopicPartition}
use Rattle.cg_request.specs.declared.request.Request.{Request}
use Rattle.cg_request.specs.declared.request.Request.TheVariants as request
use Rattle.cg_group_state.specs.declared.group.Group.{Group}
use Rattle.cg_group_state.specs.declared.member.Member.{Member}
use Rattle.cg_request.specs.declared.request_fields.BeatRequest.{BeatRequest}
use Rattle.cg_request.specs.declared.request_fields.CommitRequest.{CommitRequest}
use Rattle.cg_request.specs.declared.request_fields.JoinRequest.{JoinRequest}
use Rattle.cg_request.specs.declared.request_fields.LeaveRequest.{LeaveRequest}
use Rattle.cg_request.specs.declared.request_fields.SyncRequest.{SyncRequest}
use Rattle.cg_request.specs.declared.ticket.Ticket.{Ticket}
use Rattle.cg_group_state.specs.declared.turn.Turn.{Turn}
use Rattle.cg_request.specs.Request.{asked}
use Rattle.cg_group_rules.specs.Heartbeat.{beat_taken}
use Rattle.cg_group_rules.specs.OffsetCommit.{committed, hearing_committer}
use Rattle.cg_group_rules.specs.Join.{join_known, add_member_and_rebalance, new_group}
use Rattle.cg_group_table.specs.Kept.{Each}
use Rattle.cg_group_rules.specs.Leave.{leave_held, leave_taken, leaver, may_be}
use Rattle.cg_group.specs.Machine.{beat, commit, concluded, deleted, drop_command, dropped, founded_after, is_unfounded, join, leave, memberless, handled, named_group, step, sync, with_offset}
use Rattle.cg_group_table.specs.Expiry.{is_nil}
use Rattle.cg_group_table.specs.GroupTable.{InOrder, Machine, Outcome, find_group, without_group}
use Rattle.cg_group_state.specs.Members.{AreDistinct, ids}
use Rattle.cg_group_state.specs.Offsets.{OffsetMap, offsets_after}
use Rattle.cg_group_state.specs.Membership.{find_instance, find_member, has_id, has_instance, is_empty, is_same}
use Rattle.cg_request.specs.Names.{are_distinct}
use Rattle.cg_group_state.specs.Checks.{◌>>=◌, refused_if}
use Rattle.cg_group_rules.specs.StaticMember.{replace_static_member}
use Rattle.cg_group_rules.specs.Sync.{sync_taken}
use Rattle.cg_group_table.proofs.Framed.{framed-beat_taken, framed-committed, framed-join_known, framed-add_member_and_rebalance, framed-replace_static_member, framed-leave_taken, framed-sync_taken}
use Rattle.cg_group_table.proofs.KeptLists.{each-found, same_self}
use Rattle.cg_group_state.proofs.MemberChecks.{given_by, tested}
use Rattle.cg_group.proofs.Requests.{Fine, after_checked, after_given, fine-beat, fine-commit, fine-join, fine-sync}
use Rattle.cg_desk.specs.Owed.{KeepsCalls}
use Rattle.cg_desk.specs.Tokens.{call_of}
use Rattle.cg_desk.specs.Turns.{told_of, waits_of}
use Rattle.cg_desk.specs.declared.token.ReplyToken.{ReplyToken}
use Rattle.cg_desk.proofs.CalledEverywhere.{empty-idle, groups-waiting, in_groups}
use Rattle.cg_desk.proofs.CalledGroups.{Takes, removed-kept, takes-held, takes-made}
use Rattle.cg_desk.proofs.CalledRequests.{beat-kept, commit-kept, known-kept, leave-kept, new-kept, sync-kept}
use Rattle.cg_desk.proofs.CalledTurns.{replacing-kept}

-- the member that leaves is the only one with its id

absent : (p : Member → Bool) (id : List ℕ) (ms : List Member) (m : Member) → list_any (is_same id) (ids ms) ≡ false → find p ms ≡ Some m → is_same id m.id ≡ false
absent p id [] m none found = cc
absent p id (x ∷ xs) m none found =
    let parts = or_parts (is_same id x.id) (list_any (is_same id) (ids xs)) none in
    (elim (p x) as (λ b. cond b (Some x) (find p xs) ≡ Some m → is_same id m.id ≡ false) [
      | true ↦ λ found. let own : x ≡ m = cc in ap (λ (y : Member). is_same id y.id) (sym own) ∙ parts.0
      | false ↦ λ found. absent p id xs m parts.1 found
    ]) found

by-id : (p : Member → Bool) (ms : List Member) (m : Member) → are_distinct (ids ms) ≡ true → find p ms ≡ Some m → find_member m.id ms ≡ Some m
unfolding are_distinct find_member
by-id p [] m distinct found = cc
by-id p (x ∷ xs) m distinct found =
    let parts = and_parts (not (list_any (is_same x.id) (ids xs))) (are_distinct (ids xs)) distinct in
    (elim (p x) as (λ b. cond b (Some x) (find p xs) ≡ Some m → cond (is_same x.id m.id) (Some x) (find (has_id m.id) xs) ≡ Some m) [
      | true ↦ λ found.
          let own : x ≡ m = cc in
          ap (λ (y : Member). cond (is_same x.id y.id) (Some x) (find (has_id m.id) xs)) (sym own)
          ∙ ap (λ b. cond b (Some x) (find (has_id m.id) xs)) (same_self x.id) ∙ ap Some own
      | false ↦ λ found.
          ap (λ b. cond b (Some x) (find (has_id m.id) xs)) (absent p x.id xs m (not-true (list_any (is_same x.id) (ids xs)) parts.0) found)
          ∙ by-id p xs m parts.1 found
    ]) found

ok-some : {A : Type 0} (o : Option A) (code : Code) (x : A) → ok_or o code ≡ Ok x → o ≡ Some x
ok-some None code x is = cc
ok-some (Some y) code x is = cc

leaver-found : (instance member : Option (List ℕ)) (ms : List Member) (m : Member) → are_distinct (ids ms) ≡ true → leaver instance member ms ≡ Ok m → find_member m.id ms ≡ Some m
unfolding leaver find_instance find_member
leaver-found None member ms m distinct is =
    let given = given_by member UnknownMemberId (λ id. ok_or (find_member id ms) UnknownMemberId) m is in
    by-id (has_id given.0) ms m distinct (ok-some (find_member given.0 ms) UnknownMemberId m given.2)
leaver-found (Some instance) member ms m distinct is =
    let found = given_by (find_instance (Some instance) ms) UnknownMemberId (λ m. refused_if (not (may_be member m.id)) FencedInstanceId >>= λ _. Ok m) m is in
    let passed = tested (not (may_be member found.0.id)) FencedInstanceId (λ _. Ok found.0) m found.2 in
    let same : found.0 ≡ m = cc in
    by-id (has_instance (Some instance)) ms m distinct (found.1 ∙ ap Some same)

fine-left : (P : Turn → Type 0) (now : ℕ) (r : LeaveRequest) (ticket : Ticket) (groups : List Group)
    → ((id : List ℕ) (g : Group) (m : Member) → find_group id groups ≡ Some g → leaver r.instance r.member g.members ≡ Ok m → P (leave_taken now m.id ticket m g))
    → Fine P (leave now r ticket groups)
unfolding leave leave_held
fine-left P now r ticket groups k = in_named r.group
  where
    in_named : (name : Option (List ℕ)) → Fine P (named_group name groups >>= λ g. leave_held now r ticket g)
    in_named None = tt
    in_named (Some id) =
        after_given P (find_group id groups) UnknownMemberId (λ g. leave_held now r ticket g)
        (λ g found. after_checked P (leaver r.instance r.member g.members) (λ m. Ok (leave_taken now m.id ticket m g)) (λ m is. k id g m found is))

-- what holds of every machine that events make after recovery
pub record IsSound (s : Machine) : Type 0 where
  pub distinct : Each (λ g. AreDistinct g.members) s.groups
  pub in_order : InOrder s.groups

module _ (now : ℕ) (ticket : Ticket) (s : Machine) (sound : IsSound s) where
  members-of : (id : List ℕ) (g : Group) → find_group id s.groups ≡ Some g → AreDistinct g.members
  members-of id g found = each-found (λ (h : Group). AreDistinct h.members) id s.groups g found sound.distinct

  join-takes : (r : JoinRequest) (fresh : List ℕ) → Fine (Takes s.groups ticket) (join now r fresh ticket s.groups)
  unfolding new_group
  join-takes r fresh =
      fine-join (Takes s.groups ticket) now r fresh ticket s.groups
      (λ id new _ none. takes-made s.groups id ticket (add_member_and_rebalance now r new ticket (new_group id)) none (framed-add_member_and_rebalance now r new ticket (new_group id)).0 (λ weight. new-kept weight now r new ticket (new_group id)))
      (λ id new g _ found _ _ _. takes-held s.groups id g ticket (add_member_and_rebalance now r new ticket g) sound.in_order found (framed-add_member_and_rebalance now r new ticket g).0 (λ weight. new-kept weight now r new ticket g))
      (λ id new g old _ found _ one _. takes-held s.groups id g ticket (replace_static_member now r new ticket old g) sound.in_order found (framed-replace_static_member now r new ticket old g).0 (λ weight. replacing-kept weight now r new ticket old g (members-of id g found).1 one))
      (λ id own g m _ found one _. takes-held s.groups id g ticket (join_known now r own ticket m g) sound.in_order found (framed-join_known now r own ticket m g).0 (λ weight. known-kept weight now r own ticket m g (ap is_some one)))

  sync-takes : (r : SyncRequest) → Fine (Takes s.groups ticket) (sync now r ticket s.groups)
  sync-takes r =
      fine-sync (Takes s.groups ticket) now r ticket s.groups
      (λ id own g m _ found _ one _ _. takes-held s.groups id g ticket (sync_taken now r own ticket m g g.phase) sound.in_order found (framed-sync_taken now r own ticket m g g.phase).0 (λ weight. sync-kept weight now r own ticket m g g.phase (ap is_some one)))

  beat-takes : (r : BeatRequest) → Fine (Takes s.groups ticket) (beat now r ticket s.groups)
  beat-takes r =
      fine-beat (Takes s.groups ticket) now r ticket s.groups
      (λ id own g found. takes-held s.groups id g ticket (beat_taken now own ticket g) sound.in_order found (framed-beat_taken now own ticket g).0 (λ weight. beat-kept weight now own ticket g))

  leave-takes : (r : LeaveRequest) → Fine (Takes s.groups ticket) (leave now r ticket s.groups)
  leave-takes r =
      fine-left (Takes s.groups ticket) now r ticket s.groups
      (λ id g m found one.
      let distinct = (members-of id g found).0 in
      takes-held s.groups id g ticket (leave_taken now m.id ticket m g) sound.in_order found (framed-leave_taken now m.id ticket m g).0
      (λ weight. leave-kept weight now m.id ticket m g distinct (leaver-found r.instance r.member g.members m distinct one)))

  commit-takes : (r : CommitRequest) → Fine (Takes s.groups ticket) (commit now r ticket s.groups)
  unfolding new_group
  commit-takes r =
      fine-commit (Takes s.groups ticket) now r ticket s.groups
      (λ id none. takes-made s.groups id ticket (committed now r.entries ticket (new_group id)) none (framed-committed now r.entries ticket None (new_group id)).0 (λ weight. commit-kept weight now r.entries ticket None (new_group id)))
      (λ id g who found _. takes-held s.groups id g ticket (committed now r.entries ticket (hearing_committer now who g)) sound.in_order found (framed-committed now r.entries ticket who g).0 (λ weight. commit-kept weight now r.entries ticket who g))

-- the requests before and the new one are those that are answered and those that are parked
abbrev Keeps : Machine → Ticket → Outcome → Type 0
Keeps s ticket o = (weight : Ticket → ℕ) → told_of weight o.effects.replies + in_groups weight o.after.groups ≡ in_groups weight s.groups + weight ticket

concluded-keeps : (s : Machine) (ticket : Ticket) (o : Result Turn Code) → Fine (Takes s.groups ticket) o → Keeps s ticket (concluded s ticket o)
unfolding concluded
concluded-keeps s ticket (Ok t) takes weight = takes weight
concluded-keeps s ticket (Err code) takes weight = omega arith

-- a group that a DELETE or a DROP may name has no parked request
memberless-idle : (weight : Ticket → ℕ) (groups : List Group) (id : Option (List ℕ)) (name : List ℕ) → memberless id groups ≡ Ok name
    → (g : Group) × (find_group name groups ≡ Some g) × (waits_of weight g.members ≡ 0)
unfolding memberless
memberless-idle weight groups id name is =
    let given = given_by id InvalidGroupId (λ i. ok_or (find_group i groups) GroupIdNotFound >>= λ g. refused_if (not (is_empty g.members)) NonEmptyGroup >>= λ _. Ok i) name is in
    let found = given_by (find_group given.0 groups) GroupIdNotFound (λ g. refused_if (not (is_empty g.members)) NonEmptyGroup >>= λ _. Ok given.0) name given.2 in
    let passed = tested (not (is_empty found.0.members)) NonEmptyGroup (λ _. Ok given.0) name found.2 in
    let same : given.0 ≡ name = cc in
    (found.0, ap (λ i. find_group i groups) (sym same) ∙ found.1, empty-idle weight found.0.members (not-false (is_empty found.0.members) passed.0))

deleted-keeps : (s : Machine) (ticket : Ticket) (id : Option (List ℕ)) (o : Result (List ℕ) Code) → memberless id s.groups ≡ o → Keeps s ticket (deleted s ticket o)
unfolding deleted
deleted-keeps s ticket id (Err code) is weight = omega arith
deleted-keeps s ticket id (Ok name) is weight =
    let found = memberless-idle weight s.groups id name is in
    let left = removed-kept weight name s.groups found.0 found.1 found.2 in
    omega arith

-- a group without parked requests may go after a drop
founded-kept : (weight : Ticket → ℕ) (offsets : OffsetMap) (commands : List Command) (id : List ℕ) (groups : List Group) (g : Group) → find_group id groups ≡ Some g → waits_of weight g.members ≡ 0
    → in_groups weight (founded_after offsets commands id groups) ≡ in_groups weight groups
founded-kept weight offsets commands id groups g found idle =
    elim (not (is_nil commands) && is_unfounded (offsets_after offsets commands) groups id) as (λ b. in_groups weight (if b then without_group id groups else groups) ≡ in_groups weight groups) [
      | true ↦ removed-kept weight id groups g found idle
      | false ↦ refl
    ]

dropped-keeps : (s : Machine) (ticket : Ticket) (partitions : List TopicPartition) (id : Option (List ℕ)) (o : Result (List ℕ) Code) → memberless id s.groups ≡ o → Keeps s ticket (dropped s ticket partitions o)
unfolding dropped
dropped-keeps s ticket partitions id (Err code) is weight = omega arith
dropped-keeps s ticket partitions id (Ok name) is weight =
    let found = memberless-idle weight s.groups id name is in
    let left = founded-kept weight s.offsets (drop_command name (with_offset s.offsets name partitions)) name s.groups found.0 found.1 found.2 in
    omega arith

met-keeps : (s : Machine) (r : Request) (ticket : Ticket) (fresh : List ℕ) → IsSound s → Keeps s ticket (handled s (asked r ticket fresh))
unfolding handled
met-keeps s (request.Join r) ticket fresh sound = concluded-keeps s ticket (join s.last r fresh ticket s.groups) (join-takes s.last ticket s sound r fresh)
met-keeps s (request.Sync r) ticket fresh sound = concluded-keeps s ticket (sync s.last r ticket s.groups) (sync-takes s.last ticket s sound r)
met-keeps s (request.Beat r) ticket fresh sound = concluded-keeps s ticket (beat s.last r ticket s.groups) (beat-takes s.last ticket s sound r)
met-keeps s (request.Leave r) ticket fresh sound = concluded-keeps s ticket (leave s.last r ticket s.groups) (leave-takes s.last ticket s sound r)
met-keeps s (request.Commit r) ticket fresh sound = concluded-keeps s ticket (commit s.last r ticket s.groups) (commit-takes s.last ticket s sound r)
met-keeps s (request.Fetch r) ticket fresh sound = λ weight. omega arith
met-keeps s (request.Delete id) ticket fresh sound = deleted-keeps s ticket id (memberless id s.groups) refl
met-keeps s (request.Drop r) ticket fresh sound = dropped-keeps s ticket r.partitions r.group (memberless r.group s.groups) refl
met-keeps s (request.Describe id) ticket fresh sound = λ weight. omega arith
met-keeps s request.List ticket fresh sound = λ weight. omega arith

pub request-keeps : (s : Machine) (r : Request) (token : ReplyToken) (fresh : List ℕ) (now : ℕ) → IsSound s → KeepsCalls s (token ∷ []) (asked r (call_of token) fresh) now
unfolding step
request-keeps s r token fresh now sound weight =
    let at : Machine = record s { last = max s.last now } in
    let o = handled at (asked r (call_of token) fresh) in
    let kept = met-keeps at r (call_of token) fresh (record { distinct = sound.distinct; in_order = sound.in_order }) weight in
    let after = groups-waiting weight o.after.groups in
    let before = groups-waiting weight s.groups in
    omega arith
