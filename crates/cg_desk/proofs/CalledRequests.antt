-- Requests of members over a new request, which is answered or parked.
use Rattle.std.proofs.Common.{◌≡◌, ℕ, ◌+◌, Bool, true, false, not, List, [], ◌∷◌, ◌++◌, map, refl, sym, ap, ◌∙◌, arith}
use Rattle.std.specs.Prelude.{Option, Some, None, is_some, filter, option_map, option_to_list, if◌then◌else◌}
use Rattle.std.specs.List.{list_any}
use Rattle.std.proofs.lemmas.Slice.Eq.{bytes_eq-Decides}
use Rattle.std.proofs.lemmas.Cmp.{nat_list_eq_equiv}
use Rattle.std.proofs.lemmas.List.Sums.{sum_by-append, sum_by-cons}
use Rattle.std.proofs.lemmas.Bool.{or_parts, and_parts, not-true}
use Rattle.cg_names.specs.declared.code.Code.TheVariants.{RebalanceInProgress, UnknownMemberId}
use Rattle.cg_group_state.specs.declared.calls.Calls.TheVariants.{Any, Syncs}
use Rattle.cg_group_state.specs.declared.group.Group.{Group}
use Rattle.cg_group_state.specs.declared.group.Phase.{Phase}
use Rattle.cg_group_state.specs.declared.group.Phase.TheVariants.{Empty, Preparing, Completing, Stable}
use Rattle.cg_group_state.specs.declared.member.Member.{Member}
use Rattle.cg_group_state.specs.declared.member.Waits.{Waits}
use Rattle.cg_group_state.specs.declared.member.Waits.TheVariants.{Join, Sync}
use Rattle.cg_group_state.specs.declared.reply.Reply.{Reply}
use Rattle.cg_group_state.specs.declared.reply.Reply.TheVariants as reply
use Rattle.cg_request.specs.declared.request_fields.JoinRequest.{JoinRequest}
use Rattle.cg_request.specs.declared.request_fields.SyncEntry.{SyncEntry}
use Rattle.cg_request.specs.declared.request_fields.SyncRequest.{SyncRequest}
use Rattle.cg_request.specs.declared.ticket.Ticket.{Ticket}
use Rattle.cg_group_state.specs.declared.turn.Turn.{Turn}
use Rattle.cg_group_rules.specs.Heartbeat.{beat_taken}
use Rattle.cg_group_rules.specs.Join.{admitted, displaced, in_join_phase, is_current, update_member_and_rebalance, join_current, join_known, add_member_and_rebalance, new_member, rejoined, updating, waiting}
use Rattle.cg_group_state.specs.JoinTerms.{updated}
use Rattle.cg_group_state.specs.Waiting.{waits_with, after_answer, after_answers, answer, answered, called, is_waiting, refusing}
use Rattle.cg_group_state.specs.Membership.{find_member, has_id, heard, hearing, is_preparing, is_same, keeping, leads, with_member}
use Rattle.cg_group_rules.specs.Rebalance.{prepare_rebalance, turn_of}
use Rattle.cg_group_state.specs.Assignments.{assigned}
use Rattle.cg_group_rules.specs.Sync.{assigning, propagate_assignment, sync_current, sync_taken, sync_waits, assigned_command}
use Rattle.cg_group_state.specs.Members.{ids}
use Rattle.cg_request.specs.Names.{are_distinct}
use Rattle.cg_group_rules.specs.Leave.{leave_taken, left}
use Rattle.cg_request.specs.declared.commit_entry.CommitEntry.{CommitEntry}
use Rattle.cg_group_rules.specs.OffsetCommit.{committed, hearing_committer, keeping_entries}
use Rattle.cg_desk.specs.Owed.{weight_calls}
use Rattle.cg_desk.specs.Turns.{own, told_of, total, waits_of}
use Rattle.cg_desk.proofs.Called.{phase-kept, removal-kept, syncs-kept, told-append, tried-kept}

-- a change of a member that keeps its parked request
same-at : (b : Bool) (weight : Ticket → ℕ) (change : Member → Member) (m : Member) (ms rest : List Member) → own weight (change m) ≡ own weight m → waits_of weight rest ≡ waits_of weight ms
    → waits_of weight (if b then change m ∷ ms else m ∷ rest) ≡ waits_of weight (m ∷ ms)
same-at true weight change m ms rest same more =
    let one = sum_by-cons (own weight) (change m) ms in
    let all = sum_by-cons (own weight) m ms in
    omega arith
same-at false weight change m ms rest same more =
    let one = sum_by-cons (own weight) m rest in
    let all = sum_by-cons (own weight) m ms in
    omega arith

pub with-same : (weight : Ticket → ℕ) (id : List ℕ) (change : Member → Member) (ms : List Member) → ((m : Member) → own weight (change m) ≡ own weight m) → waits_of weight (with_member id change ms) ≡ waits_of weight ms
unfolding with_member
with-same weight id change [] same = refl
with-same weight id change (m ∷ ms) same = same-at (has_id id m) weight change m ms (with_member id change ms) (same m) (with-same weight id change ms same)

pub hearing-kept : (weight : Ticket → ℕ) (now : ℕ) (id : List ℕ) (g : Group) → waits_of weight (hearing now id g).members ≡ waits_of weight g.members
unfolding hearing
hearing-kept weight now id g = with-same weight id (heard now) g.members (λ m. refl)

updating-kept : (weight : Ticket → ℕ) (r : JoinRequest) (id : List ℕ) (g : Group) → waits_of weight (updating r id g).members ≡ waits_of weight g.members
unfolding updating
updating-kept weight r id g = with-same weight id (updated r) g.members (λ m. refl)

pub answer-own : (weight : Ticket → ℕ) (reply : Reply) (o : Option Ticket) → told_of weight (option_to_list (option_map (λ (t : Ticket). (t, reply)) o)) ≡ weight_calls weight (option_to_list o)
answer-own weight reply None = refl
answer-own weight reply (Some t) = refl

-- a request of the member with this id is parked, and the one that was parked before is answered
wait-at : (b : Bool) (weight : Ticket → ℕ) (now : ℕ) (waits : Waits) (m : Member) (ms rest : List Member) (found : Option Member) (ticket : ℕ) → weight_calls weight (option_to_list (called Any waits)) ≡ ticket
    → is_some (if b then Some m else found) ≡ true
    → (is_some found ≡ true → told_of weight (displaced found) + waits_of weight rest ≡ waits_of weight ms + ticket)
    → told_of weight (displaced (if b then Some m else found)) + waits_of weight (if b then waits_with now waits m ∷ ms else m ∷ rest) ≡ waits_of weight (m ∷ ms) + ticket
wait-at true weight now waits m ms rest found ticket new has more =
    let one = sum_by-cons (own weight) (waits_with now waits m) ms in
    let all = sum_by-cons (own weight) m ms in
    let told = answer-own weight (refusing RebalanceInProgress m) (called Any m.waits) in
    omega arith
wait-at false weight now waits m ms rest found ticket new has more =
    let one = sum_by-cons (own weight) m rest in
    let all = sum_by-cons (own weight) m ms in
    let left = more has in
    omega arith

pub wait-kept : (weight : Ticket → ℕ) (now : ℕ) (id : List ℕ) (waits : Waits) (ticket : ℕ) (ms : List Member) → weight_calls weight (option_to_list (called Any waits)) ≡ ticket → is_some (find_member id ms) ≡ true
    → told_of weight (displaced (find_member id ms)) + waits_of weight (with_member id (waits_with now waits) ms) ≡ waits_of weight ms + ticket
unfolding with_member find_member
wait-kept weight now id waits ticket [] new has = absurd (cc)
wait-kept weight now id waits ticket (m ∷ ms) new has =
    wait-at (has_id id m) weight now waits m ms (with_member id (waits_with now waits) ms) (find_member id ms) ticket new has (wait-kept weight now id waits ticket ms new)

pub waiting-kept : (weight : Ticket → ℕ) (now : ℕ) (id : List ℕ) (waits : Waits) (ticket : ℕ) (t : Turn) → weight_calls weight (option_to_list (called Any waits)) ≡ ticket → is_some (find_member id t.group.members) ≡ true
    → total weight (waiting now id waits t) ≡ total weight t + ticket
unfolding waiting
waiting-kept weight now id waits ticket t new has =
    let told = told-append weight t.replies (displaced (find_member id t.group.members)) in
    let kept = wait-kept weight now id waits ticket t.group.members new has in
    omega arith

-- a change that keeps the ids keeps which ids are members
some-at : (b c : Bool) (m n : Member) (o p : Option Member) → b ≡ c → is_some o ≡ is_some p → is_some (if b then Some m else o) ≡ is_some (if c then Some n else p)
some-at true true m n o p same more = refl
some-at false false m n o p same more = more
some-at true false m n o p same more = absurd (cc)
some-at false true m n o p same more = absurd (cc)

some-map : (id : List ℕ) (change : Member → Member) (ms : List Member) → ((m : Member) → (change m).id ≡ m.id) → is_some (find_member id (map change ms)) ≡ is_some (find_member id ms)
unfolding find_member
some-map id change [] same = refl
some-map id change (m ∷ ms) same =
    some-at (has_id id (change m)) (has_id id m) (change m) m (find_member id (map change ms)) (find_member id ms) (ap (λ x. is_same x id) (same m)) (some-map id change ms same)

with-one : (b : Bool) (id : List ℕ) (m n : Member) (ms rest : List Member) → has_id id m ≡ b → n.id ≡ m.id → (has : Bool) → is_some (find_member id rest) ≡ is_some (find_member id ms)
    → is_some (find_member id (if has then n ∷ ms else m ∷ rest)) ≡ is_some (find_member id (m ∷ ms))
unfolding find_member
with-one b id m n ms rest is same true more = some-at (has_id id n) (has_id id m) n m (find_member id ms) (find_member id ms) (ap (λ x. is_same x id) same) refl
with-one b id m n ms rest is same false more = some-at (has_id id m) (has_id id m) m m (find_member id rest) (find_member id ms) refl more

some-with : (id other : List ℕ) (change : Member → Member) (ms : List Member) → ((m : Member) → (change m).id ≡ m.id) → is_some (find_member id (with_member other change ms)) ≡ is_some (find_member id ms)
unfolding with_member
some-with id other change [] same = refl
some-with id other change (m ∷ ms) same =
    with-one (has_id id m) id m (change m) ms (with_member other change ms) refl (same m) (has_id other m) (some-with id other change ms same)

answer-id : (b : Bool) (now : ℕ) (m : Member) → (let n : Member = if b then answered now m else m in n).id ≡ m.id
answer-id true now m = refl
answer-id false now m = refl

some-prepared : (id : List ℕ) (now : ℕ) (t : Turn) → is_some (find_member id (prepare_rebalance now t).group.members) ≡ is_some (find_member id t.group.members)
unfolding prepare_rebalance after_answers
some-prepared id now t = some-map id (after_answer Syncs now) t.group.members (λ m. answer-id (is_waiting Syncs m) now m)

some-phase-at : (b : Bool) (id : List ℕ) (now : ℕ) (t : Turn) → is_some (find_member id (let u : Turn = if b then t else prepare_rebalance now t in u).group.members) ≡ is_some (find_member id t.group.members)
some-phase-at true id now t = refl
some-phase-at false id now t = some-prepared id now t

some-phase : (id : List ℕ) (now : ℕ) (t : Turn) → is_some (find_member id (in_join_phase now t).group.members) ≡ is_some (find_member id t.group.members)
some-phase id now t = some-phase-at (is_preparing t.group.phase) id now t

some-updating : (r : JoinRequest) (id : List ℕ) (g : Group) → is_some (find_member id (updating r id g).members) ≡ is_some (find_member id g.members)
unfolding updating
some-updating r id g = some-with id id (updated r) g.members (λ m. refl)

some-hearing : (now : ℕ) (id : List ℕ) (g : Group) → is_some (find_member id (hearing now id g).members) ≡ is_some (find_member id g.members)
unfolding hearing
some-hearing now id g = some-with id id (heard now) g.members (λ m. refl)

-- JOIN of a new member
admitted-kept : (weight : Ticket → ℕ) (now : ℕ) (r : JoinRequest) (id : List ℕ) (ticket : Ticket) (kind : List ℕ) (g : Group) → waits_of weight (admitted (new_member now r id [] (Join ticket)) kind g).members ≡ waits_of weight g.members + weight ticket
unfolding admitted new_member
admitted-kept weight now r id ticket kind g =
    let both = sum_by-append (own weight) g.members (new_member now r id [] (Join ticket) ∷ []) in
    omega arith

pub new-kept : (weight : Ticket → ℕ) (now : ℕ) (r : JoinRequest) (id : List ℕ) (ticket : Ticket) (g : Group) → total weight (add_member_and_rebalance now r id ticket g) ≡ waits_of weight g.members + weight ticket
unfolding add_member_and_rebalance
new-kept weight now r id ticket g =
    let tries = tried-kept weight now (in_join_phase now (turn_of (admitted (new_member now r id [] (Join ticket)) r.kind g))) in
    let phase = phase-kept weight now (turn_of (admitted (new_member now r id [] (Join ticket)) r.kind g)) in
    let more = admitted-kept weight now r id ticket r.kind g in
    omega arith

-- JOIN of a known member, which joins again or gets the current generation
pub rejoined-kept : (weight : Ticket → ℕ) (now : ℕ) (id : List ℕ) (ticket : Ticket) (t : Turn) → is_some (find_member id t.group.members) ≡ true → total weight (rejoined now id ticket t) ≡ total weight t + weight ticket
unfolding rejoined
rejoined-kept weight now id ticket t has =
    let u = in_join_phase now t in
    let waits = waiting-kept weight now id (Join ticket) (weight ticket) u (omega arith) (some-phase id now t ∙ has) in
    let tries = tried-kept weight now (waiting now id (Join ticket) u) in
    let phase = phase-kept weight now t in
    omega arith

again-kept : (weight : Ticket → ℕ) (now : ℕ) (r : JoinRequest) (id : List ℕ) (ticket : Ticket) (g : Group) → is_some (find_member id g.members) ≡ true → total weight (update_member_and_rebalance now r id ticket g) ≡ waits_of weight g.members + weight ticket
unfolding update_member_and_rebalance
again-kept weight now r id ticket g has =
    let joins = rejoined-kept weight now id ticket (turn_of (updating r id g)) (some-updating r id g ∙ has) in
    let before = updating-kept weight r id g in
    omega arith

current-kept : (weight : Ticket → ℕ) (now : ℕ) (id : List ℕ) (ticket : Ticket) (m : Member) (g : Group) → total weight (join_current now id ticket m g) ≡ waits_of weight g.members + weight ticket
unfolding join_current
current-kept weight now id ticket m g = let before = hearing-kept weight now id g in omega arith

known-at : (b : Bool) (weight : Ticket → ℕ) (now : ℕ) (r : JoinRequest) (id : List ℕ) (ticket : Ticket) (m : Member) (g : Group) → is_some (find_member id g.members) ≡ true
    → total weight (if b then join_current now id ticket m g else update_member_and_rebalance now r id ticket g) ≡ waits_of weight g.members + weight ticket
known-at true weight now r id ticket m g has = current-kept weight now id ticket m g
known-at false weight now r id ticket m g has = again-kept weight now r id ticket g has

pub known-kept : (weight : Ticket → ℕ) (now : ℕ) (r : JoinRequest) (id : List ℕ) (ticket : Ticket) (m : Member) (g : Group) → is_some (find_member id g.members) ≡ true → total weight (join_known now r id ticket m g) ≡ waits_of weight g.members + weight ticket
unfolding join_known
known-kept weight now r id ticket m g has = known-at (is_current r m g g.phase) weight now r id ticket m g has

-- SYNC
map-kept : (weight : Ticket → ℕ) (change : Member → Member) (ms : List Member) → ((m : Member) → own weight (change m) ≡ own weight m) → waits_of weight (map change ms) ≡ waits_of weight ms
map-kept weight change [] same = refl
map-kept weight change (m ∷ ms) same =
    let one = same m in
    let rest = map-kept weight change ms same in
    let left = sum_by-cons (own weight) (change m) (map change ms) in
    let all = sum_by-cons (own weight) m ms in
    omega arith

distributed-kept : (weight : Ticket → ℕ) (now : ℕ) (entries : List SyncEntry) (t : Turn) → total weight (propagate_assignment now entries t) ≡ total weight t
unfolding propagate_assignment assigning
distributed-kept weight now entries t =
    let told = syncs-kept weight now (let u : Turn = record { group = assigning entries t.group; replies = t.replies; commands = t.commands ++ assigned_command (assigning entries t.group) } in u) in
    let kept = map-kept weight (assigned entries) t.group.members (λ m. refl) in
    omega arith

sync-at : (b : Bool) (weight : Ticket → ℕ) (now : ℕ) (entries : List SyncEntry) (t : Turn) → total weight (if b then propagate_assignment now entries t else t) ≡ total weight t
sync-at true weight now entries t = distributed-kept weight now entries t
sync-at false weight now entries t = refl

sync-waits-kept : (weight : Ticket → ℕ) (now : ℕ) (r : SyncRequest) (id : List ℕ) (ticket : Ticket) (m : Member) (g : Group) → is_some (find_member id g.members) ≡ true → total weight (sync_waits now r id ticket m g) ≡ waits_of weight g.members + weight ticket
unfolding sync_waits
sync-waits-kept weight now r id ticket m g has =
    let t = waiting now id (Sync ticket) (turn_of (hearing now id g)) in
    let last = sync-at (leads g m) weight now r.entries t in
    let waits = waiting-kept weight now id (Sync ticket) (weight ticket) (turn_of (hearing now id g)) (omega arith) (some-hearing now id g ∙ has) in
    let before = hearing-kept weight now id g in
    omega arith

sync-current-kept : (weight : Ticket → ℕ) (now : ℕ) (id : List ℕ) (ticket : Ticket) (m : Member) (g : Group) → total weight (sync_current now id ticket m g) ≡ waits_of weight g.members + weight ticket
unfolding sync_current
sync-current-kept weight now id ticket m g = let before = hearing-kept weight now id g in omega arith

pub sync-kept : (weight : Ticket → ℕ) (now : ℕ) (r : SyncRequest) (id : List ℕ) (ticket : Ticket) (m : Member) (g : Group) (phase : Phase) → is_some (find_member id g.members) ≡ true → total weight (sync_taken now r id ticket m g phase) ≡ waits_of weight g.members + weight ticket
unfolding sync_taken
sync-kept weight now r id ticket m g Completing has = sync-waits-kept weight now r id ticket m g has
sync-kept weight now r id ticket m g Stable has = sync-current-kept weight now id ticket m g
sync-kept weight now r id ticket m g Empty has = sync-current-kept weight now id ticket m g
sync-kept weight now r id ticket m g Preparing has = sync-current-kept weight now id ticket m g

-- BEAT
pub beat-kept : (weight : Ticket → ℕ) (now : ℕ) (id : List ℕ) (ticket : Ticket) (g : Group) → total weight (beat_taken now id ticket g) ≡ waits_of weight g.members + weight ticket
unfolding beat_taken
beat-kept weight now id ticket g = let before = hearing-kept weight now id g in omega arith

-- LEAVE: no other member has the id
others-at : (b : Bool) (weight : Ticket → ℕ) (id : List ℕ) (m : Member) (ms kept : List Member) → has_id id m ≡ b → b ≡ false → waits_of weight kept ≡ waits_of weight ms → waits_of weight (if not b then m ∷ kept else kept) ≡ waits_of weight (m ∷ ms)
others-at true weight id m ms kept is other rest = absurd (cc)
others-at false weight id m ms kept is other rest =
    let one = sum_by-cons (own weight) m kept in
    let all = sum_by-cons (own weight) m ms in
    omega arith

-- if no member has the id, all stay
pub others-kept : (weight : Ticket → ℕ) (id : List ℕ) (ms : List Member) → list_any (is_same id) (ids ms) ≡ false → waits_of weight (filter (λ other. not (has_id id other)) ms) ≡ waits_of weight ms
others-kept weight id [] none = refl
others-kept weight id (m ∷ ms) none =
    let parts = or_parts (is_same id m.id) (list_any (is_same id) (ids ms)) none in
    let other : has_id id m ≡ false = nat_list_eq_equiv.symm m.id id ∙ parts.0 in
    others-at (has_id id m) weight id m ms (filter (λ other. not (has_id id other)) ms) refl other (others-kept weight id ms parts.1)

gone-at : (b : Bool) (weight : Ticket → ℕ) (id : List ℕ) (m x : Member) (ms kept : List Member) (found : Option Member) → has_id id x ≡ b → (if b then Some x else found) ≡ Some m
    → (b ≡ true → waits_of weight kept ≡ waits_of weight ms) → (found ≡ Some m → waits_of weight kept + own weight m ≡ waits_of weight ms)
    → waits_of weight (if not b then x ∷ kept else kept) + own weight m ≡ waits_of weight (x ∷ ms)
gone-at true weight id m x ms kept found is at here there =
    let same : x ≡ m = cc in
    let all = sum_by-cons (own weight) x ms in
    let one = ap (own weight) same in
    let rest = here refl in
    omega arith
gone-at false weight id m x ms kept found is at here there =
    let all = sum_by-cons (own weight) x ms in
    let one = sum_by-cons (own weight) x kept in
    let rest = there at in
    omega arith

pub gone-member : (weight : Ticket → ℕ) (id : List ℕ) (m : Member) (ms : List Member) → are_distinct (ids ms) ≡ true → find_member id ms ≡ Some m → waits_of weight (filter (λ other. not (has_id id other)) ms) + own weight m ≡ waits_of weight ms
unfolding find_member are_distinct
gone-member weight id m [] distinct found = absurd (cc)
gone-member weight id m (x ∷ ms) distinct found =
    let parts = and_parts (not (list_any (is_same x.id) (ids ms))) (are_distinct (ids ms)) distinct in
    let none = not-true (list_any (is_same x.id) (ids ms)) parts.0 in
    gone-at (has_id id x) weight id m x ms (filter (λ other. not (has_id id other)) ms) (find_member id ms) refl found
    (λ is. others-kept weight id ms (ap (λ y. list_any (is_same y) (ids ms)) (sym ((bytes_eq-Decides x.id id).0 is)) ∙ none))
    (λ at. gone-member weight id m ms parts.1 at)

left-kept : (weight : Ticket → ℕ) (id : List ℕ) (ticket : Ticket) (m : Member) (g : Group) → are_distinct (ids g.members) ≡ true → find_member id g.members ≡ Some m → total weight (left id ticket m g) ≡ waits_of weight g.members + weight ticket
unfolding left keeping
left-kept weight id ticket m g distinct found =
    let told = told-append weight (answer Any (refusing UnknownMemberId) m) ((ticket, reply.Done) ∷ []) in
    let mine = answer-own weight (refusing UnknownMemberId m) (called Any m.waits) in
    let gone = gone-member weight id m g.members distinct found in
    omega arith

pub leave-kept : (weight : Ticket → ℕ) (now : ℕ) (id : List ℕ) (ticket : Ticket) (m : Member) (g : Group) → are_distinct (ids g.members) ≡ true → find_member id g.members ≡ Some m → total weight (leave_taken now id ticket m g) ≡ waits_of weight g.members + weight ticket
unfolding leave_taken
leave-kept weight now id ticket m g distinct found = removal-kept weight now (left id ticket m g) ∙ left-kept weight id ticket m g distinct found

-- COMMIT
committer-kept : (weight : Ticket → ℕ) (now : ℕ) (who : Option (List ℕ)) (g : Group) → waits_of weight (hearing_committer now who g).members ≡ waits_of weight g.members
committer-kept weight now None g = refl
committer-kept weight now (Some id) g = hearing-kept weight now id g

pub commit-kept : (weight : Ticket → ℕ) (now : ℕ) (entries : List CommitEntry) (ticket : Ticket) (who : Option (List ℕ)) (g : Group) → total weight (committed now entries ticket (hearing_committer now who g)) ≡ waits_of weight g.members + weight ticket
unfolding keeping_entries
commit-kept weight now entries ticket who g = let before = committer-kept weight now who g in omega arith
