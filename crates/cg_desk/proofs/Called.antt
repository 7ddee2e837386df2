-- Requests of members, by the weights of their tickets: each stage of a step answers a request or leaves it parked.
use Rattle.std.proofs.Common.{◌≡◌, ℕ, ◌+◌, Bool, true, false, not, List, [], ◌∷◌, ◌++◌, refl, sym, ap, ◌∙◌, arith, eqb, leb}
use Rattle.std.specs.Prelude.{Option, Some, None, is_some, filter, option_map, option_to_list, if◌then◌else◌, ◌&&◌, ◌||◌}
use Rattle.std.specs.List.{list_any}
use Rattle.std.proofs.lemmas.List.Sums.{sum_by-append, sum_by-cons}
use Rattle.cg_names.specs.declared.code.Code.TheVariants.{CoordinatorNotAvailable, RebalanceInProgress}
use Rattle.cg_group_state.specs.declared.calls.Calls.{Calls}
use Rattle.cg_group_state.specs.declared.calls.Calls.TheVariants.{Joins, Syncs, Any, OfSession}
use Rattle.cg_group_state.specs.declared.group.Group.{Group}
use Rattle.cg_group_state.specs.declared.member.Member.{Member}
use Rattle.cg_group_state.specs.declared.member.Waits.{Waits}
use Rattle.cg_group_state.specs.declared.member.Waits.TheVariants.{Nothing, Join, Sync}
use Rattle.cg_group_state.specs.declared.reply.Reply.{Reply}
use Rattle.cg_request.specs.declared.ticket.Ticket.{Ticket}
use Rattle.cg_group_state.specs.declared.turn.Turn.{Turn}
use Rattle.cg_group_rules.specs.Join.{in_join_phase}
use Rattle.cg_group_rules.specs.Leave.{after_removal, gone_in, has_joined}
use Rattle.cg_group_state.specs.Membership.{is_empty, is_preparing, keeping}
use Rattle.cg_group_rules.specs.Rebalance.{complete_join, emptied, is_ready, joined_reply, init_next_generation, prepare_rebalance, reply_to_joins, try_complete_join, turn_of}
use Rattle.cg_group_rules.specs.Sync.{synced_reply, reply_to_syncs}
use Rattle.cg_group_rules.specs.Tick.{at_deadline, can_complete, ended, expire_heartbeats, is_due, ticked}
use Rattle.cg_group_state.specs.Staying.{is_overdue, outstays}
use Rattle.cg_group_state.specs.Waiting.{after_answer, after_answers, answer, answered, answers, called, is_waiting, refusing}
use Rattle.cg_desk.specs.Held.{calls_of}
use Rattle.cg_desk.specs.Owed.{weight_calls}
use Rattle.cg_desk.specs.Turns.{own, told_of, total, waits_of}

pub calls-append : (rs qs : List (Ticket × Reply)) → calls_of (rs ++ qs) ≡ calls_of rs ++ calls_of qs
calls-append [] qs = refl
calls-append (r ∷ rs) qs = ap (λ l. r.0 ∷ l) (calls-append rs qs)

pub told-append : (weight : Ticket → ℕ) (rs qs : List (Ticket × Reply)) → told_of weight (rs ++ qs) ≡ told_of weight rs + told_of weight qs
told-append weight rs qs = ap (weight_calls weight) (calls-append rs qs) ∙ sum_by-append weight (calls_of rs) (calls_of qs)

-- a request that is parked on this session is parked
any-session : (b : Bool) (t u : Ticket) → (let o : Option Ticket = if b then Some t else None in o) ≡ Some u → u ≡ t
any-session true t u is = cc
any-session false t u is = absurd (cc)

called-any : (which : Calls) (w : Waits) (t : Ticket) → called which w ≡ Some t → called Any w ≡ Some t
called-any Joins Nothing t is = absurd (cc)
called-any Joins (Join u) t is = is
called-any Joins (Sync u) t is = absurd (cc)
called-any Syncs Nothing t is = absurd (cc)
called-any Syncs (Join u) t is = absurd (cc)
called-any Syncs (Sync u) t is = is
called-any Any w t is = is
called-any (OfSession s) Nothing t is = absurd (cc)
called-any (OfSession s) (Join u) t is = ap Some (sym (any-session (eqb u.session s) u t is))
called-any (OfSession s) (Sync u) t is = ap Some (sym (any-session (eqb u.session s) u t is))

-- an answer removes the parked request
answer-at : (weight : Ticket → ℕ) (reply : Member → Reply) (now : ℕ) (m : Member) (o : Option Ticket) → ((t : Ticket) → o ≡ Some t → called Any m.waits ≡ Some t)
    → told_of weight (option_to_list (option_map (λ (t : Ticket). (t, reply m)) o)) + own weight (if is_some o then answered now m else m) ≡ own weight m
answer-at weight reply now m None any = omega arith
answer-at weight reply now m (Some t) any =
    let is = ap (λ (o : Option Ticket). weight_calls weight (option_to_list o)) (any t refl) in
    omega arith

answer-kept : (weight : Ticket → ℕ) (which : Calls) (reply : Member → Reply) (now : ℕ) (m : Member) → told_of weight (answer which reply m) + own weight (after_answer which now m) ≡ own weight m
answer-kept weight which reply now m = answer-at weight reply now m (called which m.waits) (called-any which m.waits)

pub answers-kept : (weight : Ticket → ℕ) (which : Calls) (reply : Member → Reply) (now : ℕ) (ms : List Member) → told_of weight (answers which reply ms) + waits_of weight (after_answers which now ms) ≡ waits_of weight ms
unfolding answers after_answers
answers-kept weight which reply now [] = refl
answers-kept weight which reply now (m ∷ ms) =
    let one = answer-kept weight which reply now m in
    let rest = answers-kept weight which reply now ms in
    let told = told-append weight (answer which reply m) (answers which reply ms) in
    let left = sum_by-cons (own weight) (after_answer which now m) (after_answers which now ms) in
    let all = sum_by-cons (own weight) m ms in
    omega arith

pub prepared-kept : (weight : Ticket → ℕ) (now : ℕ) (t : Turn) → total weight (prepare_rebalance now t) ≡ total weight t
unfolding prepare_rebalance
prepared-kept weight now t =
    let told = told-append weight t.replies (answers Syncs (refusing RebalanceInProgress) t.group.members) in
    let kept = answers-kept weight Syncs (refusing RebalanceInProgress) now t.group.members in
    omega arith

joins-kept : (weight : Ticket → ℕ) (now : ℕ) (t : Turn) → total weight (reply_to_joins now t) ≡ total weight t
unfolding reply_to_joins
joins-kept weight now t =
    let told = told-append weight t.replies (answers Joins (joined_reply t.group) t.group.members) in
    let kept = answers-kept weight Joins (joined_reply t.group) now t.group.members in
    omega arith

pub syncs-kept : (weight : Ticket → ℕ) (now : ℕ) (t : Turn) → total weight (reply_to_syncs now t) ≡ total weight t
unfolding reply_to_syncs
syncs-kept weight now t =
    let told = told-append weight t.replies (answers Syncs synced_reply t.group.members) in
    let kept = answers-kept weight Syncs synced_reply now t.group.members in
    omega arith

emptied-kept : (weight : Ticket → ℕ) (now : ℕ) (t : Turn) → total weight (emptied now t) ≡ total weight t
unfolding emptied
emptied-kept weight now t = refl

round-kept : (weight : Ticket → ℕ) (t : Turn) → total weight (record t { group = init_next_generation t.group }) ≡ total weight t
unfolding init_next_generation
round-kept weight t = refl

completed-at : (b : Bool) (weight : Ticket → ℕ) (now : ℕ) (t : Turn) → total weight (if b then emptied now t else reply_to_joins now (record t { group = init_next_generation t.group })) ≡ total weight t
completed-at true weight now t = emptied-kept weight now t
completed-at false weight now t = joins-kept weight now (record t { group = init_next_generation t.group }) ∙ round-kept weight t

completed-kept : (weight : Ticket → ℕ) (now : ℕ) (t : Turn) → total weight (complete_join now t) ≡ total weight t
unfolding complete_join
completed-kept weight now t = completed-at (is_empty t.group.members) weight now t

tried-at : (b : Bool) (weight : Ticket → ℕ) (now : ℕ) (t : Turn) → total weight (if b then complete_join now t else t) ≡ total weight t
tried-at true weight now t = completed-kept weight now t
tried-at false weight now t = refl

pub tried-kept : (weight : Ticket → ℕ) (now : ℕ) (t : Turn) → total weight (try_complete_join now t) ≡ total weight t
unfolding try_complete_join
tried-kept weight now t = tried-at (is_ready t.group) weight now t

phase-at : (b : Bool) (weight : Ticket → ℕ) (now : ℕ) (t : Turn) → total weight (if b then t else prepare_rebalance now t) ≡ total weight t
phase-at true weight now t = refl
phase-at false weight now t = prepared-kept weight now t

pub phase-kept : (weight : Ticket → ℕ) (now : ℕ) (t : Turn) → total weight (in_join_phase now t) ≡ total weight t
phase-kept weight now t = phase-at (is_preparing t.group.phase) weight now t

removal-at : (b : Bool) (weight : Ticket → ℕ) (now : ℕ) (t : Turn) → total weight (if b then prepare_rebalance now t else t) ≡ total weight t
removal-at true weight now t = prepared-kept weight now t
removal-at false weight now t = refl

pub removal-kept : (weight : Ticket → ℕ) (now : ℕ) (t : Turn) → total weight (after_removal now t) ≡ total weight t
unfolding after_removal
removal-kept weight now t = tried-kept weight now (if has_joined t.group.phase then prepare_rebalance now t else t) ∙ removal-at (has_joined t.group.phase) weight now t

-- members without a parked request may be removed
idle-own : (weight : Ticket → ℕ) (o : Option Ticket) → is_some o ≡ false → weight_calls weight (option_to_list o) ≡ 0
idle-own weight None idle = refl
idle-own weight (Some t) idle = absurd (cc)

filter-at : (b : Bool) (weight : Ticket → ℕ) (m : Member) (ms kept : List Member) → (b ≡ false → is_waiting Any m ≡ false) → waits_of weight kept ≡ waits_of weight ms → waits_of weight (if b then m ∷ kept else kept) ≡ waits_of weight (m ∷ ms)
filter-at true weight m ms kept idle rest =
    let one = sum_by-cons (own weight) m kept in
    let all = sum_by-cons (own weight) m ms in
    omega arith
filter-at false weight m ms kept idle rest =
    let none = idle-own weight (called Any m.waits) (idle refl) in
    let all = sum_by-cons (own weight) m ms in
    omega arith

pub filter-kept : (weight : Ticket → ℕ) (stays : Member → Bool) (ms : List Member) → ((m : Member) → stays m ≡ false → is_waiting Any m ≡ false) → waits_of weight (filter stays ms) ≡ waits_of weight ms
filter-kept weight stays [] idle = refl
filter-kept weight stays (m ∷ ms) idle = filter-at (stays m) weight m ms (filter stays ms) (idle m) (filter-kept weight stays ms idle)

overdue-idle : (w due : Bool) → not (not w && due) ≡ false → w ≡ false
overdue-idle true due is = absurd (cc)
overdue-idle false due is = refl

keeping-kept : (weight : Ticket → ℕ) (stays : Member → Bool) (t : Turn) → ((m : Member) → stays m ≡ false → is_waiting Any m ≡ false) → total weight (record t { group = keeping stays t.group }) ≡ total weight t
unfolding keeping
keeping-kept weight stays t idle = ap (λ n. told_of weight t.replies + n) (filter-kept weight stays t.group.members idle)

expired-at : (b : Bool) (weight : Ticket → ℕ) (now : ℕ) (t : Turn) → total weight (if b then after_removal now (record t { group = keeping (λ m. not (is_overdue now m)) t.group }) else try_complete_join now t) ≡ total weight t
expired-at true weight now t =
    removal-kept weight now (record t { group = keeping (λ m. not (is_overdue now m)) t.group })
    ∙ keeping-kept weight (λ m. not (is_overdue now m)) t (λ m is. overdue-idle (is_waiting Any m) (leb (m.heard + m.session) now) is)
expired-at false weight now t = tried-kept weight now t

expired-kept : (weight : Ticket → ℕ) (now : ℕ) (t : Turn) → total weight (expire_heartbeats now t) ≡ total weight t
unfolding expire_heartbeats
expired-kept weight now t = expired-at (list_any (is_overdue now) t.group.members) weight now t

ended-at : (b : Bool) (weight : Ticket → ℕ) (now : ℕ) (t : Turn) → total weight (if b then complete_join now t else record t { group = record t.group { started = now } }) ≡ total weight t
ended-at true weight now t = completed-kept weight now t
ended-at false weight now t = refl

ended-kept : (weight : Ticket → ℕ) (now : ℕ) (t : Turn) → total weight (ended now t) ≡ total weight t
unfolding ended
ended-kept weight now t = ended-at (can_complete t.group.members) weight now t

outstays-idle : (is_static waits : Bool) → (is_static || waits) ≡ false → waits ≡ false
outstays-idle true waits is = absurd (cc)
outstays-idle false waits is = is

deadline-at : (b : Bool) (weight : Ticket → ℕ) (now : ℕ) (t : Turn) → total weight (if b then ended now (record t { group = keeping outstays t.group }) else t) ≡ total weight t
deadline-at true weight now t =
    ended-kept weight now (record t { group = keeping outstays t.group })
    ∙ keeping-kept weight outstays t (λ m is. outstays-idle (is_some m.instance) (is_waiting Any m) is)
deadline-at false weight now t = refl

-- a Tick, in one group
pub ticked-kept : (weight : Ticket → ℕ) (now : ℕ) (g : Group) → total weight (ticked now g) ≡ waits_of weight g.members
unfolding ticked at_deadline
ticked-kept weight now g =
    let last = deadline-at (is_due now (expire_heartbeats now (turn_of g)).group) weight now (expire_heartbeats now (turn_of g)) in
    let first = expired-kept weight now (turn_of g) in
    omega arith

-- a closed session, in one group
pub gone-kept : (weight : Ticket → ℕ) (now session : ℕ) (g : Group) → total weight (gone_in now session g) ≡ waits_of weight g.members
unfolding gone_in
gone-kept weight now session g = answers-kept weight (OfSession session) (refusing CoordinatorNotAvailable) now g.members
