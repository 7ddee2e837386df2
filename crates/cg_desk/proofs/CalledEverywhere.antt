-- Pending requests over all groups.
use Rattle.std.proofs.Common.{◌≡◌, ℕ, ◌+◌, Bool, true, false, not, List, [], ◌∷◌, ◌++◌, filter, map, refl, ap, ◌∙◌, arith}
use Rattle.std.specs.Prelude.{Option, Some, None, max, option_to_list, if◌then◌else◌}
use Rattle.std.specs.FinMap as finmap
use Rattle.std.specs.List.{cons_option, filter_map, flat_map, sum_by}
use Rattle.std.proofs.lemmas.Bool.{and_parts, false≢true, not-false}
use Rattle.std.proofs.lemmas.List.Sums.{sum_by-append, sum_by-cons}
use Rattle.cg_fold.specs.Durable.{State}
use Rattle.cg_fold.specs.declared.group_record.GroupRecord.{GroupRecord}
use Rattle.cg_fold.specs.declared.group_record.RecordedMembers.{RecordedMembers}
use Rattle.cg_fold.specs.declared.group_record.RecordedMembers.TheVariants as recorded
use Rattle.cg_record.specs.declared.member_record.MemberRecord.{MemberRecord}
use Rattle.cg_group_state.specs.declared.calls.Calls.TheVariants.{Any}
use Rattle.cg_request.specs.declared.event.Event.TheVariants.{Gone, Tick}
use Rattle.cg_group_state.specs.declared.group.Group.{Group}
use Rattle.cg_group_state.specs.declared.member.Member.{Member}
use Rattle.cg_request.specs.declared.ticket.Ticket.{Ticket}
use Rattle.cg_group_state.specs.declared.turn.Turn.{Turn}
use Rattle.cg_group_rules.specs.Join.{new_group}
use Rattle.cg_group_rules.specs.Leave.{gone_in}
use Rattle.cg_group.specs.Machine.{handled, step}
use Rattle.cg_group_table.specs.Expiry.{expires, expiring_if, goes, is_bare, is_idle, is_nil, is_vacant, lasting, tick, tick_effects}
use Rattle.cg_group_table.specs.GroupTable.{Machine, everywhere}
use Rattle.cg_group_table.specs.Recovery.{revive, revived, revived_from, revived_member, revived_with}
use Rattle.cg_group_state.specs.Membership.{is_empty}
use Rattle.cg_group_state.specs.Offsets.{OffsetMap, offsets_after}
use Rattle.cg_group_rules.specs.Tick.{ticked}
use Rattle.cg_group_state.specs.Waiting.{called, waiting_calls}
use Rattle.cg_desk.specs.Owed.{KeepsCalls, weight_calls}
use Rattle.cg_desk.specs.Turns.{own, told_of, total, waits_of}
use Rattle.cg_desk.proofs.Called.{gone-kept, ticked-kept, told-append}

abbrev pub in_groups : (Ticket → ℕ) → List Group → ℕ
in_groups weight groups = sum_by (λ (g : Group). waits_of weight g.members) groups

call-at : (weight : Ticket → ℕ) (o : Option Ticket) (calls : List Ticket) → weight_calls weight (cons_option o calls) ≡ weight_calls weight (option_to_list o) + weight_calls weight calls
call-at weight None calls = omega arith
call-at weight (Some t) calls = let one = sum_by-cons weight t calls in omega arith

calls-waiting : (weight : Ticket → ℕ) (ms : List Member) → weight_calls weight (filter_map (λ (m : Member). called Any m.waits) ms) ≡ waits_of weight ms
calls-waiting weight [] = refl
calls-waiting weight (m ∷ ms) =
    let one = call-at weight (called Any m.waits) (filter_map (λ (m : Member). called Any m.waits) ms) in
    let rest = calls-waiting weight ms in
    let all = sum_by-cons (own weight) m ms in
    omega arith

members-waiting : (weight : Ticket → ℕ) (groups : List Group) → waits_of weight (flat_map (λ (g : Group). g.members) groups) ≡ in_groups weight groups
members-waiting weight [] = refl
members-waiting weight (g ∷ groups) =
    let both = sum_by-append (own weight) g.members (flat_map (λ (g : Group). g.members) groups) in
    let rest = members-waiting weight groups in
    let all = sum_by-cons (λ (g : Group). waits_of weight g.members) g groups in
    omega arith

pub groups-waiting : (weight : Ticket → ℕ) (groups : List Group) → weight_calls weight (waiting_calls groups) ≡ in_groups weight groups
unfolding waiting_calls
groups-waiting weight groups = calls-waiting weight (flat_map (λ (g : Group). g.members) groups) ∙ members-waiting weight groups

turned : (weight : Ticket → ℕ) (turn : Group → Turn) → ((g : Group) → total weight (turn g) ≡ waits_of weight g.members) → (groups : List Group)
    → told_of weight (flat_map (λ (g : Group). (turn g).replies) groups) + in_groups weight (map (λ (g : Group). (turn g).group) groups) ≡ in_groups weight groups
turned weight turn keeps [] = refl
turned weight turn keeps (g ∷ groups) =
    let one = keeps g in
    let rest = turned weight turn keeps groups in
    let told = told-append weight (turn g).replies (flat_map (λ (g : Group). (turn g).replies) groups) in
    let left = sum_by-cons (λ (g : Group). waits_of weight g.members) (turn g).group (map (λ (g : Group). (turn g).group) groups) in
    let all = sum_by-cons (λ (g : Group). waits_of weight g.members) g groups in
    omega arith

-- groups without parked requests may go after their step
stays-at : (b : Bool) (weight : Ticket → ℕ) (turn : Group → Turn) (stays : Group → Bool) (g : Group) (groups : List Group)
    → (b ≡ false → waits_of weight g.members ≡ 0) → total weight (turn g) ≡ waits_of weight g.members
    → told_of weight (flat_map (λ (g : Group). (turn g).replies) groups) + in_groups weight (map (λ (g : Group). (turn g).group) (filter stays groups)) ≡ in_groups weight groups
    → told_of weight (flat_map (λ (g : Group). (turn g).replies) (g ∷ groups)) + in_groups weight (map (λ (g : Group). (turn g).group) (if b then g ∷ filter stays groups else filter stays groups)) ≡ in_groups weight (g ∷ groups)
stays-at true weight turn stays g groups idle one rest =
    let told = told-append weight (turn g).replies (flat_map (λ (g : Group). (turn g).replies) groups) in
    let left = sum_by-cons (λ (g : Group). waits_of weight g.members) (turn g).group (map (λ (g : Group). (turn g).group) (filter stays groups)) in
    let all = sum_by-cons (λ (g : Group). waits_of weight g.members) g groups in
    omega arith
stays-at false weight turn stays g groups idle one rest =
    let none = idle refl in
    let told = told-append weight (turn g).replies (flat_map (λ (g : Group). (turn g).replies) groups) in
    let all = sum_by-cons (λ (g : Group). waits_of weight g.members) g groups in
    omega arith

turned-stays : (weight : Ticket → ℕ) (turn : Group → Turn) (stays : Group → Bool) → ((g : Group) → total weight (turn g) ≡ waits_of weight g.members) → ((g : Group) → stays g ≡ false → waits_of weight g.members ≡ 0) → (groups : List Group)
    → told_of weight (flat_map (λ (g : Group). (turn g).replies) groups) + in_groups weight (map (λ (g : Group). (turn g).group) (filter stays groups)) ≡ in_groups weight groups
turned-stays weight turn stays keeps idle [] = refl
turned-stays weight turn stays keeps idle (g ∷ groups) = stays-at (stays g) weight turn stays g groups (idle g) (keeps g) (turned-stays weight turn stays keeps idle groups)

-- in a group in which something expires no request is parked
pub empty-idle : (weight : Ticket → ℕ) (ms : List Member) → is_empty ms ≡ true → waits_of weight ms ≡ 0
empty-idle weight [] empty = refl
empty-idle weight (m ∷ ms) empty = absurd (false≢true empty)

vacant-idle : (vacant : Bool) (weight : Ticket → ℕ) (loaded now : ℕ) (offsets : OffsetMap) (g : Group) → is_vacant g ≡ vacant → not (is_nil (expiring_if vacant loaded now offsets g)) ≡ true → waits_of weight g.members ≡ 0
unfolding expiring_if
vacant-idle true weight loaded now offsets g is some = empty-idle weight g.members (and_parts (is_idle g.phase) (is_empty g.members) is).1
vacant-idle false weight loaded now offsets g is some = absurd (false≢true some)

goes-idle : (weight : Ticket → ℕ) (loaded now : ℕ) (offsets later : OffsetMap) (g : Group) → not (goes loaded now offsets later g) ≡ false → waits_of weight g.members ≡ 0
goes-idle weight loaded now offsets later g is =
    vacant-idle (is_vacant g) weight loaded now offsets g refl (and_parts (expires loaded now offsets g) (is_bare later g.id) (not-false (goes loaded now offsets later g) is)).0

pub tick-keeps : (s : Machine) (now : ℕ) → KeepsCalls s [] Tick now
unfolding step handled tick
tick-keeps s now weight =
    let m = max s.last now in
    let later : OffsetMap = offsets_after s.offsets (tick_effects (record s { last = m })).commands in
    let after = groups-waiting weight (map (λ (g : Group). (ticked m g).group) (lasting s.loaded m s.offsets later s.groups)) in
    let before = groups-waiting weight s.groups in
    let turns = turned-stays weight (ticked m) (λ g. not (goes s.loaded m s.offsets later g)) (λ g. ticked-kept weight m g) (goes-idle weight s.loaded m s.offsets later) s.groups in
    omega arith

pub gone-keeps : (s : Machine) (session now : ℕ) → KeepsCalls s [] (Gone session) now
unfolding step handled everywhere
gone-keeps s session now weight =
    let m = max s.last now in
    let after = groups-waiting weight (map (λ (g : Group). (gone_in m session g).group) s.groups) in
    let before = groups-waiting weight s.groups in
    let turns = turned weight (gone_in m session) (λ g. gone-kept weight m session g) s.groups in
    omega arith

-- no request is parked after recovery
append-none : {X : Type 0} (xs ys : List X) → xs ≡ [] → ys ≡ [] → xs ++ ys ≡ []
append-none xs ys none rest = ap (λ l. l ++ ys) none ∙ rest

idle-members : (now : ℕ) (protocol : List ℕ) (ms : List MemberRecord) → filter_map (λ (m : Member). called Any m.waits) (map (revived_member now protocol) ms) ≡ []
unfolding revived_member
idle-members now protocol [] = refl
idle-members now protocol (m ∷ ms) = idle-members now protocol ms

idle-with : (now : ℕ) (id : List ℕ) (r : GroupRecord) (roster : RecordedMembers) → filter_map (λ (m : Member). called Any m.waits) (revived_with now id r roster).members ≡ []
unfolding revived_with
idle-with now id r (recorded.Empty moment) = refl
idle-with now id r (recorded.Roster roster) = idle-members now roster.protocol roster.members

idle-from : (now : ℕ) (id : List ℕ) (o : Option GroupRecord) → filter_map (λ (m : Member). called Any m.waits) (revived_from now id o).members ≡ []
unfolding new_group
idle-from now id None = refl
idle-from now id (Some r) = idle-with now id r r.members

cons-append : (o : Option Ticket) (xs ys zs : List Ticket) → zs ≡ xs ++ ys → cons_option o zs ≡ cons_option o xs ++ ys
cons-append None xs ys zs is = is
cons-append (Some t) xs ys zs is = ap (λ l. t ∷ l) is

filter_map-append : (xs ys : List Member) → filter_map (λ (m : Member). called Any m.waits) (xs ++ ys) ≡ filter_map (λ (m : Member). called Any m.waits) xs ++ filter_map (λ (m : Member). called Any m.waits) ys
filter_map-append [] ys = refl
filter_map-append (m ∷ xs) ys = cons-append (called Any m.waits) (filter_map (λ (m : Member). called Any m.waits) xs) (filter_map (λ (m : Member). called Any m.waits) ys) (filter_map (λ (m : Member). called Any m.waits) (xs ++ ys)) (filter_map-append xs ys)

idle-groups : (now : ℕ) (state : State) (names : List (List ℕ)) → filter_map (λ (m : Member). called Any m.waits) (flat_map (λ (g : Group). g.members) (map (revived now state) names)) ≡ []
unfolding revived
idle-groups now state [] = refl
idle-groups now state (id ∷ names) =
    filter_map-append (revived now state id).members (flat_map (λ (g : Group). g.members) (map (revived now state) names))
    ∙ append-none _ _ (idle-from now id (finmap.get state.records id)) (idle-groups now state names)

pub loaded-idle : (state : State) (now : ℕ) → waiting_calls (revive state now).groups ≡ []
unfolding revive waiting_calls
loaded-idle state now = idle-groups now state _
