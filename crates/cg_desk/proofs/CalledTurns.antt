-- Replacement of a static member: its parked request is answered. With it, every step keeps the requests of its group.
use Rattle.std.proofs.Common.{◌≡◌, ℕ, ◌+◌, Bool, true, false, not, List, [], ◌∷◌, ◌++◌, map, refl, sym, ap, ◌∙◌, arith}
use Rattle.std.specs.Prelude.{Option, Some, None, is_some, option_to_list, if◌then◌else◌}
use Rattle.std.specs.List.{list_any}
use Rattle.std.proofs.lemmas.Slice.Eq.{bytes_eq-Decides}
use Rattle.std.proofs.lemmas.Cmp.{nat_list_eq_equiv}
use Rattle.std.proofs.lemmas.List.Sums.{sum_by-cons}
use Rattle.std.proofs.lemmas.Bool.{or_parts, and_parts, not-true}
use Rattle.cg_names.specs.declared.code.Code.TheVariants.{FencedInstanceId}
use Rattle.cg_record.specs.declared.member_record.MemberRecord.{MemberRecord}
use Rattle.cg_group_state.specs.declared.calls.Calls.TheVariants.{Any}
use Rattle.cg_group_state.specs.declared.group.Group.{Group}
use Rattle.cg_group_state.specs.declared.member.Member.{Member}
use Rattle.cg_request.specs.declared.request_fields.JoinRequest.{JoinRequest}
use Rattle.cg_request.specs.declared.ticket.Ticket.{Ticket}
use Rattle.cg_group_state.specs.declared.turn.Turn.{Turn}
use Rattle.cg_group_rules.specs.Join.{new_member, rejoined}
use Rattle.cg_group_state.specs.Members.{instances}
use Rattle.cg_group_state.specs.Membership.{find_instance, find_member, has_instance, is_named, is_same, seating}
use Rattle.cg_request.specs.Names.{are_distinct}
use Rattle.cg_group_rules.specs.StaticMember.{replace_static_member, keeps_generation, replaced, replaced_in_place, replaced_reply, replacing, successor}
use Rattle.cg_group_rules.specs.Sync.{kept_member}
use Rattle.cg_group_state.specs.Waiting.{called, refusing}
use Rattle.cg_group_state.proofs.Seats.{rest_distinct}
use Rattle.cg_group_table.proofs.KeptLists.{same_self}
use Rattle.cg_desk.specs.Turns.{TurnsKeepTheirCalls, own, total, waits_of}
use Rattle.cg_desk.proofs.Called.{gone-kept, ticked-kept, told-append}
use Rattle.cg_desk.proofs.CalledRequests.{answer-own, beat-kept, commit-kept, known-kept, leave-kept, new-kept, rejoined-kept, sync-kept}

-- a new member replaces the one with this instance
abbrev seat : Option (List ℕ) → Member → Member → Member
seat instance new m = if has_instance instance m then new else m

-- if no member has the instance, all stay
stays-at : (given : Option (List ℕ)) (instance : List ℕ) (weight : Ticket → ℕ) (new m : Member) (ms rest : List Member) → list_any (is_same instance) (option_to_list given ++ instances ms) ≡ false
    → (list_any (is_same instance) (instances ms) ≡ false → waits_of weight rest ≡ waits_of weight ms)
    → waits_of weight ((if is_named given instance then new else m) ∷ rest) ≡ waits_of weight (m ∷ ms)
stays-at None instance weight new m ms rest none more =
    let left = sum_by-cons (own weight) m rest in
    let all = sum_by-cons (own weight) m ms in
    let same = more none in
    omega arith
stays-at (Some given) instance weight new m ms rest none more =
    let parts = or_parts (is_same instance given) (list_any (is_same instance) (instances ms)) none in
    let other : is_same given instance ≡ false = nat_list_eq_equiv.symm given instance ∙ parts.0 in
    let here = ap (λ b. waits_of weight ((if b then new else m) ∷ rest)) other in
    let left = sum_by-cons (own weight) m rest in
    let all = sum_by-cons (own weight) m ms in
    let same = more parts.1 in
    omega arith

stays : (instance : List ℕ) (weight : Ticket → ℕ) (new : Member) (ms : List Member) → list_any (is_same instance) (instances ms) ≡ false → waits_of weight (map (seat (Some instance) new) ms) ≡ waits_of weight ms
stays instance weight new [] none = refl
stays instance weight new (m ∷ ms) none = stays-at m.instance instance weight new m ms (map (seat (Some instance) new) ms) none (stays instance weight new ms)

-- no other member has the instance of one
alone : (given : Option (List ℕ)) (instance : List ℕ) (rest : List (List ℕ)) → are_distinct (option_to_list given ++ rest) ≡ true → is_named given instance ≡ true → list_any (is_same instance) rest ≡ false
unfolding are_distinct
alone None instance rest distinct has = absurd (cc)
alone (Some given) instance rest distinct has =
    let parts = and_parts (not (list_any (is_same given) rest)) (are_distinct rest) distinct in
    ap (λ y. list_any (is_same y) rest) (sym ((bytes_eq-Decides given instance).0 has)) ∙ not-true (list_any (is_same given) rest) parts.0

-- the member with the instance is removed, and has no parked request any more
seat-at : (b : Bool) (weight : Ticket → ℕ) (new old m : Member) (ms rest : List Member) (found : Option Member) → own weight new ≡ 0 → (if b then Some m else found) ≡ Some old
    → (b ≡ true → waits_of weight rest ≡ waits_of weight ms) → (found ≡ Some old → waits_of weight rest + own weight old ≡ waits_of weight ms)
    → waits_of weight ((if b then new else m) ∷ rest) + own weight old ≡ waits_of weight (m ∷ ms)
seat-at true weight new old m ms rest found idle is here there =
    let same : m ≡ old = cc in
    let one = ap (own weight) same in
    let left = sum_by-cons (own weight) new rest in
    let all = sum_by-cons (own weight) m ms in
    let kept = here refl in
    omega arith
seat-at false weight new old m ms rest found idle is here there =
    let left = sum_by-cons (own weight) m rest in
    let all = sum_by-cons (own weight) m ms in
    let kept = there is in
    omega arith

seated-some : (instance : List ℕ) (weight : Ticket → ℕ) (new old : Member) (ms : List Member) → own weight new ≡ 0 → are_distinct (instances ms) ≡ true → find_instance (Some instance) ms ≡ Some old
    → waits_of weight (map (seat (Some instance) new) ms) + own weight old ≡ waits_of weight ms
unfolding find_instance
seated-some instance weight new old [] idle distinct found = absurd (cc)
seated-some instance weight new old (m ∷ ms) idle distinct found =
    seat-at (is_named m.instance instance) weight new old m ms (map (seat (Some instance) new) ms) (find_instance (Some instance) ms) idle found
    (λ has. stays instance weight new ms (alone m.instance instance (instances ms) distinct has))
    (λ more. seated-some instance weight new old ms idle (rest_distinct m.instance (instances ms) distinct) more)

none-given : (old : Member) (ms : List Member) → find_instance None ms ≡ Some old → ⊥
unfolding find_instance
none-given old [] found = cc
none-given old (m ∷ ms) found = none-given old ms found

seated-kept : (instance : Option (List ℕ)) (weight : Ticket → ℕ) (new old : Member) (ms : List Member) → own weight new ≡ 0 → are_distinct (instances ms) ≡ true → find_instance instance ms ≡ Some old
    → waits_of weight (map (seat instance new) ms) + own weight old ≡ waits_of weight ms
seated-kept None weight new old ms idle distinct found = absurd (none-given old ms found)
seated-kept (Some instance) weight new old ms idle distinct found = seated-some instance weight new old ms idle distinct found

-- the new member is found
found-at : (b : Bool) (new old m : Member) (found : Option Member) (after : Option Member) → (if b then Some m else found) ≡ Some old → (found ≡ Some old → is_some after ≡ true)
    → is_some (if is_same (let n : Member = if b then new else m in n).id new.id then Some (let n : Member = if b then new else m in n) else after) ≡ true
found-at true new old m found after is more = ap (λ b. is_some (if b then Some new else after)) (same_self new.id)
found-at false new old m found after is more = some-of (is_same m.id new.id) (more is)
  where
    some-of : (c : Bool) → is_some after ≡ true → is_some (if c then Some m else after) ≡ true
    some-of true has = refl
    some-of false has = has

seated-found : (instance : Option (List ℕ)) (new old : Member) (ms : List Member) → find_instance instance ms ≡ Some old → is_some (find_member new.id (map (seat instance new) ms)) ≡ true
unfolding find_instance find_member
seated-found instance new old [] found = absurd (cc)
seated-found instance new old (m ∷ ms) found =
    found-at (has_instance instance m) new old m (find_instance instance ms) (find_member new.id (map (seat instance new) ms)) found (seated-found instance new old ms)

-- JOIN of a member that replaces another
replaced-kept : (weight : Ticket → ℕ) (now : ℕ) (r : JoinRequest) (id : List ℕ) (old : Member) (g : Group) → are_distinct (instances g.members) ≡ true → find_instance r.instance g.members ≡ Some old
    → total weight (replaced (successor now r id old) old g) ≡ waits_of weight g.members
unfolding replaced replacing seating new_member
replaced-kept weight now r id old g distinct found =
    let told = answer-own weight (refusing FencedInstanceId old) (called Any old.waits) in
    let seats = seated-kept r.instance weight (successor now r id old) old g.members refl distinct found in
    omega arith

replaced-found : (now : ℕ) (r : JoinRequest) (id : List ℕ) (old : Member) (g : Group) → find_instance r.instance g.members ≡ Some old
    → is_some (find_member id (replaced (successor now r id old) old g).group.members) ≡ true
unfolding replaced replacing seating new_member
replaced-found now r id old g found = seated-found r.instance (successor now r id old) old g.members found

in-place-kept : (weight : Ticket → ℕ) (ticket : Ticket) (new : MemberRecord) (before : Group) (t : Turn) → total weight (replaced_in_place ticket new before t) ≡ total weight t + weight ticket
unfolding replaced_in_place
in-place-kept weight ticket new before t =
    let told = told-append weight t.replies ((ticket, replaced_reply new.id before) ∷ []) in
    omega arith

replacing-at : (b : Bool) (weight : Ticket → ℕ) (now : ℕ) (id : List ℕ) (ticket : Ticket) (new : MemberRecord) (g : Group) (t : Turn) → is_some (find_member id t.group.members) ≡ true
    → total weight (if b then replaced_in_place ticket new g t else rejoined now id ticket t) ≡ total weight t + weight ticket
replacing-at true weight now id ticket new g t has = in-place-kept weight ticket new g t
replacing-at false weight now id ticket new g t has = rejoined-kept weight now id ticket t has

pub replacing-kept : (weight : Ticket → ℕ) (now : ℕ) (r : JoinRequest) (id : List ℕ) (ticket : Ticket) (old : Member) (g : Group) → are_distinct (instances g.members) ≡ true → find_instance r.instance g.members ≡ Some old
    → total weight (replace_static_member now r id ticket old g) ≡ waits_of weight g.members + weight ticket
unfolding replace_static_member
replacing-kept weight now r id ticket old g distinct found =
    let new = successor now r id old in
    let t = replaced new old g in
    let last = replacing-at (keeps_generation t.group) weight now id ticket (kept_member g.protocol new) g t (replaced-found now r id old g found) in
    let first = replaced-kept weight now r id old g distinct found in
    omega arith

pub turns_keep_their_calls : TurnsKeepTheirCalls
turns_keep_their_calls = record {
  first_join = λ now r id ticket g weight. new-kept weight now r id ticket g;
  join = λ now r id ticket m g has weight. known-kept weight now r id ticket m g has;
  replace = λ now r id ticket old g distinct found weight. replacing-kept weight now r id ticket old g distinct found;
  sync = λ now r id ticket m g phase has weight. sync-kept weight now r id ticket m g phase has;
  beat = λ now id ticket g weight. beat-kept weight now id ticket g;
  leave = λ now id ticket m g distinct found weight. leave-kept weight now id ticket m g distinct found;
  commit = λ now entries ticket who g weight. commit-kept weight now entries ticket who g;
  gone = λ now session g weight. gone-kept weight now session g;
  tick = λ now g weight. ticked-kept weight now g;
}
