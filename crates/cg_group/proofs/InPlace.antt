-- The outcome of a request that changes a member in place, or is refused.
use Rattle.std.proofs.Common.{◌≡◌, ℕ, true, false, List, inl, inr, Option, Some, None, is_some, Result, Ok, Err, MatchResult, OnErr, is_ok, ok_or, refl, sym, ap, ◌∙◌}
use Rattle.cg_names.specs.declared.code.Code.{Code}
use Rattle.cg_names.specs.declared.code.Code.TheVariants.{InvalidGroupId, InvalidSessionTimeout, UnknownMemberId}
use Rattle.cg_group_state.specs.declared.effects.Effects.{Effects}
use Rattle.cg_group_state.specs.declared.group.Group.{Group}
use Rattle.cg_request.specs.declared.request_fields.BeatRequest.{BeatRequest}
use Rattle.cg_request.specs.declared.request_fields.CommitRequest.{CommitRequest}
use Rattle.cg_request.specs.declared.request_fields.JoinRequest.{JoinRequest}
use Rattle.cg_request.specs.declared.request_fields.SyncRequest.{SyncRequest}
use Rattle.cg_group_state.specs.declared.reply.Reply.{Reply}
use Rattle.cg_group_state.specs.declared.reply.Reply.TheVariants as reply
use Rattle.cg_request.specs.declared.ticket.Ticket.{Ticket}
use Rattle.cg_group_state.specs.declared.turn.Turn.{Turn}
use Rattle.cg_group_rules.specs.JoinChecks.{join_held}
use Rattle.cg_group_rules.specs.Heartbeat.{IsBeat, IsBeatRefused, beat_held, beat_reply, beat_taken}
use Rattle.cg_group_rules.specs.declared.sync.SyncCase.{SyncCase}
use Rattle.cg_group_rules.specs.declared.sync.SyncCase.TheVariants.{Current}
use Rattle.cg_group_rules.specs.OffsetCommit.{commit_held}
use Rattle.cg_group_rules.specs.JoinWays.{IsCurrent}
use Rattle.cg_group.specs.InPlace.{IsBeatIn, IsCurrentJoin, IsNamed, IsSync}
use Rattle.cg_group.specs.Machine.{beat, commit, commit_in, concluded, join, join_in, named_group, reply_alone, sync}
use Rattle.cg_group_table.specs.GroupChanges.{IsChanged, OnlyHears}
use Rattle.cg_group_table.specs.GroupTable.{InOrder, at_moment, find_group, outcome, with_group}
use Rattle.cg_group_table.proofs.InOrder.{with_group-found}
use Rattle.cg_group_state.specs.JoinTerms.{is_session_refused}
use Rattle.cg_group_rules.specs.Join.{join_current}
use Rattle.cg_group_state.specs.Membership.{hearing}
use Rattle.cg_group_rules.specs.Rebalance.{joined_reply}
use Rattle.cg_group_state.specs.Checks.{◌>>=◌, refused_if}
use Rattle.cg_group_rules.specs.Sync.{sync_current, sync_held, sync_taken}

-- a fact that holds in any case holds of an error
pub on_err : {A E : Type 0} (r : Result A E) (P : Type 0) → P → OnErr r P
on_err (Ok x) P h = tt
on_err (Err e) P h = h

pub beat_unnamed : (now : ℕ) (r : BeatRequest) (ticket : Ticket) (groups : List Group) (code : Code) → named_group r.group groups ≡ Err code → beat now r ticket groups ≡ Err code
unfolding beat
beat_unnamed now r ticket groups code e = ap (λ o. o >>= λ g. beat_held now r ticket g) e

pub beat_refused : (now : ℕ) (r : BeatRequest) (ticket : Ticket) (groups : List Group) (g : Group) (code : Code) → named_group r.group groups ≡ Ok g → beat_held now r ticket g ≡ Err code → beat now r ticket groups ≡ Err code
unfolding beat
beat_refused now r ticket groups g code e f = ap (λ o. o >>= λ g. beat_held now r ticket g) e ∙ f

pub concluded_refused : (now : ℕ) (groups : List Group) (ticket : Ticket) (o : Result Turn Code) (code : Code) (e : Effects) → o ≡ Err code → e ≡ reply_alone ticket (reply.Refused code) → concluded (at_moment now groups) ticket o ≡ outcome (at_moment now groups) e
unfolding concluded
concluded_refused now groups ticket o code e is made = ap (concluded (at_moment now groups) ticket) is ∙ ap (outcome (at_moment now groups)) (sym made)

-- the group that a request names
pub named_is : (o : Option (List ℕ)) (groups : List Group) (own : List ℕ) (g : Group) → IsNamed o groups own g → named_group o groups ≡ Ok g
named_is o groups own g at = ap (λ o. named_group o groups) at.named ∙ ap (λ o. ok_or o UnknownMemberId) at.found

pub beat_in_place : (now : ℕ) (r : BeatRequest) (ticket : Ticket) (groups after : List Group) (id : List ℕ) (answer : Reply) (e : Effects) → IsBeatIn now r groups after id answer
    → e ≡ reply_alone ticket answer → concluded (at_moment now groups) ticket (beat now r ticket groups) ≡ outcome (at_moment now after) e
unfolding concluded beat beat_taken
beat_in_place now r ticket groups after id answer e at made =
    let g : Group = at.group in
    let done : IsBeat r g id answer = at.beat in
    ap (concluded (at_moment now groups) ticket) (ap (λ o. o >>= λ g. beat_held now r ticket g) (named_is r.group groups at.own g at.named) ∙ done.taken now ticket)
    ∙ ap (λ gs. outcome (at_moment now gs) (reply_alone ticket (beat_reply g))) (sym at.heard)
    ∙ ap (λ a. outcome (at_moment now after) (reply_alone ticket a)) (sym done.answered)
    ∙ ap (outcome (at_moment now after)) (sym made)

-- a BEAT as a change of its group
module _ {T : Type 0} (id : T → List ℕ) (answer : T → Reply) (now : ℕ) (r : BeatRequest) where
  abbrev pub Beaten : Group → Group → Result T Code → Type 0
  Beaten g after x = MatchResult x (λ p. IsBeat r g (id p) (answer p) × (after ≡ hearing now (id p) g)) (λ code. IsBeatRefused r g code × (after ≡ g))

  pub beats_hear : OnlyHears now Beaten
  beats_hear g after (Ok p) h = inr (id p, h.1)
  beats_hear g after (Err code) h = inl h.1

  pub beaten_in : (groups later : List Group) (own : List ℕ) → r.group ≡ Some own → InOrder groups → (g : Group) → find_group own groups ≡ Some g → (x : Result T Code) → IsChanged Beaten groups later g x
      → MatchResult x (λ p. IsBeatIn now r groups later (id p) (answer p)) (λ code. ((now : ℕ) (ticket : Ticket) → beat now r ticket groups ≡ Err code) × (later ≡ groups))
  beaten_in groups later own named o g found (Ok p) c = record {
    own = own;
    group = g;
    named = record { named = named; found = found };
    beat = c.became.0;
    heard = c.put ∙ ap (λ k. with_group k groups) c.became.1;
  }
  beaten_in groups later own named o g found (Err code) c = (
    λ now ticket. beat_refused now r ticket groups g code (named_is r.group groups own g (record { named = named; found = found })) (c.became.0 now ticket),
    c.put ∙ ap (λ k. with_group k groups) c.became.1 ∙ with_group-found own groups g o found,
  )

-- a SYNC that is not refused is that of its group
pub sync_here : (now : ℕ) (r : SyncRequest) (ticket : Ticket) (groups : List Group) (own id : List ℕ) (which : SyncCase) (at : IsSync r groups own id which) → sync now r ticket groups ≡ Ok (sync_taken now r id ticket at.member at.group at.group.phase)
unfolding sync
sync_here now r ticket groups own id which at = ap (λ o. o >>= λ g. sync_held now r ticket g) (named_is r.group groups own at.group at.named) ∙ at.taken now ticket

pub sync_is_taken : (r : SyncRequest) (groups : List Group) (own id : List ℕ) (which : SyncCase) → IsSync r groups own id which → (now : ℕ) (ticket : Ticket) → is_ok (sync now r ticket groups) ≡ true
sync_is_taken r groups own id which at now ticket = ap is_ok (sync_here now r ticket groups own id which at)

pub sync_in_place : (now : ℕ) (r : SyncRequest) (ticket : Ticket) (groups after : List Group) (own id bytes : List ℕ) (e : Effects) → IsSync r groups own id (Current bytes)
    → ((g : Group) → find_group own groups ≡ Some g → after ≡ with_group (hearing now id g) groups) → e ≡ reply_alone ticket (reply.Synced bytes) → concluded (at_moment now groups) ticket (sync now r ticket groups) ≡ outcome (at_moment now after) e
unfolding concluded sync_current
sync_in_place now r ticket groups after own id bytes e at put made =
    let g : Group = at.group in
    ap (concluded (at_moment now groups) ticket) (sync_here now r ticket groups own id (Current bytes) at ∙ ap Ok (at.processed.1 now r id ticket))
    ∙ ap (λ gs. outcome (at_moment now gs) (reply_alone ticket (reply.Synced at.member.assignment))) (sym (put g at.named.found))
    ∙ ap (λ b. outcome (at_moment now after) (reply_alone ticket (reply.Synced b))) at.processed.0
    ∙ ap (outcome (at_moment now after)) (sym made)

-- a JOIN without a group, and one whose session timeout is outside its limits
pub join_unnamed : (now : ℕ) (r : JoinRequest) (fresh : List ℕ) (ticket : Ticket) (groups : List Group) → is_some r.group ≡ false → join now r fresh ticket groups ≡ Err InvalidGroupId
unfolding join
join_unnamed now r fresh ticket groups h = go r.group h
  where
    go : (o : Option (List ℕ)) → is_some o ≡ false → (ok_or o InvalidGroupId >>= λ id. refused_if (is_session_refused r) InvalidSessionTimeout >>= λ _. join_in now r fresh ticket groups id (find_group id groups)) ≡ Err InvalidGroupId
    go None h = refl
    go (Some id) h = cc

join_given : (now : ℕ) (r : JoinRequest) (fresh : List ℕ) (ticket : Ticket) (groups : List Group) (o : Option (List ℕ)) → is_some o ≡ true → is_session_refused r ≡ true
    → (ok_or o InvalidGroupId >>= λ id. refused_if (is_session_refused r) InvalidSessionTimeout >>= λ _. join_in now r fresh ticket groups id (find_group id groups)) ≡ Err InvalidSessionTimeout
join_given now r fresh ticket groups None h refused = cc
join_given now r fresh ticket groups (Some id) h refused = ap (λ b. refused_if b InvalidSessionTimeout >>= λ _. join_in now r fresh ticket groups id (find_group id groups)) refused

pub join_untimely : (now : ℕ) (r : JoinRequest) (fresh : List ℕ) (ticket : Ticket) (groups : List Group) → is_some r.group ≡ true → is_session_refused r ≡ true → join now r fresh ticket groups ≡ Err InvalidSessionTimeout
unfolding join
join_untimely now r fresh ticket groups given refused = join_given now r fresh ticket groups r.group given refused

-- a JOIN in a loaded group is that of the group
pub join_here : (now : ℕ) (r : JoinRequest) (fresh : List ℕ) (ticket : Ticket) (groups : List Group) (own : List ℕ) (g : Group) → IsNamed r.group groups own g → is_session_refused r ≡ false → join now r fresh ticket groups ≡ join_held now r fresh ticket r.member g
unfolding join
join_here now r fresh ticket groups own g at lawful =
    ap (λ o. ok_or o InvalidGroupId >>= λ id. refused_if (is_session_refused r) InvalidSessionTimeout >>= λ _. join_in now r fresh ticket groups id (find_group id groups)) at.named
    ∙ ap (λ b. refused_if b InvalidSessionTimeout >>= λ _. join_in now r fresh ticket groups own (find_group own groups)) lawful
    ∙ ap (join_in now r fresh ticket groups own) at.found

pub join_in_place : (now : ℕ) (r : JoinRequest) (fresh : List ℕ) (ticket : Ticket) (groups after : List Group) (own id : List ℕ) (answer : Reply) (e : Effects) → IsCurrentJoin r groups own id answer
    → ((g : Group) → find_group own groups ≡ Some g → after ≡ with_group (hearing now id g) groups) → e ≡ reply_alone ticket answer → concluded (at_moment now groups) ticket (join now r fresh ticket groups) ≡ outcome (at_moment now after) e
unfolding concluded join_current
join_in_place now r fresh ticket groups after own id answer e at put made =
    let g : Group = at.group in
    let is : IsCurrent r g id answer = at.way in
    ap (concluded (at_moment now groups) ticket) (join_here now r fresh ticket groups own g at.named at.session ∙ is.taken now fresh ticket)
    ∙ ap (λ gs. outcome (at_moment now gs) (reply_alone ticket (joined_reply g is.member))) (sym (put g at.named.found))
    ∙ ap (λ a. outcome (at_moment now after) (reply_alone ticket a)) (sym is.answered)
    ∙ ap (outcome (at_moment now after)) (sym made)

-- a COMMIT in a loaded group is that of the group
commit_found : (now : ℕ) (r : CommitRequest) (ticket : Ticket) (groups : List Group) (g : Group) (id : List ℕ) (o : Option Group) → ok_or o UnknownMemberId ≡ Ok g → commit_in now r ticket groups id o ≡ commit_held now r.generation r.instance r.member r.entries ticket g
commit_found now r ticket groups g id None e = cc
commit_found now r ticket groups g id (Some x) e = let same : x ≡ g = cc in ap (commit_held now r.generation r.instance r.member r.entries ticket) same

commit_named : (now : ℕ) (r : CommitRequest) (ticket : Ticket) (groups : List Group) (g : Group) (o : Option (List ℕ)) → named_group o groups ≡ Ok g → (ok_or o InvalidGroupId >>= λ id. commit_in now r ticket groups id (find_group id groups)) ≡ commit_held now r.generation r.instance r.member r.entries ticket g
commit_named now r ticket groups g None e = cc
commit_named now r ticket groups g (Some id) e = commit_found now r ticket groups g id (find_group id groups) e

pub commit_here : (now : ℕ) (r : CommitRequest) (ticket : Ticket) (groups : List Group) (own : List ℕ) (g : Group) → IsNamed r.group groups own g → commit now r ticket groups ≡ commit_held now r.generation r.instance r.member r.entries ticket g
unfolding commit
commit_here now r ticket groups own g at = commit_named now r ticket groups g r.group (named_is r.group groups own g at)
