-- The checks that a COMMIT passed.
use Rattle.std.proofs.Common.{◌≡◌, ℕ, true, false, not, List, [], ◌∷◌, is_some, refl, ap, max, inl, inr, Option, Some, None, Result, Ok, Err, nat_le, length, pos}
use Rattle.std.specs.Prelude.{◌⊎◌, if◌then◌else◌}
use Rattle.std.specs.Ordering.{int_eq}
use Rattle.std.proofs.lemmas.Bool.{not-false}
use Rattle.cg_names.specs.declared.code.Code.{Code}
use Rattle.cg_names.specs.declared.code.Code.TheVariants.{CoordinatorNotAvailable, IllegalGeneration, InvalidGroupId, OffsetMetadataTooLarge, RebalanceInProgress, UnknownMemberId}
use Rattle.cg_group_rules.specs.declared.group_limit.TheConstants.{GROUPS_MAX}
use Rattle.cg_group_state.specs.declared.group.Group.{Group}
use Rattle.cg_group_state.specs.declared.group.Phase.{Phase}
use Rattle.cg_group_state.specs.declared.group.Phase.TheVariants.{Empty, Preparing, Completing, Stable}
use Rattle.cg_group_state.specs.declared.member.Member.{Member}
use Rattle.cg_request.specs.declared.request_fields.CommitRequest.{CommitRequest}
use Rattle.cg_request.specs.declared.ticket.Ticket.{Ticket}
use Rattle.cg_group_state.specs.declared.turn.Turn.{Turn}
use Rattle.cg_request.specs.Commits.{is_too_large}
use Rattle.cg_group_rules.specs.OffsetCommit.{commit_held, commit_of_member, commit_of_none, commit_unheld, committed, committer, hearing_committer, is_completing, is_negative}
use Rattle.cg_group_state.specs.MemberCheck.{validate_current_member}
use Rattle.cg_group_rules.specs.Join.{new_group}
use Rattle.cg_group_table.specs.Kept.{kept_in}
use Rattle.cg_request.specs.declared.event.Event.{Event}
use Rattle.cg_request.specs.declared.event.Event.TheVariants as event
use Rattle.cg_group.specs.Laws.{AreRequests, CommitsAreLawful, IsLawfulCommit, IsOfMember, IsOfNobody, IsRefused, after_all, state_after}
use Rattle.cg_group.specs.Machine.{commit, commit_in, concluded, handled, step, with_offsets}
use Rattle.cg_group_table.specs.GroupTable.{Machine, find_group}
use Rattle.cg_group_state.specs.Membership.{find_member, is_empty}
use Rattle.cg_group_state.specs.Checks.{◌>>=◌, refused_if}
use Rattle.cg_group_table.specs.Recovery.{revive}
use Rattle.cg_group.proofs.Agreeing.{Whole, empty_members, empty_is}
use Rattle.cg_group.proofs.AgreeingMachine.{whole-all}
use Rattle.cg_group_table.proofs.KeptLists.{each-found}
use Rattle.cg_group_state.proofs.MemberChecks.{check_parts, passed_by, tested, unfenced_by}
use Rattle.cg_group.proofs.Requests.{Fine, after_checked, after_given, after_test}

-- a group in Empty has no members
abbrev IsSound : Group → Type 0
IsSound g = g.phase ≡ Empty → g.members ≡ []

Lawful : CommitRequest → Option Group → Type 0
Lawful r o = IsOfNobody r o ⊎ IsOfMember r o

found_some : (ms : List Member) (id : List ℕ) (m : Member) → find_member id ms ≡ Some m → ms ≡ [] → ⊥
unfolding find_member
found_some [] id m e n = cc
found_some (x ∷ xs) id m e n = cc

phase_of : (p : Phase) → is_completing p ≡ false → (p ≡ Empty → ⊥) → (p ≡ Preparing) ⊎ (p ≡ Stable)
phase_of Empty e n = absurd (n refl)
phase_of Preparing e n = inl refl
phase_of Completing e n = cc
phase_of Stable e n = inr refl

of_member : (r : CommitRequest) (g : Group) (who : Option (List ℕ)) → IsSound g → commit_of_member r.generation r.instance r.member g ≡ Ok who → IsOfMember r (Some g)
unfolding commit_of_member
of_member r g who sound e =
    let phase_test : List ℕ × Member → Unit {0} → Result (Option (List ℕ)) Code = λ own _. refused_if (is_completing g.phase) RebalanceInProgress >>= λ _. Ok (Some own.0) in
    let dates : List ℕ × Member → Result (Option (List ℕ)) Code = λ own. refused_if (not (int_eq r.generation (pos g.generation))) IllegalGeneration >>= phase_test own in
    let own = passed_by (validate_current_member r.instance r.member g.members) dates who e in
    let parts = check_parts r.instance r.member g.members own.0 own.1 in
    let dated = tested (not (int_eq r.generation (pos g.generation))) IllegalGeneration (phase_test own.0) who own.2 in
    let phased = tested (is_completing g.phase) RebalanceInProgress (λ _. Ok (Some own.0.0)) who dated.1 in
    record {
      group = g;
      group_is = refl;
      id = own.0.0;
      given = parts.0;
      member = ap is_some parts.1;
      unfenced = unfenced_by r.instance r.member g.members own.0 own.1;
      generation = not-false (int_eq r.generation (pos g.generation)) dated.0;
      phase = phase_of g.phase phased.0 (λ p. found_some g.members own.0.0 own.0.1 parts.1 (sound p));
    }

of_nobody : (r : CommitRequest) (g : Group) (who : Option (List ℕ)) → is_empty g.members ≡ true → commit_of_none r.generation ≡ Ok who → IsOfNobody r (Some g)
of_nobody r g who empty e =
    let negative = tested (not (is_negative r.generation)) UnknownMemberId (λ _. Ok None) who e in
    record { negative = not-false (is_negative r.generation) negative.0; bare = empty_is g.members empty }

of_somebody : (r : CommitRequest) (g : Group) (who : Option (List ℕ)) → IsSound g → committer r.generation r.instance r.member g ≡ Ok who → Lawful r (Some g)
unfolding Lawful committer
of_somebody r g who sound e =
    (elim (is_empty g.members) as (λ b. is_empty g.members ≡ b → (if b then commit_of_none r.generation else commit_of_member r.generation r.instance r.member g) ≡ Ok who → IsOfNobody r (Some g) ⊎ IsOfMember r (Some g)) [
      | true ↦ λ empty k. inl (of_nobody r g who empty k)
      | false ↦ λ filled k. inr (of_member r g who sound k)
    ]) refl e

lawful_in : (now : ℕ) (r : CommitRequest) (ticket : Ticket) (groups : List Group) (id : List ℕ) (o : Option Group) → ((g : Group) → o ≡ Some g → IsSound g) → Fine (λ _. Lawful r o) (commit_in now r ticket groups id o)
unfolding Lawful commit_held commit_unheld
lawful_in now r ticket groups id None sound =
    let P : Turn → Type 0 = λ _. IsOfNobody r None ⊎ IsOfMember r None in
    let kept : Unit {0} → Result Turn Code = λ _. Ok (committed now r.entries ticket (new_group id)) in
    let few : Unit {0} → Result Turn Code = λ _. refused_if (nat_le GROUPS_MAX (length groups)) CoordinatorNotAvailable >>= kept in
    after_test P (not (is_negative r.generation)) IllegalGeneration (λ _. refused_if (is_too_large r.entries) OffsetMetadataTooLarge >>= few)
    (λ negative. after_test P (is_too_large r.entries) OffsetMetadataTooLarge few
    (λ _. after_test P (nat_le GROUPS_MAX (length groups)) CoordinatorNotAvailable kept (λ _. inl (record { negative = not-false (is_negative r.generation) negative; bare = refl }))))
lawful_in now r ticket groups id (Some g) sound =
    let P : Turn → Type 0 = λ _. IsOfNobody r (Some g) ⊎ IsOfMember r (Some g) in
    let kept : Option (List ℕ) → Unit {0} → Result Turn Code = λ who _. Ok (committed now r.entries ticket (hearing_committer now who g)) in
    after_checked P (committer r.generation r.instance r.member g) (λ who. refused_if (is_too_large r.entries) OffsetMetadataTooLarge >>= kept who)
    (λ who from. after_test P (is_too_large r.entries) OffsetMetadataTooLarge (kept who) (λ _. of_somebody r g who (sound g refl) from))

lawful_over : (r : CommitRequest) (groups : List Group) (id : List ℕ) → r.group ≡ Some id → (o : Result Turn Code) → Fine (λ _. Lawful r (find_group id groups)) o → Fine (λ _. IsLawfulCommit r groups) o
unfolding Lawful
lawful_over r groups id named (Ok t) h = record { id = id; named = named; sender = h }
lawful_over r groups id named (Err code) h = tt

lawful_commit : (now : ℕ) (r : CommitRequest) (ticket : Ticket) (groups : List Group) → ((id : List ℕ) (g : Group) → find_group id groups ≡ Some g → IsSound g) → Fine (λ _. IsLawfulCommit r groups) (commit now r ticket groups)
unfolding commit
lawful_commit now r ticket groups sound =
    after_given (λ _. IsLawfulCommit r groups) r.group InvalidGroupId (λ id. commit_in now r ticket groups id (find_group id groups))
    (λ id named. lawful_over r groups id named (commit_in now r ticket groups id (find_group id groups)) (lawful_in now r ticket groups id (find_group id groups) (sound id)))

refused_or : (G : Type 0) (s : Machine) (ticket : Ticket) (o : Result Turn Code) → Fine (λ _. G) o → IsRefused ticket s (with_offsets (concluded s ticket o)) ⊎ G
unfolding concluded
refused_or G s ticket (Ok t) h = inr h
refused_or G s ticket (Err code) h = inl (record { code = code; effects = refl; groups = refl; offsets = refl })

pub commits_are_lawful : (events : List (Event × ℕ)) → AreRequests events → CommitsAreLawful events
unfolding step handled
commits_are_lawful events asked state now ticket r m =
    let s : Machine = after_all events (revive state now) in
    let kept = kept_in (state_after state now events) in
    let v = whole-all state now events asked in
    let either = refused_or (IsLawfulCommit r s.groups) (record s { last = max s.last m }) ticket (commit (max s.last m) r ticket s.groups)
    (lawful_commit (max s.last m) r ticket s.groups
    (λ id g e. empty_members events s.offsets g (kept g.id) (each-found (λ k. Whole events s.offsets k (kept k.id)) id s.groups g e v.each))) in
    elim either as (λ _. IsRefused ticket s (step s (event.Commit ticket r) m) ⊎ IsLawfulCommit r s.groups) [
      | inl h ↦ inl (record { code = h.code; effects = h.effects; groups = h.groups; offsets = h.offsets })
      | inr h ↦ inr h
    ]
