-- The effect of a request that passes its checks, and what the checks established.
use Rattle.std.proofs.Common.{◌≡◌, ℕ, Bool, true, false, not, List, [], ◌∷◌, is_some, refl, ap, Option, Some, None, Result, Ok, Err, ok_or, nat_le, length, pos}
use Rattle.std.proofs.lemmas.Bool.{not-false}
use Rattle.std.specs.Ordering.{int_eq}
use Rattle.cg_names.specs.declared.code.Code.{Code}
use Rattle.cg_names.specs.declared.code.Code.TheVariants.{CoordinatorNotAvailable, GroupMaxSizeReached, IllegalGeneration, InconsistentGroupProtocol, InvalidGroupId, InvalidSessionTimeout, OffsetMetadataTooLarge, RebalanceInProgress, UnknownMemberId}
use Rattle.cg_group_rules.specs.declared.group_limit.TheConstants.{GROUPS_MAX}
use Rattle.cg_group_state.specs.declared.member.Member.{Member}
use Rattle.cg_group_state.specs.declared.group.Group.{Group}
use Rattle.cg_request.specs.declared.request_fields.BeatRequest.{BeatRequest}
use Rattle.cg_request.specs.declared.request_fields.CommitRequest.{CommitRequest}
use Rattle.cg_request.specs.declared.request_fields.JoinRequest.{JoinRequest}
use Rattle.cg_request.specs.declared.request_fields.LeaveRequest.{LeaveRequest}
use Rattle.cg_request.specs.declared.request_fields.SyncRequest.{SyncRequest}
use Rattle.cg_request.specs.declared.ticket.Ticket.{Ticket}
use Rattle.cg_group_state.specs.declared.turn.Turn.{Turn}
use Rattle.cg_group_rules.specs.Heartbeat.{beat_held, beat_taken}
use Rattle.cg_group_rules.specs.JoinChecks.{is_full, join_drawn, join_held, join_placed, join_unheld}
use Rattle.cg_group_state.specs.MemberCheck.{validate_current_member}
use Rattle.cg_group_state.specs.MemberId.{drawn, own_name}
use Rattle.cg_group_rules.specs.Join.{is_inconsistent, join_known, add_member_and_rebalance, new_group}
use Rattle.cg_group_state.specs.JoinTerms.{is_session_refused}
use Rattle.cg_group_rules.specs.Leave.{leave_held, leave_taken, leaver}
use Rattle.cg_group_rules.specs.StaticMember.{replace_static_member}
use Rattle.cg_request.specs.Commits.{is_too_large}
use Rattle.cg_group_rules.specs.OffsetCommit.{commit_held, commit_unheld, committed, committer, hearing_committer, is_negative}
use Rattle.cg_group.specs.Machine.{commit, commit_in, join, join_in, named_group, sync, beat, leave}
use Rattle.cg_group_table.specs.GroupTable.{find_group}
use Rattle.cg_group_state.specs.Membership.{find_instance, find_member, is_empty, is_preparing}
use Rattle.cg_group_state.specs.Checks.{◌>>=◌, refused_if}
use Rattle.cg_group_state.proofs.MemberChecks.{check_parts}
use Rattle.cg_group_rules.specs.Sync.{sync_held, sync_taken}

-- a refusal, or a step with this property
abbrev pub Fine : (Turn → Type 0) → Result Turn Code → Type 0
Fine P (Ok t) = P t
Fine P (Err code) = Unit {0}

pub after_test : (P : Turn → Type 0) (b : Bool) (code : Code) (rest : Unit {0} → Result Turn Code) → (b ≡ false → Fine P (rest tt)) → Fine P (refused_if b code >>= rest)
after_test P true code rest h = tt
after_test P false code rest h = h refl

pub after_given : {A : Type 0} (P : Turn → Type 0) (o : Option A) (code : Code) (rest : A → Result Turn Code) → ((x : A) → o ≡ Some x → Fine P (rest x)) → Fine P (ok_or o code >>= rest)
after_given P None code rest h = tt
after_given P (Some x) code rest h = h x refl

pub after_checked : {A : Type 0} (P : Turn → Type 0) (o : Result A Code) (rest : A → Result Turn Code) → ((x : A) → o ≡ Ok x → Fine P (rest x)) → Fine P (o >>= rest)
after_checked P (Ok x) rest h = h x refl
after_checked P (Err code) rest h = tt

-- the member that leaves is a member
leaver_is_there : (instance member : Option (List ℕ)) (ms : List Member) (m : Member) → leaver instance member ms ≡ Ok m → is_empty ms ≡ false
unfolding leaver find_member find_instance
leaver_is_there None None [] m e = cc
leaver_is_there None (Some id) [] m e = cc
leaver_is_there (Some i) member [] m e = cc
leaver_is_there instance member (x ∷ xs) m e = refl

module _ (P : Turn → Type 0) where
  after_check : (instance member : Option (List ℕ)) (ms : List Member) (rest : List ℕ × Member → Result Turn Code)
      → ((who : List ℕ × Member) → member ≡ Some who.0 → find_member who.0 ms ≡ Some who.1 → Fine P (rest who)) → Fine P (validate_current_member instance member ms >>= rest)
  after_check instance member ms rest k =
      after_checked P (validate_current_member instance member ms) rest (λ who e. let parts = check_parts instance member ms who e in k who parts.0 parts.1)

  fine-join_drawn : (now : ℕ) (r : JoinRequest) (id : List ℕ) (ticket : Ticket) (g : Group)
      → (is_some (find_member id g.members) ≡ false → is_some (find_instance r.instance g.members) ≡ false → P (add_member_and_rebalance now r id ticket g))
      → ((old : Member) → is_some (find_member id g.members) ≡ false → find_instance r.instance g.members ≡ Some old → P (replace_static_member now r id ticket old g))
      → Fine P (join_drawn now r id ticket g)
  unfolding join_drawn
  fine-join_drawn now r id ticket g new replacing =
      after_test P (is_some (find_member id g.members)) CoordinatorNotAvailable (λ _. Ok (join_placed now r id ticket g (find_instance r.instance g.members)))
      (λ free. placed (find_instance r.instance g.members) refl free)
    where
      placed : (o : Option Member) → find_instance r.instance g.members ≡ o → is_some (find_member id g.members) ≡ false → P (join_placed now r id ticket g o)
      placed None e free = new free (ap is_some e)
      placed (Some old) e free = replacing old free e

  pub fine-join_held : (now : ℕ) (r : JoinRequest) (fresh : List ℕ) (ticket : Ticket) (member : Option (List ℕ)) (g : Group)
      → ((new : List ℕ) → is_some (find_member new g.members) ≡ false → is_some (find_instance r.instance g.members) ≡ false → is_inconsistent r g ≡ false → P (add_member_and_rebalance now r new ticket g))
      → ((new : List ℕ) (old : Member) → is_some (find_member new g.members) ≡ false → find_instance r.instance g.members ≡ Some old → is_inconsistent r g ≡ false → P (replace_static_member now r new ticket old g))
      → ((own : List ℕ) (m : Member) → find_member own g.members ≡ Some m → is_inconsistent r g ≡ false → P (join_known now r own ticket m g))
      → Fine P (join_held now r fresh ticket member g)
  unfolding join_held
  fine-join_held now r fresh ticket None g new replacing known =
      let id : List ℕ = drawn (own_name r) fresh in
      after_test P (is_full (find_instance r.instance g.members) g.members) GroupMaxSizeReached (λ _. refused_if (is_inconsistent r g) InconsistentGroupProtocol >>= λ _. join_drawn now r id ticket g)
      (λ _. after_test P (is_inconsistent r g) InconsistentGroupProtocol (λ _. join_drawn now r id ticket g)
      (λ fits. fine-join_drawn now r id ticket g (λ free apart. new id free apart fits) (λ old free found. replacing id old free found fits)))
  fine-join_held now r fresh ticket (Some id) g new replacing known =
      after_check r.instance (Some id) g.members (λ who. refused_if (is_inconsistent r g) InconsistentGroupProtocol >>= λ _. Ok (join_known now r who.0 ticket who.1 g))
      (λ who _ found. after_test P (is_inconsistent r g) InconsistentGroupProtocol (λ _. Ok (join_known now r who.0 ticket who.1 g)) (λ fits. known who.0 who.1 found fits))

  fine-join_unheld : (now : ℕ) (r : JoinRequest) (fresh : List ℕ) (ticket : Ticket) (held : ℕ) (id : List ℕ)
      → ((new : List ℕ) → P (add_member_and_rebalance now r new ticket (new_group id))) → Fine P (join_unheld now r fresh ticket held id)
  unfolding join_unheld
  fine-join_unheld now r fresh ticket held id made =
      let new : List ℕ = drawn (own_name r) fresh in
      after_test P (is_some r.member) UnknownMemberId (λ _. refused_if (nat_le GROUPS_MAX held) CoordinatorNotAvailable >>= λ _. Ok (add_member_and_rebalance now r new ticket (new_group id)))
      (λ _. after_test P (nat_le GROUPS_MAX held) CoordinatorNotAvailable (λ _. Ok (add_member_and_rebalance now r new ticket (new_group id)))
      (λ _. made new))

  fine-join_in : (now : ℕ) (r : JoinRequest) (fresh : List ℕ) (ticket : Ticket) (groups : List Group) (id : List ℕ) (o : Option Group)
      → (o ≡ None → (new : List ℕ) → P (add_member_and_rebalance now r new ticket (new_group id)))
      → ((g : Group) → o ≡ Some g → (new : List ℕ) → is_some (find_member new g.members) ≡ false → is_some (find_instance r.instance g.members) ≡ false → is_inconsistent r g ≡ false → P (add_member_and_rebalance now r new ticket g))
      → ((g : Group) → o ≡ Some g → (new : List ℕ) (old : Member) → is_some (find_member new g.members) ≡ false → find_instance r.instance g.members ≡ Some old → is_inconsistent r g ≡ false → P (replace_static_member now r new ticket old g))
      → ((g : Group) → o ≡ Some g → (own : List ℕ) (m : Member) → find_member own g.members ≡ Some m → is_inconsistent r g ≡ false → P (join_known now r own ticket m g))
      → Fine P (join_in now r fresh ticket groups id o)
  fine-join_in now r fresh ticket groups id None made new replacing known = fine-join_unheld now r fresh ticket (length groups) id (made refl)
  fine-join_in now r fresh ticket groups id (Some g) made new replacing known = fine-join_held now r fresh ticket r.member g (new g refl) (replacing g refl) (known g refl)

  -- JOIN: the group is new, or the member is new, a replacement, or known
  pub fine-join : (now : ℕ) (r : JoinRequest) (fresh : List ℕ) (ticket : Ticket) (groups : List Group)
      → ((id new : List ℕ) → r.group ≡ Some id → find_group id groups ≡ None → P (add_member_and_rebalance now r new ticket (new_group id)))
      → ((id new : List ℕ) (g : Group) → r.group ≡ Some id → find_group id groups ≡ Some g → is_some (find_member new g.members) ≡ false → is_some (find_instance r.instance g.members) ≡ false → is_inconsistent r g ≡ false → P (add_member_and_rebalance now r new ticket g))
      → ((id new : List ℕ) (g : Group) (old : Member) → r.group ≡ Some id → find_group id groups ≡ Some g → is_some (find_member new g.members) ≡ false → find_instance r.instance g.members ≡ Some old → is_inconsistent r g ≡ false → P (replace_static_member now r new ticket old g))
      → ((id own : List ℕ) (g : Group) (m : Member) → r.group ≡ Some id → find_group id groups ≡ Some g → find_member own g.members ≡ Some m → is_inconsistent r g ≡ false → P (join_known now r own ticket m g))
      → Fine P (join now r fresh ticket groups)
  unfolding join
  fine-join now r fresh ticket groups made new replacing known =
      let taken : List ℕ → Unit {0} → Result Turn Code = λ id _. join_in now r fresh ticket groups id (find_group id groups) in
      let timed : List ℕ → Result Turn Code = λ id. refused_if (is_session_refused r) InvalidSessionTimeout >>= taken id in
      after_given P r.group InvalidGroupId timed
      (λ id named. after_test P (is_session_refused r) InvalidSessionTimeout (taken id)
      (λ _. fine-join_in now r fresh ticket groups id (find_group id groups) (λ e n. made id n named e) (λ g e n free apart fits. new id n g named e free apart fits) (λ g e n old free found fits. replacing id n g old named e free found fits) (λ g e own m found fits. known id own g m named e found fits)))

  after_named : (id : Option (List ℕ)) (groups : List Group) (rest : Group → Result Turn Code) → ((i : List ℕ) (g : Group) → id ≡ Some i → find_group i groups ≡ Some g → Fine P (rest g)) → Fine P (named_group id groups >>= rest)
  after_named None groups rest k = tt
  after_named (Some i) groups rest k = after_given P (find_group i groups) UnknownMemberId rest (λ g e. k i g refl e)

  pub fine-sync : (now : ℕ) (r : SyncRequest) (ticket : Ticket) (groups : List Group)
      → ((id own : List ℕ) (g : Group) (m : Member) → r.group ≡ Some id → find_group id groups ≡ Some g → r.member ≡ Some own → find_member own g.members ≡ Some m → int_eq r.generation (pos g.generation) ≡ true → is_preparing g.phase ≡ false → P (sync_taken now r own ticket m g g.phase))
      → Fine P (sync now r ticket groups)
  unfolding sync sync_held
  fine-sync now r ticket groups k =
      after_named r.group groups (λ g. sync_held now r ticket g)
      (λ i g named e.
      let taken : List ℕ × Member → Unit {0} → Result Turn Code = λ who _. Ok (sync_taken now r who.0 ticket who.1 g g.phase) in
      let phased : List ℕ × Member → Unit {0} → Result Turn Code = λ who _. refused_if (is_preparing g.phase) RebalanceInProgress >>= taken who in
      let dated : List ℕ × Member → Result Turn Code = λ who. refused_if (not (int_eq r.generation (pos g.generation))) IllegalGeneration >>= phased who in
      after_check r.instance r.member g.members dated
      (λ who given found. after_test P (not (int_eq r.generation (pos g.generation))) IllegalGeneration (phased who)
      (λ dates. after_test P (is_preparing g.phase) RebalanceInProgress (taken who) (λ phases. k i who.0 g who.1 named e given found (not-false (int_eq r.generation (pos g.generation)) dates) phases))))

  pub fine-beat : (now : ℕ) (r : BeatRequest) (ticket : Ticket) (groups : List Group)
      → ((id own : List ℕ) (g : Group) → find_group id groups ≡ Some g → P (beat_taken now own ticket g))
      → Fine P (beat now r ticket groups)
  unfolding beat beat_held
  fine-beat now r ticket groups k =
      after_named r.group groups (λ g. beat_held now r ticket g)
      (λ i g named e.
      let taken : List ℕ × Member → Unit {0} → Result Turn Code = λ who _. Ok (beat_taken now who.0 ticket g) in
      let dated : List ℕ × Member → Result Turn Code = λ who. refused_if (not (int_eq r.generation (pos g.generation))) IllegalGeneration >>= taken who in
      after_check r.instance r.member g.members dated
      (λ who _ _. after_test P (not (int_eq r.generation (pos g.generation))) IllegalGeneration (taken who) (λ _. k i who.0 g e)))

  pub fine-leave_held : (now : ℕ) (r : LeaveRequest) (ticket : Ticket) (g : Group) → ((m : Member) → leaver r.instance r.member g.members ≡ Ok m → P (leave_taken now m.id ticket m g)) → Fine P (leave_held now r ticket g)
  unfolding leave_held
  fine-leave_held now r ticket g k = after_checked P (leaver r.instance r.member g.members) (λ m. Ok (leave_taken now m.id ticket m g)) k

  pub fine-leave : (now : ℕ) (r : LeaveRequest) (ticket : Ticket) (groups : List Group)
      → ((id : List ℕ) (g : Group) (m : Member) → find_group id groups ≡ Some g → is_empty g.members ≡ false → P (leave_taken now m.id ticket m g))
      → Fine P (leave now r ticket groups)
  unfolding leave
  fine-leave now r ticket groups k =
      after_named r.group groups (λ g. leave_held now r ticket g)
      (λ i g named e. fine-leave_held now r ticket g (λ m from. k i g m e (leaver_is_there r.instance r.member g.members m from)))

  fine-commit_in : (now : ℕ) (r : CommitRequest) (ticket : Ticket) (groups : List Group) (id : List ℕ) (o : Option Group)
      → (o ≡ None → P (committed now r.entries ticket (new_group id)))
      → ((g : Group) (who : Option (List ℕ)) → o ≡ Some g → committer r.generation r.instance r.member g ≡ Ok who → P (committed now r.entries ticket (hearing_committer now who g)))
      → Fine P (commit_in now r ticket groups id o)
  unfolding commit_held commit_unheld
  fine-commit_in now r ticket groups id None made taken =
      let kept : Unit {0} → Result Turn Code = λ _. Ok (committed now r.entries ticket (new_group id)) in
      let few : Unit {0} → Result Turn Code = λ _. refused_if (nat_le GROUPS_MAX (length groups)) CoordinatorNotAvailable >>= kept in
      after_test P (not (is_negative r.generation)) IllegalGeneration (λ _. refused_if (is_too_large r.entries) OffsetMetadataTooLarge >>= few)
      (λ _. after_test P (is_too_large r.entries) OffsetMetadataTooLarge few
      (λ _. after_test P (nat_le GROUPS_MAX (length groups)) CoordinatorNotAvailable kept (λ _. made refl)))
  fine-commit_in now r ticket groups id (Some g) made taken =
      let kept : Option (List ℕ) → Unit {0} → Result Turn Code = λ who _. Ok (committed now r.entries ticket (hearing_committer now who g)) in
      after_checked P (committer r.generation r.instance r.member g) (λ who. refused_if (is_too_large r.entries) OffsetMetadataTooLarge >>= kept who)
      (λ who from. after_test P (is_too_large r.entries) OffsetMetadataTooLarge (kept who) (λ _. taken g who refl from))

  -- COMMIT: the group is new, or the commit is from a member or a non-member of a loaded group
  pub fine-commit : (now : ℕ) (r : CommitRequest) (ticket : Ticket) (groups : List Group)
      → ((id : List ℕ) → find_group id groups ≡ None → P (committed now r.entries ticket (new_group id)))
      → ((id : List ℕ) (g : Group) (who : Option (List ℕ)) → find_group id groups ≡ Some g → committer r.generation r.instance r.member g ≡ Ok who → P (committed now r.entries ticket (hearing_committer now who g)))
      → Fine P (commit now r ticket groups)
  unfolding commit
  fine-commit now r ticket groups made taken =
      after_given P r.group InvalidGroupId (λ id. commit_in now r ticket groups id (find_group id groups))
      (λ id _. fine-commit_in now r ticket groups id (find_group id groups) (made id) (taken id))
