-- Steps other than a commit's make no command that changes the offsets.
use Rattle.std.proofs.Common.{ℕ, true, false, List, refl, Result, Ok, Err}
use Rattle.std.specs.Prelude.{if◌then◌else◌}
use Rattle.std.specs.List.{flat_map}
use Rattle.cg_names.specs.declared.code.Code.{Code}
use Rattle.cg_group_state.specs.declared.group.Group.{Group}
use Rattle.cg_group_state.specs.declared.member.Member.{Member}
use Rattle.cg_request.specs.declared.request_fields.BeatRequest.{BeatRequest}
use Rattle.cg_request.specs.declared.request_fields.JoinRequest.{JoinRequest}
use Rattle.cg_request.specs.declared.request_fields.LeaveRequest.{LeaveRequest}
use Rattle.cg_request.specs.declared.request_fields.SyncRequest.{SyncRequest}
use Rattle.cg_request.specs.declared.ticket.Ticket.{Ticket}
use Rattle.cg_group_state.specs.declared.turn.Turn.{Turn}
use Rattle.cg_group_rules.specs.Join.{new_group, rejoined}
use Rattle.cg_group_rules.specs.Leave.{gone_in}
use Rattle.cg_group.specs.Machine.{beat, concluded, join, leave, sync}
use Rattle.cg_group_table.specs.GroupTable.{Machine}
use Rattle.cg_group_rules.specs.StaticMember.{replace_static_member, keeps_generation, replaced, replaced_in_place, successor}
use Rattle.cg_group_rules.specs.Sync.{kept_member}
use Rattle.cg_group_rules.specs.Tick.{ticked}
use Rattle.cg_group.proofs.Making.{makes-all, makes-beat_taken, makes-gone_in, makes-join_known, makes-add_member_and_rebalance, makes-leave_taken, makes-rejoined, makes-sync_taken, makes-ticked}
use Rattle.cg_group.proofs.OffsetsKept.{AreQuiet, IsQuiet}
use Rattle.cg_group.proofs.Requests.{Fine, fine-beat, fine-join, fine-leave, fine-sync}

-- the step makes no such command
abbrev pub Quiet : Turn → Type 0
Quiet t = AreQuiet t.commands

quiet-replace_static_member : (now : ℕ) (r : JoinRequest) (id : List ℕ) (ticket : Ticket) (old : Member) (g : Group) → Quiet (replace_static_member now r id ticket old g)
unfolding replace_static_member replaced replaced_in_place
quiet-replace_static_member now r id ticket old g =
    let m : Member = successor now r id old in
    let t : Turn = replaced m old g in
    elim (keeps_generation t.group) as (λ b. Quiet (if b then replaced_in_place ticket (kept_member g.protocol m) g t else rejoined now id ticket t)) [
      | true ↦ (refl, tt)
      | false ↦ makes-rejoined IsQuiet (λ _ _. refl) (λ _ _. refl) now id ticket t tt
    ]

pub quiet-join : (now : ℕ) (r : JoinRequest) (fresh : List ℕ) (ticket : Ticket) (groups : List Group) → Fine Quiet (join now r fresh ticket groups)
quiet-join now r fresh ticket groups =
    fine-join Quiet now r fresh ticket groups
    (λ id new _ _. makes-add_member_and_rebalance IsQuiet (λ _ _. refl) (λ _ _. refl) now r new ticket (new_group id))
    (λ id new g _ _ _ _ _. makes-add_member_and_rebalance IsQuiet (λ _ _. refl) (λ _ _. refl) now r new ticket g)
    (λ id new g old _ _ _ _ _. quiet-replace_static_member now r new ticket old g)
    (λ id own g m _ _ _ _. makes-join_known IsQuiet (λ _ _. refl) (λ _ _. refl) now r own ticket m g)

pub quiet-sync : (now : ℕ) (r : SyncRequest) (ticket : Ticket) (groups : List Group) → Fine Quiet (sync now r ticket groups)
quiet-sync now r ticket groups =
    fine-sync Quiet now r ticket groups (λ id own g m _ _ _ _ _ _. makes-sync_taken IsQuiet (λ _ _. refl) (λ _ _. refl) now r own ticket m g g.phase)

pub quiet-beat : (now : ℕ) (r : BeatRequest) (ticket : Ticket) (groups : List Group) → Fine Quiet (beat now r ticket groups)
quiet-beat now r ticket groups = fine-beat Quiet now r ticket groups (λ id own g _. makes-beat_taken IsQuiet (λ _ _. refl) (λ _ _. refl) now own ticket g)

pub quiet-leave : (now : ℕ) (r : LeaveRequest) (ticket : Ticket) (groups : List Group) → Fine Quiet (leave now r ticket groups)
quiet-leave now r ticket groups = fine-leave Quiet now r ticket groups (λ id g m _ _. makes-leave_taken IsQuiet (λ _ _. refl) (λ _ _. refl) now m.id ticket m g)

pub quiet-gone_in : (now session : ℕ) (g : Group) → Quiet (gone_in now session g)
quiet-gone_in now session g = makes-gone_in IsQuiet (λ _ _. refl) (λ _ _. refl) now session g

pub quiet-ticked : (now : ℕ) (g : Group) → Quiet (ticked now g)
quiet-ticked now g = makes-ticked IsQuiet (λ _ _. refl) (λ _ _. refl) now g

pub quiet-all : (turn : Group → Turn) → ((g : Group) → Quiet (turn g)) → (groups : List Group) → AreQuiet (flat_map (λ g. (turn g).commands) groups)
quiet-all turn h groups = makes-all IsQuiet (λ _ _. refl) (λ _ _. refl) turn h groups

pub quiet-concluded : (s : Machine) (ticket : Ticket) (o : Result Turn Code) → Fine Quiet o → AreQuiet (concluded s ticket o).effects.commands
unfolding concluded
quiet-concluded s ticket (Ok t) h = h
quiet-concluded s ticket (Err code) h = tt
