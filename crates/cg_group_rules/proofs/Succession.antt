-- A replacement that is made in place is that of the definition.
use Rattle.std.proofs.Common.{◌≡◌, ℕ, List, [], Option, ap, ◌∙◌}
use Rattle.std.specs.Prelude.{if◌then◌else◌, unwrap_or}
use Rattle.cg_names.specs.declared.code.Code.TheVariants.{FencedInstanceId}
use Rattle.cg_record.specs.declared.member_record.MemberRecord.{MemberRecord}
use Rattle.cg_group_state.specs.declared.calls.Calls.TheVariants.{Any}
use Rattle.cg_group_state.specs.declared.effects.Effects.{Effects}
use Rattle.cg_group_state.specs.declared.group.Group.{Group}
use Rattle.cg_group_state.specs.declared.member.Member.{Member}
use Rattle.cg_group_state.specs.declared.turn.Turn.{Turn}
use Rattle.cg_request.specs.declared.request_fields.JoinRequest.{JoinRequest}
use Rattle.cg_request.specs.declared.ticket.Ticket.{Ticket}
use Rattle.cg_group_rules.specs.Join.{rejoined}
use Rattle.cg_group_rules.specs.Rebalance.{turned}
use Rattle.cg_group_rules.specs.StaticMember.{replace_static_member, keeps_generation, replaced, replaced_in_place, replacing, successor}
use Rattle.cg_group_rules.specs.Sync.{kept_member}
use Rattle.cg_group_state.specs.Waiting.{answer, refusing}

module _ (now : ℕ) (r : JoinRequest) (id : List ℕ) (ticket : Ticket) (old : Member) (g : Group) where
  -- the end of a replacement, where the group had this leader before
  abbrev ending : Group → Option (List ℕ) → Turn → MemberRecord → List ℕ → Turn
  ending after leader t kept own = if keeps_generation after then replaced_in_place ticket kept (record after { leader = leader }) t else rejoined now own ticket t

  turn_is : (new : Member) (after : Group) (e : Effects) → after ≡ replacing new g → e.replies ≡ answer Any (refusing FencedInstanceId) old → e.commands ≡ [] → turned after e ≡ replaced new old g
  unfolding replaced
  turn_is new after e put replies commands =
      ap (λ x. turned x e) put
      ∙ ap (λ rs. turned (replacing new g) (record e { replies = rs })) replies
      ∙ ap (λ cs. turned (replacing new g) (record { commands = cs; replies = answer Any (refusing FencedInstanceId) old })) commands

  pub succeeded : (new : Member) (kept : MemberRecord) (own : List ℕ) (after : Group) (e : Effects) (lead : Option (Option (List ℕ))) (t : Turn)
      → t ≡ ending after (unwrap_or lead after.leader) (turned after e) kept own
      → after ≡ replacing new g → unwrap_or lead after.leader ≡ g.leader → e.replies ≡ answer Any (refusing FencedInstanceId) old → e.commands ≡ []
      → new ≡ successor now r id old → kept ≡ kept_member g.protocol (successor now r id old) → own ≡ id → t ≡ replace_static_member now r id ticket old g
  unfolding replace_static_member replaced replacing replaced_in_place
  succeeded new kept own after e lead t is put led replies commands new_is kept_is own_is =
      is
      ∙ ap (λ l. ending after l (turned after e) kept own) led
      ∙ ap (λ x. ending after g.leader x kept own) (turn_is new after e put replies commands)
      ∙ ap (λ x. ending x g.leader (replaced new old g) kept own) put
      ∙ ap (λ m. ending (replacing m g) g.leader (replaced m old g) kept own) new_is
      ∙ ap (λ k. ending (replacing (successor now r id old) g) g.leader (replaced (successor now r id old) old g) k own) kept_is
      ∙ ap (ending (replacing (successor now r id old) g) g.leader (replaced (successor now r id old) old g) (kept_member g.protocol (successor now r id old))) own_is
