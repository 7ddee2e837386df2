use Rattle.std.proofs.Common.{◌≡◌, true, inl, inr, subst, arith}
use Rattle.std.specs.Prelude.{◌⊎◌}
use Rattle.std.specs.List.{list_any}
use Rattle.std.proofs.lemmas.List.Folds.{list_any_at}
use Rattle.cg_group_state.specs.declared.calls.Calls.TheVariants.{OfSession}
use Rattle.cg_group_state.specs.Waiting.{is_waiting}
use Rattle.cg_group_state.specs.declared.member.Member.{Member}
use Rattle.cg_group_table.specs.SessionIndex.{is_certain, is_home, is_known}
use Rattle.cg_group_table.proofs.Homing.{affirmed, each_from_place, each_to_place}
use Rattle.cg_group_table.proofs.index_cleanup.affirm_all.Goals as goal

pub loop-member-preserved : goal.loop-member-preserved
loop-member-preserved c =
    let id = c.args.id.now in (
      λ q x k. c.affirm_one.ensures.kept q x (c.loop-member.invariant.0 q x k),
      affirmed (λ q. is_home c.args.homes.now q id) (λ q. is_home c.loop-member.homes q id) (λ q. is_certain c.loop-member.homes q id) (λ q. is_certain c.affirm_one.new.homes q id) c.args.members.now c.loop-member.member-index c.member-item.result (omega arith) c.member-item.is (λ q k. c.loop-member.invariant.0 q id k) (λ q k. c.affirm_one.ensures.certain q id k) c.affirm_one.ensures.here c.loop-member.invariant.1,
      λ q k. elim (c.affirm_one.ensures.parked q k) as (λ _. (is_certain c.args.homes.now q id ≡ true) ⊎ (list_any (is_waiting (OfSession q)) c.args.members.now ≡ true)) [
        | inl before ↦ c.loop-member.invariant.2 q before
        | inr waits ↦
            let P : Member → Type 0 = λ m. is_waiting (OfSession q) m ≡ true in
            inr (list_any_at (is_waiting (OfSession q)) c.args.members.now c.loop-member.member-index c.member-item.result (omega arith) (subst P c.member-item.is waits))
      ],
      λ q x k. c.loop-member.invariant.3 q x (c.affirm_one.ensures.fewer q x k),
      λ q h. c.affirm_one.ensures.filled q (c.loop-member.invariant.4 q h),
      λ q x k. c.affirm_one.ensures.certain q x (c.loop-member.invariant.5 q x k),
    )

pub returns-clause-here : goal.returns-clause-here
returns-clause-here c =
    let id = c.args.id.now in
    let first = is_home c.args.homes.now in
    let now = is_certain c.loop-member.homes in
    λ known.
    each_from_place (λ (m : Member). is_known (λ q. now q id) m.waits ≡ true) c.args.members.now
    (λ k d lt. c.loop-member.invariant.1 k d (omega arith) (each_to_place (λ (m : Member). is_known (λ q. first q id) m.waits ≡ true) c.args.members.now known k d lt))

pub returns-clause-parked : goal.returns-clause-parked
returns-clause-parked c = c.loop-member.invariant.2
