use Rattle.std.proofs.Common.{◌≡◌, ◌+◌, ◌<◌, ℕ, List, length, get_or, map, take, sym, ap, subst, ◌∙◌}
use Rattle.cg_fold.specs.Snapshot.{groups_in, in_order}
use Rattle.cg_group_state.specs.declared.group.Group.{Group}
use Rattle.cg_group_table.specs.GroupTable.{with_group}
use Rattle.cg_group_table.specs.Recovery.{revived}
use Rattle.cg_group_table.proofs.Revived.{revived_next}
use Rattle.cg_group_table.proofs.group_recovery.revived_all.Goals as goal

pub loop-id-preserved : goal.loop-id-preserved
loop-id-preserved c =
    let now = c.args.now in
    let state = c.args.durable.now in
    let n = c.loop-id.id-index in
    let x = c.id-item.result in
    let ids : in_order (groups_in state) ≡ c.as_slice-id-items.result.now = sym (c.as_slice-id-items.ensures.value ∙ c.in_ok-ids.ensures.value) in
    let P : List (List ℕ) → Type 0 = λ xs. x ≡ get_or xs n x → n < length xs → with_group (revived now state x) (map (revived now state) (take n xs)) ≡ map (revived now state) (take (n + 1) xs) in
    c.in_ok-put.ensures.ok
    ∙ ap (λ (g : Group). with_group g c.loop-id.groups) c.in_ok-revived.ensures
    ∙ ap (with_group (revived now state x)) c.loop-id.invariant
    ∙ subst P ids (λ here below. revived_next now state n x below here) c.id-item.is c.loop-id-test.true
