use Rattle.std.proofs.Common.{◌≡◌, ◌++◌, refl, sym, ap, ◌∙◌}
use Rattle.cg_group_state.specs.declared.turn.Turn.{Turn}
use Rattle.cg_group_rules.specs.Tick.{ticked}
use Rattle.cg_group_table.specs.Expiry.{expiring}
use Rattle.cg_group_table.specs.declared.due_groups.Sweep.{Sweep}
use Rattle.cg_group_table.proofs.SweptGroups.{both_parts, calm_made, first_part, nothing_there}
use Rattle.cg_group_table.proofs.due_groups.sweep_group.Goals.{then-tick_touches+in_ok-id+in_ok-due+in_ok-append+in_ok-append-2+in_ok-push, else-tick_touches}
use Rattle.cg_group_table.proofs.due_groups.sweep_group.Goals as goal

pub returns-in_ok-push_expiring-clause-commands : goal.returns-in_ok-push_expiring-clause-commands
returns-in_ok-push_expiring-clause-commands c =
    let g = c.args.group.now in
    let now = c.args.clock.now.moment in
    let was = c.args.sweep.now.effects.commands in
    let timeouts = (ticked now g).commands in
    let middle : c.if-tick_touches.sweep.effects.commands ≡ was ++ timeouts =
    elim c.if-tick_touches.branch [
      | then-tick_touches+in_ok-id+in_ok-due+in_ok-append+in_ok-append-2+in_ok-push w ↦ ap (λ (s : Sweep). s.effects.commands) w.sweep-is ∙ w.in_ok-append.ensures.ok ∙ ap (λ (t : Turn). was ++ t.commands) (sym w.in_ok-due.ensures.planned)
      | else-tick_touches w ↦ ap (λ (s : Sweep). s.effects.commands) w.sweep-is ∙ calm_made (λ t. t.commands) now g was refl (sym c.tick_touches.ensures ∙ w.if-tick_touches.false)
    ] in
    both_parts was timeouts (expiring c.args.clock.now.loaded now c.args.offsets.now g) c.if-tick_touches.sweep.effects.commands c.push_expiring.new.commands middle c.in_ok-push_expiring.ensures

pub returns-in_ok-push_expiring-clause-replies : goal.returns-in_ok-push_expiring-clause-replies
returns-in_ok-push_expiring-clause-replies c =
    let was = c.args.sweep.now.effects.replies in
    elim c.if-tick_touches.branch [
      | then-tick_touches+in_ok-id+in_ok-due+in_ok-append+in_ok-append-2+in_ok-push w ↦ ap (λ (s : Sweep). s.effects.replies) w.sweep-is ∙ w.in_ok-append-2.ensures.ok ∙ ap (λ (t : Turn). was ++ t.replies) (sym w.in_ok-due.ensures.planned)
      | else-tick_touches w ↦ ap (λ (s : Sweep). s.effects.replies) w.sweep-is ∙ calm_made (λ t. t.replies) c.args.clock.now.moment c.args.group.now was refl (sym c.tick_touches.ensures ∙ w.if-tick_touches.false)
    ]

pub returns-else-expires-clause-commands : goal.returns-else-expires-clause-commands
returns-else-expires-clause-commands c =
    let g = c.args.group.now in
    let now = c.args.clock.now.moment in
    let was = c.args.sweep.now.effects.commands in
    let timeouts = (ticked now g).commands in
    let stale = expiring c.args.clock.now.loaded now c.args.offsets.now g in
    let middle : c.if-tick_touches.sweep.effects.commands ≡ was ++ timeouts =
    elim c.if-tick_touches.branch [
      | then-tick_touches+in_ok-id+in_ok-due+in_ok-append+in_ok-append-2+in_ok-push w ↦ ap (λ (s : Sweep). s.effects.commands) w.sweep-is ∙ w.in_ok-append.ensures.ok ∙ ap (λ (t : Turn). was ++ t.commands) (sym w.in_ok-due.ensures.planned)
      | else-tick_touches w ↦ ap (λ (s : Sweep). s.effects.commands) w.sweep-is ∙ calm_made (λ t. t.commands) now g was refl (sym c.tick_touches.ensures ∙ w.if-tick_touches.false)
    ] in
    first_part was timeouts stale c.if-tick_touches.sweep.effects.commands middle (nothing_there stale (sym c.expires.ensures ∙ c.if-expires.false))

pub returns-else-expires-clause-replies : goal.returns-else-expires-clause-replies
returns-else-expires-clause-replies c =
    let was = c.args.sweep.now.effects.replies in
    elim c.if-tick_touches.branch [
      | then-tick_touches+in_ok-id+in_ok-due+in_ok-append+in_ok-append-2+in_ok-push w ↦ ap (λ (s : Sweep). s.effects.replies) w.sweep-is ∙ w.in_ok-append-2.ensures.ok ∙ ap (λ (t : Turn). was ++ t.replies) (sym w.in_ok-due.ensures.planned)
      | else-tick_touches w ↦ ap (λ (s : Sweep). s.effects.replies) w.sweep-is ∙ calm_made (λ t. t.replies) c.args.clock.now.moment c.args.group.now was refl (sym c.tick_touches.ensures ∙ w.if-tick_touches.false)
    ]
