use Rattle.std.proofs.Common.{◌≡◌, ◌||◌, true, false, rules, sym, ◌∙◌, ◌<◌}
use Rattle.std.specs.List.{list_any}
use Rattle.cg_group_rules.specs.Tick.{ticked}
use Rattle.cg_group_rules.specs.TickDeadline.{tick_touches}
use Rattle.cg_group_table.specs.Expiry.{expires}
use Rattle.cg_group.proofs.Beside.{everywhere_still}
use Rattle.cg_group.proofs.Quiet.{quiet-ticked}
use Rattle.cg_group.proofs.Thinning.{any_expires, any_touched, tick_calm}
use Rattle.cg_group.proofs.RestingMachine.{none_expires}
use Rattle.cg_group.proofs.tick.handle_tick.Goals.{then-ge+else-some_expire, else-ge}
use Rattle.cg_group.proofs.tick.handle_tick.Goals as goal

pub returns-in_err-effects-clause-changed : goal.returns-in_err-effects-clause-changed
returns-in_err-effects-clause-changed c =
    let touched = tick_touches c.args.clock.now.moment in
    let stale = expires c.args.clock.now.loaded c.args.clock.now.moment c.args.offsets.now in
    let some : list_any (λ g. touched g || stale g) c.args.held.now ≡ true = any_expires touched stale c.args.held.now (sym c.some_expire.ensures.some ∙ c.if-some_expire.true) in
    search rules

pub returns-in_err-effects-2-clause-changed : goal.returns-in_err-effects-2-clause-changed
returns-in_err-effects-2-clause-changed c =
    let touched = tick_touches c.args.clock.now.moment in
    let stale = expires c.args.clock.now.loaded c.args.clock.now.moment c.args.offsets.now in
    let some : list_any (λ g. touched g || stale g) c.args.held.now ≡ true = any_touched touched stale c.args.held.now c.in_err-effects-2.ensures.touched in
    search rules

pub returns-clause-ok : goal.returns-clause-ok
returns-clause-ok c =
    let loaded = c.args.clock.now.loaded in
    let now = c.args.clock.now.moment in
    let none : list_any (expires loaded now c.args.offsets.now) c.args.held.now ≡ false =
    elim c.if-ge.branch [
      | then-ge+else-some_expire w ↦ sym w.some_expire.ensures.some ∙ w.if-some_expire.false
      | else-ge w ↦ none_expires c.args.until.now loaded now c.args.offsets.now c.args.held.now (let before : now < c.args.until.now = search rules in before) c.requires.resting
    ] in
    tick_calm loaded now c.args.offsets.now c.args.held.now c.time_out.new.held c.in_ok-effects-2.effects none c.in_ok-effects-2.ensures.ok

pub returns-clause-offsets : goal.returns-clause-offsets
returns-clause-offsets c =
    everywhere_still c.args.clock.now.moment c.args.held.now c.time_out.new.held c.args.offsets.now (ticked c.args.clock.now.moment) c.in_ok-effects-2.effects (quiet-ticked c.args.clock.now.moment) c.in_ok-effects-2.ensures.ok
