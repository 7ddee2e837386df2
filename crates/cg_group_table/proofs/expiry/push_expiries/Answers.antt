use Rattle.std.proofs.Common.{rules, ◌≡◌, ◌≤◌, ◌++◌, ◌-◌, length, take, [], ◌∷◌, ap, sym, ◌∙◌, append_assoc, append-nil, arith}
use Rattle.cg_record.specs.declared.command.Command.{Command}
use Rattle.cg_record.specs.declared.command.Command.TheVariants.{Expired}
use Rattle.cg_record.specs.declared.entries.TheConstants.{ENTRIES_MAX}
use Rattle.cg_group_table.specs.Expiry.{expiries, stale_of}
use Rattle.cg_group_table.proofs.Stale.{next_expiry, no_expiries, spent_expiries}
use Rattle.cg_group_table.proofs.expiry.push_expiries.Goals as goal

pub loop-left-preserved : goal.loop-left-preserved
loop-left-preserved c =
    let l = c.loop-left in
    let group = c.args.group.now in
    let loaded = c.args.clock.now.loaded in
    let now = c.args.clock.now.moment in
    let stale = c.in_ok-stale.stale.items in
    let command : Command = Expired (record { group = group; partitions = stale }) in
    let later = expiries (l.left - 1) group (stale_of loaded now c.in_ok-stale.others.now) in
    let put : c.push.new.self ≡ l.commands ++ command ∷ [] = c.in_ok-push.ensures.ok ∙ ap (λ cs. l.commands ++ cs ∷ []) (search rules) in
    let some : 1 ≤ length stale = search rules in
    let next = next_expiry l.left (l.left - 1) group (stale_of loaded now l.rest.now) stale (stale_of loaded now c.in_ok-stale.others.now) (omega (arith, c.loop-left-test.true)) c.in_ok-stale.ensures.first c.in_ok-stale.ensures.others (λ none. omega (arith, none, some)) in
    record {
      so_far = ap (λ cs. cs ++ later) put ∙ append_assoc l.commands (command ∷ []) later ∙ ap (λ cs. l.commands ++ cs) (sym next) ∙ l.invariant.so_far;
      sorted = c.in_ok-stale.ensures.sorted;
    }

pub returns-after-loop-left : goal.returns-after-loop-left
returns-after-loop-left c =
    let l = c.loop-left in
    let rows = stale_of c.args.clock.now.loaded c.args.clock.now.moment l.rest.now in
    sym (append-nil l.commands) ∙ ap (λ cs. l.commands ++ cs) (sym (spent_expiries l.left c.args.group.now rows c.loop-left-test.false)) ∙ l.invariant.so_far

pub returns-then-is_empty : goal.returns-then-is_empty
returns-then-is_empty c =
    let l = c.loop-left in
    let rows = stale_of c.args.clock.now.loaded c.args.clock.now.moment l.rest.now in
    let empty : length c.in_ok-stale.stale.items ≡ 0 = search rules in
    let none : length (take ENTRIES_MAX rows) ≡ 0 = ap length (sym c.in_ok-stale.ensures.first) ∙ empty in
    sym (append-nil l.commands) ∙ ap (λ cs. l.commands ++ cs) (sym (no_expiries l.left c.args.group.now rows none)) ∙ l.invariant.so_far
