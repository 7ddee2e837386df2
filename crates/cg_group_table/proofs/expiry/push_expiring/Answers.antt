use Rattle.std.proofs.Common.{◌≡◌, ◌++◌, true, false, is_some, rules, sym, ap, ◌∙◌, append-nil, [], ◌∷◌}
use Rattle.std.specs.Prelude.{if◌then◌else◌}
use Rattle.cg_record.specs.declared.command.Command.{Command}
use Rattle.cg_record.specs.declared.command.Command.TheVariants.{Deleted}
use Rattle.cg_group_table.specs.Expiry.{is_stale, is_vacant}
use Rattle.cg_group_table.proofs.Stale.{expiring_not, expiring_recorded, expiring_rows}
use Rattle.cg_group_table.proofs.expiry.push_expiring.Goals as goal

pub returns-then-not-is_vacant : goal.returns-then-not-is_vacant
returns-then-not-is_vacant c =
    let vacant : is_vacant c.args.group.now ≡ false = search rules in
    let none = expiring_not c.args.clock.now.loaded c.args.clock.now.moment c.args.offsets.now c.args.group.now vacant in
    sym (append-nil c.args.commands.now) ∙ ap (λ cs. c.args.commands.now ++ cs) (sym none)

pub returns-then-is_none : goal.returns-then-is_none
returns-then-is_none c =
    let vacant : is_vacant c.args.group.now ≡ true = search rules in
    let kind : is_some c.args.group.now.kind ≡ false = search rules in
    let rows = expiring_rows c.args.clock.now.loaded c.args.clock.now.moment c.args.offsets.now c.args.group.now vacant kind in
    search rules ∙ ap (λ cs. c.args.commands.now ++ cs) (sym rows)

pub returns-in_ok-push : goal.returns-in_ok-push
returns-in_ok-push c =
    let vacant : is_vacant c.args.group.now ≡ true = search rules in
    let kind : is_some c.args.group.now.kind ≡ true = search rules in
    let stale : is_stale c.args.clock.now.loaded c.args.clock.now.moment c.args.group.now.emptied ≡ true = sym c.is_stale.ensures ∙ c.if-is_stale.true in
    let command : Command = Deleted (record { group = c.args.group.now.id }) in
    let one = expiring_recorded c.args.clock.now.loaded c.args.clock.now.moment c.args.offsets.now c.args.group.now vacant kind ∙ ap (λ b. if b then command ∷ [] else []) stale in
    c.in_ok-push.ensures.ok ∙ ap (λ cs. c.args.commands.now ++ cs ∷ []) (search rules) ∙ ap (λ cs. c.args.commands.now ++ cs) (sym one)

pub returns-else-is_stale : goal.returns-else-is_stale
returns-else-is_stale c =
    let vacant : is_vacant c.args.group.now ≡ true = search rules in
    let kind : is_some c.args.group.now.kind ≡ true = search rules in
    let stale : is_stale c.args.clock.now.loaded c.args.clock.now.moment c.args.group.now.emptied ≡ false = sym c.is_stale.ensures ∙ c.if-is_stale.false in
    let command : Command = Deleted (record { group = c.args.group.now.id }) in
    let none = expiring_recorded c.args.clock.now.loaded c.args.clock.now.moment c.args.offsets.now c.args.group.now vacant kind ∙ ap (λ b. if b then command ∷ [] else []) stale in
    sym (append-nil c.args.commands.now) ∙ ap (λ cs. c.args.commands.now ++ cs) (sym none)
