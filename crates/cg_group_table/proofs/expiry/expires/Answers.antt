use Rattle.std.proofs.Common.{◌≡◌, true, false, is_some, rules, sym, ◌∙◌}
use Rattle.cg_group_table.specs.Expiry.{is_vacant}
use Rattle.cg_group_table.proofs.Stale.{expires_not, expires_recorded, expires_rows}
use Rattle.cg_group_table.proofs.expiry.expires.Goals as goal

pub returns-then-not-is_vacant : goal.returns-then-not-is_vacant
returns-then-not-is_vacant c =
    let vacant : is_vacant c.args.group.now ≡ false = search rules in
    sym (expires_not c.args.clock.now.loaded c.args.clock.now.moment c.args.offsets.now c.args.group.now vacant)

pub returns-then-is_some : goal.returns-then-is_some
returns-then-is_some c =
    let vacant : is_vacant c.args.group.now ≡ true = search rules in
    let kind : is_some c.args.group.now.kind ≡ true = search rules in
    c.is_stale.ensures ∙ sym (expires_recorded c.args.clock.now.loaded c.args.clock.now.moment c.args.offsets.now c.args.group.now vacant kind)

pub returns : goal.returns
returns c =
    let vacant : is_vacant c.args.group.now ≡ true = search rules in
    let kind : is_some c.args.group.now.kind ≡ false = search rules in
    search rules ∙ sym (expires_rows c.args.clock.now.loaded c.args.clock.now.moment c.args.offsets.now c.args.group.now vacant kind)
