use Rattle.std.proofs.Common.{◌≡◌, false, List, is_some, ap}
use Rattle.cg_group_state.specs.Membership.{find_member}
use Rattle.cg_group_state.specs.declared.member.Member.{Member}
use Rattle.cg_group_rules.proofs.Strangers.{beat_stranger, is_some-map, unheard}
use Rattle.cg_group_rules.proofs.heartbeat.beat_in.Goals as goal

pub returns-then-is_none : goal.returns-then-is_none
returns-then-is_none c =
    let g = c.args.group.now in
    let id = c.in_ok-id.id.now in
    let missing : is_some (find_member id g.members) ≡ false = is_some-map (λ (m : Member). m.heard) (find_member id g.members) c.hear.result c.hear.ensures.before c.if-is_none.ensures in (
      beat_stranger c.args.r.now g id missing c.in_ok-id.ensures,
      ap (λ (ms : List Member). record g { members = ms }) (unheard c.args.r.now g id missing c.args.now c.hear.new.self c.hear.ensures.heard),
    )
