use Rattle.std.proofs.Common.{rules, ap, ◌∙◌, map}
use Rattle.cg_group_rules.specs.Sync.{kept_member}
use Rattle.cg_group_rules.proofs.Rostering.{kept_roster_is}
use Rattle.cg_group_rules.proofs.sync.kept_roster.Goals as goal

pub from_lawful-requires : goal.from_lawful-requires
from_lawful-requires c =
    kept_roster_is c.in_ok-protocol.protocol c.in_ok-leader.leader c.args.group.now c.in_ok-members.members.items
    (c.in_ok-members.ensures ∙ ap (map (kept_member c.args.group.now.protocol)) c.as_slice.ensures.value) c.as_slice.ensures.lawful (search rules)
