use Rattle.std.proofs.Common.{◌≡◌, ◌≤◌, rules, arith}
use Rattle.std.specs.Prelude.{max}
use Rattle.cg_group_table.proofs.Timed.{timed-later}
use Rattle.cg_group_table.proofs.group_table.GroupTable.advance.Goals as goal

pub invariant_of-self : goal.invariant_of-self
invariant_of-self c =
    let greater : c.max-self-inside.result ≡ max c.self.inside.since c.args.now = search rules in
    let later : c.self.inside.since ≤ c.max-self-inside.result = omega arith in
    timed-later c.self.inside.since c.max-self-inside.result c.self.inside.deadlines.entries c.self.inside.loaded later c.self.invariant
