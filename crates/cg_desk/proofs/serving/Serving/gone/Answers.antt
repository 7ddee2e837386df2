use Rattle.std.proofs.Common.{◌≡◌, length, ap, sym, ◌∙◌, arith}
use Rattle.cg_group_table.specs.GroupTable.{Outcome}
use Rattle.cg_desk.proofs.Parting.{gone_makes_none}
use Rattle.cg_desk.proofs.serving.Serving.gone.Goals as goal

pub finish-requires-clause-numbers : goal.finish-requires-clause-numbers
finish-requires-clause-numbers c =
    let none = gone_makes_none c.reserve.new.self.groups c.args.session c.args.now in
    let made : length c.in_ok-effects.effects.commands ≡ 0 = ap (λ (o : Outcome). length o.effects.commands) (sym c.in_ok-effects.ensures.ok) ∙ ap length none in
    omega arith
