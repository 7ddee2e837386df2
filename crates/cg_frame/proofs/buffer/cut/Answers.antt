use Rattle.std.proofs.Common.{◌≡◌, ◌+◌, ◌-◌, ◌++◌, ◌∙◌, length, take, drop, replicate, ap, rules}
use Rattle.cg_frame.proofs.Sealing.{resized-payload}
use Rattle.cg_frame.proofs.buffer.cut.Goals as goal

pub returns-clause-payload : goal.returns-clause-payload
returns-clause-payload c =
    let is : c.resize.new.self.items ≡ take (16 + c.args.bytes) c.args.buffer.now.items ++ replicate (16 + c.args.bytes - length c.args.buffer.now.items) 0 = search rules in
    ap (drop 16) is ∙ resized-payload c.args.buffer.now.items c.args.bytes c.requires
