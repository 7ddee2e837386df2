use Rattle.std.proofs.Common.{◌≡◌, ◌+◌, ◌-◌, ◌*◌, take, drop, ap, ◌∙◌, arith}
use Rattle.cg_disk.specs.Disk.{sector}
use Rattle.cg_root.specs.Slots.{gate_of}
use Rattle.cg_root.proofs.slot_state.body_of_slot.Goals as goal

pub returns-clause-body : goal.returns-clause-body
unfolding sector
returns-clause-body c =
    let at : (c.gate.result + 1) * 512 ≡ 512 * (gate_of c.args.slot + 1) = omega arith in
    let size : (c.gate.result + 1) * 512 + 512 - (c.gate.result + 1) * 512 ≡ 512 = omega arith in
    ap (λ n. take n (drop ((c.gate.result + 1) * 512) c.args.slots.now)) size ∙ ap (λ n. take 512 (drop n c.args.slots.now)) at
