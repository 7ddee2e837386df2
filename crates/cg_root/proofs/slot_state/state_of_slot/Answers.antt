use Rattle.std.proofs.Common.{◌≡◌, ℕ, ◌+◌, ◌*◌, List, true, false, get_or, sym, ◌∙◌, ap, subst, arith}
use Rattle.cg_disk.specs.Disk.{sector}
use Rattle.cg_root.specs.Slots.{gate_of}
use Rattle.cg_root.specs.Decoding.{IsRootBody, head_in}
use Rattle.cg_root.proofs.States.{IsState-closed, IsState-stored, IsState-broken}
use Rattle.cg_root.proofs.slot_state.state_of_slot.Goals as goal

pub returns-then-slots-gate-ne-OPEN : goal.returns-then-slots-gate-ne-OPEN
returns-then-slots-gate-ne-OPEN c =
    let at : c.gate.result * 512 ≡ 512 * gate_of c.args.slot = omega arith in
    IsState-closed c.args.slots.now c.requires (λ i. omega (arith, c.type_inv.slots i)) c.args.sectors c.args.slot (λ opened. c.if-slots-gate-ne-OPEN.true (ap (λ (k : ℕ). get_or c.args.slots.now k 0) at ∙ opened))

pub returns-then-is_root_body : goal.returns-then-is_root_body
returns-then-is_root_body c =
    let at : 512 * gate_of c.args.slot ≡ c.gate.result * 512 = omega arith in
    let body : c.body_of_slot-body.result.now ≡ sector c.args.slots.now (gate_of c.args.slot + 1) = c.body_of_slot-body.ensures.body in
    let state = IsState-stored c.args.slots.now c.requires (λ i. omega (arith, c.type_inv.slots i)) c.args.sectors c.args.slot (ap (λ (k : ℕ). get_or c.args.slots.now k 0) at ∙ c.if-slots-gate-ne-OPEN.false)
    (subst (IsRootBody c.args.sectors) body (c.is_root_body.ensures.0 c.if-is_root_body.true)) in
    let epoch : (head_in (sector c.args.slots.now (gate_of c.args.slot + 1))).epoch ≡ c.head_of-head.result.epoch = ap (λ (l : List ℕ). (head_in l).epoch) (sym body) ∙ ap (λ h. h.epoch) (sym c.head_of-head.ensures) in
    (state.0, state.1, epoch)

pub returns-else-is_root_body : goal.returns-else-is_root_body
returns-else-is_root_body c =
    let at : 512 * gate_of c.args.slot ≡ c.gate.result * 512 = omega arith in
    let body : c.body_of_slot-body.result.now ≡ sector c.args.slots.now (gate_of c.args.slot + 1) = c.body_of_slot-body.ensures.body in
    IsState-broken c.args.slots.now c.requires (λ i. omega (arith, c.type_inv.slots i)) c.args.sectors c.args.slot (ap (λ (k : ℕ). get_or c.args.slots.now k 0) at ∙ c.if-slots-gate-ne-OPEN.false)
    (λ is. let yes : c.is_root_body.result ≡ true = c.is_root_body.ensures.1 (subst (IsRootBody c.args.sectors) (sym body) is) in let no : c.is_root_body.result ≡ false = c.if-is_root_body.false in cc)
