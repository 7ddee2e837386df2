use Rattle.std.proofs.Common.{◌≡◌, ℕ, ◌+◌, List, sym, ◌∙◌, ap, subst}
use Rattle.cg_disk.specs.Disk.{sector}
use Rattle.cg_root.specs.Slots.{gate_of}
use Rattle.cg_root.specs.Roots.{CountingRoot}
use Rattle.cg_root.specs.Decoding.{IsLawfulHead, head_in, root_in}
use Rattle.cg_root.proofs.States.{counting-counts}
use Rattle.cg_root.proofs.root_reader.root_among.Goals as goal

pub root_of-requires-clause-head : goal.root_of-requires-clause-head
root_of-requires-clause-head c =
    let counts = counting-counts (sector c.args.slots.now) c.args.sectors c.requires.room c.state_of_slot-zero.result c.state_of_slot-one.result c.in_ok-slot.slot c.state_of_slot-zero.ensures c.state_of_slot-one.ensures (sym c.counting_slot.ensures ∙ c.in_ok-slot.was) in
    subst (λ (l : List ℕ). IsLawfulHead (head_in l)) (sym c.body_of_slot.ensures.body) counts.body.head

pub returns-in_err-root-clause-memory : goal.returns-in_err-root-clause-memory
returns-in_err-root-clause-memory c memory =
    let counts = counting-counts (sector c.args.slots.now) c.args.sectors c.requires.room c.state_of_slot-zero.result c.state_of_slot-one.result c.in_ok-slot.slot c.state_of_slot-zero.ensures c.state_of_slot-one.ensures (sym c.counting_slot.ensures ∙ c.in_ok-slot.was) in
    (root_in c.in_ok-slot.slot (sector c.args.slots.now (gate_of c.in_ok-slot.slot + 1)), counts.counting)

pub returns-clause-counting : goal.returns-clause-counting
returns-clause-counting c =
    let counts = counting-counts (sector c.args.slots.now) c.args.sectors c.requires.room c.state_of_slot-zero.result c.state_of_slot-one.result c.in_ok-slot.slot c.state_of_slot-zero.ensures c.state_of_slot-one.ensures (sym c.counting_slot.ensures ∙ c.in_ok-slot.was) in
    let root : c.in_ok-root.root ≡ root_in c.in_ok-slot.slot (sector c.args.slots.now (gate_of c.in_ok-slot.slot + 1)) = c.in_ok-root.ensures ∙ ap (root_in c.in_ok-slot.slot) c.body_of_slot.ensures.body in
    subst (CountingRoot (sector c.args.slots.now) c.args.sectors) (sym root) counts.counting
