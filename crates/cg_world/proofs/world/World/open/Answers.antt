use Rattle.std.proofs.Common.{◌∙◌, sym, ap, refl, subst, ℕ, rules}
use Rattle.cg_desk.proofs.Recorded.{commands_make_records}
use Rattle.cg_world.specs.Orderly.{IsOrderlyAt}
use Rattle.cg_world.proofs.Leaving.{opened-orderly}
use Rattle.cg_world.proofs.Opened.{same-opened}
use Rattle.cg_world.proofs.world.World.open.Goals as goal

pub serve-requires : goal.serve-requires
serve-requires g c = commands_make_records c.in-Ok.found.2 c.in-Ok.ensures.made.0

pub returns-clause-opened : goal.returns-clause-opened
returns-clause-opened g c = (
  c.in-Ok.found.1,
  c.in-Ok.found.2,
  record {
    made = c.in-Ok.ensures.made.0;
    few = c.in-Ok.ensures.made.1;
    desk = c.in-Ok-serve.ensures;
    fresh = refl;
    found = ap (λ (p : ℕ × ℕ). let t : ℕ × ℕ × ℕ = (c.in-Ok.found.1, p.0, p.1) in t) c.counts-records.ensures;
    stands = λ honest. c.in-Ok.ensures.stands (sym c.in-Ok.ensures.same_honesty ∙ honest);
  },
)

pub returns-clause-carried : goal.returns-clause-carried
returns-clause-carried g c = λ honest n state carries.
    let same = c.in-Ok.ensures.carried honest n state carries in
    same-opened g.D.SectorDisk.is_honest g.D.SectorDisk.history c.args.now _ c.in-Ok.found.1 n c.in-Ok.found.2 state same.0 same.1 (record {
      made = c.in-Ok.ensures.made.0;
      few = c.in-Ok.ensures.made.1;
      desk = c.in-Ok-serve.ensures;
      fresh = refl;
      found = ap (λ (p : ℕ × ℕ). let t : ℕ × ℕ × ℕ = (c.in-Ok.found.1, p.0, p.1) in t) c.counts-records.ensures;
      stands = λ honest. c.in-Ok.ensures.stands (sym c.in-Ok.ensures.same_honesty ∙ honest);
    })

pub returns-clause-orderly : goal.returns-clause-orderly
returns-clause-orderly g c = subst IsOrderlyAt (sym c.in-Ok-serve.ensures) (opened-orderly c.in-Ok.found.1 c.in-Ok.found.2 c.args.now c.in-Ok.ensures.made.0)

pub invariant_of-result : goal.invariant_of-result
invariant_of-result g c = record {
  orderly = ∣ subst IsOrderlyAt (sym c.in-Ok-serve.ensures) (opened-orderly c.in-Ok.found.1 c.in-Ok.found.2 c.args.now c.in-Ok.ensures.made.0) ∣₁;
  agree = search rules;
}
