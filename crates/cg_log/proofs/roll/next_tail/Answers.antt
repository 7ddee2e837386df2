use Rattle.std.proofs.Common.{◌++◌, subst, arith}
use Rattle.cg_log.specs.Free.{IsLeastFree}
use Rattle.cg_log.proofs.Moves.{IsLawful-rolled}
use Rattle.cg_log.proofs.roll.next_tail.Goals as goal

pub returns-clause-next : goal.returns-clause-next
returns-clause-next c =
    let free = subst (λ b. IsLeastFree c.args.sectors ((b ++ c.args.current.now.tail) ++ c.args.fresh.now) c.in-Some.id) c.as_slice.ensures
    (subst (λ t. IsLeastFree c.args.sectors ((c.as_slice.result.now ++ t) ++ c.args.fresh.now) c.in-Some.id) c.as_slice-2.ensures c.in-Some.ensures) in
    record {
      more = c.in_ok-root.ensures;
      lawful = IsLawful-rolled c.args.sectors c.args.fresh.now c.args.current.now c.in_ok-root.root c.in-Some.id c.in_ok-root.ensures free c.requires (omega (arith, c.in_ok-root.ensures.epoch, c.requires.epoch_to, c.if-current-eq-EPOCH_MAX.false));
      free = free;
    }
