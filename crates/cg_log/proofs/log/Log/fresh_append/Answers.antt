use Rattle.std.proofs.Common.{◌≡◌, ◌≤◌, ◌∷◌, [], ◌++◌, ℕ, List, Bool, true, sym, subst, refl, length, rules}
use Rattle.cg_log.specs.Fresh.{IsFreshAppended, fits_fresh}
use Rattle.cg_log.specs.Log.{HasFresh}
use Rattle.cg_log.specs.Segments.{Filled}
use Rattle.cg_log.proofs.Kept.{fits_fresh-fits, fits_fresh-some, frames_of-more, split-last}
use Rattle.cg_log.proofs.Moves.{still-images}
use Rattle.cg_log.proofs.log.Log.fresh_append.Goals as goal

pub returns-then-self-clause-images : goal.returns-then-self-clause-images
returns-then-self-clause-images g c has log =
    let self = c.args.self.now in
    still-images (g.D.SectorDisk.history self.disk) (g.D.SectorDisk.size self.disk) self.root self.end self.number has self.in_range log.holds

pub put_fresh-requires-clause-some : goal.put_fresh-requires-clause-some
put_fresh-requires-clause-some g c =
    let self = c.args.self.now in
    let bytes = length c.args.frame.now.1 in
    let fits : fits_fresh self.fresh.items self.fresh_end bytes ≡ true = search rules in
    fits_fresh-some self.fresh.items self.fresh_end bytes fits

pub put_fresh-requires-clause-fits : goal.put_fresh-requires-clause-fits
put_fresh-requires-clause-fits g c =
    let self = c.args.self.now in
    let bytes = length c.args.frame.now.1 in
    let fits : fits_fresh self.fresh.items self.fresh_end bytes ≡ true = search rules in
    fits_fresh-fits self.fresh.items self.fresh_end bytes fits

pub returns-clause-fresh : goal.returns-clause-fresh
returns-clause-fresh g c fresh has =
    let self = c.args.self.now in
    let bytes = length c.args.frame.now.1 in
    let fits : fits_fresh self.fresh.items self.fresh_end bytes ≡ true = search rules in
    let count = c.args.frame.now.0 in
    let payload = c.args.frame.now.1 in
    let some = fits_fresh-some self.fresh.items self.fresh_end bytes fits in
    let split = split-last fresh (subst (λ (l : List ℕ). 1 ≤ length l) has.holds.ids_are some) in
    let was = subst (λ (l : List Filled). HasFresh g.D.SectorDisk.is_honest g.D.SectorDisk.history self l) split.is has in
    let put = c.in_ok-put_fresh.ensures.fresh split.sealed split.id split.frames (record { is_honest = was.is_honest; holds = was.holds }) in
    let new = split.sealed ++ (split.id, split.frames ++ (count, payload) ∷ []) ∷ [] in (
      new,
      (
        subst (λ (b : Bool). IsFreshAppended b fresh count payload new) (sym fits) record { sealed = split.sealed; id = split.id; frames = split.frames; was = split.is; is = refl },
        frames_of-more fresh split.sealed split.id count payload split.frames split.is,
        put,
      ),
    )
