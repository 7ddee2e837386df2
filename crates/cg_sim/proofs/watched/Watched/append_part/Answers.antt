use Rattle.std.proofs.Common.{arith, ap, sym, subst, ◌∙◌, ⊎_elim, inl, inr, ◌++◌, OnSome, take, append-nil}
use Rattle.std.specs.Io.{StopsAt}
use Rattle.std.specs.Io.KnownBytes.{Consumes, IsAtEnd}
use Rattle.std.specs.Io.BufRead.{FillKeeps}
use Rattle.std.proofs.BufReadLemmas.{Consumes_shown}
use Rattle.std.proofs.Transfers.{drop-appended}
use Rattle.cg_sim.specs.Reading.{HasNoEnd, IsOver}
use Rattle.cg_sim.proofs.Lines.{stops-append}
use Rattle.cg_sim.proofs.watched.Watched.append_part.Goals.{then-size-eq0, else-size-eq0}
use Rattle.cg_sim.proofs.watched.Watched.append_part.Goals as goal

pub is_whole-is_over-requires : goal.is_whole-is_over-requires
is_whole-is_over-requires g c =
    subst (λ l. StopsAt l 10) (sym (c.deref.ensures.value ∙ c.in_default.ensures.items)) (stops-append _ _ c.requires.begun c.part_of_line-size.ensures.before)

pub returns-clause-consumed : goal.returns-clause-consumed
returns-clause-consumed g c =
    let size = c.part_of_line-size in
    let rested = c.fill_buf.follows.lender-at-none in
    let filled = subst (FillKeeps _ (g.R.Read.remaining rested) (g.R.BufRead.consumable_len rested)) c.in-Ok.is c.fill_buf.follows.holds-at-none in
    let shown = Consumes_shown _ _ _ _ c.in-Ok.available.now size.result size.ensures.within c.in-Ok.ensures.front c.in-Ok.ensures.end filled.0 filled.1 c.consume.ensures.bytes in
    subst (Consumes _ _) (sym (drop-appended _ _ _ c.in_default.ensures.items)) shown.0

pub returns-clause-over : goal.returns-clause-over
returns-clause-over g c left is over =
    let size = c.part_of_line-size in
    let rested = c.fill_buf.follows.lender-at-none in
    let filled = subst (FillKeeps _ (g.R.Read.remaining rested) (g.R.BufRead.consumable_len rested)) c.in-Ok.is c.fill_buf.follows.holds-at-none in
    let shown = Consumes_shown _ _ _ _ c.in-Ok.available.now size.result size.ensures.within c.in-Ok.ensures.front c.in-Ok.ensures.end filled.0 filled.1 c.consume.ensures.bytes in
    let items = c.in_default.ensures.items in
    elim c.if-size-eq0.branch [
      | then-size-eq0 w ↦
          let none = subst (λ n. HasNoEnd (take n c.in-Ok.available.now)) (sym w.if-size-eq0.true) (λ k d below. absurd (omega (arith, below))) in
          let all = size.ensures.whole (omega (arith, w.if-size-eq0.true, c.requires.room, c.len.ensures)) none in
          let same = items ∙ ap (λ n. c.args.line.now.items ++ take n c.in-Ok.available.now) w.if-size-eq0.true ∙ append-nil c.args.line.now.items in
          inr (subst HasNoEnd (sym same) c.requires.begun, inr (subst (λ o. OnSome o (IsAtEnd (g.R.Read.remaining c.consume.new.self))) is (shown.1 (sym all ∙ w.if-size-eq0.true))))
      | else-size-eq0 w ↦
          let whole = w.is_whole-is_over.ensures.whole (cc (w.is_over-is, over)) in
          subst (λ l. IsOver l (g.R.Read.remaining c.consume.new.self)) w.deref.ensures.value (⊎_elim inl (λ long. inr (long.1, inl long.0)) whole)
    ]
