use Rattle.std.proofs.Common.{◌≡◌, ◌<◌, ℕ, true, false, subst, ◌++◌, take, drop, ap, sym, ◌∙◌, arith}
use Rattle.cg_frame.specs.Frames.{word, next_gate}
use Rattle.cg_frame.proofs.Parts.{two_words, IsFront-words}
use Rattle.cg_frame.proofs.frame_reader.head_of.Goals as goal
use Rattle.cg_frame.proofs.frame_reader.head_of.Goals.{then-head-eq0-via-then-head-eq0, then-head-eq0-via-else-head-eq0+then-not-fits}

pub returns-clause-head : goal.returns-clause-head
returns-clause-head c =
    let told : take 16 (drop 512 c.args.front.now) ≡ word c.number.result ++ word c.number-2.result = two_words c.args.front.now 512 ∙ sym (ap (λ l. l ++ take 8 (drop 520 c.args.front.now)) c.number.ensures) ∙ sym (ap (λ l. word c.number.result ++ l) c.number-2.ensures) in
    record { is_open = c.if-front-ne-OPEN.false; head_is = told; counted = omega arith; fits_word = c.number.type_inv; fits = c.fits.ensures.0 c.if-not-fits.false }

pub returns-then-head-eq0-clause-bad : goal.returns-then-head-eq0-clause-bad
returns-then-head-eq0-clause-bad c err =
    let told : take 16 (drop 512 c.args.front.now) ≡ word c.number.result ++ word c.number-2.result = two_words c.args.front.now 512 ∙ sym (ap (λ l. l ++ take 8 (drop 520 c.args.front.now)) c.number.ensures) ∙ sym (ap (λ l. word c.number.result ++ l) c.number-2.ensures) in (
      c.if-front-ne-OPEN.false,
      λ count n n_fits is.
          let same = IsFront-words c.args.front.now c.args.segment c.args.pos count n c.number.result c.number-2.result n_fits c.number.type_inv c.number-2.type_inv told is in
          elim c.then-head-eq0.branch [
            | then-head-eq0-via-then-head-eq0 w ↦ absurd (omega (arith, same.0, is.counted, w.if-head-eq0.true))
            | then-head-eq0-via-else-head-eq0+then-not-fits w ↦
                let yes : w.fits.result ≡ true = w.fits.ensures.1 (subst (λ (k : ℕ). next_gate c.args.pos k < c.args.segment.sectors) same.1 is.fits) in
                let no : w.fits.result ≡ false = w.if-not-fits.true in
                cc
          ],
    )
