use Rattle.std.proofs.Common.{◌≡◌, ◌∙◌, Option, true, refl, map, subst, ap, codes}
use Rattle.clap.specs.Words.{App, HasMatchesOf, Text, found_of, is_simple, one_of}
use Rattle.clap.proofs.WalkLemmas.{one_text-rows}
use Rattle.cg_sim.specs.CommandLine.{AsksFor, sim_app}
use Rattle.cg_sim.proofs.command_line.segments.Goals as goal

pub returns-clause-value : goal.returns-clause-value
returns-clause-value g c =
    let m = c.in_ok-matches.matches in
    let simple : is_simple sim_app ≡ true = refl in
    let has = subst (λ (a : App). HasMatchesOf a (map g.S.AsStr.text c.args.words.now) m) c.in_ok-command.ensures c.in_ok-matches.ensures.matches in
    let text = one_text-rows (found_of m) (codes "segments") ∙ ap (one_of (codes "segments")) (has simple).0 in
    subst (λ (t : Option Text). AsksFor t c.segments_in.result) text c.segments_in.ensures
