use Rattle.std.proofs.Common.{map, ap, ◌∙◌}
use Rattle.cg_line.specs.Places.{are_apart}
use Rattle.cg_line.proofs.Places.{apart_own}
use Rattle.cg_line.proofs.parser.places.have_own_places.Goals as goal

pub returns-then-words-le-FEW_PLACES : goal.returns-then-words-le-FEW_PLACES
returns-then-words-le-FEW_PLACES c =
    c.are_apart.ensures ∙ ap are_apart c.as_slice.ensures.value
    ∙ apart_own c.places_of.result.items (map (λ w. w.now) c.args.words.now) c.places_of.ensures

pub returns-else-words-le-FEW_PLACES : goal.returns-else-words-le-FEW_PLACES
returns-else-words-le-FEW_PLACES c =
    c.are_apart-else-words-le-FEW_PLACES.ensures ∙ ap are_apart c.as_slice-else-words-le-FEW_PLACES.ensures.value
    ∙ apart_own c.places_of-else-words-le-FEW_PLACES.result.items (map (λ w. w.now) c.args.words.now) c.places_of-else-words-le-FEW_PLACES.ensures
