-- Places are apart where those of the words are.
use Rattle.std.proofs.Common.{◌≡◌, ℕ, Bool, true, not, List, [], ◌∷◌, map, refl, sym, ap, ◌∙◌}
use Rattle.std.specs.Prelude.{◌&&◌}
use Rattle.std.specs.List.{list_any}
use Rattle.cg_line.specs.declared.parser.places.Place.{Place}
use Rattle.cg_line.specs.Parsing.{have_own_places, share_place}
use Rattle.cg_line.specs.Places.{are_apart, are_one_place, place_of, texts_of}
use Rattle.cg_line.proofs.Each.{any_seen}

-- no pair of texts comes twice
texts_apart : List (List ℕ × List ℕ) → Bool
texts_apart [] = true
texts_apart (t ∷ ts) = not (list_any (are_one_place t) ts) && texts_apart ts

apart_texts : (ps : List Place) → are_apart ps ≡ texts_apart (map texts_of ps)
unfolding are_apart texts_apart
apart_texts [] = refl
apart_texts (p ∷ ps) = rw (any_seen (are_one_place (texts_of p)) texts_of ps, apart_texts ps) refl

own_texts : (ws : List (List ℕ)) → have_own_places ws ≡ texts_apart (map place_of ws)
unfolding have_own_places share_place texts_apart
own_texts [] = refl
own_texts (w ∷ ws) = rw (any_seen (are_one_place (place_of w)) place_of ws, own_texts ws) refl

pub apart_own : (ps : List Place) (ws : List (List ℕ)) → map texts_of ps ≡ map place_of ws → are_apart ps ≡ have_own_places ws
apart_own ps ws same = apart_texts ps ∙ ap texts_apart same ∙ sym (own_texts ws)
