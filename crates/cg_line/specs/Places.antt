-- The partitions that words begin with, as texts.
use Rattle.std.specs.Prelude.{ℕ, Bool, true, not, ◌&&◌, List, [], ◌∷◌}
use Rattle.std.specs.List.{list_any}
use Rattle.std.specs.Str.{bytes_eq}
use Rattle.cg_line.specs.declared.parser.places.Place.{Place}
use Rattle.cg_line.specs.Parsing.{partition_field, topic_field}

-- the texts of the topic and of the partition
abbrev pub texts_of : Place → List ℕ × List ℕ
texts_of place = (place.topic.now, place.partition.now)

-- the same, of a word
abbrev pub place_of : List ℕ → List ℕ × List ℕ
place_of word = (topic_field word, partition_field word)

-- both texts are equal
abbrev pub are_one_place : List ℕ × List ℕ → List ℕ × List ℕ → Bool
are_one_place a b = bytes_eq a.0 b.0 && bytes_eq a.1 b.1

-- no place comes twice
unfoldable pub are_apart : List Place → Bool
are_apart [] = true
are_apart (p ∷ ps) = not (list_any (λ q. are_one_place (texts_of p) (texts_of q)) ps) && are_apart ps
