use Rattle.std.proofs.Common.{◌≡◌, map, take}
use Rattle.arrayvec.specs.ArrayVec.{array_vec_len}
use Rattle.cg_line.specs.Places.{place_of, texts_of}
use Rattle.cg_line.proofs.parser.places.places_of.Given as goal

abbrev pub invariant-loop-word : goal.invariant-loop-word
invariant-loop-word g l = record {
  places : map texts_of l.places.items ≡ map place_of (map (λ w. w.now) (take l.word-index l.words));
  count : array_vec_len l.places ≡ l.word-index;
}
