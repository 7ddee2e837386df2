-- Words that repeat no key, and the values that they spell.
use Rattle.std.proofs.Common.{◌≡◌, Bool, true, List, [], ◌∷◌, ◌∙◌, map, not, refl, sym, ap}
use Rattle.std.specs.Prelude.{ℕ, ◌||◌, ◌↔◌, IsTrue}
use Rattle.std.specs.List.{list_all, list_any, IsDistinct}
use Rattle.std.proofs.lemmas.Bool.{not-true}
use Rattle.cg_record.proofs.Keys.{all_fail, none_passes}
use Rattle.cg_request.specs.Names.{are_distinct, is_same}
use Rattle.cg_line.specs.Parsing.{have_own_places, share_place}
use Rattle.cg_line.proofs.Value.{both_of}

-- two words have the same partition only if their values have
shared_place : {A : Type 0} (share : A → A → Bool) (p : List ℕ → Bool) (read : List ℕ → A)
    → ((a b : List ℕ) → p a ≡ true → p b ≡ true → share_place a b ≡ share (read a) (read b))
    → (w : List ℕ) (ws : List (List ℕ)) → p w ≡ true → list_all p ws ≡ true → list_any (share_place w) ws ≡ list_any (share (read w)) (map read ws)
shared_place share p read agree w [] is all = refl
shared_place share p read agree w (v ∷ vs) is all =
    let parts = both_of (p v) (list_all p vs) all in
    rw (agree w v is parts.0, shared_place share p read agree w vs is parts.1) refl

-- words have places of their own exactly where their values share none
pub own_places : {A : Type 0} (share : A → A → Bool) (p : List ℕ → Bool) (read : List ℕ → A)
    → ((a b : List ℕ) → p a ≡ true → p b ≡ true → share_place a b ≡ share (read a) (read b))
    → (ws : List (List ℕ)) → list_all p ws ≡ true → IsTrue (have_own_places ws) ↔ IsDistinct share (map read ws)
unfolding have_own_places IsDistinct
own_places share p read agree [] all = ((λ own. tt), (λ distinct. refl))
own_places share p read agree (w ∷ ws) all =
    let parts = both_of (p w) (list_all p ws) all in
    let place = shared_place share p read agree w ws parts.0 parts.1 in
    let others = own_places share p read agree ws parts.1 in (
      (λ own.
          let both = both_of (not (list_any (share_place w) ws)) (have_own_places ws) own in
          (all_fail (share (read w)) (map read ws) (sym place ∙ not-true (list_any (share_place w) ws) both.0), others.0 both.1)),
      (λ distinct. rw (place, none_passes (share (read w)) (map read ws) distinct.0) (others.1 distinct.1)),
    )

shared_name : {A : Type 0} (name : A → List ℕ) (x : A) (xs : List A) → list_any (is_same (name x)) (map name xs) ≡ list_any (λ y. is_same (name x) (name y)) xs
shared_name name x [] = refl
shared_name name x (y ∷ ys) = ap (λ t. is_same (name x) (name y) || t) (shared_name name x ys)

-- names are distinct exactly where the values share none
pub own_names : {A : Type 0} (name : A → List ℕ) (xs : List A) → IsTrue (are_distinct (map name xs)) ↔ IsDistinct (λ a b. is_same (name a) (name b)) xs
unfolding are_distinct IsDistinct
own_names name [] = ((λ own. tt), (λ distinct. refl))
own_names name (x ∷ xs) =
    let here = shared_name name x xs in
    let others = own_names name xs in (
      (λ own.
          let both = both_of (not (list_any (is_same (name x)) (map name xs))) (are_distinct (map name xs)) own in
          (all_fail (λ y. is_same (name x) (name y)) xs (sym here ∙ not-true (list_any (is_same (name x)) (map name xs)) both.0), others.0 both.1)),
      (λ distinct. rw (here, none_passes (λ y. is_same (name x) (name y)) xs distinct.0) (others.1 distinct.1)),
    )
