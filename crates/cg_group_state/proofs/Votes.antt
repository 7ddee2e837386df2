-- The vote, from a list of the candidates and from their votes.
use Rattle.std.proofs.Common.{◌≡◌, ℕ, ◌+◌, Bool, nat_lt, cond, not, ◌||◌, List, [], ◌∷◌, length, map, get_or, find, Some, None, refl, subst, sym, ap, ◌∙◌}
use Rattle.std.specs.List.{list_any, position, position_or_len}
use Rattle.std.proofs.lemmas.List.{length-map}
use Rattle.cg_group_state.specs.declared.member.Member.{Member}
use Rattle.cg_group_state.specs.declared.protocol_vote.Candidate.{Candidate}
use Rattle.cg_group_state.specs.Tally.{outvotes, tally}
use Rattle.cg_group_state.specs.Vote.{beats, candidate_protocols, select_protocol, is_beaten, votes}
use Rattle.cg_group_state.proofs.Places.{find_from_position, find_from_no_position}

pub elected_none : (members : List Member) (names : List (List ℕ)) → names ≡ candidate_protocols members → position (λ name. not (is_beaten names members name)) names ≡ None → select_protocol members ≡ None
unfolding select_protocol
elected_none members names is at =
    let P : List (List ℕ) → Type 0 = λ ns. find (λ name. not (is_beaten ns members name)) ns ≡ None in
    subst P is (find_from_no_position (λ name. not (is_beaten names members name)) names at)

pub elected_some : (members : List Member) (names : List (List ℕ)) (i : ℕ) (x : List ℕ) → names ≡ candidate_protocols members → position (λ name. not (is_beaten names members name)) names ≡ Some i → x ≡ get_or names i x → select_protocol members ≡ Some x
unfolding select_protocol
elected_some members names i x is at here =
    let P : List (List ℕ) → Type 0 = λ ns. find (λ name. not (is_beaten ns members name)) ns ≡ Some x in
    subst P is (find_from_position (λ name. not (is_beaten names members name)) names i x at ∙ ap (λ y. Some y) (sym here))

-- a search in a list of values is one in the list that they are made of
any_map : {X Y : Type 0} (p : Y → Bool) (f : X → Y) (xs : List X) → list_any (λ x. p (f x)) xs ≡ list_any p (map f xs)
any_map p f [] = refl
any_map p f (x ∷ xs) = ap (λ b. p (f x) || b) (any_map p f xs)

place_map : {X Y : Type 0} (p : Y → Bool) (f : X → Y) (xs : List X) → position_or_len (λ x. p (f x)) xs ≡ position_or_len p (map f xs)
place_map p f [] = refl
place_map p f (x ∷ xs) = ap (λ n. cond (not (p (f x))) (1 + n) 0) (place_map p f xs)

position_map : {X Y : Type 0} (p : Y → Bool) (f : X → Y) (xs : List X) → position (λ x. p (f x)) xs ≡ position p (map f xs)
position_map p f xs =
    ap (λ n. cond (nat_lt n (length xs)) (Some n) None) (place_map p f xs)
    ∙ ap (λ k. cond (nat_lt (position_or_len p (map f xs)) k) (Some (position_or_len p (map f xs))) None) (sym (length-map xs f))

-- the candidate is beaten by none of these
abbrev is_unbeaten : List (List ℕ × ℕ) → List ℕ × ℕ → Bool
is_unbeaten ts t = not (list_any (λ u. outvotes u t) ts)

-- the winner by the votes that were counted is that of the vote
pub counted_once : (members : List Member) (names : List (List ℕ)) (cs : List Candidate) → map tally cs ≡ map (λ n. (n, votes names members n)) names
    → position (λ c. not (list_any (λ o. outvotes (tally o) (tally c)) cs)) cs ≡ position (λ name. not (is_beaten names members name)) names
unfolding is_beaten beats
counted_once members names cs e =
    let f : List ℕ → List ℕ × ℕ = λ n. (n, votes names members n) in
    ap (λ (p : Candidate → Bool). position p cs) (λ i c. not (any_map (λ u. outvotes u (tally c)) tally cs i))
    ∙ position_map (is_unbeaten (map tally cs)) tally cs
    ∙ ap (λ ts. position (is_unbeaten ts) ts) e
    ∙ sym (position_map (is_unbeaten (map f names)) f names)
    ∙ ap (λ (p : List ℕ → Bool). position p names) (λ i n. not (sym (any_map (λ u. outvotes u (f n)) f names) i))
