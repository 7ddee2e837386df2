-- The vote for the assignment protocol (protocol guide, "Group Membership API": the coordinator chooses one that all
-- members support).
use Rattle.std.specs.Prelude.{ℕ, Bool, not, ◌&&◌, ◌||◌, ◌==◌, nat_lt, List, [], ◌∷◌, Option, option_map, map, find, filter, count_by}
use Rattle.std.specs.List.{list_any, list_all}
use Rattle.std.specs.Ordering.{nat_cmp, is_lt}
use Rattle.std.specs.Cmp.Lexicographic.{slice_cmp}
use Rattle.cg_group_state.specs.declared.member.Member.{Member}
use Rattle.cg_group_state.specs.Membership.{is_same, is_named}

-- the name is one of these
abbrev pub is_among : List (List ℕ) → List ℕ → Bool
is_among names name = list_any (λ n. is_same n name) names

-- the member supports the protocol
abbrev pub offers : List ℕ → Member → Bool
offers name m = list_any (λ p. is_same p.name name) m.protocols

-- every member supports the protocol
unfoldable pub is_common : List Member → List ℕ → Bool
is_common members name = list_all (offers name) members

-- the protocols that every member supports
unfoldable pub candidate_protocols : List Member → List (List ℕ)
candidate_protocols [] = []
candidate_protocols (m ∷ ms) = filter (is_common (m ∷ ms)) (map (λ p. p.name) m.protocols)

-- the member's vote: the first of its own list that every member supports
unfoldable pub ballot : List (List ℕ) → Member → Option (List ℕ)
ballot names m = option_map (λ p. p.name) (find (λ p. is_among names p.name) m.protocols)

-- the number of members that vote for the protocol
unfoldable pub votes : List (List ℕ) → List Member → List ℕ → ℕ
votes names members name = count_by (λ m. is_named (ballot names m) name) members

-- the first has more votes, or as many votes and the lesser name by bytes
unfoldable pub beats : List (List ℕ) → List Member → List ℕ → List ℕ → Bool
beats names members a b =
    nat_lt (votes names members b) (votes names members a) || (votes names members a == votes names members b && is_lt (slice_cmp nat_cmp a b))

-- some candidate beats the protocol
unfoldable pub is_beaten : List (List ℕ) → List Member → List ℕ → Bool
is_beaten names members name = list_any (λ other. beats names members other name) names

-- the winner of the vote: most votes win; a tie goes to the least name
unfoldable pub select_protocol : List Member → Option (List ℕ)
select_protocol members = find (λ name. not (is_beaten (candidate_protocols members) members name)) (candidate_protocols members)
