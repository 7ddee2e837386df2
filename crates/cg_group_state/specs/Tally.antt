-- Votes that were counted: the candidates of a vote, each with the number of members that vote for it.
use Rattle.std.specs.Prelude.{ℕ, Bool, ◌&&◌, ◌||◌, ◌==◌, nat_lt, List}
use Rattle.std.specs.Ordering.{nat_cmp, is_lt}
use Rattle.std.specs.Cmp.Lexicographic.{slice_cmp}
use Rattle.cg_group_state.specs.declared.protocol_vote.Candidate.{Candidate}

-- the name of a candidate and its votes
abbrev pub tally : Candidate → List ℕ × ℕ
tally c = (c.name.now, c.votes)

-- the first has more votes, or as many votes and the lesser name by bytes
abbrev pub outvotes : List ℕ × ℕ → List ℕ × ℕ → Bool
outvotes a b = nat_lt b.1 a.1 || (a.1 == b.1 && is_lt (slice_cmp nat_cmp a.0 b.0))
