use Rattle.cg_tests.proofs.storm.what_a_storm_acknowledged_is_stored.Given as goal

abbrev pub ghosts-outcome_of : goal.ghosts-outcome_of
ghosts-outcome_of g a = record { name = a.blank.name; parts = a.blank.parts }
