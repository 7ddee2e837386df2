use Rattle.cg_tests.proofs.engine.scripts_get_their_answers.Given as goal

abbrev pub ghosts-outcome_of : goal.ghosts-outcome_of
ghosts-outcome_of g a = record { name = a.blank.name; parts = a.blank.parts }
