use Rattle.cg_tests.proofs.engine.a_second_loading_and_a_missing_pass_are_reported.Given as goal

abbrev pub ghosts-reported : goal.ghosts-reported
ghosts-reported g a = record { name = a.blank.name; parts = a.blank.parts }
