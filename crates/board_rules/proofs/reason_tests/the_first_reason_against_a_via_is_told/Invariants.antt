use Rattle.board_rules.proofs.reason_tests.the_first_reason_against_a_via_is_told.Given as goal

abbrev pub ghosts-via_reason : goal.ghosts-via_reason
ghosts-via_reason g a = record { name = a.blank.name; parts = a.blank.parts }
