use Rattle.board_rules.proofs.tests.a_pair_keeps_its_clearance_and_no_more.Given as goal

abbrev pub ghosts-keeps : goal.ghosts-keeps
ghosts-keeps g a = record { name = a.blank.name; parts = a.blank.parts }
