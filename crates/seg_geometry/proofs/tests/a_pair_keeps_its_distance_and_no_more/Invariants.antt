use Rattle.seg_geometry.proofs.tests.a_pair_keeps_its_distance_and_no_more.Given as goal

abbrev pub ghosts-keeps : goal.ghosts-keeps
ghosts-keeps g a = record { name = a.blank.name; parts = a.blank.parts }
