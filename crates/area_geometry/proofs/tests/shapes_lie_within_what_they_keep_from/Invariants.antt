use Rattle.area_geometry.proofs.tests.shapes_lie_within_what_they_keep_from.Given as goal

abbrev pub ghosts-keeps_within : goal.ghosts-keeps_within
ghosts-keeps_within g a = record { name = a.blank.name; parts = a.blank.parts }
