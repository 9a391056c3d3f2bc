use Rattle.area_geometry.proofs.tests.shapes_touch_what_they_reach.Given as goal

abbrev pub ghosts-reaches : goal.ghosts-reaches
ghosts-reaches g a = record { name = a.blank.name; parts = a.blank.parts }
