use Rattle.boundaries.proofs.tests.an_area_overlaps_a_boundary_on_a_common_layer.Given as goal

abbrev pub ghosts-overlapped : goal.ghosts-overlapped
ghosts-overlapped g a = record { name = a.blank.name; parts = a.blank.parts }
