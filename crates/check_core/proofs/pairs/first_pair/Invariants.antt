use Rattle.check_core.proofs.pairs.first_pair.Given as goal

abbrev pub ghosts-counted_pair : goal.ghosts-counted_pair
ghosts-counted_pair g a = record { name = a.blank.name; parts = a.blank.parts }
