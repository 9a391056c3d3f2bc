use Rattle.board_core.proofs.pairs.clean.Given as goal

abbrev pub ghosts-counted_pair : goal.ghosts-counted_pair
ghosts-counted_pair a = record { name = a.blank.name; parts = a.blank.parts }
