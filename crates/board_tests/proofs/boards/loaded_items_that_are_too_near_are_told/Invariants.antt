use Rattle.board_tests.proofs.boards.loaded_items_that_are_too_near_are_told.Given as goal

abbrev pub ghosts-least_pair : goal.ghosts-least_pair
ghosts-least_pair g a = record { name = a.blank.name; parts = a.blank.parts }
