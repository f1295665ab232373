use Rattle.base_tests.proofs.indexes.names_are_held_and_dropped.Given as goal

abbrev pub ghosts-right_rows : goal.ghosts-right_rows
ghosts-right_rows g a = record { name = a.blank.name; parts = a.blank.parts }
