use Rattle.base_tests.proofs.indexes.found_as_held.Given as goal

abbrev pub ghosts-hold_all : goal.ghosts-hold_all
ghosts-hold_all g a = record { name = a.blank.name; parts = a.blank.parts }

abbrev pub ghosts-release_even : goal.ghosts-release_even
ghosts-release_even g a = record { name = a.blank.name; parts = a.blank.parts }
