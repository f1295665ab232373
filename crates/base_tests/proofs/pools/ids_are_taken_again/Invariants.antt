use Rattle.base_tests.proofs.pools.ids_are_taken_again.Given as goal

abbrev pub ghosts-taken_again : goal.ghosts-taken_again
ghosts-taken_again g a = record { name = a.blank.name; parts = a.blank.parts }

abbrev pub ghosts-untaken : goal.ghosts-untaken
ghosts-untaken g a = record { name = a.blank.name; parts = a.blank.parts }
