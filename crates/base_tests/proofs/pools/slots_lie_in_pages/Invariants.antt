use Rattle.base_tests.proofs.pools.slots_lie_in_pages.Given as goal

abbrev pub ghosts-three_pages : goal.ghosts-three_pages
ghosts-three_pages g a = record { name = a.blank.name; parts = a.blank.parts }
