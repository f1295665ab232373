use Rattle.base_tests.proofs.named_pools.objects_are_found_by_their_names.Given as goal

abbrev pub ghosts-right_rows : goal.ghosts-right_rows
ghosts-right_rows g a = record { name = a.blank.name; parts = a.blank.parts }
