use Rattle.base_tests.proofs.pools.room_and_records.Given as goal

abbrev pub ghosts-full_pool : goal.ghosts-full_pool
ghosts-full_pool g a = record { name = a.blank.name; parts = a.blank.parts }

abbrev pub ghosts-kept_record : goal.ghosts-kept_record
ghosts-kept_record g a = record { name = a.blank.name; parts = a.blank.parts }
