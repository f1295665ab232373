use Rattle.name_index.proofs.index.NameIndex.reserve.Given as goal

abbrev pub ghost-ids : goal.ghost-ids
ghost-ids g a = g.names

abbrev pub ghosts-refill : goal.ghosts-refill
ghosts-refill g a = record { name = a.blank.name; parts = a.blank.parts }

abbrev pub ghost-refill : goal.ghost-refill
ghost-refill g a = g.names
