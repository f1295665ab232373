use Rattle.block_tests.proofs.blocks.terminals_of_a_net.Given as goal

abbrev pub ghosts-joined_terminals : goal.ghosts-joined_terminals
ghosts-joined_terminals g a = record { name = a.blank.name; parts = a.blank.parts }
