use Rattle.block_tests.proofs.blocks.nets_come_and_go.Given as goal

abbrev pub ghosts-nets_with_names : goal.ghosts-nets_with_names
ghosts-nets_with_names g a = record { name = a.blank.name; parts = a.blank.parts }
