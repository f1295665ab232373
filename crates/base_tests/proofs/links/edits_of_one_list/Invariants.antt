use Rattle.base_tests.proofs.links.edits_of_one_list.Given as goal

abbrev pub ghosts-right_edits : goal.ghosts-right_edits
ghosts-right_edits g a = record { name = a.blank.name; parts = a.blank.parts }
