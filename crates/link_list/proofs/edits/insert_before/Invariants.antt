use Rattle.link_list.proofs.edits.insert_before.Given as goal

abbrev pub ghost-place : goal.ghost-place
ghost-place g a = g.ids
