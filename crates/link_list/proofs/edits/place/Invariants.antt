use Rattle.link_list.proofs.edits.place.Given as goal

abbrev pub ghost-last : goal.ghost-last
ghost-last g a = g.ids
