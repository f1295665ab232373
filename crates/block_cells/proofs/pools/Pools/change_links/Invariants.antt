use Rattle.block_cells.proofs.pools.Pools.change_links.Given as goal

abbrev pub ghost-change_list : goal.ghost-change_list
ghost-change_list g a = g.ids

abbrev pub ghost-change_list-2 : goal.ghost-change_list-2
ghost-change_list-2 g a = g.ids

abbrev pub ghost-change_list-3 : goal.ghost-change_list-3
ghost-change_list-3 g a = g.ids

abbrev pub ghost-change_list-4 : goal.ghost-change_list-4
ghost-change_list-4 g a = g.ids

abbrev pub ghost-change_list-5 : goal.ghost-change_list-5
ghost-change_list-5 g a = g.ids

abbrev pub ghost-change_list-6 : goal.ghost-change_list-6
ghost-change_list-6 g a = g.ids
