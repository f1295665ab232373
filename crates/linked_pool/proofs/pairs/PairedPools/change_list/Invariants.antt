use Rattle.linked_pool.proofs.pairs.PairedPools.change_list.Given as goal

abbrev pub ghost-change_list : goal.ghost-change_list
ghost-change_list g a = g.ids
