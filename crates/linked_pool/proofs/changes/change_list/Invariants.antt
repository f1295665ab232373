use Rattle.linked_pool.proofs.changes.change_list.Given as goal

abbrev pub ghost-push_front : goal.ghost-push_front
ghost-push_front g a = g.ids

abbrev pub ghost-insert_before : goal.ghost-insert_before
ghost-insert_before g a = g.ids

abbrev pub ghost-unlink : goal.ghost-unlink
ghost-unlink g a = g.ids
