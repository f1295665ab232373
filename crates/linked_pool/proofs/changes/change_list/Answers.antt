use Rattle.linked_pool.proofs.changes.change_list.Goals as goal

pub returns-in-Enter-clause-others : goal.returns-in-Enter-clause-others
returns-in-Enter-clause-others g c = rw (c.in-Enter.is) (c.push_front.ensures.others)

pub returns-in-Return-clause-others : goal.returns-in-Return-clause-others
returns-in-Return-clause-others g c = rw (c.in-Return.is) (c.insert_before.ensures.others)

pub returns-in-Leave-clause-others : goal.returns-in-Leave-clause-others
returns-in-Leave-clause-others g c = rw (c.in-Leave.is) (c.unlink.ensures.others)
