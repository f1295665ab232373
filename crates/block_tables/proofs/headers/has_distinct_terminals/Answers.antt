use Rattle.block_tables.proofs.headers.has_distinct_terminals.Goals as goal

pub returns-in-Some : goal.returns-in-Some
returns-in-Some c = rw (← c.in-Some.ensures, ← c.items.ensures) c.are_distinct.ensures
