use Rattle.block_tables.proofs.judge.Judge.is_listed_net.Goals as goal

pub returns-then-lawful : goal.returns-then-lawful
returns-then-lawful c =
    let listed = rw c.items.ensures at c.are_terminals-listed.ensures in
    ((λ t. (c.is_net-lawful.ensures.0 c.if-lawful.true, listed.0 t)), (λ sound. listed.1 sound.1))
