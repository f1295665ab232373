use Rattle.block_store.proofs.Places.{placed_at_place}
use Rattle.block_store.proofs.ids.place_before.Goals as goal

pub returns-in-Some-clause-place : goal.returns-in-Some-clause-place
returns-in-Some-clause-place c = λ id.
    rw (c.in-Some.is) (placed_at_place c.in-Some.member c.args.items.now c.place_of.result id c.place_of.ensures)
