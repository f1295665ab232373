use Rattle.name_index.proofs.Vectors.{is_index}
use Rattle.base_tests.proofs.indexes.Table.hold.Goals as goal

pub invariant_of-self : goal.invariant_of-self
invariant_of-self g c = is_index c.add.new.cells c.add.new.self _ c.add.ensures.stands
